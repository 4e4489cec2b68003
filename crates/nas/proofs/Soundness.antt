-- Every message that was read is sound. Assumes nothing.
use Rattle.std.proofs.Common.{◌≡◌, ℕ, ◌+◌, ◌%◌, ◌<◌, ◌≤◌, leb, ◌⊎◌, List, length, get_or, Some, None, Ok, Err, Option, Result, sym, refl, ap, ◌∙◌, subst, inl, inr, ⊎_elim, arith, length-drop, length-take, w8, Fits}
use Rattle.std.proofs.lemmas.Bool.{leb-true, eqb-true, eqb-false, and_parts}
use Rattle.nas.specs.declared.fault.ElementFault.TheVariants.{Cut}
use Rattle.nas.specs.declared.fault.PacketFault.{PacketFault}
use Rattle.nas.specs.declared.fault.MessageFault.{MessageFault}
use Rattle.nas.specs.declared.fault.MessageFault.TheVariants.{InElement, InPacket}
use Rattle.nas.specs.declared.message.MessageType.{MessageType}
use Rattle.nas.specs.declared.message.MessageType.TheVariants.{Request as InRequest, Result as InResult, Reject as InReject}
use Rattle.nas.specs.declared.packet.Code.{Code}
use Rattle.nas.specs.declared.packet.Code.TheVariants.{Request as CodeRequest, Success as CodeSuccess, Failure as CodeFailure}
use Rattle.nas.specs.Elements.{Elem, elements, value_of, at_tag, header_of, length_of, length_at}
use Rattle.nas.specs.Messages.{Contents, request, success, failure, reject, Fixed, of_request, of_result, of_reject, mandatory, typed, fixed_in, message_type_of, ngksi_of, start_of, needed, long_enough, for_keys, request_of, result_for, result_of, reject_for, contents_of, read_message}
use Rattle.nas.specs.Outcomes.{IfRead}
use Rattle.nas.specs.Packets.{EapPacket, code_in, coded, packet_in}
use Rattle.nas.specs.Parts.{Field, cut, two_bytes}
use Rattle.nas.specs.Sound.{Lies, ForKeys, Carried, SoundFailure, Sound}
use Rattle.nas.proofs.Within.{Found, found, found_header}
use Rattle.nas.proofs.Outcomes.{then_ok, raised-ok, cond-ok, cond-not, cond-some, cond-than, cond-or}

-- ---- parts
cut_most : (m : List ℕ) (p n : ℕ) → length (cut m p n) ≤ n
cut_most m p n = simp (length-take, length-drop) (omega arith)

cut-lies : (m : List ℕ) (p n : ℕ) → p + n ≤ length m → Lies m p (cut m p n)
cut-lies m p n h =
    let long : length (cut m p n) ≡ n = simp (length-take, length-drop) (omega arith) in
    record { inside = omega (arith, long); there = ap (cut m p) (sym long) }

found_lies : (t : ℕ) (m : List ℕ) (e : Elem) → Found t m e → Lies m (e.place + e.header) e.value
found_lies t m e f =
    subst (λ x. Lies m (x.place + x.header) x.value) (sym f.there.is) (cut-lies m (f.place + header_of (get_or m f.place 0)) (length_at m f.place) f.there.inside)

-- ---- packets
pub record Packed (t : MessageType) (w : Field) (p : EapPacket) : Type 0 where
  pub whole : p.whole ≡ w
  pub least : 4 ≤ length p.whole.octets
  pub code : Some p.code ≡ code_in t (get_or p.whole.octets 0 0) (length p.whole.octets)
  pub identifier : p.identifier ≡ get_or p.whole.octets 1 0

coded-ok : {F : Type 0} (t : MessageType) (w : Field) (p : EapPacket) (o : Option Code) → 4 ≤ length w.octets → o ≡ code_in t (get_or w.octets 0 0) (length w.octets) → ◌≡◌ {A = Result EapPacket (PacketFault F)} (Ok p) (coded o w) → Packed t w p
coded-ok t w p (Some d) h c e =
    let q : record { code = d; identifier = get_or w.octets 1 0; whole = w } ≡ p = cc in
    subst (Packed t w) q (record { whole = refl; least = h; code = c; identifier = refl })
coded-ok t w p None h c e = cc

packet-ok : {F : Type 0} (t : MessageType) (w : Field) (p : EapPacket) → ◌≡◌ {A = Result EapPacket (PacketFault F)} (Ok p) (packet_in t w) → Packed t w p
packet-ok t w p e =
    let b = cond-ok _ _ _ p e in
    let h = leb-true _ _ (and_parts _ _ b.0).0 in
    coded-ok t w p _ h refl b.1

request_carried : (m : List ℕ) (w : Field) (p : EapPacket) → Lies m w.place w.octets → Packed InRequest w p → Carried m 1 CodeRequest p × (5 ≤ length p.whole.octets)
request_carried m w p l k =
    let c = cond-some _ _ _ k.code in
    let b = and_parts _ _ c.0 in
    (record { lies = subst (λ x. Lies m x.place x.octets) (sym k.whole) l; least = k.least; first = eqb-true _ _ b.0; code = c.1; identifier = k.identifier }, leb-true _ _ b.1)

failure_carried : (m : List ℕ) (w : Field) (p : EapPacket) → length m ≤ 2048 → Lies m w.place w.octets → Packed InReject w p → SoundFailure m p
failure_carried m w p short l k =
    let c = cond-some _ _ _ k.code in
    let b = and_parts _ _ c.0 in
    record {
      short = short;
      packet = record { lies = subst (λ x. Lies m x.place x.octets) (sym k.whole) l; least = k.least; first = eqb-true _ _ b.0; code = c.1; identifier = k.identifier };
      whole = eqb-true _ _ b.1;
    }

-- a result's packet is a success or a failure
result_carried : (m : List ℕ) (w : Field) (p : EapPacket) → Lies m w.place w.octets → Packed InResult w p → (length p.whole.octets ≡ 4) × (Carried m 3 CodeSuccess p ⊎ Carried m 4 CodeFailure p)
result_carried m w p l k =
    let a = cond-than _ _ _ k.code in
    let lies = subst (λ x. Lies m x.place x.octets) (sym k.whole) l in (
      eqb-true _ _ a.0,
      ⊎_elim
          (λ s. inl (record { lies = lies; least = k.least; first = eqb-true _ _ s.0; code = s.1; identifier = k.identifier }))
          (λ s. let c = cond-some _ _ _ s in inr (record { lies = lies; least = k.least; first = eqb-true _ _ c.0; code = c.1; identifier = k.identifier }))
          (cond-or _ _ _ _ a.1),
    )

-- ---- mandatory parts
abbrev FixedSound : List ℕ → Fixed → Type 0
FixedSound m (of_request k a) = (k < 16) × (a.place ≡ 4) × Lies m 5 a.octets × (length a.octets ≤ get_or m 4 0)
FixedSound m (of_result k e) = (k < 16) × Lies m e.place e.octets
FixedSound m of_reject = Unit {0}

ngksi_ok : (m : List ℕ) (k : ℕ) → Ok k ≡ ngksi_of m → k < 16
ngksi_ok m k e =
    let c = cond-ok (leb 4 (length m)) (Ok (get_or m 3 0 % 16)) (Cut 3) k e in
    let is : k ≡ get_or m 3 0 % 16 = cc c.1 in
    omega (arith, is)

fixed-ok : (t : MessageType) (m : List ℕ) (h : Fixed) → Ok h ≡ fixed_in t m → FixedSound m h
fixed-ok InRequest m h e =
    let k = then_ok _ _ h e in
    let a = then_ok _ _ h k.2 in
    let c = cond-ok _ _ _ a.0 a.1 in
    let w : record { place = 4; octets = cut m 5 (get_or m 4 0) } ≡ a.0 = cc c.1 in
    let q : of_request k.0 a.0 ≡ h = cc a.2 in
    let low = ngksi_ok m k.0 k.1 in
    subst (FixedSound m) q (subst (λ x. FixedSound m (of_request k.0 x)) w (low, refl, cut-lies m 5 (get_or m 4 0) (leb-true _ _ c.0), cut_most m 5 (get_or m 4 0)))
fixed-ok InResult m h e =
    let k = then_ok _ _ h e in
    let a = then_ok _ _ h k.2 in
    let c = cond-ok _ _ _ a.0 a.1 in
    let w : record { place = 6; octets = cut m 6 (two_bytes m 4) } ≡ a.0 = cc c.1 in
    let q : of_result k.0 a.0 ≡ h = cc a.2 in
    subst (FixedSound m) q (ngksi_ok m k.0 k.1, subst (λ x. Lies m x.place x.octets) w (cut-lies m 6 (two_bytes m 4) (leb-true _ _ c.0)))
fixed-ok InReject m h e = let q : of_reject ≡ h = cc in subst (FixedSound m) q tt

typed-ok : {F : Type 0} (o : Option MessageType) (m : List ℕ) (h : Fixed) → ◌≡◌ {A = Result Fixed (MessageFault F)} (Ok h) (typed o m) → FixedSound m h
typed-ok (Some t) m h e = fixed-ok t m h (raised-ok InElement (fixed_in t m) h e)
typed-ok None m h e = cc

mandatory-ok : {F : Type 0} (m : List ℕ) (h : Fixed) → ◌≡◌ {A = Result Fixed (MessageFault F)} (Ok h) (mandatory m) → (length m ≤ 2048) × FixedSound m h
mandatory-ok m h e =
    let c = cond-ok _ _ _ h e in
    let b = and_parts _ _ (and_parts _ _ (and_parts _ _ c.0).0).0 in
    (leb-true _ _ b.1, typed-ok (message_type_of (get_or m 2 0)) m h c.1)

-- ---- whole messages
-- each is a byte
abbrev pub Bytes : List ℕ → Type 0
Bytes m = (i : ℕ) → Fits w8 (get_or m i 0)

needed-ok : {F : Type 0} (o : Option Elem) (n : ℕ) (e : Elem) → ◌≡◌ {A = Result Elem (MessageFault F)} (Ok e) (needed o n) → Some e ≡ o
needed-ok (Some x) n e q = cc
needed-ok None n e q = cc

long_ok : {F : Type 0} (o : Option Field) (n : ℕ) (b : Field) → ◌≡◌ {A = Result Field (MessageFault F)} (Ok b) (long_enough o n) → (Some b ≡ o) × (2 ≤ length b.octets)
long_ok (Some a) n b q =
    let c = cond-ok _ _ _ b q in
    let same : a ≡ b = cc c.1 in
    (ap Some (sym same), subst (λ x. 2 ≤ length x.octets) same (leb-true _ _ c.0))
long_ok None n b q = cc

keys_ok : {F : Type 0} (k : ℕ) (o : Option Field) (n : ℕ) (b : Field) → ◌≡◌ {A = Result Field (MessageFault F)} (Ok b) (for_keys k o n) → k < 16 → ((a : Field) → Some a ≡ o → length a.octets ≤ 255) → (Some b ≡ o) × ForKeys k b
keys_ok k o n b q h most =
    let c = cond-not _ _ _ b q in
    let l = long_ok o n b c.1 in
    (l.0, record { ngksi = h; key_set = eqb-false _ _ c.0; least = l.1; most = most b l.0 })

request_sound : {F : Type 0} (m : List ℕ) (k : ℕ) (a : Field) (c : Contents) → length m ≤ 2048 → Bytes m → FixedSound m (of_request k a) → ◌≡◌ {A = Result Contents (MessageFault F)} (Ok c) (request_of k a (elements m (5 + length a.octets)) (length m)) → Sound m c
request_sound {F = F} m k a c short bytes fixed e =
    let o = then_ok _ _ c e in
    let x = then_ok _ _ c o.2 in
    let p = then_ok _ _ c x.2 in
    let b = then_ok _ _ c p.2 in
    let is : request k b.0 p.0 ≡ c = cc b.2 in
    let there = found 0x78 m (5 + length a.octets) x.0 (ap Ok (needed-ok {F = F} o.0 (length m) x.0 x.1) ∙ raised-ok {G = MessageFault F} InElement _ o.0 o.1) in
    let packet = request_carried m (value_of x.0) p.0 (found_lies 0x78 m x.0 there) (packet-ok {F = F} InRequest (value_of x.0) p.0 (raised-ok {G = MessageFault F} InPacket _ p.0 p.1)) in
    let most : (x : Field) → Some x ≡ Some a → length x.octets ≤ 255 = λ x q. let y : a ≡ x = cc in subst (λ z. length z.octets ≤ 255) y (omega (arith, fixed.3, (bytes 4).fits)) in
    let keys = keys_ok {F = F} k (Some a) (length m) b.0 b.1 fixed.0 most in
    let same : a ≡ b.0 = cc keys.0 in
    let abba : (b.0.place ≡ 4) × Lies m 5 b.0.octets = subst (λ y. (y.place ≡ 4) × Lies m 5 y.octets) same (fixed.1, fixed.2) in
    subst (Sound m) is (record { short = short; keys = keys.1; abba_place = abba.0; abba = abba.1; packet = packet.0; typed = packet.1 })

-- an ABBA has one length byte
tlv_most : (m : List ℕ) (e : Elem) (f : Found 0x38 m e) → length e.value ≤ get_or m (f.place + 1) 0
tlv_most m e f =
    let tag : get_or m f.place 0 ≡ 0x38 = sym (ap (λ x. x.tag) f.there.is) ∙ f.tag in
    let size : length_at m f.place ≡ get_or m (f.place + 1) 0 = ap (λ t. length_of t (get_or m (f.place + 1) 0) (two_bytes m (f.place + 1))) tag in
    omega (arith, ap (λ x. length x.value) f.there.is, cut_most m (f.place + header_of (get_or m f.place 0)) (length_at m f.place), size)

success_sound : {F : Type 0} (m : List ℕ) (k : ℕ) (o : Option Elem) (p : EapPacket) (c : Contents) → length m ≤ 2048 → k < 16 → ((e : Elem) → Some e ≡ o → Found 0x38 m e) → Carried m 3 CodeSuccess p → length p.whole.octets ≡ 4 → Bytes m → ◌≡◌ {A = Result Contents (MessageFault F)} (Ok c) (result_for CodeSuccess k o p (length m)) → Sound m c
success_sound {F = F} m k (Some x) p c short low there packet whole bytes e =
    let b = then_ok _ _ c e in
    let is : success k b.0 p ≡ c = cc b.2 in
    let f = there x refl in
    let most : (y : Field) → Some y ≡ Some (at_tag x) → length y.octets ≤ 255 = λ y q. let z : at_tag x ≡ y = cc in subst (λ w. length w.octets ≤ 255) z (omega (arith, tlv_most m x f, (bytes (f.place + 1)).fits)) in
    let keys = keys_ok {F = F} k (Some (at_tag x)) (length m) b.0 b.1 low most in
    let same : at_tag x ≡ b.0 = cc keys.0 in
    let lies : Lies m (x.place + 2) x.value = subst (λ n. Lies m (x.place + n) x.value) (found_header 0x38 m x f) (found_lies 0x38 m x f) in
    let abba : Lies m (b.0.place + 2) b.0.octets = subst (λ y. Lies m (y.place + 2) y.octets) same lies in
    subst (Sound m) is (record { short = short; keys = keys.1; abba = abba; packet = packet; whole = whole })
success_sound {F = F} m k None p c short low there packet whole bytes e =
    let b = then_ok _ _ c e in
    let keys = keys_ok {F = F} k None (length m) b.0 b.1 low (λ a q. cc) in
    let z : ◌≡◌ {A = ℕ} 0 1 = cc keys.0 in
    absurd (omega arith)

result_sound : {F : Type 0} (m : List ℕ) (k : ℕ) (w : Field) (c : Contents) → length m ≤ 2048 → Bytes m → FixedSound m (of_result k w) → ◌≡◌ {A = Result Contents (MessageFault F)} (Ok c) (result_of k w (elements m (6 + length w.octets)) (length m)) → Sound m c
result_sound {F = F} m k w c short bytes fixed e =
    let o = then_ok _ _ c e in
    let p = then_ok _ _ c o.2 in
    let packet = result_carried m w p.0 fixed.1 (packet-ok {F = F} InResult w p.0 (raised-ok {G = MessageFault F} InPacket _ p.0 p.1)) in
    let there : (x : Elem) → Some x ≡ o.0 → Found 0x38 m x = λ x is. found 0x38 m (6 + length w.octets) x (ap Ok is ∙ raised-ok {G = MessageFault F} InElement _ o.0 o.1) in
    ⊎_elim
    (λ s. success_sound {F = F} m k o.0 p.0 c short fixed.0 there s packet.0 bytes (p.2 ∙ ap (λ d. result_for d k o.0 p.0 (length m)) s.code))
    (λ s.
    let q = p.2 ∙ ap (λ d. result_for {F = F} d k o.0 p.0 (length m)) s.code in
    let is : failure p.0 ≡ c = cc q in
    subst (Sound m) is (record { short = short; packet = s; whole = packet.0 }))
    packet.1

reject_sound : {F : Type 0} (m : List ℕ) (o : Option Elem) (c : Contents) → length m ≤ 2048 → ((e : Elem) → Some e ≡ o → Found 0x78 m e) → ◌≡◌ {A = Result Contents (MessageFault F)} (Ok c) (reject_for o) → Sound m c
reject_sound m None c short there e = let is : reject None ≡ c = cc in subst (Sound m) is short
reject_sound {F = F} m (Some x) c short there e =
    let p = then_ok _ _ c e in
    let is : reject (Some p.0) ≡ c = cc p.2 in
    subst (Sound m) is (failure_carried m (value_of x) p.0 short (found_lies 0x78 m x (there x refl)) (packet-ok {F = F} InReject (value_of x) p.0 (raised-ok {G = MessageFault F} InPacket _ p.0 p.1)))

contents-sound : {F : Type 0} (m : List ℕ) (h : Fixed) (c : Contents) → length m ≤ 2048 → Bytes m → FixedSound m h → ◌≡◌ {A = Result Contents (MessageFault F)} (Ok c) (contents_of h (elements m (start_of h)) (length m)) → Sound m c
contents-sound {F = F} m (of_request k a) c short bytes fixed e = request_sound {F = F} m k a c short bytes fixed e
contents-sound {F = F} m (of_result k w) c short bytes fixed e = result_sound {F = F} m k w c short bytes fixed e
contents-sound {F = F} m of_reject c short bytes fixed e =
    let o = then_ok _ _ c e in
    reject_sound {F = F} m o.0 c short (λ x is. found 0x78 m 3 x (ap Ok is ∙ raised-ok {G = MessageFault F} InElement _ o.0 o.1)) o.2

pub sound : {F : Type 0} (m : List ℕ) (c : Contents) → ◌≡◌ {A = Result Contents (MessageFault F)} (Ok c) (read_message m) → Bytes m → Sound m c
unfolding read_message
sound {F = F} m c e bytes =
    let h = then_ok _ _ c e in
    let opened = mandatory-ok {F = F} m h.0 h.1 in
    contents-sound {F = F} m h.0 c opened.0 bytes opened.1 h.2

-- what the reader of a whole message ensures
pub sound_read : {F : Type 0} (m : List ℕ) (r : Result Contents (MessageFault F)) → r ≡ read_message m → Bytes m → IfRead (Sound m) r
sound_read m (Ok c) e bytes = sound m c e bytes
sound_read m (Err f) e bytes = tt
