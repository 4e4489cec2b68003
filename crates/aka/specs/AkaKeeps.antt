-- What every method keeps, of EAP-AKA', for all cards. Assumes nothing.
use Rattle.std.specs.Prelude.{◌≡◌, ℕ, ◌+◌, ◌-◌, ◌*◌, ◌<◌, ◌≤◌, List, [], ◌∷◌, ◌++◌, map, length, take, drop, replicate, IfErr, Some, None, Ok, Err, Option, Result, MatchResult, nat_le, slice_index, refl}
use Rattle.std.proofs.Common.{subst, ◌∙◌, arith, lit≤, length-append, length-take, length-drop}
use Rattle.std.specs.Str.{bytes_eq}
use Rattle.std.proofs.lemmas.List.{length-take-le, length-replicate}
use Rattle.std.proofs.lemmas.Bool.{cond_both}
use Rattle.digest.specs.Hmac.{hmac, joined}
use Rattle.digest.proofs.Lengths.{prf_prime-length}
use Rattle.keys.specs.Keys.{k_aut_of, msk_of, emsk_of}
use Rattle.nas.specs.Replies.{response_packet}
use Rattle.method.specs.declared.weighing.Verdict.{Verdict}
use Rattle.method.specs.declared.weighing.Verdict.TheVariants.{GoOn, Granted, Unproven}
use Rattle.method.specs.Method.{Holding}
use Rattle.method.specs.Subscribers.{Subscriber}
use Rattle.attributes.specs.declared.fault.AttributeFault.TheVariants.{Cut, Foreign, WrongLength, Surplus}
use Rattle.attributes.specs.declared.fault.RequestFault.{RequestFault}
use Rattle.attributes.specs.declared.fault.RequestFault.TheVariants.{WrongSubtype, InAttribute, Missing}
use Rattle.attributes.specs.declared.request.IdentityRequest.{IdentityRequest}
use Rattle.attributes.specs.Faults as request
use Rattle.attributes.specs.Inside.{ChallengeInside, Inside}
use Rattle.attributes.specs.Requests as requests
use Rattle.attributes.specs.Requests.{Asked, ChallengeParts, read_request}
use Rattle.attributes.proofs.Lies.{request_lies}
use Rattle.cards.specs.declared.kinds.CardOutcome.{CardOutcome}
use Rattle.cards.specs.declared.kinds.CardOutcome.TheVariants.{Out, Wrong, Stale, Good}
use Rattle.cards.specs.Card.{CardDefinition}
use Rattle.aka.specs.declared.fault.AkaFault.{AkaFault}
use Rattle.aka.specs.declared.fault.AkaFault.TheVariants.{InRequest, IdentityRefused, WrongKdf, WrongNetwork, NoCard, NotSeparated, WrongAutn, StaleSequence, WrongMac}
use Rattle.aka.specs.Aka.{Decided, untold, on_identity, prefers_aka_prime, offered, master_key_for, key_block, on_keys, separated, on_outcome, on_challenge, on_request, judged, aka}
use Rattle.aka.specs.Faults.{number_of, place_of}
use Rattle.aka.specs.Replies.{Answer, client_error, authentication_reject, synchronization_failure, identity, challenge, aka_type, kdf_attribute, words_for, challenge_front, challenge_body, mac_with, zeroed_at, body_of}

pub type_of_a_method : (4 ≤ aka_type) × (aka_type ≤ 253)
type_of_a_method = (lit≤ tt, lit≤ tt)

-- ---- numbers
request_number : (f : RequestFault) → (21 ≤ request.number_of f) × (request.number_of f ≤ 34)
request_number WrongSubtype = (lit≤ tt, lit≤ tt)
request_number (InAttribute (Cut p)) = (lit≤ tt, lit≤ tt)
request_number (InAttribute (Foreign p)) = (lit≤ tt, lit≤ tt)
request_number (InAttribute (WrongLength p)) = (lit≤ tt, lit≤ tt)
request_number (InAttribute (Surplus p)) = (lit≤ tt, lit≤ tt)
request_number Missing = (lit≤ tt, lit≤ tt)

of_layer_4 : (f : AkaFault) → (21 ≤ number_of f) × (number_of f ≤ 34)
of_layer_4 (InRequest f) = request_number f
of_layer_4 (IdentityRefused p) = (lit≤ tt, lit≤ tt)
of_layer_4 (WrongKdf p) = (lit≤ tt, lit≤ tt)
of_layer_4 (WrongNetwork p) = (lit≤ tt, lit≤ tt)
of_layer_4 NoCard = (lit≤ tt, lit≤ tt)
of_layer_4 (NotSeparated p) = (lit≤ tt, lit≤ tt)
of_layer_4 (WrongAutn p) = (lit≤ tt, lit≤ tt)
of_layer_4 (StaleSequence p) = (lit≤ tt, lit≤ tt)
of_layer_4 (WrongMac p) = (lit≤ tt, lit≤ tt)

-- ---- blocks: what each verdict leaves, where this block was held
abbrev Leaves : Option (List ℕ) → Verdict AkaFault → Option (List ℕ) → Type 0
Leaves held GoOn block = block ≡ held
Leaves held Granted block = (b : List ℕ) × (block ≡ Some b) × (length b ≡ 128)
Leaves held (Unproven f) block = block ≡ None

block_length : (s : Subscriber) (autn ck ik : List ℕ) → length (key_block (master_key_for s autn ck ik)) ≡ 128
block_length s autn ck ik =
    let mk = master_key_for s autn ck ik in
    let all : length mk ≡ 208 = prf_prime-length _ _ in
    let msk : length (msk_of mk) ≡ 64 = length-take-le 64 (drop 80 mk) (omega (arith, length-drop 80 mk)) in
    let emsk : length (emsk_of mk) ≡ 64 = length-take-le 64 (drop 144 mk) (omega (arith, length-drop 144 mk)) in
    length-append (msk_of mk) (emsk_of mk) ∙ omega arith

module _ (held : Option (List ℕ)) where
  abbrev Left : Decided → Type 0
  Left d = Leaves held d.verdict d.block

  left_identity : (i : IdentityRequest) → Left (on_identity held i)
  left_identity i = cond_both (untold held i.kind) _ _ Left (λ _. refl) (λ _. refl)

  left_keys : (p : List ℕ) (c : ChallengeParts) (res k_aut_of block : List ℕ) → length block ≡ 128 → Left (on_keys p c res k_aut_of block)
  left_keys p c res k_aut_of block long = cond_both (bytes_eq c.mac.bytes (mac_with k_aut_of (zeroed_at p c.mac.at))) _ _ Left (λ _. (block, refl, long)) (λ _. refl)

  left_separated : (c : ChallengeParts) (d : Decided) → Left d → Left (separated c d)
  left_separated c d h = cond_both (nat_le 128 (slice_index c.autn.bytes 6)) d _ Left (λ _. h) (λ _. refl)

  left_outcome : (p : List ℕ) (s : Subscriber) (c : ChallengeParts) (o : CardOutcome) → Left (on_outcome p s c o)
  left_outcome p s c Out = refl
  left_outcome p s c Wrong = left_separated c _ refl
  left_outcome p s c (Stale auts) = left_separated c _ refl
  left_outcome p s c (Good res ck ik) = left_separated c _ (left_keys p c res _ _ (block_length s c.autn.bytes ck ik))

-- ---- replies and places, in a packet of n bytes
abbrev Short : Answer → Type 0
Short client_error = Unit {0}
Short authentication_reject = Unit {0}
Short (synchronization_failure auts kdfs) = length kdfs ≤ 8
Short identity = Unit {0}
Short (challenge res k) = Unit {0}

pub kdfs_length : (vs : List ℕ) → length (joined (map kdf_attribute vs)) ≡ 4 * length vs
kdfs_length [] = refl
kdfs_length (v ∷ vs) = let more = kdfs_length vs in omega arith

take_short : (n : ℕ) (l : List ℕ) → length (take n l) ≤ n
take_short n l = simp length-take (omega arith)

challenge_short : (i : ℕ) (res k : List ℕ) → length (challenge_body i res k) ≤ 43
unfolding challenge_body mac_with
challenge_short i res k =
    let front = challenge_front res in
    let r = take_short 16 res in
    let m = take_short 16 (hmac k (response_packet i aka_type (front ++ replicate 16 0))) in
    let one = length-append ((1 ∷ 0 ∷ 0 ∷ 3 ∷ 5 ∷ 0 ∷ 128 ∷ []) ++ take 16 res) (11 ∷ 5 ∷ 0 ∷ 0 ∷ []) in
    let two = length-append front (take 16 (hmac k (response_packet i aka_type (front ++ replicate 16 0)))) in
    omega arith

body_short : (i : ℕ) (suci : List ℕ) (a : Answer) → length suci ≤ 255 → Short a → 5 + length (body_of i suci a) ≤ 1500
body_short i suci client_error few h = lit≤ tt
body_short i suci authentication_reject few h = lit≤ tt
body_short i suci (synchronization_failure auts kdfs) few h =
    let a = take_short 14 auts in
    let k = kdfs_length kdfs in
    let all = length-append ((4 ∷ 0 ∷ 0 ∷ 4 ∷ 4 ∷ []) ++ take 14 auts) (joined (map kdf_attribute kdfs)) in
    omega arith
body_short i suci identity few h =
    let n = length suci in
    let fill = 4 * words_for n - 4 - n in
    let few-zeros : fill ≤ 3 = omega arith in
    let zeros : length (replicate {A = ℕ} fill 0) ≡ fill = length-replicate fill 0 in
    let all : length (suci ++ replicate {A = ℕ} fill 0) ≡ length suci + length (replicate {A = ℕ} fill 0) = length-append suci (replicate fill 0) in
    omega (arith, zeros, all)
body_short i suci (challenge res k) few h = omega (arith, challenge_short i res k)

abbrev Placed : ℕ → Verdict AkaFault → Type 0
Placed n GoOn = Unit {0}
Placed n Granted = Unit {0}
Placed n (Unproven f) = place_of f < n

module _ (n : ℕ) (long : 0 < n) where
  abbrev Fits : Decided → Type 0
  Fits d = Placed n d.verdict × Short d.answer

  fits_identity : (held : Option (List ℕ)) (i : IdentityRequest) → i.at < n → Fits (on_identity held i)
  fits_identity held i inside = cond_both (untold held i.kind) _ _ Fits (λ _. (inside, tt)) (λ _. (tt, tt))

  module _ (c : ChallengeParts) (inside : ChallengeInside n c) where
    fits_keys : (p res k_aut_of block : List ℕ) → Fits (on_keys p c res k_aut_of block)
    fits_keys p res k_aut_of block =
        cond_both (bytes_eq c.mac.bytes (mac_with k_aut_of (zeroed_at p c.mac.at))) _ _ Fits
        (λ _. (tt, tt))
        (λ _. let at : c.mac.at < n = omega (arith, inside.mac) in (at, tt))

    fits_separated : (d : Decided) → Fits d → Fits (separated c d)
    fits_separated d h = cond_both (nat_le 128 (slice_index c.autn.bytes 6)) d _ Fits (λ _. h) (λ _. (inside.autn, tt))

    fits_outcome : (p : List ℕ) (s : Subscriber) (o : CardOutcome) → Fits (on_outcome p s c o)
    fits_outcome p s Out = (long, tt)
    fits_outcome p s Wrong = fits_separated _ (inside.autn, tt)
    fits_outcome p s (Stale auts) = fits_separated _ (inside.autn, inside.few)
    fits_outcome p s (Good res ck ik) = fits_separated _ (fits_keys p res _ _)

    offer_placed : (s : Subscriber) → IfErr (offered s c) (λ f. place_of f < n)
    offer_placed s =
        cond_both (prefers_aka_prime c.kdfs.values) _ _ (λ (r : Result (Unit {0}) AkaFault). IfErr r (λ f. place_of f < n))
        (λ _. cond_both (bytes_eq c.network.octets s.snn) _ _ (λ (r : Result (Unit {0}) AkaFault). IfErr r (λ f. place_of f < n)) (λ _. tt) (λ _. inside.network))
        (λ _. inside.kdfs)

-- ---- a whole request
module _ (card : CardDefinition) (h : Holding card.Stage) (packet : List ℕ) (s : Subscriber) where
  left_challenge : (c : ChallengeParts) (r : Result (Unit {0}) AkaFault) → Left h.block (on_challenge card h packet s c r).decision
  left_challenge c (Ok u) = left_outcome h.block packet s c _
  left_challenge c (Err f) = refl

  left_request : (r : Result Asked RequestFault) → Left h.block (on_request card h packet s r).decision
  left_request (Ok (requests.identity i)) = left_identity h.block i
  left_request (Ok (requests.challenge c)) = left_challenge c (offered s c)
  left_request (Err f) = refl

  module _ (long : 0 < length packet) where
    fits_challenge : (c : ChallengeParts) (r : Result (Unit {0}) AkaFault) → ChallengeInside (length packet) c → IfErr r (λ f. place_of f < length packet) → Fits (length packet) long (on_challenge card h packet s c r).decision
    fits_challenge c (Ok u) inside k = fits_outcome (length packet) long c inside packet s _
    fits_challenge c (Err f) inside k = (k, tt)

    fits_request : (r : Result Asked RequestFault) → MatchResult r (Inside (length packet)) (λ f. request.place_of f < length packet) → Fits (length packet) long (on_request card h packet s r).decision
    fits_request (Ok (requests.identity i)) inside = fits_identity (length packet) long h.block i inside
    fits_request (Ok (requests.challenge c)) inside = fits_challenge c (offered s c) inside (offer_placed (length packet) long c inside s)
    fits_request (Err f) inside = (inside, tt)

-- ---- what every method keeps
module _ (card : CardDefinition) (h : Holding card.Stage) (packet : List ℕ) (s : Subscriber) (suci : List ℕ) where
  left : Leaves h.block (aka card h packet s suci).verdict (aka card h packet s suci).next.block
  left = left_request card h packet s (read_request packet)

  pub granted_leaves_a_block : (aka card h packet s suci).verdict ≡ Granted → (b : List ℕ) × ((aka card h packet s suci).next.block ≡ Some b) × (length b ≡ 128)
  granted_leaves_a_block e = subst (λ v. Leaves h.block v (aka card h packet s suci).next.block) e left

  pub unproven_leaves_none : (f : AkaFault) → (aka card h packet s suci).verdict ≡ Unproven f → (aka card h packet s suci).next.block ≡ None
  unproven_leaves_none f e = subst (λ v. Leaves h.block v (aka card h packet s suci).next.block) e left

  pub go_on_leaves_the_block : (aka card h packet s suci).verdict ≡ GoOn → (aka card h packet s suci).next.block ≡ h.block
  go_on_leaves_the_block e = subst (λ v. Leaves h.block v (aka card h packet s suci).next.block) e left

  pub reason_of_layer_4 : (f : AkaFault) → (aka card h packet s suci).verdict ≡ Unproven f → (21 ≤ number_of f) × (number_of f ≤ 34)
  reason_of_layer_4 f e = of_layer_4 f

  fits : (long : 0 < length packet) → Fits (length packet) long (judged card h packet s).decision
  fits long = fits_request card h packet s long (read_request packet) (request_lies packet long)

  pub place_inside : (f : AkaFault) → 5 ≤ length packet → (aka card h packet s suci).verdict ≡ Unproven f → place_of f < length packet
  place_inside f long e = subst (Placed (length packet)) e (fits (omega arith)).0

  pub reply_of_its_type : 5 ≤ length packet → 1 ≤ length suci → length suci ≤ 255 →
      (body : List ℕ) × ((aka card h packet s suci).reply ≡ response_packet (slice_index packet 1) aka_type body) × (5 + length body ≤ 1500)
  reply_of_its_type long least most =
      (body_of (slice_index packet 1) suci (judged card h packet s).decision.answer, refl, body_short (slice_index packet 1) suci _ most (fits (omega arith)).1)
