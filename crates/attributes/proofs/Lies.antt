-- The parts of a request that was read lie in the packet, and so does the attribute at fault. Assumes nothing.
use Rattle.std.proofs.Common.{◌≡◌, ℕ, ◌+◌, ◌<◌, ◌≤◌, ◌&&◌, eqb, ltb, leb, List, [], ◌∷◌, ◌++◌, length, get_or, IfSome, IfErr, Some, None, Ok, Err, Option, Result, sym, subst, arith, length-append, length-drop, length-take, MatchResult}
use Rattle.std.proofs.lemmas.Bool.{cond_both, eqb-true, ltb-true}
use Rattle.std.proofs.lemmas.Bool.Decides.{nat_tests}
use Rattle.nas.specs.Outcomes.{then, raised, IfRead}
use Rattle.nas.specs.Parts.{Field}
use Rattle.nas.specs.Walk.{first_in}
use Rattle.std.specs.List.{AllByRecursion}
use Rattle.nas.proofs.Walks.{EachOf, walk-each, first-has}
use Rattle.attributes.specs.declared.attribute.IdentityKind.{IdentityKind}
use Rattle.attributes.specs.declared.attribute.Subtype.{Subtype}
use Rattle.attributes.specs.declared.attribute.Subtype.TheVariants.{Challenge as OfChallenge, Identity as OfIdentity}
use Rattle.attributes.specs.declared.fault.AttributeFault.{AttributeFault}
use Rattle.attributes.specs.declared.fault.AttributeFault.TheVariants.{Cut}
use Rattle.attributes.specs.declared.fault.RequestFault.{RequestFault}
use Rattle.attributes.specs.declared.fault.RequestFault.TheVariants.{WrongSubtype, InAttribute}
use Rattle.attributes.specs.declared.request.IdentityRequest.{IdentityRequest}
use Rattle.attributes.specs.declared.request.Sixteen.{Sixteen}
use Rattle.attributes.specs.Attributes.{Attr, rand, autn, mac, kdf_input, kdf, identity_request, skippable, other, field_of, end_of, attribute_of, attribute_at, end_at, field_at, attributes_from, foreign}
use Rattle.attributes.specs.Faults.{attribute_place, place_of}
use Rattle.attributes.specs.Inside.{ChallengeInside, Inside}
use Rattle.attributes.specs.Requests.{KdfList, Asked, Gathered, nothing, sixteen_of, name_of, network_of, kdf_of, identity_of, at_most_once, with_one_more, added, added_all, none_foreign, gathered_from, needed, needed_for_challenge, needed_for, subtype_of, request_of_subtype, read_request}
use Rattle.attributes.proofs.Within.{whole}

-- the next question keeps what this one has shown
then-cases : {X Y E : Type 0} (P : X → Type 0) (R : Y → Type 0) (Q : E → Type 0) (r : Result X E) (next : X → Result Y E) → MatchResult r P Q → ((x : X) → P x → MatchResult (next x) R Q) → MatchResult (then r next) R Q
then-cases P R Q (Ok x) next h k = k x h
then-cases P R Q (Err f) next h k = h

module _ (n : ℕ) where
  abbrev Placed : AttributeFault → Type 0
  Placed f = attribute_place f < n

  abbrev Whole20 : Sixteen → Type 0
  Whole20 s = s.at + 20 ≤ n

  abbrev Starts : Field → Type 0
  Starts f = f.place < n

  abbrev Asks : IdentityRequest → Type 0
  Asks i = i.at < n

  abbrev Kept : KdfList → Type 0
  Kept k = (k.place < n) × (length k.values ≤ 8)

  -- what the attributes found so far keep
  pub record Held (g : Gathered) : Type 0 where
    pub rand : IfSome g.rand Whole20
    pub autn : IfSome g.autn Whole20
    pub mac : IfSome g.mac Whole20
    pub network : IfSome g.network Starts
    pub kdfs : IfSome g.kdfs Kept
    pub identity : IfSome g.identity Asks

  module _ (f : Field) (lies : f.place + 2 + length f.octets ≤ n) where
    sixteen_held : MatchResult (sixteen_of f) Whole20 Placed
    sixteen_held =
        cond_both (eqb (length f.octets) 18) _ _ (λ (r : Result Sixteen AttributeFault). MatchResult r Whole20 Placed)
        (λ t. let five = eqb-true (length f.octets) 18 t in let h : f.place + 20 ≤ n = omega arith in h)
        (λ _. let h : f.place < n = omega arith in h)

    name_held : (k : ℕ) → MatchResult (name_of k f) Starts Placed
    name_held k =
        cond_both (leb (k + 2) (length f.octets) && leb (length f.octets) (k + 5)) _ _ (λ (r : Result Field AttributeFault). MatchResult r Starts Placed)
        (λ _. let h : f.place < n = omega arith in h)
        (λ _. let h : f.place < n = omega arith in h)

    kdf-held : IfErr (kdf_of f) Placed
    kdf-held =
        cond_both (eqb (length f.octets) 2) _ _ (λ (r : Result ℕ AttributeFault). IfErr r Placed)
        (λ _. tt)
        (λ _. let h : f.place < n = omega arith in h)

    identity_held : (k : IdentityKind) → MatchResult (identity_of k f) Asks Placed
    identity_held k =
        cond_both (eqb (length f.octets) 2) _ _ (λ (r : Result IdentityRequest AttributeFault). MatchResult r Asks Placed)
        (λ _. let h : f.place < n = omega arith in h)
        (λ _. let h : f.place < n = omega arith in h)

  once_held : {X : Type 0} (P : X → Type 0) (o : Option X) (p : ℕ) (x : X) → p < n → P x → MatchResult (at_most_once o p x) (λ r. IfSome r P) Placed
  once_held P None p x lt h = h
  once_held P (Some y) p x lt h = lt

  abbrev Few : Option KdfList → Type 0
  Few o = IfSome o Kept

  more-held : (o : Option KdfList) (p v : ℕ) → p < n → Few o → MatchResult (with_one_more o p v) Few Placed
  more-held None p v lt h = (lt, omega arith)
  more-held (Some k) p v lt h =
      cond_both (ltb (length k.values) 8) _ _ (λ (r : Result (Option KdfList) AttributeFault). MatchResult r Few Placed)
      (λ t.
      let few = ltb-true (length k.values) 8 t in
      let eight : length (k.values ++ v ∷ []) ≤ 8 = simp length-append (omega arith) in
      (h.0, eight))
      (λ _. lt)

  added-held : (g : Gathered) (a : Attr) → Held g → end_of a ≤ n → MatchResult (added g a) Held Placed
  added-held g (rand f) h lies =
      then-cases _ Held Placed (sixteen_of f) _ (sixteen_held f lies) (λ x p.
      then-cases _ Held Placed (at_most_once g.rand f.place x) _ (once_held Whole20 g.rand f.place x (omega arith) p) (λ o q.
      record { rand = q; autn = h.autn; mac = h.mac; network = h.network; kdfs = h.kdfs; identity = h.identity }))
  added-held g (autn f) h lies =
      then-cases _ Held Placed (sixteen_of f) _ (sixteen_held f lies) (λ x p.
      then-cases _ Held Placed (at_most_once g.autn f.place x) _ (once_held Whole20 g.autn f.place x (omega arith) p) (λ o q.
      record { rand = h.rand; autn = q; mac = h.mac; network = h.network; kdfs = h.kdfs; identity = h.identity }))
  added-held g (mac f) h lies =
      then-cases _ Held Placed (sixteen_of f) _ (sixteen_held f lies) (λ x p.
      then-cases _ Held Placed (at_most_once g.mac f.place x) _ (once_held Whole20 g.mac f.place x (omega arith) p) (λ o q.
      record { rand = h.rand; autn = h.autn; mac = q; network = h.network; kdfs = h.kdfs; identity = h.identity }))
  added-held g (kdf_input f) h lies =
      then-cases _ Held Placed (network_of f) _ (name_held f lies _) (λ x p.
      then-cases _ Held Placed (at_most_once g.network f.place x) _ (once_held Starts g.network f.place x (omega arith) p) (λ o q.
      record { rand = h.rand; autn = h.autn; mac = h.mac; network = q; kdfs = h.kdfs; identity = h.identity }))
  added-held g (kdf f) h lies =
      then-cases _ Held Placed (kdf_of f) _ (kdf-held f lies) (λ v p.
      then-cases _ Held Placed (with_one_more g.kdfs f.place v) _ (more-held g.kdfs f.place v (omega arith) h.kdfs) (λ o q.
      record { rand = h.rand; autn = h.autn; mac = h.mac; network = h.network; kdfs = q; identity = h.identity }))
  added-held g (identity_request k f) h lies =
      then-cases _ Held Placed (identity_of k f) _ (identity_held f lies k) (λ x p.
      then-cases _ Held Placed (at_most_once g.identity f.place x) _ (once_held Asks g.identity f.place x (omega arith) p) (λ o q.
      record { rand = h.rand; autn = h.autn; mac = h.mac; network = h.network; kdfs = h.kdfs; identity = q }))
  added-held g (skippable f) h lies = h
  added-held g (other f) h lies = h

  abbrev Lies : Attr → Type 0
  Lies a = end_of a ≤ n

  all_held : (g : Gathered) (l : List Attr) → Held g → AllByRecursion Lies l → MatchResult (added_all g l) Held Placed
  all_held g [] h lies = h
  all_held g (a ∷ l) h lies = then-cases Held Held Placed (added g a) _ (added-held g a h lies.0) (λ k j. all_held k l j lies.1)

  held_nothing : Held nothing
  held_nothing = record { rand = tt; autn = tt; mac = tt; network = tt; kdfs = tt; identity = tt }

  none-foreign : (o : Option Attr) → IfSome o Lies → MatchResult (none_foreign o) Held Placed
  none-foreign None h = held_nothing
  none-foreign (Some a) h = omega arith

  gathered-held : (s : Subtype) (all : Result (List Attr) AttributeFault) → EachOf Lies Placed all → MatchResult (gathered_from s all) Held Placed
  gathered-held s (Err f) h = h
  gathered-held s (Ok l) h = then-cases Held Held Placed (none_foreign (first_in (foreign s) l)) _ (none-foreign _ (first-has (foreign s) Lies l h)) (λ g held. all_held g l held h)

  -- ---- what is needed
  abbrev Reason : RequestFault → Type 0
  Reason f = place_of f < n

  module _ (long : 0 < n) where
    raised-held : (r : Result Gathered AttributeFault) → MatchResult r Held Placed → MatchResult (raised InAttribute r) Held Reason
    raised-held (Ok g) h = h
    raised-held (Err f) h = h

    needed-held : {X : Type 0} (P : X → Type 0) (o : Option X) → IfSome o P → MatchResult (needed o) P Reason
    needed-held P (Some x) h = h
    needed-held P None h = long

    challenge_held : (g : Gathered) → Held g → MatchResult (needed_for_challenge g) (ChallengeInside n) Reason
    challenge_held g h =
        then-cases _ (ChallengeInside n) Reason (needed g.rand) _ (needed-held Whole20 g.rand h.rand) (λ r _.
        then-cases _ (ChallengeInside n) Reason (needed g.autn) _ (needed-held Whole20 g.autn h.autn) (λ a in_a.
        then-cases _ (ChallengeInside n) Reason (needed g.mac) _ (needed-held Whole20 g.mac h.mac) (λ m inM.
        then-cases _ (ChallengeInside n) Reason (needed g.network) _ (needed-held Starts g.network h.network) (λ w inN.
        then-cases _ (ChallengeInside n) Reason (needed g.kdfs) _ (needed-held Kept g.kdfs h.kdfs) (λ k inK.
        record { autn = omega arith; mac = inM; network = inN; kdfs = inK.0; few = inK.1 })))))

    asked-held : (s : Subtype) (g : Gathered) → Held g → MatchResult (needed_for s g) (Inside n) Reason
    asked-held OfIdentity g h = then-cases _ (Inside n) Reason (needed g.identity) _ (needed-held Asks g.identity h.identity) (λ i inside. inside)
    asked-held OfChallenge g h = then-cases (ChallengeInside n) (Inside n) Reason (needed_for_challenge g) _ (challenge_held g h) (λ c inside. inside)

-- ---- the attributes of a packet lie in it
same_field : (t : ℕ) (f : Field) → field_of (attribute_of t f) ≡ f
same_field t f = grind (arith, nat_tests)

attribute-lies : (p : List ℕ) (q : ℕ) (a : Attr) → q < length p → attribute_at p q ≡ Ok a → end_of a ≤ length p
attribute-lies p q a lt e =
    let w = whole p q a e in
    let same : field_of a ≡ field_at p q = cc (same_field (get_or p q 0) (field_at p q)) in
    let ends : (field_at p q).place + 2 + length (field_at p q).octets ≤ length p = simp (length-take, length-drop) (omega (arith, w.inside, w.some)) in
    subst (λ (f : Field). f.place + 2 + length f.octets ≤ length p) (sym same) ends

fault_lies : (p : List ℕ) (q : ℕ) (f : AttributeFault) → q < length p → attribute_at p q ≡ Err f → attribute_place f < length p
fault_lies p q f lt e =
    let b = leb 1 (get_or p (q + 1) 0) && leb (end_at p q) (length p) in
    cond_both b (Ok (attribute_of (get_or p q 0) (field_at p q))) (Err (Cut q)) (λ (r : Result Attr AttributeFault). r ≡ Err f → attribute_place f < length p)
    (λ _ g. cc)
    (λ _ g. let is : Cut q ≡ f = cc in subst (λ h. attribute_place h < length p) is lt) e

attributes_lie : (p : List ℕ) (q : ℕ) → EachOf (λ a. end_of a ≤ length p) (λ f. attribute_place f < length p) (attributes_from p q)
attributes_lie p q = walk-each (attribute_at p) (end_at p) (length p) (λ a. end_of a ≤ length p) (λ f. attribute_place f < length p) (attribute-lies p) (fault_lies p) (length p) q

-- every request that is read lies in its packet, and the reason why one is not read has a place in it, if it is not empty
pub request_lies : (p : List ℕ) → 0 < length p → MatchResult (read_request p) (Inside (length p)) (λ f. place_of f < length p)
unfolding read_request
request_lies p long =
    cond_both (leb 8 (length p) && leb (length p) 65535) (request_of_subtype (subtype_of (get_or p 5 0)) p) (Err WrongSubtype) (λ r. MatchResult r (Inside (length p)) (Reason (length p)))
    (λ _. of_subtype (subtype_of (get_or p 5 0)))
    (λ _. long)
  where
    of_subtype : (o : Option Subtype) → MatchResult (request_of_subtype o p) (Inside (length p)) (Reason (length p))
    of_subtype None = long
    of_subtype (Some s) =
        then-cases (Held (length p)) (Inside (length p)) (Reason (length p)) (raised InAttribute (gathered_from s (attributes_from p 8))) _
        (raised-held (length p) long _ (gathered-held (length p) s (attributes_from p 8) (attributes_lie p 8)))
        (λ g held. asked-held (length p) long s g held)

pub read_inside : (p : List ℕ) (r : Result Asked RequestFault) → 0 < length p → r ≡ read_request p → IfRead (Inside (length p)) r
read_inside p r long e = ok_part r (subst (λ t. MatchResult t (Inside (length p)) (Reason (length p))) (sym e) (request_lies p long))
  where
    ok_part : (t : Result Asked RequestFault) → MatchResult t (Inside (length p)) (Reason (length p)) → IfRead (Inside (length p)) t
    ok_part (Ok a) h = h
    ok_part (Err f) h = tt
