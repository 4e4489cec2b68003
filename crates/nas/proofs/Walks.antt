-- That a walk with turns enough gives every part, and what all parts of a walk have. Assumes nothing.
use Rattle.std.proofs.Common.{◌≡◌, ℕ, zero, suc, ◌+◌, ◌<◌, ◌≤◌, Bool, true, List, [], ◌∷◌, length, IfSome, Some, None, Ok, Err, Option, Result, sym, refl, ap, ◌∙◌, subst, ⊎_elim, arith, MatchResult}
use Rattle.std.proofs.lemmas.Bool.{lt-ltb, le-ltb, cond-true, cond-false, cases_lt, cond_both}
use Rattle.std.specs.List.{AllByRecursion}
use Rattle.nas.specs.Outcomes.{IfFound}
use Rattle.nas.specs.Walk.{walk, more, parts_from, first, first_in}

-- where a part was found already, the others have only to be without fault
abbrev pub pick : {X E : Type 0} → (X → Bool) → Option X → Result (List X) E → Result (Option X) E
pick is None r = first is r
pick is (Some x) (Ok xs) = Ok (Some x)
pick is (Some x) (Err f) = Err f

-- what each part of a list has, the first of a kind has
pub first-has : {X : Type 0} (is : X → Bool) (P : X → Type 0) (xs : List X) → AllByRecursion P xs → IfSome (first_in is xs) P
first-has is P [] h = tt
first-has is P (x ∷ xs) h = cond_both (is x) (Some x) (first_in is xs) (λ o. IfSome o P) (λ _. h.0) (λ _. first-has is P xs h.1)

-- each part has P, or the fault has Q
abbrev pub EachOf : {X E : Type 0} → (X → Type 0) → (E → Type 0) → Result (List X) E → Type 0
EachOf P Q r = MatchResult r (AllByRecursion P) Q

-- what comes after a part makes a difference only if the part is without fault
more_same : {X E : Type 0} {l k : Result (List X) E} (r : Result X E) → ((x : X) → r ≡ Ok x → l ≡ k) → more r l ≡ more r k
more_same (Err f) h = refl
more_same (Ok x) h = ap (more (Ok x)) (h x refl)

module _ {X E : Type 0} (part : ℕ → Result X E) (end : ℕ → ℕ) (len : ℕ) where
  walk-on : (n p : ℕ) → p < len → walk part end len (suc n) p ≡ more (part p) (walk part end len n (end p))
  unfolding walk
  walk-on n p h = cond-true _ _ _ (lt-ltb _ _ h)

  pub walk-past : (n p : ℕ) → len ≤ p → walk part end len n p ≡ Ok []
  unfolding walk
  walk-past zero p h = refl
  walk-past (suc n) p h = cond-false _ _ _ (le-ltb _ _ h)

  walk_none : (p : ℕ) → walk part end len zero p ≡ Ok []
  unfolding walk
  walk_none p = refl

  -- what every part has, a part that was found has
  module _ (is : X → Bool) (P : X → Type 0) (all : (p : ℕ) (x : X) → part p ≡ Ok x → is x ≡ true → P x) where
    found_more : (p : ℕ) (r : Result X E) (l : Result (List X) E) → part p ≡ r → IfFound P (first is l) → IfFound P (first is (more r l))
    found_more p (Err f) l e h = tt
    found_more p (Ok x) (Err f) e h = tt
    found_more p (Ok x) (Ok xs) e h = cond_both (is x) (Some x) (first_in is xs) (λ o. IfFound {E = E} P (Ok o)) (λ t. all p x e t) (λ _. h)

    pub found_has : (n p : ℕ) → IfFound P (first is (walk part end len n p))
    found_has zero p = subst (λ r. IfFound P (first is r)) (sym (walk_none p)) tt
    found_has (suc n) p =
        ⊎_elim
        (λ lt. subst (λ r. IfFound P (first is r)) (sym (walk-on n p lt)) (found_more p (part p) (walk part end len n (end p)) refl (found_has n (end p))))
        (λ past. subst (λ r. IfFound P (first is r)) (sym (walk-past (suc n) p past)) tt)
        (cases_lt p len)

  -- what every part has, each part of a walk has, and what every fault has, the fault that ends it
  module _ (P : X → Type 0) (Q : E → Type 0) (parts : (p : ℕ) (x : X) → p < len → part p ≡ Ok x → P x) (faults : (p : ℕ) (f : E) → p < len → part p ≡ Err f → Q f) where
    each_more : (p : ℕ) (r : Result X E) (l : Result (List X) E) → p < len → part p ≡ r → EachOf P Q l → EachOf P Q (more r l)
    each_more p (Err f) l lt e h = faults p f lt e
    each_more p (Ok x) (Err f) lt e h = h
    each_more p (Ok x) (Ok xs) lt e h = (parts p x lt e, h)

    pub walk-each : (n p : ℕ) → EachOf P Q (walk part end len n p)
    walk-each zero p = subst (EachOf P Q) (sym (walk_none p)) tt
    walk-each (suc n) p =
        ⊎_elim
        (λ lt. subst (EachOf P Q) (sym (walk-on n p lt)) (each_more p (part p) (walk part end len n (end p)) lt refl (walk-each n (end p))))
        (λ past. subst (EachOf P Q) (sym (walk-past (suc n) p past)) tt)
        (cases_lt p len)

  -- each part goes on
  module _ (on : (p : ℕ) (x : X) → part p ≡ Ok x → p < end p) where
    -- turns past the end make no difference
    pub enough : (n k p : ℕ) → len ≤ p + n → len ≤ p + k → walk part end len n p ≡ walk part end len k p
    enough zero k p a b = walk-past zero p (omega arith) ∙ sym (walk-past k p (omega arith))
    enough (suc n) zero p a b = walk-past (suc n) p (omega arith) ∙ sym (walk-past zero p (omega arith))
    enough (suc n) (suc k) p a b =
        ⊎_elim
        (λ lt. walk-on n p lt ∙ more_same (part p) (λ x e. let h = on p x e in enough n k (end p) (omega arith) (omega arith)) ∙ sym (walk-on k p lt))
        (λ past. walk-past (suc n) p past ∙ sym (walk-past (suc k) p past))
        (cases_lt p len)

    -- the parts from p on, all of them
    abbrev rest : ℕ → Result (List X) E
    rest p = walk part end len len p

    rest-on : (p : ℕ) → p < len → rest p ≡ more (part p) (rest (end p))
    rest-on p h = enough len (suc len) p (omega arith) (omega arith) ∙ walk-on len p h

-- the parts from a place on: none at the end, and else the one there, and the parts behind it
module _ {X E : Type 0} (part : List ℕ → ℕ → Result X E) (end : List ℕ → ℕ → ℕ) where
  pub none_at_end : (m : List ℕ) (p : ℕ) → length m ≤ p → parts_from part end m p ≡ Ok []
  none_at_end m p h = walk-past (part m) (end m) (length m) (length m) p h

  module _ (on : (m : List ℕ) (p : ℕ) (x : X) → part m p ≡ Ok x → p < end m p) where
    pub part_first : (m : List ℕ) (p q : ℕ) (x : X) → p < length m → Ok x ≡ part m p → q ≡ end m p → parts_from part end m p ≡ more (Ok x) (parts_from part end m q)
    part_first m p q x h is ends =
        rest-on (part m) (end m) (length m) (on m) p h ∙ ap (λ r. more r (parts_from part end m (end m p))) (sym is) ∙ ap (λ k. more (Ok x) (parts_from part end m k)) (sym ends)

    pub fault_first : (m : List ℕ) (p : ℕ) (f : E) → p < length m → Err f ≡ part m p → parts_from part end m p ≡ Err f
    fault_first m p f h is = rest-on (part m) (end m) (length m) (on m) p h ∙ ap (λ r. more r (parts_from part end m (end m p))) (sym is)
