-- What `from_fn` gives of an array's elements, where no call changes the closure. Assumes nothing.
use denote.Param.Members.{Mut}
use Rattle.std.specs.Fn.{Called}
use Rattle.std.specs.Array.{IsFromFnResult, IsFromFnResultFrom}
use Rattle.std.proofs.Common.{◌≡◌, ℕ, zero, suc, ◌+◌, ◌<◌, List, map, length, get_or, sym, refl, ◌∙◌, arith}
use Rattle.std.proofs.lemmas.List.{same_lists, get_or-map, length-map}

module _ {F A B : Type 0} (g : Mut F (ℕ × Unit {0}) B) (f : F) (h : A → B) (xs : List A) (ys : List B) (d : A) (gives : (i : ℕ) (y : B) (q : F) → Called g f (i, tt) y q → (q ≡ f) × (y ≡ h (get_or xs i d))) where
  made : (i n : ℕ) (p : F) → p ≡ f → IsFromFnResultFrom g p ys i n → (k j : ℕ) (e : B) → i + k ≡ j → k < n → get_or ys j e ≡ h (get_or xs j d)
  made i zero p s calls k j e place low = absurd (omega arith)
  made i (suc n) p s (q, y, at, called, rest) zero j e place low =
      let given = gives i y q (rw s at called) in
      let here : j ≡ i = omega arith in
      rw here (at.1 e ∙ given.1)
  made i (suc n) p s (q, y, at, called, rest) (suc k) j e place low =
      let given = gives i y q (rw s at called) in
      made (i + 1) n q given.0 rest k j e (omega arith) (omega arith)

  pub is_map : (n : ℕ) → length xs ≡ n → IsFromFnResult g f ys n → ys ≡ map h xs
  is_map n long it =
      same_lists ys (map h xs) (it.long ∙ sym (length-map xs h ∙ long)) (λ k e low.
      made 0 n f refl it.each k k e (omega arith) (omega (arith, it.long)) ∙ sym (get_or-map h xs k d e (omega (arith, long, it.long))))
