-- Exclusive or, byte by byte. Assumes nothing.
use Rattle.std.proofs.Common.{◌≡◌, ℕ, zero, suc, ◌+◌, ◌<◌, List, [], ◌∷◌, length, get_or, refl, ◌∙◌, arith}
use Rattle.std.specs.Array.{IsFromFnResult, IsFromFnResultFrom}
use Rattle.std.specs.Fn.{Called}
use denote.Param.Members.{Mut}
use lib.Bits.{bit_xor}
use Rattle.cards.specs.TestCards.{xored}

-- the list whose bytes are those of two lists, each with the other's at its place
xored_from : (a b c : List ℕ) → length b ≡ length a → length c ≡ length a → ((i : ℕ) → i < length a → get_or c i 0 ≡ bit_xor (get_or a i 0) (get_or b i 0)) → c ≡ xored a b
xored_from [] [] [] l k each = refl
xored_from [] [] (z ∷ c) l k each = absurd (omega arith)
xored_from [] (y ∷ b) c l k each = absurd (omega arith)
xored_from (x ∷ a) [] c l k each = absurd (omega arith)
xored_from (x ∷ a) (y ∷ b) [] l k each = absurd (omega arith)
xored_from (x ∷ a) (y ∷ b) (z ∷ c) l k each =
    let first : z ≡ bit_xor x y = each zero (omega arith) in
    let rest : c ≡ xored a b = xored_from a b c (omega arith) (omega arith) (λ i h. each (suc i) (omega arith)) in
    cc

module _ {F : Type 0} (g : Mut F (ℕ × Unit {0}) ℕ) (f : F) (a b c : List ℕ) (gives : (i y : ℕ) (q : F) → Called g f (i, tt) y q → (q ≡ f) × (y ≡ bit_xor (get_or a i 0) (get_or b i 0))) where
  -- a closure that gives these bytes, and stays as it was, gives each at its place
  made : (i n : ℕ) (p : F) → p ≡ f → IsFromFnResultFrom g p c i n → (k j : ℕ) → i + k ≡ j → k < n → get_or c j 0 ≡ bit_xor (get_or a j 0) (get_or b j 0)
  made i zero p e calls k j place h = absurd (omega arith)
  made i (suc n) p e (q, y, at, called, rest) zero j place h =
      let given = gives i y q (rw e at called) in
      let here : j ≡ i = omega arith in
      rw here (at.1 0 ∙ given.1)
  made i (suc n) p e (q, y, at, called, rest) (suc k) j place h =
      let given = gives i y q (rw e at called) in
      made (i + 1) n q given.0 rest k j (omega arith) (omega arith)

  pub xored_from_fn : (n : ℕ) → length a ≡ n → length b ≡ n → IsFromFnResult g f c n → c ≡ xored a b
  xored_from_fn n la lb it = xored_from a b c (omega arith) (omega (arith, it.long)) (λ i h. made 0 n f refl it.each i i (omega arith) (omega arith))
