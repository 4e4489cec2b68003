-- How the reader of attributes goes on. Assumes nothing.
use Rattle.std.proofs.Common.{◌≡◌, ℕ, ◌+◌, ◌≤◌, List, length, get_or, Ok, sym}
use Rattle.std.proofs.lemmas.Bool.{leb-true, and_parts}
use Rattle.nas.proofs.Outcomes.{cond-ok}
use Rattle.attributes.specs.Attributes.{Attr, attribute_at, attribute_of, end_at, field_at}

-- an attribute that was read is the one there, and all of it is
pub record Whole (p : List ℕ) (q : ℕ) (a : Attr) : Type 0 where
  pub is : a ≡ attribute_of (get_or p q 0) (field_at p q)
  pub some : 1 ≤ get_or p (q + 1) 0
  pub inside : end_at p q ≤ length p

pub whole : (p : List ℕ) (q : ℕ) (a : Attr) → attribute_at p q ≡ Ok a → Whole p q a
whole p q a e =
    let came = cond-ok _ _ _ a (sym e) in
    let tests = and_parts _ _ came.0 in
    record { is = cc came.1; some = leb-true _ _ tests.0; inside = leb-true _ _ tests.1 }
