-- A walk through parts that lie one after another, each of which says where it ends. Assumes nothing.
use Rattle.std.specs.Prelude.{ℕ, zero, suc, Bool, cond, List, [], ◌∷◌, length, Some, None, Ok, Err, Option, Result, nat_lt}

-- one part before others, if all are without fault
abbrev pub more : {X E : Type 0} → Result X E → Result (List X) E → Result (List X) E
more (Err f) r = Err f
more (Ok x) (Err f) = Err f
more (Ok x) (Ok xs) = Ok (x ∷ xs)

-- the parts from place p on up to place len, n at most, if all are without fault: at p stands part p, and ends before end p
unfoldable pub walk : {X E : Type 0} → (ℕ → Result X E) → (ℕ → ℕ) → ℕ → ℕ → ℕ → Result (List X) E
walk part end len zero p = Ok []
walk part end len (suc n) p = cond (nat_lt p len) (more (part p) (walk part end len n (end p))) (Ok [])

-- what one call of a reader that stands at p gives, and where it stands then
pub record Step (X E : Type 0) : Type 0 where
  pub found : Result (Option X) E
  pub next : ℕ

abbrev pub stepped : {X E : Type 0} → Result X E → ℕ → ℕ → Step X E
stepped (Ok x) q p = record { found = Ok (Some x); next = q }
stepped (Err f) q p = record { found = Err f; next = p }

abbrev pub step : {X E : Type 0} → (ℕ → Result X E) → (ℕ → ℕ) → ℕ → ℕ → Step X E
step part end len p = cond (nat_lt p len) (stepped (part p) (end p) p) (record { found = Ok None; next = p })

-- the parts of m from a place on, where each says where it ends; there are no more of them than bytes
abbrev pub parts_from : {X E : Type 0} → (List ℕ → ℕ → Result X E) → (List ℕ → ℕ → ℕ) → List ℕ → ℕ → Result (List X) E
parts_from part end m p = walk (part m) (end m) (length m) (length m) p

abbrev pub part_step : {X E : Type 0} → (List ℕ → ℕ → Result X E) → (List ℕ → ℕ → ℕ) → List ℕ → ℕ → Step X E
part_step part end m p = step (part m) (end m) (length m) p

-- the parts still to come before a call, from what the call gave and the parts still to come after it
abbrev pub read_first : {X E : Type 0} → Result (Option X) E → Result (List X) E → Result (List X) E
read_first (Ok (Some x)) r = more (Ok x) r
read_first (Ok None) r = Ok []
read_first (Err f) r = Err f

-- the first part of this kind, if all are without fault
abbrev pub first_in : {X : Type 0} → (X → Bool) → List X → Option X
first_in is [] = None
first_in is (x ∷ xs) = cond (is x) (Some x) (first_in is xs)

abbrev pub first : {X E : Type 0} → (X → Bool) → Result (List X) E → Result (Option X) E
first is (Ok xs) = Ok (first_in is xs)
first is (Err f) = Err f
