-- A part of a message: some of its bytes, and a place in it. Assumes nothing.
use Rattle.std.specs.Prelude.{ℕ, ◌+◌, ◌*◌, cond, List, length, take, drop, Some, None, Option, nat_le, slice_index}
use Rattle.nas.specs.declared.part.Part.{Part}

pub record Field : Type 0 where
  pub place : ℕ
  pub octets : List ℕ

abbrev pub field : Part → Field
field p = record { place = p.at; octets = p.bytes.now }

-- n bytes of m from place p on
abbrev pub cut : List ℕ → ℕ → ℕ → List ℕ
cut m p n = take n (drop p m)

-- the two-byte number at place p
abbrev pub two_bytes : List ℕ → ℕ → ℕ
two_bytes m p = slice_index m p * 256 + slice_index m (p + 1)

-- the k bytes behind the first n of m, if all of them are there
abbrev pub behind : ℕ → ℕ → List ℕ → Option (List ℕ)
behind n k m = cond (nat_le (n + k) (length m)) (Some (cut m n k)) None
