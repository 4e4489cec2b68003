-- The key derivation function of TS 33.220, annex B.2.
-- Assumes nothing.
use Rattle.std.specs.Prelude.{ℕ, ◌/◌, ◌%◌, ◌<◌, List, [], ◌∷◌, ◌++◌, map, length}
use Rattle.digest.specs.Hmac.{hmac, joined}

-- a length as two bytes
abbrev pub two_bytes : ℕ → List ℕ
two_bytes n = n / 256 ∷ n % 256 ∷ []

-- an input parameter and its length
abbrev pub with_length : List ℕ → List ℕ
with_length p = p ++ two_bytes (length p)

-- the key from a key, the function's code FC, and the input parameters P0, P1 and so on
unfoldable pub kdf : List ℕ → ℕ → List (List ℕ) → List ℕ
kdf key fc ps = hmac key (fc ∷ joined (map with_length ps))

-- the length of each parameter takes two bytes
abbrev pub Short : List (List ℕ) → Type 0
Short [] = Unit {0}
Short (p ∷ ps) = (length p < 65536) × Short ps
