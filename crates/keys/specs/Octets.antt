-- What an `Octets` stands for: the bytes in front.
-- Assumes nothing.
use Rattle.std.specs.Prelude.{ℕ, cond, ◌&&◌, List, length, take, Some, None, Option, nat_le}
use Rattle.keys.specs.declared.octets.Octets.{Octets}

abbrev pub octets : {N : ℕ} → Octets N → List ℕ
octets o = take o.len o.held

-- the bytes that may stand there: no more than n, and no more than a length of two bytes can tell
abbrev pub fitting : ℕ → List ℕ → Option (List ℕ)
fitting n bytes = cond (nat_le (length bytes) n && nat_le (length bytes) 65535) (Some bytes) None
