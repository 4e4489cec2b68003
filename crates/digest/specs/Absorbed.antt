-- What a `Sha256` stands for: the bytes that it has taken in.
-- Assumes nothing.
use Rattle.std.specs.Prelude.{◌≡◌, ℕ, ◌*◌, ◌/◌, ◌%◌, ◌^◌, List, length, take, drop}
use Rattle.digest.specs.Sha256.{hash_blocks, initial_hash_value}
use Rattle.digest.specs.declared.state.Sha256.{Sha256}

-- `h` has taken in the bytes `m`: it has hashed their whole blocks, and keeps the rest and how many they are
pub record Absorbed (h : Sha256) (m : List ℕ) : Type 0 where
  pub state_is : h.state ≡ hash_blocks (length m / 64) m initial_hash_value
  pub filled_is : h.filled ≡ length m % 64
  pub rest_is : take h.filled h.buffer ≡ drop (64 * (length m / 64)) m
  pub counted : h.total ≡ length m % 2 ^ 64
