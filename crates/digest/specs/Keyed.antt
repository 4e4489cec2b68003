-- What an `Hmac` stands for: its key, and the bytes that it has taken in.
-- Assumes nothing.
use Rattle.std.specs.Prelude.{ℕ, List, ◌++◌}
use Rattle.digest.specs.Absorbed.{Absorbed}
use Rattle.digest.specs.Hmac.{key_xor, ipad, opad}
use Rattle.digest.specs.declared.state.Hmac.{Hmac}

pub record Keyed (h : Hmac) (key m : List ℕ) : Type 0 where
  pub inside : Absorbed h.inner (key_xor key ipad ++ m)
  pub outside : Absorbed h.outer (key_xor key opad)
