use Rattle.std.proofs.Common.{ℕ, List, [], ◌++◌, map, take}
use Rattle.digest.specs.Hmac.{joined}
use Rattle.digest.specs.Keyed.{Keyed}
use Rattle.digest.proofs.prf.next_block.Given as goal

abbrev pub invariant-loop-part : goal.invariant-loop-part
invariant-loop-part l = (k : List ℕ) → Keyed l.keyed k [] → Keyed l.mac k (l.last ++ joined (map (λ x. x.now) (take l.part-index l.seed)))
