use Rattle.std.proofs.Common.{◌∷◌, take}
use Rattle.digest.specs.Keyed.{Keyed}
use Rattle.keys.proofs.Derived.{hashes}
use Rattle.keys.proofs.kdf.derive_key.Given as goal

abbrev pub invariant-loop-p : goal.invariant-loop-p
invariant-loop-p l = Keyed l.mac l.key (l.fc ∷ hashes (λ x. x.now) (take l.p-index l.parameters))
