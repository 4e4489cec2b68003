use Rattle.std.proofs.Common.{◌≡◌, ◌*◌, length, take}
use Rattle.digest.specs.Sha256.{word_bytes}
use Rattle.digest.proofs.stream.bytes_of.Given as goal

abbrev pub invariant-loop-i : goal.invariant-loop-i
invariant-loop-i l = (take (4 * l.i) l.out ≡ word_bytes (take l.i l.words)) × (length l.out ≡ 32)
