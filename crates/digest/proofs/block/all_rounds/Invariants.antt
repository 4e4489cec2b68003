use Rattle.std.proofs.Common.{◌≡◌, ◌*◌}
use Rattle.digest.specs.Sha256.{rounds}
use Rattle.digest.proofs.block.all_rounds.Given as goal

abbrev pub invariant-loop-i : goal.invariant-loop-i
invariant-loop-i l = l.s ≡ rounds (16 * l.i) l.w l.initial.s
