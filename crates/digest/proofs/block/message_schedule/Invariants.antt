use Rattle.std.proofs.Common.{◌≡◌, length, take}
use Rattle.digest.specs.Sha256.{block_words}
use Rattle.digest.proofs.Rounds.{Scheduled}
use Rattle.digest.proofs.block.message_schedule.Given as goal

abbrev pub invariant-loop-t : goal.invariant-loop-t
invariant-loop-t l = (take l.t l.w ≡ block_words l.t l.block) × (length l.w ≡ 64)

abbrev pub invariant-loop-t-2 : goal.invariant-loop-t-2
invariant-loop-t-2 l = Scheduled l.w l.block l.t
