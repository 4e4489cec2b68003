use Rattle.std.proofs.Common.{◌≡◌, drop}
use Rattle.digest.proofs.Blocks.{after_blocks}
use Rattle.digest.proofs.block.compress_all.Given as goal

abbrev pub invariant-loop-block : goal.invariant-loop-block
invariant-loop-block l = after_blocks (drop l.block-index l.blocks) l.state ≡ after_blocks l.blocks l.initial.state
