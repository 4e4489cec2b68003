use Rattle.std.proofs.Common.{length, ap, sym, ◌∙◌, ◌/◌, arith}
use Rattle.std.proofs.lemmas.List.{at_drop_all}
use Rattle.digest.proofs.Blocks.{after_blocks, after_blocks-cut}
use Rattle.digest.proofs.block.compress_all.Goals as goal

pub returns : goal.returns
returns c =
    let bytes = c.args.bytes.now in
    let all = at_drop_all (λ bs. after_blocks bs c.loop-block.state) c.as_chunks.result.0.now c.loop-block.block-index (omega arith) in
    sym all ∙ c.loop-block.invariant ∙ ap (λ bs. after_blocks bs c.args.state.now) c.as_chunks.ensures.front ∙ after_blocks-cut (length bytes / 64) bytes c.args.state.now
