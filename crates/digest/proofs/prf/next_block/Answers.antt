use Rattle.std.proofs.Common.{◌++◌, map, take, sym, ap, ◌∙◌, subst, append_assoc}
use Rattle.digest.specs.Hmac.{joined}
use Rattle.digest.specs.Keyed.{Keyed}
use Rattle.digest.proofs.Keys.{joined_step}
use Rattle.digest.proofs.prf.next_block.Goals as goal

pub loop-part-preserved : goal.loop-part-preserved
loop-part-preserved c k was =
    let last = c.args.last.now in
    let seed = c.args.seed.now in
    let step = joined_step (λ x. x.now) seed c.loop-part.part-index _ c.loop-part-test.true in
    let more = append_assoc last (joined (map (λ x. x.now) (take c.loop-part.part-index seed))) _ ∙ ap (λ l. last ++ l) (sym step) in
    subst (Keyed c.update-in-loop-part.new.self k) more (c.update-in-loop-part.ensures k _ (c.loop-part.invariant k was))
