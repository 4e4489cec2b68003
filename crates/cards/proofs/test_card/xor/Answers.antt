use Rattle.std.proofs.Common.{rules}
use Rattle.cards.proofs.Xored.{xored_from_fn}
use Rattle.cards.proofs.test_card.xor.Goals as goal

pub returns : goal.returns
returns g c = xored_from_fn _ _ c.args.a.now c.args.b.now c.from_fn.result (λ i y q k. search rules) g.row.N c.told-a c.told-b c.from_fn.ensures.items
