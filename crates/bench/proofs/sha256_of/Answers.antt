use mathlib.Core.List.{[]}
use Rattle.bench.proofs.sha256_of.Goals as goal

pub returns : goal.returns
returns c = c.finish.ensures c.args.message.now (c.update.ensures [] c.new-hash.ensures)
