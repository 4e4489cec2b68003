use Rattle.std.proofs.Common.{ℕ, bit_xor, rules}
use Rattle.digest.proofs.Maps.{is_map}
use Rattle.digest.proofs.mac.masked.Goals as goal

pub returns : goal.returns
returns c = is_map _ _ (λ (b : ℕ). bit_xor b c.args.pad) c.args.block.now c.from_fn.result 0 (λ i y q called. search rules) 64 (search rules) c.from_fn.ensures.items
