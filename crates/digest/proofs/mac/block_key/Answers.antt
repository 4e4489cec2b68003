use Rattle.std.proofs.Common.{true, false, [], ap, ◌∙◌}
use Rattle.digest.specs.Hmac.{zero_filled}
use Rattle.digest.proofs.Keys.{filled_is, block_key-is}
use Rattle.digest.proofs.mac.block_key.Goals as goal

pub returns-then-is_longer_than_block : goal.returns-then-is_longer_than_block
returns-then-is_longer_than_block c =
    let key = c.args.key.now in
    let digest = c.finish-digest.ensures key (c.update.ensures [] c.new-hash.ensures) in
    filled_is c.finish-digest.result c.put.new.out c.put.ensures.after ∙ ap zero_filled digest ∙ block_key-is key true c.if-is_longer_than_block.ensures

pub returns-else-is_longer_than_block : goal.returns-else-is_longer_than_block
returns-else-is_longer_than_block c =
    let key = c.args.key.now in
    filled_is key c.put-else-is_longer_than_block.new.out c.put-else-is_longer_than_block.ensures.after ∙ block_key-is key false c.if-is_longer_than_block.ensures
