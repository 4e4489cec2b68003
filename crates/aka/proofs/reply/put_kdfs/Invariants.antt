use Rattle.std.proofs.Common.{◌≡◌, ◌++◌, map, take}
use Rattle.digest.specs.Hmac.{joined}
use Rattle.aka.specs.Replies.{kdf_attribute}
use Rattle.aka.proofs.reply.put_kdfs.Given as goal

abbrev pub invariant-loop-value : goal.invariant-loop-value
invariant-loop-value l = l.body.items ≡ l.fn.body.items ++ joined (map kdf_attribute (take l.value-index l.values))
