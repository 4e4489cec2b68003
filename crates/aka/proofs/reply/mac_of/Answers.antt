use Rattle.std.proofs.Common.{[], take, ap, ◌∙◌, append_assoc}
use Rattle.digest.specs.Hmac.{hmac}
use Rattle.aka.specs.Replies.{mac_with}
use Rattle.aka.proofs.reply.mac_of.Goals as goal

pub returns : goal.returns
unfolding mac_with
returns c =
    let key = c.args.k_aut.now in
    let first = c.update.ensures key [] c.new-hmac.ensures in
    let second = c.update-2.ensures key _ first in
    let third = c.update-3.ensures key _ second in
    let digest = c.finish.ensures key _ third ∙ ap (hmac key) (append_assoc c.args.first.now c.args.second.now c.args.third.now) in
    let front = rw c.unwrap.ensures at c.first_chunk.ensures.cases in
    front.same ∙ ap (take 16) digest
