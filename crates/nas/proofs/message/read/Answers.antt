use Rattle.std.proofs.Common.{◌≡◌, rules}
use Rattle.nas.specs.Messages.{contents, read_message}
use Rattle.nas.specs.Outcomes.{seen}
use Rattle.nas.proofs.Soundness.{sound_read}
use Rattle.nas.proofs.message.read.Goals as goal

pub returns-clause-sound : goal.returns-clause-sound
unfolding read_message
returns-clause-sound g c =
    let value : seen contents c.read_elements.result ≡ read_message c.args.msg.now = search rules in
    sound_read c.args.msg.now _ value c.type_inv.msg
