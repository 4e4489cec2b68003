use Rattle.std.proofs.Common.{◌≡◌, ◌<◌, length, arith, rules}
use Rattle.nas.specs.Outcomes.{seen}
use Rattle.attributes.specs.Requests.{asked, read_request}
use Rattle.attributes.proofs.Lies.{read_inside}
use Rattle.attributes.proofs.gather.read_request.Goals as goal

pub returns-clause-inside : goal.returns-clause-inside
unfolding read_request
returns-clause-inside c =
    let p = c.args.packet.now in
    let long : 0 < length p = omega arith in
    let value : seen asked c.needed_for.result ≡ read_request p = search rules in
    read_inside p _ long value
