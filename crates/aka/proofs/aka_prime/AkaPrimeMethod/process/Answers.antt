use Rattle.std.proofs.Common.{length, get_or, ap, ◌∙◌, rules}
use Rattle.keys.specs.Octets.{octets}
use Rattle.nas.specs.Replies.{response_packet}
use Rattle.method.specs.Method.{replied}
use Rattle.aka.specs.Aka.{Judged}
use Rattle.aka.specs.Replies.{Answer, answer, body_of, aka_type}
use Rattle.aka.proofs.aka_prime.AkaPrimeMethod.process.Goals as goal

pub returns : goal.returns
returns g c =
    let suci = octets c.args.suci.now in
    let i = get_or c.args.packet.now 1 0 in
    let said = ap (λ (j : Judged _). j.decision.answer) c.settle-decision.ensures.judged in
    let to_it = ap (λ i. response_packet i aka_type (body_of i suci (answer c.settle-decision.result.reply))) c.identifier_of-identifier.ensures in
    let reply = to_it ∙ ap (λ (a : Answer). response_packet i aka_type (body_of i suci a)) said in
    record {
      verdict = search rules;
      len = c.write_reply-reply_len.ensures.len ∙ ap length reply;
      reply = c.write_reply-reply_len.ensures.bytes ∙ ap (λ r. replied r c.args.reply.now) reply;
      holds = search rules;
    }
