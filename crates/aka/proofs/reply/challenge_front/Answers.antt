use Rattle.std.proofs.Common.{◌≡◌, take, arith, rules}
use Rattle.std.proofs.lemmas.List.{take_all}
use Rattle.aka.proofs.reply.challenge_front.Goals as goal

pub returns-clause-value : goal.returns-clause-value
returns-clause-value c =
    let res = c.args.res.now in
    let whole : take 16 res ≡ res = take_all 16 res (omega arith) in
    search (rules, whole)
