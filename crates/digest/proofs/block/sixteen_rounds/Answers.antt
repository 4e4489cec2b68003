use Rattle.std.proofs.Common.{◌≡◌, ◌+◌}
use Rattle.digest.specs.Sha256.{rounds, round_constants}
use Rattle.digest.proofs.Rounds.{rounds-next, rounds-more}
use Rattle.digest.proofs.block.sixteen_rounds.Goals as goal

pub returns : goal.returns
unfolding round_constants
returns c start was =
    let t = c.args.t in
    let w = c.args.w.now in
    let more = rounds-more t w start in
    let r0 : c.apply_round-s0.result ≡ rounds (t + 1) w start = cc (c.apply_round-s0.ensures, was) in
    let r1 = rounds-next t 1 w start c.apply_round-s0.result c.apply_round-s1.result r0 c.apply_round-s1.ensures in
    let r2 = rounds-next t 2 w start c.apply_round-s1.result c.apply_round-s2.result r1 c.apply_round-s2.ensures in
    let r3 = rounds-next t 3 w start c.apply_round-s2.result c.apply_round-s3.result r2 c.apply_round-s3.ensures in
    let r4 = rounds-next t 4 w start c.apply_round-s3.result c.apply_round-s4.result r3 c.apply_round-s4.ensures in
    let r5 = rounds-next t 5 w start c.apply_round-s4.result c.apply_round-s5.result r4 c.apply_round-s5.ensures in
    let r6 = rounds-next t 6 w start c.apply_round-s5.result c.apply_round-s6.result r5 c.apply_round-s6.ensures in
    let r7 = rounds-next t 7 w start c.apply_round-s6.result c.apply_round-s7.result r6 c.apply_round-s7.ensures in
    let r8 = rounds-next t 8 w start c.apply_round-s7.result c.apply_round-s8.result r7 c.apply_round-s8.ensures in
    let r9 = rounds-next t 9 w start c.apply_round-s8.result c.apply_round-s9.result r8 c.apply_round-s9.ensures in
    let r10 = rounds-next t 10 w start c.apply_round-s9.result c.apply_round-s10.result r9 c.apply_round-s10.ensures in
    let r11 = rounds-next t 11 w start c.apply_round-s10.result c.apply_round-s11.result r10 c.apply_round-s11.ensures in
    let r12 = rounds-next t 12 w start c.apply_round-s11.result c.apply_round-s12.result r11 c.apply_round-s12.ensures in
    let r13 = rounds-next t 13 w start c.apply_round-s12.result c.apply_round-s13.result r12 c.apply_round-s13.ensures in
    let r14 = rounds-next t 14 w start c.apply_round-s13.result c.apply_round-s14.result r13 c.apply_round-s14.ensures in
    rounds-next t 15 w start c.apply_round-s14.result c.apply_round.result r14 c.apply_round.ensures
