use Rattle.std.specs.Simd.{first_chunks}
use Rattle.std.proofs.Common.{◌∙◌, [], ap, get_or, length, ◌/◌, rules, ◌≡◌, ◌<◌, refl, arith, length-set}
use Rattle.digest.specs.Sha256.{block_words, schedule}
use Rattle.digest.proofs.Rounds.{word_at-cut, words_step, scheduled-more}
use Rattle.digest.proofs.block.message_schedule.Goals as goal

pub loop-t-init : goal.loop-t-init
unfolding block_words
loop-t-init c = (refl, refl)

pub loop-t-preserved : goal.loop-t-preserved
loop-t-preserved c =
    let block = c.args.block.now in
    let long : length block ≡ 64 = search rules in
    let sixteen : length block / 4 ≡ 16 = omega arith in
    let cut : c.as_chunks.result.0.now ≡ first_chunks 4 16 block = c.as_chunks.ensures.front ∙ ap (λ n. first_chunks 4 n block) sixteen in
    let short : c.loop-t.t < 16 = omega (arith, c.loop-t-test.true, c.as_chunks.ensures.front_len) in
    let is = c.from_be_bytes.ensures ∙ word_at-cut c.loop-t.t block (get_or c.as_chunks.result.0.now c.loop-t.t []) short (ap (λ l. get_or l c.loop-t.t []) cut) in
    (words_step c.loop-t.w block c.loop-t.t c.from_be_bytes.result (omega (arith, short, c.loop-t.invariant.1)) c.loop-t.invariant.0 is, simp length-set c.loop-t.invariant.1)

pub loop-t-2-init : goal.loop-t-2-init
unfolding schedule
loop-t-2-init c = let e : c.loop-t.t ≡ 16 = omega (arith, c.as_chunks.ensures.front_len) in (cc, c.loop-t.invariant.1)

pub loop-t-2-preserved : goal.loop-t-2-preserved
loop-t-2-preserved c = scheduled-more c.loop-t-2.w c.args.block.now c.loop-t-2.t c.schedule_word.result (omega (arith, c.loop-t-2.auto)) (omega (arith, c.loop-t-2-test.true)) c.loop-t-2.invariant c.schedule_word.ensures
