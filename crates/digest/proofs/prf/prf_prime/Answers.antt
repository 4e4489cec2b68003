use Rattle.std.proofs.Common.{◌≡◌, ◌*◌, [], map, length, take, replicate, sym, refl, ap, ◌∙◌, arith, rules}
use Rattle.digest.specs.Hmac.{joined, prf_prime, prf_block, prf_blocks}
use Rattle.digest.proofs.Keys.{prf_step, prf_end}
use Rattle.digest.proofs.prf.prf_prime.Goals as goal

pub loop-n-init : goal.loop-n-init
unfolding prf_block prf_blocks
loop-n-init c =
    let key = c.args.key.now in
    let seed = joined (map (λ x. x.now) c.args.seed.now) in
    let long : length c.next_block-last.result ≡ 32 = search rules in
    let step = prf_step key seed (replicate 208 0) c.put.new.out [] c.next_block-last.result 0 refl refl (c.next_block-last.ensures key c.new-keyed.ensures) long c.put.ensures.front in
    (search rules, long, step.0, step.1)

pub loop-n-preserved : goal.loop-n-preserved
loop-n-preserved c =
    let key = c.args.key.now in
    let seed = joined (map (λ x. x.now) c.args.seed.now) in
    let long : length c.next_block-block.result ≡ 32 = search rules in
    let step = prf_step key seed c.loop-n.out c.put-in-loop-n.new.out c.loop-n.last c.next_block-block.result c.loop-n.n c.loop-n.invariant.2 c.loop-n.invariant.3 (c.next_block-block.ensures key c.new-keyed.ensures) long c.put-in-loop-n.ensures.front in
    (search rules, long, step.0, step.1)

pub returns : goal.returns
unfolding prf_prime
returns c =
    let key = c.args.key.now in
    let seed = joined (map (λ x. x.now) c.args.seed.now) in
    let six : c.loop-n.n ≡ 6 = omega arith in
    let wide : length c.next_block-block-2.result ≡ 32 = search rules in
    let long : length c.put-2.new.out ≡ 208 = search rules in
    let sofar : take 192 c.loop-n.out ≡ prf_blocks key seed 6 = ap (λ i. take (32 * i) c.loop-n.out) (sym six) ∙ c.loop-n.invariant.2 ∙ ap (prf_blocks key seed) six in
    let was : c.loop-n.last ≡ prf_block key seed 6 = c.loop-n.invariant.3 ∙ ap (prf_block key seed) six in
    prf_end key seed c.loop-n.out c.put-2.new.out c.loop-n.last c.next_block-block-2.result c.loop-n.invariant.0 long sofar was (c.next_block-block-2.ensures key c.new-keyed.ensures) wide c.put-2.ensures.front
