use Rattle.std.proofs.Common.{◌≡◌, ◌+◌, ◌/◌, [], ◌++◌, length, take, sym, refl, ap, ◌∙◌, append_assoc, arith, length-append, rules}
use Rattle.digest.specs.Sha256.{hash_blocks}
use Rattle.std.proofs.lemmas.List.{length-take-le, take_all}
use Rattle.digest.proofs.Joining.{absorbs, few, hash_blocks-two, rest-two}
use Rattle.digest.proofs.state.Sha256.update.Goals as goal

pub returns-then-filled-eq0 : goal.returns-then-filled-eq0
returns-then-filled-eq0 c m was =
    let self = c.args.self.now in
    let none : take self.filled self.buffer ≡ [] = ap (λ i. take i self.buffer) c.if-filled-eq0.true in
    absorbs self c.absorb.new.self m c.args.input.now c.args.input.now was (cc) c.absorb.ensures.state c.absorb.ensures.filled c.absorb.ensures.rest (c.absorb.ensures.total ∙ c.count-self.ensures)

pub returns-then-input-filled : goal.returns-then-input-filled
returns-then-input-filled c m was =
    let self = c.args.self.now in
    let input = c.args.input.now in
    let kept = take self.filled self.buffer in
    let long : length self.buffer ≡ 64 = search rules in
    let front : length kept ≡ self.filled = length-take-le self.filled self.buffer (omega arith) in
    let both = length-append kept input in
    let alone = few (kept ++ input) self.state (omega arith) in
    let at : self.filled + length input ≡ length (kept ++ input) = omega arith in
    absorbs self _ m input (kept ++ input) was refl alone.0 (at ∙ alone.1) (c.put.ensures.front ∙ alone.2) c.count-self.ensures

pub returns-else-input-filled : goal.returns-else-input-filled
returns-else-input-filled c m was =
    let self = c.args.self.now in
    let input = c.args.input.now in
    let kept = take self.filled self.buffer in
    let head = c.split_at.result.0.now in
    let rest = c.split_at.result.1.now in
    let block = c.put-else-input-filled.new.out in
    let long : length block ≡ 64 = search rules in
    let at : self.filled + length head ≡ 64 = omega (arith, c.split_at.ensures.front_len) in
    let all : take 64 block ≡ block = take_all 64 block (omega arith) in
    let front : take (self.filled + length head) block ≡ kept ++ head = c.put-else-input-filled.ensures.front in
    let whole : block ≡ kept ++ head = sym all ∙ ap (λ i. take i block) (sym at) ∙ front in
    let parts : input ≡ head ++ rest = c.split_at.ensures.by_index.0 in
    let is : block ++ rest ≡ kept ++ input = ap (λ l. l ++ rest) whole ∙ append_assoc kept head rest ∙ ap (λ l. kept ++ l) (sym parts) in
    let one : length block / 64 ≡ 1 = omega arith in
    let two = hash_blocks-two 1 block rest self.state long in
    let first : c.compress_all.new.state ≡ hash_blocks (length block / 64) block self.state = c.compress_all.ensures in
    let then : c.absorb-else-input-filled.new.self.state ≡ hash_blocks (length rest / 64) rest c.compress_all.new.state = c.absorb-else-input-filled.ensures.state in
    let sum = length-append block rest in
    absorbs self c.absorb-else-input-filled.new.self m input (block ++ rest) was is (cc) (omega (arith, c.absorb-else-input-filled.ensures.filled)) (c.absorb-else-input-filled.ensures.rest ∙ sym (rest-two 1 block rest long)) (c.absorb-else-input-filled.ensures.total ∙ c.count-self.ensures)
