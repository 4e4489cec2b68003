use Rattle.std.proofs.Common.{◌≡◌, length, refl, arith, rules}
use Rattle.digest.specs.Sha256.{word_bytes}
use Rattle.digest.proofs.Tail.{word_bytes-more}
use Rattle.digest.proofs.stream.bytes_of.Goals as goal

pub loop-i-init : goal.loop-i-init
unfolding word_bytes
loop-i-init c = (refl, refl)

pub loop-i-preserved : goal.loop-i-preserved
unfolding word_bytes
loop-i-preserved c =
    let four : length c.to_be_bytes.result ≡ 4 = search rules in
    (word_bytes-more c.args.words.now c.loop-i.out c.put.new.out c.to_be_bytes.result c.loop-i.i (omega arith) c.loop-i.invariant.0 c.to_be_bytes.ensures four c.put.ensures.front, search rules)
