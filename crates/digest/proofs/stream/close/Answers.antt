use Rattle.std.proofs.Common.{◌≡◌, ◌+◌, ◌-◌, ◌%◌, ◌≤◌, length, ap, arith}
use Rattle.digest.specs.Sha256.{length_field}
use Rattle.digest.proofs.Tail.{tail_is}
use Rattle.digest.proofs.stream.close.Goals as goal

pub returns : goal.returns
unfolding length_field
returns c t is =
    let n = length c.args.left.now in
    let end = c.padded_len-end.result in
    let low : n + 9 ≤ end = omega (arith, c.padded_len-end.ensures) in
    let high : end ≤ 128 = omega (arith, c.padded_len-end.ensures) in
    let zeros : end - 9 - n ≡ (119 - n) % 64 = omega (arith, c.padded_len-end.ensures) in
    let eight : length c.to_be_bytes.result ≡ 8 = ap length c.to_be_bytes.ensures in
    let tail = tail_is c.args.left.now c.to_be_bytes.result c.put.new.out c.put_end_mark.new.out c.put-2.new.out end c.requires eight low high c.put.ensures.after c.put_end_mark.ensures c.put-2.ensures.front in
    let none : end - 0 ≡ end = omega arith in
    cc
