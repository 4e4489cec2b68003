use Rattle.std.proofs.Common.{◌≡◌, ◌-◌, length, take, ap, ◌∙◌, arith, rules}
use Rattle.std.proofs.lemmas.List.{length-take-le}
use Rattle.digest.specs.Sha256.{word_bytes, sha256}
use Rattle.digest.proofs.Joining.{closes}
use Rattle.digest.proofs.state.Sha256.finish.Goals as goal

pub returns : goal.returns
unfolding sha256
returns c m was =
    let self = c.args.self in
    let at : self.filled - 0 ≡ self.filled = omega arith in
    let long : length self.buffer ≡ 64 = search rules in
    let left = take (self.filled - 0) self.buffer in
    let short : length left ≡ self.filled = ap (λ i. length (take i self.buffer)) at ∙ length-take-le self.filled self.buffer (omega arith) in
    c.bytes_of.ensures ∙ ap word_bytes (closes self m left c.close.new.state _ was (ap (λ i. take i self.buffer) at) short c.bits.ensures c.close.ensures)
