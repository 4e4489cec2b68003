use Rattle.std.proofs.Common.{◌≡◌, ◌-◌, ◌++◌, length, drop, replicate, ap, ◌∙◌}
use Rattle.std.proofs.Math.Seq.{drop-append_seam}
use Rattle.std.proofs.lemmas.List.{drop-replicate}
use Rattle.keys.proofs.octets.Octets.new.Goals as goal

pub invariant_of-result-clause-rest : goal.invariant_of-result-clause-rest
invariant_of-result-clause-rest g c =
    let bytes = c.args.bytes.now in
    let back = c.split_at_mut-front.result.1.now in
    let copied = c.copy_from_slice.ensures.after in
    let zeros : back ≡ replicate (g.row.N - length bytes) 0 = c.split_at_mut-front.ensures.back ∙ drop-replicate (length bytes) g.row.N 0 in
    ap (λ l. drop (length bytes) (l ++ back)) copied ∙ drop-append_seam bytes back ∙ zeros
