use Rattle.std.proofs.Common.{◌≡◌, ◌*◌, map, length, take}
use Rattle.digest.specs.Hmac.{joined, prf_block, prf_blocks}
use Rattle.digest.proofs.prf.prf_prime.Given as goal

abbrev pub invariant-loop-n : goal.invariant-loop-n
invariant-loop-n l =
    (length l.out ≡ 208) × (length l.last ≡ 32) × (take (32 * l.n) l.out ≡ prf_blocks l.key (joined (map (λ x. x.now) l.seed)) l.n) × (l.last ≡ prf_block l.key (joined (map (λ x. x.now) l.seed)) l.n)
