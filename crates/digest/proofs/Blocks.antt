-- Laws of hashing whole blocks. Assumes nothing.
use Rattle.std.specs.Simd.{first_chunks}
use Rattle.std.proofs.Common.{◌≡◌, ℕ, zero, suc, ◌+◌, ◌*◌, ◌/◌, ◌<◌, ◌≤◌, List, [], ◌∷◌, ◌++◌, length, take, drop, refl, ap, suc-add, zero-add, arith}
use Rattle.std.proofs.lemmas.List.{length-drop, take-append-le, drop-append-le, nil_from_length}
use Rattle.digest.specs.Sha256.{compress, hash_blocks}

-- fewer bytes than a block
pub hash_blocks-end : (bytes s : List ℕ) → length bytes < 64 → hash_blocks (length bytes / 64) bytes s ≡ s
unfolding hash_blocks
hash_blocks-end bytes s h =
    let e : length bytes / 64 ≡ 0 = omega arith in
    ap (λ n. hash_blocks n bytes s) e

-- blocks of a list in two parts, of which the first has n whole blocks
pub hash_blocks-append : (n k : ℕ) (a b s : List ℕ) → length a ≡ 64 * n → hash_blocks (n + k) (a ++ b) s ≡ hash_blocks k b (hash_blocks n a s)
unfolding hash_blocks
hash_blocks-append zero k a b s h =
    let none : a ≡ [] = nil_from_length a (omega arith) in
    rw (none, zero-add k)
hash_blocks-append (suc n) k a b s h =
    let long : 64 ≤ length a = omega arith in
    let rest : length (drop 64 a) ≡ 64 * n = simp length-drop (omega arith) in
    let one : hash_blocks (suc n + k) (a ++ b) s ≡ hash_blocks (n + k) (drop 64 (a ++ b)) (compress s (take 64 (a ++ b))) = ap (λ m. hash_blocks m (a ++ b) s) (suc-add n k) in
    let front = take-append-le 64 a b long in
    let back = drop-append-le 64 a b long in
    let more = hash_blocks-append n k (drop 64 a) b (compress s (take 64 a)) rest in
    cc

-- the hash value after blocks that are given one by one
abbrev pub after_blocks : List (List ℕ) → List ℕ → List ℕ
after_blocks [] s = s
after_blocks (b ∷ bs) s = after_blocks bs (compress s b)

-- blocks cut from a list
pub after_blocks-cut : (n : ℕ) (bytes s : List ℕ) → after_blocks (first_chunks 64 n bytes) s ≡ hash_blocks n bytes s
unfolding hash_blocks
after_blocks-cut zero bytes s = refl
after_blocks-cut (suc n) bytes s = after_blocks-cut n (drop 64 bytes) (compress s (take 64 bytes))
