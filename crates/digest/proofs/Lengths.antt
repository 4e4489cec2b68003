-- How long a digest, an HMAC and the output of PRF' are. Assumes nothing.
use Rattle.std.proofs.Common.{◌≡◌, ℕ, zero, suc, ◌*◌, List, [], ◌∷◌, ◌++◌, length, take, drop, refl, ap, ◌∙◌, arith, length-append}
use Rattle.std.proofs.lemmas.List.{length-take-le}
use Rattle.digest.specs.Hmac.{key_xor, ipad, opad, hmac, prf_block, prf_blocks, prf_prime}
use Rattle.digest.specs.Sha256.{summed, compress, hash_blocks, word_bytes, pad, hash_value, sha256}

compress-length : (s block : List ℕ) → length (compress s block) ≡ 8
unfolding compress summed
compress-length s block = refl

hash_blocks-length : (n : ℕ) (bytes s : List ℕ) → length s ≡ 8 → length (hash_blocks n bytes s) ≡ 8
unfolding hash_blocks
hash_blocks-length zero bytes s h = h
hash_blocks-length (suc n) bytes s h = hash_blocks-length n (drop 64 bytes) (compress s (take 64 bytes)) (compress-length s (take 64 bytes))

word_bytes-length : (ws : List ℕ) → length (word_bytes ws) ≡ 4 * length ws
unfolding word_bytes
word_bytes-length [] = refl
word_bytes-length (w ∷ ws) = let more = word_bytes-length ws in omega arith

pub sha256-length : (m : List ℕ) → length (sha256 m) ≡ 32
unfolding sha256 hash_value
sha256-length m = word_bytes-length (hash_value (pad m)) ∙ ap (λ n. 4 * n) (hash_blocks-length _ (pad m) _ refl)

pub hmac-length : (k m : List ℕ) → length (hmac k m) ≡ 32
unfolding hmac
hmac-length k m = sha256-length (key_xor k opad ++ sha256 (key_xor k ipad ++ m))

prf_blocks-length : (k s : List ℕ) (n : ℕ) → length (prf_blocks k s n) ≡ 32 * n
unfolding prf_block prf_blocks
prf_blocks-length k s zero = refl
prf_blocks-length k s (suc n) =
    let both = length-append (prf_blocks k s n) (prf_block k s (suc n)) in
    let last = hmac-length k (prf_block k s n ++ s ++ suc n ∷ []) in
    let sofar = prf_blocks-length k s n in
    omega arith

pub prf_prime-length : (k s : List ℕ) → length (prf_prime k s) ≡ 208
unfolding prf_prime
prf_prime-length k s = let seven = prf_blocks-length k s 7 in length-take-le 208 (prf_blocks k s 7) (omega arith)
