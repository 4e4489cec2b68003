-- The key's blocks of an HMAC, and the blocks of PRF'. Assumes nothing.
use Rattle.std.proofs.Common.{◌≡◌, ℕ, ◌+◌, ◌*◌, ◌<◌, Bool, cond, ltb, List, [], ◌∷◌, ◌++◌, map, length, get_or, take, drop, replicate, sym, ap, ◌∙◌, append_assoc, zero-add, add-one, arith}
use lib.Seq.{take-append-add}
use Rattle.std.proofs.lemmas.List.{drop-replicate, length-take-le, take_all, map_more, append-nil}
use Rattle.digest.specs.Hmac.{zero_filled, block_key, joined, hmac, prf_block, prf_blocks}
use Rattle.digest.specs.Sha256.{sha256}

-- zeros after a key that was put into a block of zeros
pub filled_is : (key block : List ℕ) → block ≡ take 0 (replicate 64 0) ++ (key ++ drop (0 + length key) (replicate 64 0)) → block ≡ zero_filled key
unfolding zero_filled
filled_is key block is =
    let rest = ap (λ i. drop i (replicate {A = ℕ} 64 0)) (zero-add (length key)) ∙ drop-replicate {X = ℕ} (length key) 64 0 in
    is ∙ ap (λ l. key ++ l) rest

-- the key's block, by whether the key is longer than a block
pub block_key-is : (key : List ℕ) (b : Bool) → b ≡ ltb 64 (length key) → zero_filled (cond b (sha256 key) key) ≡ block_key key
unfolding block_key
block_key-is key b is = ap (λ (t : Bool). zero_filled (cond t (sha256 key) key)) is

-- one part more
pub joined-more : (ps : List (List ℕ)) (p : List ℕ) → joined (ps ++ p ∷ []) ≡ joined ps ++ p
joined-more [] p = append-nil p
joined-more (q ∷ ps) p = ap (λ l. q ++ l) (joined-more ps p) ∙ sym (append_assoc q (joined ps) p)

-- the parts before place i + 1 are those before i and the one there
pub joined_step : {X : Type 0} (f : X → List ℕ) (xs : List X) (i : ℕ) (d : X) → i < length xs → joined (map f (take (i + 1) xs)) ≡ joined (map f (take i xs)) ++ f (get_or xs i d)
joined_step f xs i d h = ap joined (map_more f xs i d h) ∙ joined-more (map f (take i xs)) (f (get_or xs i d))

module _ (k s : List ℕ) where
  block_more : (n : ℕ) → prf_block k s (n + 1) ≡ hmac k (prf_block k s n ++ s ++ (n + 1) ∷ [])
  unfolding prf_block
  block_more n = rw add-one

  blocks_more : (n : ℕ) → prf_blocks k s (n + 1) ≡ prf_blocks k s n ++ prf_block k s (n + 1)
  unfolding prf_blocks
  blocks_more n = rw add-one

  pub prf_step : (out out2 last block : List ℕ) (n : ℕ) → take (32 * n) out ≡ prf_blocks k s n → last ≡ prf_block k s n
      → block ≡ hmac k (last ++ s ++ (n + 1) ∷ []) → length block ≡ 32 → take (32 * n + length block) out2 ≡ take (32 * n) out ++ block
      → (take (32 * (n + 1)) out2 ≡ prf_blocks k s (n + 1)) × (block ≡ prf_block k s (n + 1))
  prf_step out out2 last block n sofar was is long put =
      let one = block_more n in
      let more = blocks_more n in
      let at : 32 * n + length block ≡ 32 * (n + 1) = omega arith in
      let here : block ≡ prf_block k s (n + 1) = cc in
      (cc, here)

  pub prf_end : (out out2 last block : List ℕ) → length out ≡ 208 → length out2 ≡ 208 → take 192 out ≡ prf_blocks k s 6 → last ≡ prf_block k s 6
      → block ≡ hmac k (last ++ s ++ 7 ∷ []) → length block ≡ 32 → take (192 + length (take 16 block)) out2 ≡ take 192 out ++ take 16 block
      → out2 ≡ take 208 (prf_blocks k s 7)
  prf_end out out2 last block long long2 sofar was is wide put =
      let one = block_more 6 in
      let more = blocks_more 6 in
      let here : block ≡ prf_block k s 7 = cc in
      let front : length (take 192 out) ≡ 192 = length-take-le 192 out (omega arith) in
      let six : length (prf_blocks k s 6) ≡ 192 = ap length (sym sofar) ∙ front in
      let part : length (take 16 block) ≡ 16 = length-take-le 16 block (omega arith) in
      let at : length (prf_blocks k s 6) + 16 ≡ 208 = omega arith in
      let cut : take 208 (prf_blocks k s 7) ≡ prf_blocks k s 6 ++ take 16 (prf_block k s 7) = ap (λ i. take i (prf_blocks k s 7)) (sym at) ∙ ap (take (length (prf_blocks k s 6) + 16)) more ∙ take-append-add (prf_blocks k s 6) (prf_block k s 7) 16 in
      let all : take 208 out2 ≡ out2 = take_all 208 out2 (omega arith) in
      let end : 192 + length (take 16 block) ≡ 208 = omega arith in
      let put2 : take 208 out2 ≡ take 192 out ++ take 16 block = ap (λ i. take i out2) (sym end) ∙ put in
      let both : take 192 out ++ take 16 block ≡ prf_blocks k s 6 ++ take 16 (prf_block k s 7) = ap (λ l. l ++ take 16 block) sofar ∙ ap (λ l. prf_blocks k s 6 ++ take 16 l) here in
      sym all ∙ put2 ∙ both ∙ sym cut
