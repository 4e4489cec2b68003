-- The last block or two of a message, and the bytes of the digest. Assumes nothing.
use Rattle.std.proofs.Common.{◌≡◌, ℕ, suc, ◌+◌, ◌-◌, ◌*◌, ◌<◌, ◌≤◌, List, [], ◌∷◌, ◌++◌, length, get_or, take, drop, replicate, refl, ap, ◌∙◌, append_assoc, zero-add, arith}
use lib.Seq.{take-append-add, drop-append-add}
use Rattle.std.proofs.lemmas.List.{take_at, drop-replicate, take-replicate, take_more}
use Rattle.digest.specs.Sha256.{word_bytes}

abbrev zeros : ℕ → List ℕ
zeros n = replicate n 0

module _ (left eight t1 t2 t3 : List ℕ) (end : ℕ) where
  -- what the three writes leave, up to the end
  pub tail_is : length left < 64 → length eight ≡ 8 → length left + 9 ≤ end → end ≤ 128
      → t1 ≡ take 0 (zeros 128) ++ (left ++ drop (0 + length left) (zeros 128))
      → t2 ≡ take (length left) t1 ++ ((0x80 ∷ []) ++ drop (length left + 1) t1)
      → take (end - 8 + length eight) t3 ≡ take (end - 8) t2 ++ eight
      → take end t3 ≡ left ++ 0x80 ∷ (zeros (end - 9 - length left) ++ eight)
  tail_is short long low high e1 e2 e3 =
      let n = length left in
      let k = end - 9 - n in
      let z1 : drop (0 + n) (zeros 128) ≡ zeros (128 - n) = ap (λ i. drop i (zeros 128)) (zero-add n) ∙ drop-replicate n 128 0 in
      let f1 : t1 ≡ left ++ zeros (128 - n) = e1 ∙ ap (λ l. left ++ l) z1 in
      let front : take n t1 ≡ left = ap (take n) f1 ∙ take_at left (zeros (128 - n)) n refl in
      let back : drop (n + 1) t1 ≡ zeros (128 - n - 1) = ap (drop (n + 1)) f1 ∙ drop-append-add left (zeros (128 - n)) 1 ∙ drop-replicate 1 (128 - n) 0 in
      let f2 : t2 ≡ left ++ 0x80 ∷ zeros (128 - n - 1) = cc in
      let at : end - 8 ≡ n + suc k = omega arith in
      let cut : take (end - 8) t2 ≡ left ++ 0x80 ∷ take k (zeros (128 - n - 1)) = ap (λ i. take i t2) at ∙ ap (take (n + suc k)) f2 ∙ take-append-add left (0x80 ∷ zeros (128 - n - 1)) (suc k) in
      let few : take k (zeros (128 - n - 1)) ≡ zeros k = take-replicate k (128 - n - 1) 0 (omega arith) in
      let all : end - 8 + length eight ≡ end = omega arith in
      let cut2 : take (end - 8) t2 ≡ left ++ 0x80 ∷ zeros k = cc in
      let whole : take end t3 ≡ (left ++ 0x80 ∷ zeros k) ++ eight = cc in
      whole ∙ append_assoc left (0x80 ∷ zeros k) eight

word_bytes-append : (a b : List ℕ) → word_bytes (a ++ b) ≡ word_bytes a ++ word_bytes b
unfolding word_bytes
word_bytes-append [] b = refl
word_bytes-append (x ∷ a) b = let more = word_bytes-append a b in cc

pub word_bytes-more : (ws out out2 four : List ℕ) (i : ℕ) → i < length ws → take (4 * i) out ≡ word_bytes (take i ws)
    → four ≡ word_bytes (get_or ws i 0 ∷ []) → length four ≡ 4 → take (4 * i + length four) out2 ≡ take (4 * i) out ++ four → take (4 * (i + 1)) out2 ≡ word_bytes (take (i + 1) ws)
word_bytes-more ws out out2 four i h was is long put =
    let one = take_more ws i 0 h in
    let join = word_bytes-append (take i ws) (get_or ws i 0 ∷ []) in
    let at : 4 * i + length four ≡ 4 * (i + 1) = omega arith in
    cc
