-- The steps of the loops over one block. Assumes nothing.
use Rattle.std.specs.Simd.{first_chunks}
use Rattle.std.proofs.Common.{◌≡◌, ℕ, zero, suc, ◌+◌, ◌-◌, ◌*◌, ◌^◌, ◌<◌, ◌≤◌, List, [], ◌∷◌, ◌++◌, length, get_or, take, drop, set, ap, ◌∙◌, add-one, arith, length-set}
use Rattle.std.proofs.lemmas.List.{take_more_set, get_or-take, get_or-drop}
use Rattle.digest.specs.Sha256.{block_words, word_at, schedule_word, extended, schedule, round, rounds, round_constants}

-- a byte of a word, where the block is cut into words
word_byte : (n t j : ℕ) (block : List ℕ) → t < n → j < 4 → get_or (get_or (first_chunks 4 n block) t []) j 0 ≡ get_or block (4 * t + j) 0
word_byte zero t j block h four = elim h [ ]
word_byte (suc n) zero j block h four = get_or-take 4 block j 0 four ∙ ap (λ i. get_or block i 0) (omega arith)
word_byte (suc n) (suc t) j block h four = word_byte n t j (drop 4 block) (omega arith) four ∙ get_or-drop 4 block (4 * t + j) 0 ∙ ap (λ i. get_or block i 0) (omega arith)

pub word_at-cut : (t : ℕ) (block word : List ℕ) → t < 16 → word ≡ get_or (first_chunks 4 16 block) t [] → get_or word 0 0 * 2 ^ 24 + get_or word 1 0 * 2 ^ 16 + get_or word 2 0 * 2 ^ 8 + get_or word 3 0 ≡ word_at block t
unfolding word_at
word_at-cut t block word h is =
    let b0 = word_byte 16 t 0 block h (omega arith) in
    let b1 = word_byte 16 t 1 block h (omega arith) in
    let b2 = word_byte 16 t 2 block h (omega arith) in
    let b3 = word_byte 16 t 3 block h (omega arith) in
    let first : get_or block (4 * t + 0) 0 ≡ get_or block (4 * t) 0 = ap (λ i. get_or block i 0) (omega arith) in
    cc

words_more : (t : ℕ) (b : List ℕ) → block_words (t + 1) b ≡ block_words t b ++ word_at b t ∷ []
unfolding block_words
words_more t b = rw add-one

pub words_step : (w b : List ℕ) (t v : ℕ) → t < length w → take t w ≡ block_words t b → v ≡ word_at b t → take (t + 1) (set w t v) ≡ block_words (t + 1) b
words_step w b t v h e is =
    let one = take_more_set w t v h in
    let more = words_more t b in
    cc

schedule-more : (t : ℕ) (b : List ℕ) → 16 ≤ t → schedule (t + 1 - 16) b ≡ extended (schedule (t - 16) b) t
unfolding schedule
schedule-more t b h =
    let e : t + 1 - 16 ≡ suc (t - 16) = omega arith in
    let f : 16 + (t - 16) ≡ t = omega arith in
    ap (λ n. schedule n b) e ∙ ap (extended (schedule (t - 16) b)) f

-- a word of the schedule reads only those before it
schedule_word-take : (w : List ℕ) (t : ℕ) → 16 ≤ t → schedule_word (take t w) t ≡ schedule_word w t
unfolding schedule_word
schedule_word-take w t h =
    let a = get_or-take t w (t - 2) 0 (omega arith) in
    let b = get_or-take t w (t - 7) 0 (omega arith) in
    let c = get_or-take t w (t - 15) 0 (omega arith) in
    let d = get_or-take t w (t - 16) 0 (omega arith) in
    cc

-- the first t words of w are those of the schedule
abbrev pub Scheduled : List ℕ → List ℕ → ℕ → Type 0
Scheduled w b t = (take t w ≡ schedule (t - 16) b) × (length w ≡ 64)

-- one word more
pub scheduled-more : (w b : List ℕ) (t v : ℕ) → 16 ≤ t → t < 64 → Scheduled w b t → v ≡ schedule_word w t → Scheduled (set w t v) b (t + 1)
unfolding extended
scheduled-more w b t v low high (e, long) is =
    let h : t < length w = omega arith in
    let one = take_more_set w t v h in
    let more = schedule-more t b low in
    let same = schedule_word-take w t low in
    (cc, simp length-set long)

pub rounds-more : (t : ℕ) (ws s : List ℕ) → rounds (t + 1) ws s ≡ round (rounds t ws s) (get_or round_constants t 0) (get_or ws t 0)
unfolding rounds
rounds-more t ws s = rw add-one

-- one round more
pub rounds-next : (t n : ℕ) (ws start s r : List ℕ) → s ≡ rounds (t + n) ws start → r ≡ round s (get_or round_constants (t + n) 0) (get_or ws (t + n) 0) → r ≡ rounds (t + (n + 1)) ws start
rounds-next t n ws start s r was is =
    let more = rounds-more (t + n) ws start in
    let at : t + n + 1 ≡ t + (n + 1) = omega arith in
    cc
