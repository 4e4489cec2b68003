-- A message that comes in pieces. Assumes nothing.
use Rattle.std.proofs.Common.{◌≡◌, ℕ, ◌+◌, ◌-◌, ◌*◌, ◌/◌, ◌%◌, ◌^◌, ◌<◌, List, ◌∷◌, ◌++◌, length, take, drop, replicate, sym, ap, ◌∙◌, append_assoc, add-zero, arith}
use lib.Seq.{drop-append-add}
use Rattle.std.proofs.lemmas.List.{length-append, length-take-le, take-append-drop}
use Rattle.digest.specs.Absorbed.{Absorbed}
use Rattle.digest.specs.Sha256.{hash_blocks, initial_hash_value, length_field, padding, pad, hash_value}
use Rattle.digest.specs.declared.state.Sha256.{Sha256}
use Rattle.digest.proofs.Blocks.{hash_blocks-append, hash_blocks-end}

-- the whole blocks of a list, taken alone
pub hash_blocks-front : (m s : List ℕ) → hash_blocks (length m / 64) m s ≡ hash_blocks (length m / 64) (take (64 * (length m / 64)) m) s
unfolding hash_blocks
hash_blocks-front m s =
    let n = length m / 64 in
    let front = take (64 * n) m in
    let back = drop (64 * n) m in
    let long : length front ≡ 64 * n = length-take-le (64 * n) m (omega arith) in
    let parts : front ++ back ≡ m = take-append-drop (64 * n) m in
    let more : hash_blocks (n + 0) (front ++ back) s ≡ hash_blocks n front s = hash_blocks-append n 0 front back s long in
    let zero_more : n + 0 ≡ n = add-zero n in
    cc

-- what is hash_blocks of a list in two parts, of which the first has n whole blocks
pub hash_blocks-two : (n : ℕ) (a b s : List ℕ) → length a ≡ 64 * n → hash_blocks (length (a ++ b) / 64) (a ++ b) s ≡ hash_blocks (length b / 64) b (hash_blocks n a s)
hash_blocks-two n a b s long =
    let both = length-append a b in
    let e : length (a ++ b) / 64 ≡ n + length b / 64 = omega arith in
    ap (λ i. hash_blocks i (a ++ b) s) e ∙ hash_blocks-append n (length b / 64) a b s long

pub rest-two : (n : ℕ) (a b : List ℕ) → length a ≡ 64 * n → drop (64 * (length (a ++ b) / 64)) (a ++ b) ≡ drop (64 * (length b / 64)) b
rest-two n a b long =
    let both = length-append a b in
    let e : 64 * (length (a ++ b) / 64) ≡ length a + 64 * (length b / 64) = omega arith in
    ap (λ i. drop i (a ++ b)) e ∙ drop-append-add a b (64 * (length b / 64))

-- one step: x is what was left over and the new bytes
pub absorbs : (h h2 : Sha256) (m d x : List ℕ) → Absorbed h m → x ≡ take h.filled h.buffer ++ d
    → h2.state ≡ hash_blocks (length x / 64) x h.state → h2.filled ≡ length x % 64 → take h2.filled h2.buffer ≡ drop (64 * (length x / 64)) x
    → h2.total ≡ (h.total + length d) % 2 ^ 64 → Absorbed h2 (m ++ d)
absorbs h h2 m d x was is state filled rest total =
    let n = length m / 64 in
    let front = take (64 * n) m in
    let back = drop (64 * n) m in
    let long : length front ≡ 64 * n = length-take-le (64 * n) m (omega arith) in
    let parts : front ++ back ≡ m = take-append-drop (64 * n) m in
    let left : x ≡ back ++ d = is ∙ ap (λ l. l ++ d) was.rest_is in
    let whole : m ++ d ≡ front ++ x = ap (λ l. l ++ d) (sym parts) ∙ append_assoc front back d ∙ ap (λ l. front ++ l) (sym left) in
    let two = hash_blocks-two n front x initial_hash_value long in
    let rests = rest-two n front x long in
    let hf = hash_blocks-front m initial_hash_value in
    let st = was.state_is in
    let lx = length-append front x in
    let lm = length-append m d in
    let lw = ap length whole in
    record {
      state_is = cc;
      filled_is = omega arith;
      rest_is = cc;
      counted = omega (arith, was.counted);
    }

-- bytes that do not fill a block are only kept
pub few : (x s : List ℕ) → length x < 64 → (s ≡ hash_blocks (length x / 64) x s) × (length x ≡ length x % 64) × (x ≡ drop (64 * (length x / 64)) x)
few x s h =
    let none : 64 * (length x / 64) ≡ 0 = omega arith in
    (sym (hash_blocks-end x s h), omega arith, sym (ap (λ i. drop i x) none))

byte56 : (y : ℕ) → y % 2 ^ 64 / 2 ^ 56 % 256 ≡ y / 2 ^ 56 % 256
byte56 y = omega arith

byte48 : (y : ℕ) → y % 2 ^ 64 / 2 ^ 48 % 256 ≡ y / 2 ^ 48 % 256
byte48 y = omega arith

byte40 : (y : ℕ) → y % 2 ^ 64 / 2 ^ 40 % 256 ≡ y / 2 ^ 40 % 256
byte40 y = omega arith

byte32 : (y : ℕ) → y % 2 ^ 64 / 2 ^ 32 % 256 ≡ y / 2 ^ 32 % 256
byte32 y = omega arith

byte24 : (y : ℕ) → y % 2 ^ 64 / 2 ^ 24 % 256 ≡ y / 2 ^ 24 % 256
byte24 y = omega arith

byte16 : (y : ℕ) → y % 2 ^ 64 / 2 ^ 16 % 256 ≡ y / 2 ^ 16 % 256
byte16 y = omega arith

byte8 : (y : ℕ) → y % 2 ^ 64 / 2 ^ 8 % 256 ≡ y / 2 ^ 8 % 256
byte8 y = omega arith

byte0 : (y : ℕ) → y % 2 ^ 64 % 256 ≡ y % 256
byte0 y = omega arith

eight_low : (y : ℕ) → length_field (y % 2 ^ 64) ≡ length_field y
unfolding length_field
eight_low y = cc (byte56 y, byte48 y, byte40 y, byte32 y, byte24 y, byte16 y, byte8 y, byte0 y)

times_mod : (x : ℕ) → x % 2 ^ 64 * 8 % 2 ^ 64 ≡ 8 * x % 2 ^ 64
times_mod x = omega arith

-- the length field counts modulo 2 ^ 64 bits
eight_mod : (x : ℕ) → length_field (x % 2 ^ 64 * 8 % 2 ^ 64) ≡ length_field (8 * x)
eight_mod x = ap length_field (times_mod x) ∙ eight_low (8 * x)

-- the end of a message, hash_blocks after its whole blocks
pub closes : (h : Sha256) (m left s2 : List ℕ) (bits : ℕ) → Absorbed h m → left ≡ take h.filled h.buffer → length left ≡ h.filled → bits ≡ h.total * 8 % 2 ^ 64
    → ((t : List ℕ) → t ≡ left ++ 0x80 ∷ (replicate ((119 - length left) % 64) 0 ++ length_field bits) → s2 ≡ hash_blocks (length t / 64) t h.state) → s2 ≡ hash_value (pad m)
unfolding padding pad hash_value
closes h m left s2 bits was is short times then =
    let n = length m / 64 in
    let front = take (64 * n) m in
    let back = drop (64 * n) m in
    let long : length front ≡ 64 * n = length-take-le (64 * n) m (omega arith) in
    let parts : front ++ back ≡ m = take-append-drop (64 * n) m in
    let same : left ≡ back = is ∙ was.rest_is in
    let t = left ++ padding (length m) in
    let count : length left ≡ length m % 64 = short ∙ was.filled_is in
    let eight : length_field bits ≡ length_field (8 * length m) = ap length_field (times ∙ ap (λ i. i * 8 % 2 ^ 64) was.counted) ∙ eight_mod (length m) in
    let fits : t ≡ left ++ 0x80 ∷ (replicate ((119 - length left) % 64) 0 ++ length_field bits) = cc in
    let hashes = then t fits in
    let whole : pad m ≡ front ++ t = ap (λ l. l ++ padding (length m)) (sym parts) ∙ append_assoc front back (padding (length m)) ∙ ap (λ l. front ++ (l ++ padding (length m))) (sym same) in
    let two = hash_blocks-two n front t initial_hash_value long in
    let hf = hash_blocks-front m initial_hash_value in
    let st = was.state_is in
    cc
