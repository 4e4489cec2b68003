-- SHA-256 of a list of bytes, as FIPS 180-4 defines it. A word is a number below 2 ^ 32, and a hash value a list of eight words.
-- Past 2 ^ 64 bits, where the standard stops, the length field is taken modulo 2 ^ 64.
-- Assumes nothing.
use Rattle.std.specs.Prelude.{ℕ, zero, suc, ◌+◌, ◌-◌, ◌*◌, ◌/◌, ◌%◌, ◌^◌, List, [], ◌∷◌, ◌++◌, length, take, drop, replicate, bit_and, bit_or, bit_xor, slice_index}

-- addition modulo 2 ^ 32
unfoldable pub add : ℕ → ℕ → ℕ
add x y = (x + y) % 2 ^ 32

-- ROTR, the circular right shift by n
abbrev pub rotr : ℕ → ℕ → ℕ
rotr n x = bit_or (x / 2 ^ n) ((x * 2 ^ (32 - n)) % 2 ^ 32)

-- Ch and Maj
unfoldable pub ch : ℕ → ℕ → ℕ → ℕ
ch x y z = bit_xor (bit_and x y) (bit_and (2 ^ 32 - 1 - x) z)

unfoldable pub maj : ℕ → ℕ → ℕ → ℕ
maj x y z = bit_xor (bit_xor (bit_and x y) (bit_and x z)) (bit_and y z)

-- the functions that the standard writes as a capital and a small sigma, with 0 or 1; a division by 2 ^ n is SHR
abbrev pub big_sigma0 : ℕ → ℕ
big_sigma0 x = bit_xor (bit_xor (rotr 2 x) (rotr 13 x)) (rotr 22 x)

abbrev pub big_sigma1 : ℕ → ℕ
big_sigma1 x = bit_xor (bit_xor (rotr 6 x) (rotr 11 x)) (rotr 25 x)

abbrev pub small_sigma0 : ℕ → ℕ
small_sigma0 x = bit_xor (bit_xor (rotr 7 x) (rotr 18 x)) (x / 2 ^ 3)

abbrev pub small_sigma1 : ℕ → ℕ
small_sigma1 x = bit_xor (bit_xor (rotr 17 x) (rotr 19 x)) (x / 2 ^ 10)

-- the constants K 0 to K 63
unfoldable pub round_constants : List ℕ
round_constants = 0x428a_2f98 ∷ 0x7137_4491 ∷ 0xb5c0_fbcf ∷ 0xe9b5_dba5 ∷ 0x3956_c25b ∷ 0x59f1_11f1 ∷ 0x923f_82a4 ∷ 0xab1c_5ed5 ∷ 0xd807_aa98 ∷ 0x1283_5b01 ∷ 0x2431_85be ∷ 0x550c_7dc3 ∷ 0x72be_5d74 ∷ 0x80de_b1fe ∷ 0x9bdc_06a7 ∷ 0xc19b_f174 ∷ 0xe49b_69c1 ∷ 0xefbe_4786 ∷ 0x0fc1_9dc6 ∷ 0x240c_a1cc ∷ 0x2de9_2c6f ∷ 0x4a74_84aa ∷ 0x5cb0_a9dc ∷ 0x76f9_88da ∷ 0x983e_5152 ∷ 0xa831_c66d ∷ 0xb003_27c8 ∷ 0xbf59_7fc7 ∷ 0xc6e0_0bf3 ∷ 0xd5a7_9147 ∷ 0x06ca_6351 ∷ 0x1429_2967 ∷ 0x27b7_0a85 ∷ 0x2e1b_2138 ∷ 0x4d2c_6dfc ∷ 0x5338_0d13 ∷ 0x650a_7354 ∷ 0x766a_0abb ∷ 0x81c2_c92e ∷ 0x9272_2c85 ∷ 0xa2bf_e8a1 ∷ 0xa81a_664b ∷ 0xc24b_8b70 ∷ 0xc76c_51a3 ∷ 0xd192_e819 ∷ 0xd699_0624 ∷ 0xf40e_3585 ∷ 0x106a_a070 ∷ 0x19a4_c116 ∷ 0x1e37_6c08 ∷ 0x2748_774c ∷ 0x34b0_bcb5 ∷ 0x391c_0cb3 ∷ 0x4ed8_aa4a ∷ 0x5b9c_ca4f ∷ 0x682e_6ff3 ∷ 0x748f_82ee ∷ 0x78a5_636f ∷ 0x84c8_7814 ∷ 0x8cc7_0208 ∷ 0x90be_fffa ∷ 0xa450_6ceb ∷ 0xbef9_a3f7 ∷ 0xc671_78f2 ∷ []

-- H(0)
abbrev pub initial_hash_value : List ℕ
initial_hash_value = 0x6a09_e667 ∷ 0xbb67_ae85 ∷ 0x3c6e_f372 ∷ 0xa54f_f53a ∷ 0x510e_527f ∷ 0x9b05_688c ∷ 0x1f83_d9ab ∷ 0x5be0_cd19 ∷ []

-- the word that four bytes of a block make, the first byte highest
unfoldable pub word_at : List ℕ → ℕ → ℕ
word_at block t = slice_index block (4 * t) * 2 ^ 24 + slice_index block (4 * t + 1) * 2 ^ 16 + slice_index block (4 * t + 2) * 2 ^ 8 + slice_index block (4 * t + 3)

-- the first t words of a block
unfoldable pub block_words : ℕ → List ℕ → List ℕ
block_words zero block = []
block_words (suc t) block = block_words t block ++ word_at block t ∷ []

-- W t, from those before it
unfoldable pub schedule_word : List ℕ → ℕ → ℕ
schedule_word ws t = add (add (add (small_sigma1 (slice_index ws (t - 2))) (slice_index ws (t - 7))) (small_sigma0 (slice_index ws (t - 15)))) (slice_index ws (t - 16))

-- one word more
unfoldable pub extended : List ℕ → ℕ → List ℕ
extended ws t = ws ++ schedule_word ws t ∷ []

-- the message schedule's first 16 + n words: those of the block, and then W 16 and so on
unfoldable pub schedule : ℕ → List ℕ → List ℕ
schedule zero block = block_words 16 block
schedule (suc n) block = extended (schedule n block) (16 + n)

-- T1 and T2 of a round, of the working variables a, b, c, d, e, f, g, h
unfoldable pub temp1 : List ℕ → ℕ → ℕ → ℕ
temp1 s k w = add (add (add (add (slice_index s 7) (big_sigma1 (slice_index s 4))) (ch (slice_index s 4) (slice_index s 5) (slice_index s 6))) k) w

unfoldable pub temp2 : List ℕ → ℕ
temp2 s = add (big_sigma0 (slice_index s 0)) (maj (slice_index s 0) (slice_index s 1) (slice_index s 2))

-- one round, with its constant k and its word w: the next a, b, c, d, e, f, g, h
unfoldable pub round : List ℕ → ℕ → ℕ → List ℕ
round s k w =
    add (temp1 s k w) (temp2 s) ∷ slice_index s 0 ∷ slice_index s 1 ∷ slice_index s 2 ∷ add (slice_index s 3) (temp1 s k w) ∷ slice_index s 4 ∷ slice_index s 5 ∷ slice_index s 6 ∷ []

-- the first t rounds, over the schedule ws
unfoldable pub rounds : ℕ → List ℕ → List ℕ → List ℕ
rounds zero ws s = s
rounds (suc t) ws s = round (rounds t ws s) (slice_index round_constants t) (slice_index ws t)

-- two hash values, added word by word
unfoldable pub summed : List ℕ → List ℕ → List ℕ
summed s t =
    add (slice_index s 0) (slice_index t 0) ∷ add (slice_index s 1) (slice_index t 1) ∷ add (slice_index s 2) (slice_index t 2) ∷ add (slice_index s 3) (slice_index t 3) ∷ add (slice_index s 4) (slice_index t 4) ∷ add (slice_index s 5) (slice_index t 5) ∷ add (slice_index s 6) (slice_index t 6) ∷ add (slice_index s 7) (slice_index t 7) ∷ []

-- the hash value after one block of 64 bytes
unfoldable pub compress : List ℕ → List ℕ → List ℕ
compress s block = summed s (rounds 64 (schedule 48 block) s)

-- the hash value after the first n blocks of a list of bytes
unfoldable pub hash_blocks : ℕ → List ℕ → List ℕ → List ℕ
hash_blocks zero bytes s = s
hash_blocks (suc n) bytes s = hash_blocks n (drop 64 bytes) (compress s (take 64 bytes))

-- a number's eight lowest bytes, the highest first
unfoldable pub length_field : ℕ → List ℕ
length_field n =
    n / 2 ^ 56 % 256 ∷ n / 2 ^ 48 % 256 ∷ n / 2 ^ 40 % 256 ∷ n / 2 ^ 32 % 256 ∷ n / 2 ^ 24 % 256 ∷ n / 2 ^ 16 % 256 ∷ n / 2 ^ 8 % 256 ∷ n % 256 ∷ []

-- what stands after a message of n bytes, so that whole blocks come out: a one bit, zeros, and the length in bits
unfoldable pub padding : ℕ → List ℕ
padding n = 0x80 ∷ (replicate ((119 - n % 64) % 64) 0 ++ length_field (8 * n))

unfoldable pub pad : List ℕ → List ℕ
pad m = m ++ padding (length m)

-- the bytes of words, the highest of each first
unfoldable pub word_bytes : List ℕ → List ℕ
word_bytes [] = []
word_bytes (w ∷ ws) = w / 2 ^ 24 % 256 ∷ w / 2 ^ 16 % 256 ∷ w / 2 ^ 8 % 256 ∷ w % 256 ∷ word_bytes ws

-- the hash value after all blocks
unfoldable pub hash_value : List ℕ → List ℕ
hash_value bytes = hash_blocks (length bytes / 64) bytes initial_hash_value

unfoldable pub sha256 : List ℕ → List ℕ
sha256 m = word_bytes (hash_value (pad m))
