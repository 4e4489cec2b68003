-- HMAC-SHA-256 (RFC 2104) and PRF' (RFC 5448, section 3.4), which is made of it.
-- Assumes nothing.
use Rattle.std.specs.Prelude.{ℕ, zero, suc, ◌-◌, cond, List, [], ◌∷◌, ◌++◌, map, length, take, replicate, bit_xor, nat_lt}
use Rattle.digest.specs.Sha256.{sha256}

-- bytes with zeros after them, up to the 64 bytes of a block
unfoldable pub zero_filled : List ℕ → List ℕ
zero_filled k = k ++ replicate (64 - length k) 0

-- the key as one block: one that is longer than a block is hashed first
unfoldable pub block_key : List ℕ → List ℕ
block_key key = zero_filled (cond (nat_lt 64 (length key)) (sha256 key) key)

-- the bytes that the inner and the outer pad repeat
abbrev pub ipad : ℕ
ipad = 0x36

abbrev pub opad : ℕ
opad = 0x5c

-- the key's block, each byte changed by the pad's
unfoldable pub key_xor : List ℕ → ℕ → List ℕ
key_xor key pad = map (λ b. bit_xor b pad) (block_key key)

unfoldable pub hmac : List ℕ → List ℕ → List ℕ
hmac key m = sha256 (key_xor key opad ++ sha256 (key_xor key ipad ++ m))

-- T n of PRF' over the seed s, from T 1 on; before it there is nothing
unfoldable pub prf_block : List ℕ → List ℕ → ℕ → List ℕ
prf_block key s zero = []
prf_block key s (suc n) = hmac key (prf_block key s n ++ s ++ suc n ∷ [])

-- T 1 to T n, one after another
unfoldable pub prf_blocks : List ℕ → List ℕ → ℕ → List ℕ
prf_blocks key s zero = []
prf_blocks key s (suc n) = prf_blocks key s n ++ prf_block key s (suc n)

-- the first 208 bytes, which lie in the first seven blocks
unfoldable pub prf_prime : List ℕ → List ℕ → List ℕ
prf_prime key s = take 208 (prf_blocks key s 7)

-- parts one after another
abbrev pub joined : List (List ℕ) → List ℕ
joined [] = []
joined (p ∷ ps) = p ++ joined ps
