-- The keys of a log-on by EAP-AKA': RFC 5448, section 3.3, and TS 33.501, annex A.
-- Assumes nothing.
use Rattle.std.specs.Prelude.{ℕ, List, [], ◌∷◌, ◌++◌, take, drop, codes}
use Rattle.digest.specs.Hmac.{prf_prime}
use Rattle.keys.specs.Kdf.{kdf}

-- CK' || IK', of CK, IK, the serving network name and AUTN, whose first six bytes are the sequence number xor AK (A.3)
abbrev pub ck_ik_prime : List ℕ → List ℕ → List ℕ → List ℕ → List ℕ
ck_ik_prime ck ik snn autn = kdf (ck ++ ik) 0x20 (snn ∷ take 6 autn ∷ [])

abbrev pub ck_prime : List ℕ → List ℕ → List ℕ → List ℕ → List ℕ
ck_prime ck ik snn autn = take 16 (ck_ik_prime ck ik snn autn)

abbrev pub ik_prime : List ℕ → List ℕ → List ℕ → List ℕ → List ℕ
ik_prime ck ik snn autn = take 16 (drop 16 (ck_ik_prime ck ik snn autn))

-- MK, of CK', IK' and the identity
abbrev pub master_key : List ℕ → List ℕ → List ℕ → List ℕ
master_key ckp ikp identity = prf_prime (ikp ++ ckp) (codes "EAP-AKA'" ++ identity)

-- the keys that MK is cut into
abbrev pub k_encr_of : List ℕ → List ℕ
k_encr_of mk = take 16 mk

abbrev pub k_aut_of : List ℕ → List ℕ
k_aut_of mk = take 32 (drop 16 mk)

abbrev pub k_re_of : List ℕ → List ℕ
k_re_of mk = take 32 (drop 48 mk)

abbrev pub msk_of : List ℕ → List ℕ
msk_of mk = take 64 (drop 80 mk)

abbrev pub emsk_of : List ℕ → List ℕ
emsk_of mk = take 64 (drop 144 mk)

-- KAUSF, of EMSK
abbrev pub kausf_of : List ℕ → List ℕ
kausf_of emsk = take 32 emsk

-- KSEAF, of KAUSF and the serving network name (A.6)
abbrev pub kseaf_of : List ℕ → List ℕ → List ℕ
kseaf_of kausf snn = kdf kausf 0x6C (snn ∷ [])

-- KAMF, of KSEAF, the SUPI and the ABBA (A.7)
abbrev pub kamf_of : List ℕ → List ℕ → List ℕ → List ℕ
kamf_of kseaf supi abba = kdf kseaf 0x6D (supi ∷ abba ∷ [])
