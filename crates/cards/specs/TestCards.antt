-- The test card of TS 34.108, clause 8.1.2. Assumes nothing.
use Rattle.std.specs.Prelude.{ℕ, ◌+◌, ◌*◌, ◌^◌, Bool, cond, List, [], ◌∷◌, ◌++◌, take, drop, bit_xor, nat_lt, slice_index}
use Rattle.std.specs.Str.{bytes_eq}
use Rattle.cards.specs.declared.kinds.CardOutcome.TheVariants.{Wrong, Stale, Good}
use Rattle.cards.specs.declared.kinds.TestCard.{TestCard}
use Rattle.cards.specs.Card.{Answered, CardDefinition}

-- byte by byte, as long as both last
abbrev pub xored : List ℕ → List ℕ → List ℕ
xored [] bs = []
xored (a ∷ more) [] = []
xored (a ∷ more) (b ∷ bs) = bit_xor a b ∷ xored more bs

-- n bytes of a list from place p on
abbrev pub bytes_at : List ℕ → ℕ → ℕ → List ℕ
bytes_at l p n = take n (drop p l)

-- the number that the six bytes of a sequence number write
abbrev pub sequence_number : List ℕ → ℕ
sequence_number s = slice_index s 0 * 2 ^ 40 + slice_index s 1 * 2 ^ 32 + slice_index s 2 * 2 ^ 24 + slice_index s 3 * 2 ^ 16 + slice_index s 4 * 2 ^ 8 + slice_index s 5

abbrev pub rotated_left : ℕ → List ℕ → List ℕ
rotated_left n l = drop n l ++ take n l

pub record TestHolding : Type 0 where
  pub key : List ℕ
  pub sequence : List ℕ

-- AK, of X
abbrev pub anonymity_key : List ℕ → List ℕ
anonymity_key x = bytes_at x 3 6

-- the sequence number that AUTN conceals, of X
abbrev pub concealed_in : List ℕ → List ℕ → List ℕ
concealed_in x autn = xored (take 6 autn) (anonymity_key x)

-- the MAC of a sequence number and an AMF, of X
abbrev pub mac_of : List ℕ → List ℕ → List ℕ → List ℕ
mac_of x sequence amf = xored (take 8 x) (sequence ++ amf)

-- whether AUTN has the MAC of its sequence number and its AMF
abbrev pub is_genuine : List ℕ → List ℕ → List ℕ → Bool
is_genuine x sequence autn = bytes_eq (mac_of x sequence (bytes_at autn 6 2)) (bytes_at autn 8 8)

-- the card's own sequence number, concealed, and its MAC with AMF 0000
abbrev pub auts_of : List ℕ → List ℕ → List ℕ
auts_of x own = xored own (anonymity_key x) ++ mac_of x own (0 ∷ 0 ∷ [])

-- by whether the sequence number is above the card's own
abbrev pub by_sequence : Bool → TestHolding → List ℕ → List ℕ → Answered TestHolding
by_sequence b h x sequence =
    cond b
    (record { outcome = Good x (rotated_left 1 x) (rotated_left 2 x); next = record { key = h.key; sequence = sequence } })
    (record { outcome = Stale (auts_of x h.sequence); next = h })

-- by whether the MAC is right
abbrev pub by_mac : Bool → TestHolding → List ℕ → List ℕ → Answered TestHolding
by_mac b h x sequence =
    cond b
    (by_sequence (nat_lt (sequence_number h.sequence) (sequence_number sequence)) h x sequence)
    (record { outcome = Wrong; next = h })

-- of X = K xor RAND, and the sequence number that AUTN conceals
abbrev pub challenged : TestHolding → List ℕ → List ℕ → List ℕ → Answered TestHolding
challenged h x sequence autn = by_mac (is_genuine x sequence autn) h x sequence

abbrev pub test_answers : TestHolding → (rand autn : List ℕ) → Answered TestHolding
test_answers h rand autn =
    challenged h (xored h.key rand) (concealed_in (xored h.key rand) autn) autn

abbrev pub test_definition : CardDefinition
test_definition = record { Stage = TestHolding; answers = test_answers }

abbrev pub test_holding : TestCard → TestHolding
test_holding c = record { key = c.key; sequence = c.sequence }
