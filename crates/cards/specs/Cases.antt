-- The worked case of the test card: a card whose key and sequence number are zero is asked the same challenge twice.
-- Assumes nothing.
use Rattle.std.specs.Prelude.{ℕ, List, [], ◌∷◌, replicate}
use Rattle.cards.specs.declared.kinds.CardOutcome.TheVariants.{Stale, Good}
use Rattle.cards.specs.Card.{Answered}
use Rattle.cards.specs.TestCards.{TestHolding, test_answers}

-- what a card says the second time, and holds then
abbrev pub asked_again : TestHolding → (rand autn : List ℕ) → Answered TestHolding
asked_again h rand autn = test_answers (test_answers h rand autn).next rand autn

abbrev pub zero_card : TestHolding
zero_card = record { key = replicate 16 0; sequence = replicate 6 0 }

abbrev pub case_rand : List ℕ
case_rand = 0x00 ∷ 0x01 ∷ 0x02 ∷ 0x03 ∷ 0x04 ∷ 0x05 ∷ 0x06 ∷ 0x07 ∷ 0x08 ∷ 0x09 ∷ 0x0A ∷ 0x0B ∷ 0x0C ∷ 0x0D ∷ 0x0E ∷ 0x0F ∷ []

-- AK is 03 04 05 06 07 08, so the sequence number is 1; the AMF is 80 00
abbrev pub case_autn : List ℕ
case_autn = 0x03 ∷ 0x04 ∷ 0x05 ∷ 0x06 ∷ 0x07 ∷ 0x09 ∷ 0x80 ∷ 0x00 ∷ 0x00 ∷ 0x01 ∷ 0x02 ∷ 0x03 ∷ 0x04 ∷ 0x04 ∷ 0x86 ∷ 0x07 ∷ []

-- the first time
abbrev pub good_answer : Answered TestHolding
good_answer = record {
  outcome = Good
      (0x00 ∷ 0x01 ∷ 0x02 ∷ 0x03 ∷ 0x04 ∷ 0x05 ∷ 0x06 ∷ 0x07 ∷ 0x08 ∷ 0x09 ∷ 0x0A ∷ 0x0B ∷ 0x0C ∷ 0x0D ∷ 0x0E ∷ 0x0F ∷ [])
      (0x01 ∷ 0x02 ∷ 0x03 ∷ 0x04 ∷ 0x05 ∷ 0x06 ∷ 0x07 ∷ 0x08 ∷ 0x09 ∷ 0x0A ∷ 0x0B ∷ 0x0C ∷ 0x0D ∷ 0x0E ∷ 0x0F ∷ 0x00 ∷ [])
      (0x02 ∷ 0x03 ∷ 0x04 ∷ 0x05 ∷ 0x06 ∷ 0x07 ∷ 0x08 ∷ 0x09 ∷ 0x0A ∷ 0x0B ∷ 0x0C ∷ 0x0D ∷ 0x0E ∷ 0x0F ∷ 0x00 ∷ 0x01 ∷ []);
  next = record { key = replicate 16 0; sequence = 0 ∷ 0 ∷ 0 ∷ 0 ∷ 0 ∷ 1 ∷ [] };
}

-- the second time
abbrev pub stale_answer : Answered TestHolding
stale_answer = record {
  outcome = Stale (0x03 ∷ 0x04 ∷ 0x05 ∷ 0x06 ∷ 0x07 ∷ 0x09 ∷ 0x00 ∷ 0x01 ∷ 0x02 ∷ 0x03 ∷ 0x04 ∷ 0x04 ∷ 0x06 ∷ 0x07 ∷ []);
  next = record { key = replicate 16 0; sequence = 0 ∷ 0 ∷ 0 ∷ 0 ∷ 0 ∷ 1 ∷ [] };
}
