-- What a subscriber's card means: what it says to a challenge, and what it holds then. Assumes nothing.
use Rattle.std.specs.Prelude.{ℕ, List}
use Rattle.cards.specs.declared.kinds.CardOutcome.{CardOutcome}

pub record Answered (S : Type 0) : Type 0 where
  pub outcome : CardOutcome
  pub next : S

-- a card's own written definition: from what it holds, RAND and AUTN
pub record CardDefinition : Type 1 where
  pub Stage : Type 0
  pub answers : Stage → (rand autn : List ℕ) → Answered Stage
