-- The recorded card: the first row with this RAND and AUTN; wrong if there is none; out if there are no rows. Assumes nothing.
use Rattle.std.specs.Prelude.{ℕ, Bool, ◌&&◌, List, [], ◌∷◌, Option}
use Rattle.std.specs.Str.{bytes_eq}
use Rattle.std.specs.List.{find}
use Rattle.std.specs.Option.{option_map, unwrap_or}
use Rattle.cards.specs.declared.kinds.CardOutcome.{CardOutcome}
use Rattle.cards.specs.declared.kinds.CardOutcome.TheVariants.{Out, Wrong}
use Rattle.cards.specs.declared.kinds.CardRow.{CardRow}
use Rattle.cards.specs.declared.kinds.RecordedCard.{RecordedCard}
use Rattle.cards.specs.Card.{CardDefinition}

abbrev pub is_for : CardRow → List ℕ → List ℕ → Bool
is_for r rand autn = bytes_eq r.rand rand && bytes_eq r.autn autn

-- wrong if no row is for the challenge
abbrev pub said_by : Option CardRow → CardOutcome
said_by found = unwrap_or (option_map (λ r. r.outcome) found) Wrong

abbrev pub first_for : List CardRow → List ℕ → List ℕ → CardOutcome
first_for rows rand autn = said_by (find (λ r. is_for r rand autn) rows)

-- out if there are no rows
abbrev pub recorded : List CardRow → List ℕ → List ℕ → CardOutcome
recorded [] rand autn = Out
recorded (r ∷ rs) rand autn = first_for (r ∷ rs) rand autn

abbrev pub recorded_definition : CardDefinition
recorded_definition = record { Stage = List CardRow; answers = λ rows rand autn. record { outcome = recorded rows rand autn; next = rows } }

abbrev pub recorded_holding : RecordedCard → List CardRow
recorded_holding c = c.rows.now
