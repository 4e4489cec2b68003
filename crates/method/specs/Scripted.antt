-- The scripted method: the first row with the packet's identifier decides. Assumes nothing.
use Rattle.std.specs.Prelude.{ℕ, ◌+◌, cond, List, [], length, take, drop, Some, None, Option, nat_eq, nat_le, slice_index}
use Rattle.std.specs.Option.{option_map}
use Rattle.nas.specs.Replies.{response_packet}
use Rattle.std.specs.List.{find}
use Rattle.method.specs.declared.row.Outcome.{Outcome}
use Rattle.method.specs.declared.row.Outcome.TheVariants.{GoOn as SaysGoOn, Grant, Refuse}
use Rattle.method.specs.declared.row.Row.{Row}
use Rattle.method.specs.declared.row.ScriptedFault.{ScriptedFault}
use Rattle.method.specs.declared.row.ScriptedFault.TheVariants.{NoRow, OutsideStore}
use Rattle.method.specs.declared.weighing.Verdict.{Verdict}
use Rattle.method.specs.declared.weighing.Verdict.TheVariants.{GoOn, Granted, Unproven}
use Rattle.method.specs.Method.{Holding, Processed}
use Rattle.method.specs.Subscribers.{Subscriber}

-- its rows and its store of bytes
pub record Script : Type 0 where
  pub rows : List Row
  pub store : List ℕ

abbrev pub number_of : ScriptedFault → ℕ
number_of NoRow = 33
number_of OutsideStore = 34

abbrev pub scripted_type : ℕ
scripted_type = 253

-- the outcome of the first row with this identifier
abbrev pub first_row : List Row → ℕ → Option Outcome
first_row rows i = option_map (λ r. r.outcome) (find (λ r. nat_eq r.identifier i) rows)

-- a verdict and the block that it leaves
pub record Decision : Type 0 where
  pub verdict : Verdict ScriptedFault
  pub block : Option (List ℕ)

-- the 128 bytes of the store at this place, if they lie wholly inside
abbrev pub granted_from : List ℕ → ℕ → Decision
granted_from store at =
    cond (nat_le (at + 128) (length store))
    (record { verdict = Granted; block = Some (take 128 (drop at store)) })
    (record { verdict = Unproven OutsideStore; block = None })

abbrev pub decided : Option Outcome → Script → Option (List ℕ) → Decision
decided None s held = record { verdict = Unproven NoRow; block = None }
decided (Some SaysGoOn) s held = record { verdict = GoOn; block = held }
decided (Some (Grant at)) s held = granted_from s.store at
decided (Some Refuse) s held = record { verdict = Unproven NoRow; block = None }

abbrev pub given : Decision → (identifier : ℕ) → Script → Processed ScriptedFault Script
given d i s = record { verdict = d.verdict; reply = response_packet i scripted_type []; next = record { block = d.block; stage = s } }

abbrev pub scripted : Holding Script → (packet : List ℕ) → Subscriber → (suci : List ℕ) → Processed ScriptedFault Script
scripted h packet subscriber suci =
    given (decided (first_row h.stage.rows (slice_index packet 1)) h.stage h.block) (slice_index packet 1) h.stage
