-- What a line can ask for, by what can be done with the method that was started last. Assumes nothing.
use Rattle.std.specs.Prelude.{Bool, true, false}
use Rattle.script.specs.declared.commands.Command.{Command}
use Rattle.script.specs.declared.commands.Command.TheVariants.{Answered, Start, CardRow, MethodRow, Use}
use Rattle.script.specs.declared.commands.Stage.{Stage}
use Rattle.script.specs.declared.commands.Stage.TheVariants.{NoMethod, CardRows, MethodRows, NoRows}

abbrev pub is_started : Stage → Bool
is_started NoMethod = false
is_started CardRows = true
is_started MethodRows = true
is_started NoRows = true

abbrev pub takes_card_rows : Stage → Bool
takes_card_rows NoMethod = false
takes_card_rows CardRows = true
takes_card_rows MethodRows = false
takes_card_rows NoRows = false

abbrev pub takes_method_rows : Stage → Bool
takes_method_rows NoMethod = false
takes_method_rows CardRows = false
takes_method_rows MethodRows = true
takes_method_rows NoRows = false

-- a question and a start always; a row only of the kind that the method takes; a use only of a method
abbrev pub fits : Stage → Command → Bool
fits stage (Answered _) = true
fits stage (Start _) = true
fits stage (CardRow _) = takes_card_rows stage
fits stage (MethodRow _) = takes_method_rows stage
fits stage (Use _) = is_started stage
