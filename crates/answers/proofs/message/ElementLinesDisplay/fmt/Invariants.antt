use Rattle.std.proofs.Common.{◌-◌, length}
use Rattle.answers.proofs.message.ElementLinesDisplay.fmt.Given as goal

abbrev pub decreases-loop-element : goal.decreases-loop-element
decreases-loop-element g l = length l.elements.bytes.now - l.elements.at
