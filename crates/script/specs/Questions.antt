-- The answers to commands that need no method. Assumes nothing.
use Rattle.std.specs.Prelude.{Bool, true, false}
use Rattle.answers.specs.declared.answer.Answer.{Answer}
use Rattle.answers.specs.declared.answer.Answer.TheVariants.{Digest, Mac, Keys, Network, Message, Help, TestCard, RecordedCard, Scripted, Row, NotTaken, Processed, Cleared, Block}

abbrev pub needs_no_method : Answer → Bool
needs_no_method (Digest _) = true
needs_no_method (Mac _) = true
needs_no_method (Keys _) = true
needs_no_method (Network _) = true
needs_no_method (Message _) = true
needs_no_method (Help _) = true
needs_no_method TestCard = false
needs_no_method RecordedCard = false
needs_no_method (Scripted _) = false
needs_no_method (Row _) = false
needs_no_method (NotTaken _) = false
needs_no_method (Processed _) = false
needs_no_method Cleared = false
needs_no_method (Block _) = false
