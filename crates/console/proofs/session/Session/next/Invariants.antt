use Rattle.std.proofs.Common.{◌≡◌, false}
use Rattle.console.proofs.session.Session.next.Given as goal

abbrev pub invariant-loop : goal.invariant-loop
invariant-loop g l = l.initial.self ≡ false → l.self ≡ false
