-- The reasons of an unproven request: a number of layer 4, and a place in the packet. Assumes nothing.
use Rattle.std.specs.Prelude.{ℕ}
use Rattle.attributes.specs.Faults as request
use Rattle.aka.specs.declared.fault.AkaFault.{AkaFault}
use Rattle.aka.specs.declared.fault.AkaFault.TheVariants.{InRequest, IdentityRefused, WrongKdf, WrongNetwork, NoCard, NotSeparated, WrongAutn, StaleSequence, WrongMac}

abbrev pub number_of : AkaFault → ℕ
number_of (InRequest f) = request.number_of f
number_of (IdentityRefused p) = 25
number_of (WrongKdf p) = 26
number_of (WrongNetwork p) = 27
number_of NoCard = 28
number_of (NotSeparated p) = 29
number_of (WrongAutn p) = 30
number_of (StaleSequence p) = 31
number_of (WrongMac p) = 32

abbrev pub place_of : AkaFault → ℕ
place_of (InRequest f) = request.place_of f
place_of (IdentityRefused p) = p
place_of (WrongKdf p) = p
place_of (WrongNetwork p) = p
place_of NoCard = 0
place_of (NotSeparated p) = p
place_of (WrongAutn p) = p
place_of (StaleSequence p) = p
place_of (WrongMac p) = p
