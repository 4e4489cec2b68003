-- What each fault of a message says: a number, a layer and a place. Assumes nothing.
use Rattle.std.specs.Prelude.{ℕ, ◌+◌}
use Rattle.nas.specs.declared.fault.ElementFault.TheVariants.{Cut}
use Rattle.nas.specs.declared.fault.PacketFault.TheVariants.{WrongLength, WrongCode, InMethod}
use Rattle.nas.specs.declared.fault.MessageFault.{MessageFault}
use Rattle.nas.specs.declared.fault.MessageFault.TheVariants.{WrongHeader, WrongType, InElement, NoEapMessage, InPacket, NoKeySet, WrongAbba}

-- the number of a fault, where the method's own faults have theirs
abbrev pub number_of : {F : Type 0} → (F → ℕ) → MessageFault F → ℕ
number_of number WrongHeader = 6
number_of number WrongType = 7
number_of number (InElement f) = 8
number_of number (NoEapMessage p) = 9
number_of number (InPacket (WrongLength p)) = 10
number_of number (InPacket (WrongCode p)) = 11
number_of number (InPacket (InMethod p f)) = number f
number_of number NoKeySet = 12
number_of number (WrongAbba p) = 12

-- the layer that refuses: 2 the message, 3 the EAP packet, 4 the method
abbrev pub layer_of : {F : Type 0} → MessageFault F → ℕ
layer_of WrongHeader = 2
layer_of WrongType = 2
layer_of (InElement f) = 2
layer_of (NoEapMessage p) = 2
layer_of (InPacket (WrongLength p)) = 3
layer_of (InPacket (WrongCode p)) = 3
layer_of (InPacket (InMethod p f)) = 4
layer_of NoKeySet = 2
layer_of (WrongAbba p) = 2

-- the place in the message, where the method's own faults have a place inside the packet
abbrev pub place_of : {F : Type 0} → (F → ℕ) → MessageFault F → ℕ
place_of place WrongHeader = 0
place_of place WrongType = 2
place_of place (InElement (Cut p)) = p
place_of place (NoEapMessage p) = p
place_of place (InPacket (WrongLength p)) = p
place_of place (InPacket (WrongCode p)) = p
place_of place (InPacket (InMethod p f)) = p + place f
place_of place NoKeySet = 3
place_of place (WrongAbba p) = p

-- the fault is the message's or the packet's own, and not the method's
abbrev pub IsOwn : {F : Type 0} → MessageFault F → Type 0
IsOwn (InPacket (InMethod p f)) = ⊥
IsOwn f = Unit {0}
