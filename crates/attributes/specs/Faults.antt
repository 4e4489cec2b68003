-- What each fault of a request says: a number of layer 4, and a place in the packet. Assumes nothing.
use Rattle.std.specs.Prelude.{ℕ}
use Rattle.attributes.specs.declared.fault.AttributeFault.{AttributeFault}
use Rattle.attributes.specs.declared.fault.AttributeFault.TheVariants.{Cut, Foreign, WrongLength, Surplus}
use Rattle.attributes.specs.declared.fault.RequestFault.{RequestFault}
use Rattle.attributes.specs.declared.fault.RequestFault.TheVariants.{WrongSubtype, InAttribute, Missing}

abbrev pub number_of : RequestFault → ℕ
number_of WrongSubtype = 21
number_of (InAttribute (Cut p)) = 22
number_of (InAttribute (Foreign p)) = 23
number_of (InAttribute (WrongLength p)) = 24
number_of (InAttribute (Surplus p)) = 24
number_of Missing = 24

-- the place of the attribute at fault
abbrev pub attribute_place : AttributeFault → ℕ
attribute_place (Cut p) = p
attribute_place (Foreign p) = p
attribute_place (WrongLength p) = p
attribute_place (Surplus p) = p

abbrev pub place_of : RequestFault → ℕ
place_of WrongSubtype = 0
place_of (InAttribute f) = attribute_place f
place_of Missing = 0
