-- The pass that settles lengths and numbers. Assumes nothing.
use Rattle.std.proofs.Common.{List, Result}
use Rattle.nas.specs.Outcomes.{then}
use Rattle.attributes.specs.declared.fault.AttributeFault.{AttributeFault}
use Rattle.attributes.specs.Attributes.{Attr}
use Rattle.attributes.specs.Requests.{Gathered, added_all}

-- what was found, or the first fault, and then the attributes still to come
abbrev pub settled : Result Gathered AttributeFault → Result (List Attr) AttributeFault → Result Gathered AttributeFault
settled found all = then all (λ l. then found (λ g. added_all g l))
