-- How a worked case is stated: by numbers and places. Assumes nothing.
use Rattle.std.specs.Prelude.{◌≡◌, ℕ, List, Ok, Err, Option, Result}
use Rattle.nas.specs.declared.fault.MessageFault.{MessageFault}
use Rattle.nas.specs.declared.fault.NoMethod.{NoMethod}
use Rattle.nas.specs.declared.name.NetworkKind.{NetworkKind}
use Rattle.nas.specs.declared.packet.Code.TheVariants.{Failure}
use Rattle.nas.specs.Faults.{number_of, layer_of, place_of}
use Rattle.nas.specs.Messages.{Contents, failure, read_message}
use Rattle.nas.specs.Names.{network_kind, name_number}
use Rattle.nas.specs.Parts.{cut}

abbrev pub IsRefusal : Result Contents (MessageFault NoMethod) → ℕ → ℕ → ℕ → Type 0
IsRefusal (Ok c) number layer place = ⊥
IsRefusal (Err f) number layer place = (number_of (λ _. 0) f ≡ number) × (layer_of f ≡ layer) × (place_of (λ _. 0) f ≡ place)

-- the message is refused with this number, in this layer, at this place
abbrev pub Refused : List ℕ → ℕ → ℕ → ℕ → Type 0
Refused m number layer place = IsRefusal (read_message m) number layer place

-- the message is a failure, whose packet has this identifier and stands at this place
abbrev pub Fails : List ℕ → ℕ → ℕ → Type 0
Fails m identifier place =
    read_message {F = NoMethod} m ≡ Ok (failure (record { code = Failure; identifier = identifier; whole = record { place = place; octets = cut m place 4 } }))

-- the name is of this kind, and the number of its refusal, or 0
abbrev pub Named : List ℕ → Option NetworkKind → ℕ → Type 0
Named s kind number = (network_kind s ≡ kind) × (name_number (network_kind s) ≡ number)
