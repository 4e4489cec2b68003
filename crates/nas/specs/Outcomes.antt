-- Outcomes of reading: what was read, or a fault. Assumes nothing.
use Rattle.std.specs.Prelude.{Some, None, Ok, Err, Option, Result}

-- an outcome of the program, where its value means something else here
abbrev pub seen : {X Y E : Type 0} → (X → Y) → Result X E → Result Y E
seen means (Ok x) = Ok (means x)
seen means (Err f) = Err f

-- the next question is asked if this one is met
abbrev pub then : {X Y E : Type 0} → Result X E → (X → Result Y E) → Result Y E
then (Ok x) next = next x
then (Err f) next = Err f

-- the fault as it stands inside the fault of the layer above
abbrev pub raised : {X E G : Type 0} → (E → G) → Result X E → Result X G
raised inside (Ok x) = Ok x
raised inside (Err f) = Err (inside f)

-- what holds of a value that was read
abbrev pub IfRead : {X E : Type 0} → (X → Type 0) → Result X E → Type 0
IfRead P (Ok x) = P x
IfRead P (Err f) = Unit {0}

-- what holds of a value that was read and found
abbrev pub IfFound : {X E : Type 0} → (X → Type 0) → Result (Option X) E → Type 0
IfFound P (Ok (Some x)) = P x
IfFound P (Ok None) = Unit {0}
IfFound P (Err f) = Unit {0}
