-- What a line comes to.
use Rattle.std.specs.Prelude.{◌≡◌, Option, Some, None, Result, Ok, Err, ⊤}
use Rattle.hr_said.specs.declared.said.Said.{Said}
use Rattle.hr_said.specs.declared.error.InputKind.{InputKind}
use Rattle.hr_said.specs.declared.error.LineError.{LineError}
use Rattle.hr_said.specs.declared.error.LineError.TheVariants.{Refused, NoMemory}

-- x, unless there is a refusal
abbrev pub unless : {X : Type 0} → Option InputKind → X → Result X InputKind
unless None x = Ok x
unless (Some kind) x = Err kind

-- what comes next, unless there is a refusal
abbrev pub goes_on : {X Y : Type 0} → Result X InputKind → (X → Result Y InputKind) → Result Y InputKind
goes_on (Ok x) next = next x
goes_on (Err kind) next = Err kind

-- an answer to a line is the one due, with what is said then, unless memory ran out
abbrev pub Gives : {X : Type 0} → Result Said InputKind → Said → Result X LineError → Type 0
Gives due said (Ok done) = due ≡ Ok said
Gives due said (Err (Refused kind)) = due ≡ Err kind
Gives due said (Err NoMemory) = ⊤

-- what is found is the one due, unless memory ran out
abbrev pub Found : {X : Type 0} → Result X InputKind → Result X LineError → Type 0
Found due (Ok x) = due ≡ Ok x
Found due (Err (Refused kind)) = due ≡ Err kind
Found due (Err NoMemory) = ⊤
