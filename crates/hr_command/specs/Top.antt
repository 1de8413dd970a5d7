-- What the program's status says of what it read and wrote.
use Rattle.std.specs.Prelude.{◌≡◌, ◌≤◌, ◌+◌, Bool, true, false, Option, Some, List, [], ◌∷◌, Ok, Err, length, map, string_bytes, codes, String}
use Rattle.std.specs.Io.KnownBytes.{Consumes, Appends, IsAtEnd}
use Rattle.std.specs.declared.alloc.Global.{Global}
use Rattle.hr_base.specs.Texts.{Text}
use Rattle.hr_base.specs.declared.limits.TheConstants.{MAX_SCENARIO_BYTES}
use Rattle.hr_io.specs.Bytes.{AppendsFront}
use Rattle.hr_said.specs.declared.scenario.Scenario.{Scenario}
use Rattle.hr_reader.specs.declared.error.InputError.{InputError}
use Rattle.hr_reader.specs.Reading.{scenario_of}
use Rattle.hr_step.specs.Run.{IsReport}
use Rattle.hr_command.specs.declared.status.Status.{Status}
use Rattle.hr_command.specs.declared.status.Status.TheVariants as status

-- the words of a command that is known: `step` alone, for now
abbrev pub IsCommand : List (String Global) → Type 0
IsCommand words = map string_bytes words ≡ codes "step" ∷ []

-- all bytes of a source were read, and they are this scenario
pub record IsRead (left left' : Option Text) (scenario : Scenario) : Type 0 where
  pub bytes : Text
  pub taken : Consumes left left' bytes
  pub all : IsAtEnd left'
  pub is : scenario_of bytes ≡ Ok scenario

-- all bytes were read, they are a scenario, and the report of a run of it was written
pub record IsStepped (left left' taken taken' : Option Text) : Type 0 where
  pub scenario : Scenario
  pub read : IsRead left left' scenario
  pub text : Text
  pub report : IsReport scenario text
  pub written : Appends taken taken' text

-- all bytes were read, they are a scenario, and a front of the report of a run of it was written
pub record IsCutOff (left left' taken taken' : Option Text) : Type 0 where
  pub scenario : Scenario
  pub read : IsRead left left' scenario
  pub text : Text
  pub report : IsReport scenario text
  pub front : AppendsFront taken taken' text

-- What was read is no scenario, for this reason. It was all that the source had, or 1 MiB and a byte.
pub record IsRefusedInput (left left' : Option Text) (error : InputError) : Type 0 where
  pub bytes : Text
  pub taken : Consumes left left' bytes
  pub why : scenario_of bytes ≡ Err error
  pub most : length bytes ≤ MAX_SCENARIO_BYTES + 1
  pub all : length bytes ≤ MAX_SCENARIO_BYTES → IsAtEnd left'

-- what a source has left is known, and is a scenario
pub record HasScenario (left : Option Text) : Type 0 where
  pub bytes : Text
  pub known : left ≡ Some bytes
  pub scenario : Scenario
  pub is : scenario_of bytes ≡ Ok scenario

-- whether nothing is written where the program ends with this status
abbrev pub is_silent : Status → Bool
is_silent status.Ok = false
is_silent status.Differs = false
is_silent status.Usage = true
is_silent (status.Input line kind) = true
is_silent status.ReadFault = true
is_silent status.WriteFault = false
is_silent status.Memory = true
