-- The lines of faults and suspicions.
use Rattle.std.specs.Prelude.{ℕ, ◌+◌, ℤ, pos, Bool, true, false, not, ◌&&◌, ◌||◌, ◌==◌, nat_le, nat_lt, List, [], ◌∷◌, ◌++◌, length, map, slice_get, slice_set, Option, Some, None, unwrap_or, Result}
use Rattle.std.specs.List.{list_any}
use Rattle.hr_base.specs.Lists.{when, first_some, last_of}
use Rattle.hr_faulty.specs.declared.script.Fault.{Fault}
use Rattle.hr_faulty.specs.declared.script.Act.{Act}
use Rattle.hr_faulty.specs.declared.script.Act.TheVariants as a
use Rattle.hr_faulty.specs.declared.script.When.TheVariants as when_
use Rattle.hr_forms.specs.declared.act.ActForm.{ActForm}
use Rattle.hr_forms.specs.declared.act.ActForm.TheVariants as form
use Rattle.hr_line.specs.declared.number.Number.{Number}
use Rattle.hr_line.specs.declared.number.Number.TheVariants as number
use Rattle.hr_line.specs.declared.number.Signed.{Signed}
use Rattle.hr_line.specs.declared.number.Signed.TheVariants as signed
use Rattle.hr_said.specs.declared.limits.TheConstants.{MAX_CALL, MAX_FAULT_LIST, MAX_FAULTS, MAX_SUSPECTS}
use Rattle.hr_said.specs.declared.said.Said.{Said}
use Rattle.hr_said.specs.declared.error.InputKind.{InputKind}
use Rattle.hr_said.specs.declared.error.InputKind.TheVariants as kind
use Rattle.hr_said.specs.Limits.{may_stand, is_within, value}
use Rattle.hr_said.specs.Outcomes.{unless}

-- ---- acts

abbrev pub is_too_large : Number → Bool
is_too_large (number.Of n) = false
is_too_large number.TooLarge = true

abbrev pub is_signed_too_large : Signed → Bool
is_signed_too_large (signed.Of n) = false
is_signed_too_large signed.TooLarge = true

-- a list of transactions within its limits
abbrev pub is_list : List Number → Bool
is_list txns = nat_le (length txns) MAX_FAULT_LIST && not (list_any is_too_large txns)

-- an act whose numbers are within their limits
abbrev pub is_act : ActForm → Bool
is_act (form.Wrong n) = not (is_signed_too_large n)
is_act (form.Drop n) = not (is_too_large n)
is_act form.Early = true
is_act (form.Block txns) = is_list txns
is_act (form.Deadlock txns) = is_list txns
is_act form.Fail = true
is_act (form.Position n) = not (is_too_large n)
is_act form.LoseBefore = true
is_act form.LoseAfter = true

abbrev pub signed_value : Signed → ℤ
signed_value (signed.Of n) = n
signed_value signed.TooLarge = pos 0

-- the act that a line means
abbrev pub act_of : ActForm → Act
act_of (form.Wrong n) = a.Wrong (signed_value n)
act_of (form.Drop n) = a.Drop (value n)
act_of form.Early = a.Early
act_of (form.Block txns) = a.Block (map value txns)
act_of (form.Deadlock txns) = a.Deadlock (map value txns)
act_of form.Fail = a.Fail
act_of (form.Position n) = a.Position (value n)
act_of form.LoseBefore = a.Lose when_.Before
act_of form.LoseAfter = a.Lose when_.After

-- ---- `lie R CALL ACT`, `lose R CALL before`, `lose R CALL after`

-- there is a replica of this number
abbrev pub is_replica : Said → Number → Bool
is_replica said replica = nat_lt (value replica) (length said.faults)

abbrev pub faults_at : List (List Fault) → ℕ → List Fault
faults_at faults replica = unwrap_or (slice_get faults replica) []

abbrev pub is_at : ℕ → Fault → Bool
is_at call fault = fault.call == call

abbrev pub fault_refusal : Said → Number → Number → ActForm → Option InputKind
fault_refusal said replica call act = first_some
    (when (not (may_stand said.part 6)) kind.Form
    ∷ when (not (is_within 1 MAX_CALL call) || not (is_act act) || nat_le MAX_FAULTS said.fault_count) kind.Limit
    ∷ when (not (is_replica said replica)) kind.Unknown
    ∷ when (list_any (λ f. is_at (value call) f) (faults_at said.faults (value replica))) kind.Repeated
    ∷ [])

abbrev pub with_fault : List (List Fault) → ℕ → Fault → List (List Fault)
with_fault faults replica fault = slice_set faults replica (faults_at faults replica ++ fault ∷ [])

abbrev pub fault : Said → Number → Number → ActForm → Result Said InputKind
fault said replica call act = unless (fault_refusal said replica call act)
    (record said {
      part = 6;
      faults = with_fault said.faults (value replica) (record { call = value call; act = act_of act });
      fault_count = said.fault_count + 1;
    })

-- ---- `suspect after N`

-- a number less than the last of those before it
abbrev pub falls : Option ℕ → ℕ → Bool
falls None n = false
falls (Some last) n = nat_lt n last

abbrev pub suspect_refusal : Said → Number → Option InputKind
suspect_refusal said after = first_some
    (when (not (may_stand said.part 6)) kind.Form
    ∷ when (not (is_within 1 MAX_CALL after) || falls (last_of said.suspects) (value after) || nat_le MAX_SUSPECTS (length said.suspects)) kind.Limit
    ∷ [])

abbrev pub suspect : Said → Number → Result Said InputKind
suspect said after = unless (suspect_refusal said after) (record said { part = 6; suspects = said.suspects ++ value after ∷ [] })
