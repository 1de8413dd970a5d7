-- The lines that say how many replicas there are, of which kind, and how often transactions are tried. For each form of a
-- line the refusals stand in rising order of their kinds, and the first that applies is told.
use Rattle.std.specs.Prelude.{◌+◌, ◌*◌, Bool, not, ◌&&◌, ◌||◌, ◌==◌, List, [], ◌∷◌, length, map, replicate, Option, unwrap_or, Result}
use Rattle.std.specs.List.{list_any}
use Rattle.std.specs.Option.{is_none}
use Rattle.hr_base.specs.Lists.{when, first_some}
use Rattle.hr_base.specs.declared.limits.TheConstants.{MAX_F}
use Rattle.hr_line.specs.declared.number.Number.{Number}
use Rattle.hr_forms.specs.declared.line.EngineKind.{EngineKind}
use Rattle.hr_forms.specs.declared.line.EngineKind.TheVariants.{ByTable}
use Rattle.hr_said.specs.declared.limits.TheConstants.{MAX_RETRIES}
use Rattle.hr_said.specs.declared.said.Said.{Said}
use Rattle.hr_said.specs.declared.error.InputKind.{InputKind}
use Rattle.hr_said.specs.declared.error.InputKind.TheVariants as kind
use Rattle.hr_said.specs.Limits.{may_stand, is_within, small}
use Rattle.hr_said.specs.Outcomes.{unless}

-- `hrdb N`
abbrev pub version_refusal : Said → Number → Option InputKind
version_refusal said n = first_some
    (when (said.part == 0 && not (is_within 1 1 n)) kind.Version
    ∷ when (not (may_stand said.part 1)) kind.Form
    ∷ [])

abbrev pub version : Said → Number → Result Said InputKind
version said n = unless (version_refusal said n) (record said { part = 1 })

-- `f N`
abbrev pub liars_refusal : Said → Number → Option InputKind
liars_refusal said n = first_some
    (when (not (may_stand said.part 2)) kind.Form
    ∷ when (not (is_within 0 MAX_F n)) kind.Limit
    ∷ [])

abbrev pub liars : Said → Number → Result Said InputKind
liars said n = unless (liars_refusal said n) (record said { part = 2; f = small n })

-- `replicas KIND ..`
abbrev pub is_missing : Option EngineKind → Bool
is_missing kind = is_none kind

abbrev pub known : Option EngineKind → EngineKind
known kind = unwrap_or kind ByTable

abbrev pub replicas_refusal : Said → List (Option EngineKind) → Option InputKind
replicas_refusal said kinds = first_some
    (when (not (may_stand said.part 3) || not (length kinds == 2 * said.f + 1)) kind.Form
    ∷ when (list_any is_missing kinds) kind.Unknown
    ∷ [])

abbrev pub replicas : Said → List (Option EngineKind) → Result Said InputKind
replicas said kinds = unless (replicas_refusal said kinds)
    (record said { part = 3; kinds = map known kinds; faults = replicate (length kinds) [] })

-- `retries N`
abbrev pub retries_refusal : Said → Number → Option InputKind
retries_refusal said n = first_some
    (when (not (may_stand said.part 4)) kind.Form
    ∷ when (not (is_within 0 MAX_RETRIES n)) kind.Limit
    ∷ [])

abbrev pub retries : Said → Number → Result Said InputKind
retries said n = unless (retries_refusal said n) (record said { part = 4; retries = small n })
