-- The lines of a schedule.
use Rattle.std.specs.Prelude.{ℕ, ◌+◌, ◌*◌, ◌-◌, ◌^◌, Bool, false, not, ◌||◌, nat_le, nat_lt, List, [], ◌∷◌, ◌++◌, length, map, sum, Option, Some, None, Result, Ok, Err}
use Rattle.std.specs.List.{list_any}
use Rattle.hr_base.specs.Counters.{shown}
use Rattle.hr_base.specs.Lists.{when, first_some}
use Rattle.hr_base.specs.Texts.{Text}
use Rattle.hr_line.specs.declared.number.Number.{Number}
use Rattle.hr_forms.specs.Choices.{schedule_form_of}
use Rattle.hr_forms.specs.declared.choice.ChoiceForm.{ChoiceForm}
use Rattle.hr_forms.specs.declared.choice.ChoiceForm.TheVariants as form
use Rattle.hr_forms.specs.declared.choice.ScheduleForm.{ScheduleForm}
use Rattle.hr_forms.specs.declared.choice.ScheduleForm.TheVariants as line_form
use Rattle.hr_said.specs.declared.limits.TheConstants.{MAX_CHOICES}
use Rattle.hr_said.specs.declared.scenario.Choice.{Choice}
use Rattle.hr_said.specs.declared.scenario.Choice.TheVariants as c
use Rattle.hr_said.specs.declared.said.Said.{Said}
use Rattle.hr_said.specs.declared.said.Inside.TheVariants as inside
use Rattle.hr_said.specs.declared.error.InputKind.{InputKind}
use Rattle.hr_said.specs.declared.error.InputKind.TheVariants as kind
use Rattle.hr_said.specs.Limits.{may_stand, is_within, small, value}
use Rattle.hr_said.specs.Outcomes.{unless}

-- `schedule`
abbrev pub schedule : Said → Result Said InputKind
schedule said = unless (first_some (when (not (may_stand said.part 8)) kind.Form ∷ []))
    (record said { part = 8; inside = inside.Schedule })

-- ---- its lines

-- the sessions and replicas: each of them has a choice in a round
abbrev pub callers : Said → ℕ
callers said = length said.scripts + length said.faults

-- how many choices one is, where rounds are written out
abbrev pub weight : ℕ → ChoiceForm → ℕ
weight each (form.Rounds n) = value n * each
weight each (form.Session n) = 1
weight each (form.Both n) = 1
weight each (form.TakeJob n) = 1
weight each (form.GiveReply n) = 1

-- how many there are with these, as a counter shows it
abbrev pub count_with : Said → List ChoiceForm → ℕ
count_with said forms = shown (said.choice_count + sum (map (λ f. weight (shown (callers said)) f) forms))

-- rounds are at least one, and as many as 32 bits hold
abbrev pub is_bad_rounds : ChoiceForm → Bool
is_bad_rounds (form.Rounds n) = not (is_within 1 (2 ^ 32 - 1) n)
is_bad_rounds (form.Session n) = false
is_bad_rounds (form.Both n) = false
is_bad_rounds (form.TakeJob n) = false
is_bad_rounds (form.GiveReply n) = false

abbrev pub is_no_replica : Said → Number → Bool
is_no_replica said n = nat_le (length said.faults) (value n)

-- a session or a replica that isn't there
abbrev pub is_unknown : Said → ChoiceForm → Bool
is_unknown said (form.Session n) = not (is_within 1 (length said.scripts) n)
is_unknown said (form.Both n) = is_no_replica said n
is_unknown said (form.TakeJob n) = is_no_replica said n
is_unknown said (form.GiveReply n) = is_no_replica said n
is_unknown said (form.Rounds n) = false

abbrev pub choices_refusal : Said → ℕ → List ChoiceForm → Option InputKind
choices_refusal said count forms = first_some
    (when (list_any is_bad_rounds forms || nat_lt MAX_CHOICES count) kind.Limit
    ∷ when (list_any (λ f. is_unknown said f) forms) kind.Unknown
    ∷ [])

abbrev pub choice_of : ChoiceForm → Choice
choice_of (form.Session n) = c.Session (small n)
choice_of (form.Both n) = c.Both (small n)
choice_of (form.TakeJob n) = c.TakeJob (small n)
choice_of (form.GiveReply n) = c.GiveReply (small n)
choice_of (form.Rounds n) = c.Rounds (small n)

abbrev pub choices : Said → List ChoiceForm → Result Said InputKind
choices said forms = unless (choices_refusal said (count_with said forms) forms)
    (record said { choices = said.choices ++ map choice_of forms; choice_count = count_with said forms })

abbrev pub schedule_line_as : Said → Option ScheduleForm → Result Said InputKind
schedule_line_as said None = Err kind.Form
schedule_line_as said (Some line_form.End) = Ok (record said { inside = inside.Outside })
schedule_line_as said (Some (line_form.Choices forms)) = choices said forms

abbrev pub schedule_line : Said → Text → Result Said InputKind
schedule_line said line = schedule_line_as said (schedule_form_of line)
