-- The lines of a schedule leave what is good.
use Rattle.std.proofs.Common.{◌≡◌, ℕ, true, false, not, ◌&&◌, ◌||◌, nat_le, nat_lt, Option, Some, None, Ok, List, [], ◌∷◌, ◌++◌, length, map, refl, ◌∙◌, arith}
use Rattle.std.specs.List.{list_all, list_any}
use Rattle.std.proofs.lemmas.Bool.{and_from, or_parts, leb-false, le-leb, lt-ltb}
use Rattle.std.proofs.lemmas.List.Folds.{list_all-append}
use Rattle.hr_base.specs.Lists.{when, first_some}
use Rattle.hr_base.specs.Texts.{Text}
use Rattle.hr_line.specs.declared.number.Number.{Number}
use Rattle.hr_forms.specs.Choices.{schedule_form_of}
use Rattle.hr_forms.specs.declared.choice.ChoiceForm.{ChoiceForm}
use Rattle.hr_forms.specs.declared.choice.ChoiceForm.TheVariants as form
use Rattle.hr_forms.specs.declared.choice.ScheduleForm.{ScheduleForm}
use Rattle.hr_forms.specs.declared.choice.ScheduleForm.TheVariants as line_form
use Rattle.hr_said.specs.declared.limits.TheConstants.{MAX_CHOICES}
use Rattle.hr_said.specs.declared.said.Inside.TheVariants as inside
use Rattle.hr_said.specs.declared.said.Said.{Said}
use Rattle.hr_said.specs.declared.error.InputKind.TheVariants as kind
use Rattle.hr_said.specs.Limits.{may_stand, is_within, value, small}
use Rattle.hr_said.specs.Schedule.{schedule, choices, choices_refusal, count_with, is_bad_rounds, is_unknown, choice_of, schedule_line, schedule_line_as}
use Rattle.hr_runnable.proofs.SoFar.{IsGood, is_of}
use Rattle.hr_runnable.proofs.Refusals.{unless_good, done_good, passes, is_so, behind, within, small_below, small_some}
use Rattle.hr_runnable.proofs.HeadLemmas.{later_sized}

-- ---- one choice

session_there : (sessions : ℕ) (n : Number) → is_within 1 sessions n ≡ true → (nat_le 1 (small n) && nat_le (small n) sessions) ≡ true
session_there sessions n e =
    let both = within 1 sessions n e in
    let below = small_below n in
    and_from (nat_le 1 (small n)) (nat_le (small n) sessions) (le-leb 1 (small n) (small_some n both.0)) (le-leb (small n) sessions (omega (arith, below, both.1)))

replica_there : (replicas : ℕ) (n : Number) → nat_le replicas (value n) ≡ false → nat_lt (small n) replicas ≡ true
replica_there replicas n e =
    let less = leb-false replicas (value n) e in
    let below = small_below n in
    lt-ltb (small n) replicas (omega (arith, below, less))

module _ (said : Said) where
  choice_there : (f : ChoiceForm) → is_unknown said f ≡ false → is_of (length said.scripts) (length said.faults) (choice_of f) ≡ true
  choice_there (form.Session n) e = session_there (length said.scripts) n (is_so (is_within 1 (length said.scripts) n) e)
  choice_there (form.Both n) e = replica_there (length said.faults) n e
  choice_there (form.TakeJob n) e = replica_there (length said.faults) n e
  choice_there (form.GiveReply n) e = replica_there (length said.faults) n e
  choice_there (form.Rounds n) e = refl

  choices_there : (forms : List ChoiceForm) → list_any (λ f. is_unknown said f) forms ≡ false → list_all (is_of (length said.scripts) (length said.faults)) (map choice_of forms) ≡ true
  choices_there [] e = refl
  choices_there (f ∷ forms) e =
      let parts = or_parts (is_unknown said f) (list_any (λ f. is_unknown said f) forms) e in
      let are = is_of (length said.scripts) (length said.faults) in
      and_from (are (choice_of f)) (list_all are (map choice_of forms)) (choice_there f parts.0) (choices_there forms parts.1)

-- ---- lines

module _ (said : Said) (h : IsGood said) where
  pub schedule_good : (next : Said) → schedule said ≡ Ok next → IsGood next
  schedule_good next e = unless_good _ _ next stands e
    where
      stands : first_some (when (not (may_stand said.part 8)) kind.Form ∷ []) ≡ None → IsGood (record said { part = 8; inside = inside.Schedule })
      stands none =
          let place = passes (not (may_stand said.part 8)) kind.Form [] none in
          let late = behind said.part _ (is_so (may_stand said.part 8) place.0) in
          record {
            replicas = later_sized said h 8 late;
            named = h.named;
            sessions = record { few = h.sessions.few; room = λ e. cc };
            tables = h.tables;
            schedule = record { begun = λ e. omega arith; none = λ e. absurd (omega (arith, e)); there = h.schedule.there };
          }

  module _ (within : said.inside ≡ inside.Schedule) where
    choices_good : (forms : List ChoiceForm) (next : Said) → choices said forms ≡ Ok next → IsGood next
    choices_good forms next e = unless_good (choices_refusal said (count_with said forms) forms) _ next stands e
      where
        stands : choices_refusal said (count_with said forms) forms ≡ None → IsGood (record said { choices = said.choices ++ map choice_of forms; choice_count = count_with said forms })
        stands none =
            let limits = list_any is_bad_rounds forms || nat_lt MAX_CHOICES (count_with said forms) in
            let unknown = list_any (λ f. is_unknown said f) forms in
            let limit = passes limits kind.Limit (when unknown kind.Unknown ∷ []) none in
            let known = passes unknown kind.Unknown [] limit.1 in
            let late = h.schedule.begun within in
            let are = is_of (length said.scripts) (length said.faults) in
            record {
              replicas = h.replicas;
              named = h.named;
              sessions = h.sessions;
              tables = h.tables;
              schedule = record {
                begun = λ e. late;
                none = λ early. absurd (omega (arith, early, late));
                there = list_all-append are said.choices (map choice_of forms)
                    ∙ and_from (list_all are said.choices) (list_all are (map choice_of forms)) h.schedule.there (choices_there said forms known.0);
              };
            }

    line_good : (f : Option ScheduleForm) (next : Said) → schedule_line_as said f ≡ Ok next → IsGood next
    line_good None next e = cc
    line_good (Some line_form.End) next e = done_good (record said { inside = inside.Outside }) next now e
      where
        now : IsGood (record said { inside = inside.Outside })
        now = record {
          replicas = h.replicas;
          named = h.named;
          sessions = record { few = h.sessions.few; room = λ e. cc };
          tables = h.tables;
          schedule = record { begun = λ e. cc; none = h.schedule.none; there = h.schedule.there };
        }
    line_good (Some (line_form.Choices forms)) next e = choices_good forms next e

    pub schedule_line_good : (next : Said) (line : Text) → schedule_line said line ≡ Ok next → IsGood next
    schedule_line_good next line e = line_good (schedule_form_of line) next e
