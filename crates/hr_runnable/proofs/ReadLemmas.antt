-- Whatever lines say is good; and what is said once all of them are read can be run.
use Rattle.std.proofs.Common.{◌≡◌, ℕ, zero, suc, ◌+◌, ◌*◌, ◌≤◌, Bool, true, false, ◌==◌, nat_le, unwrap_or, Ok, List, [], ◌∷◌, length, refl, subst, arith}
use Rattle.std.specs.List.{list_all}
use Rattle.std.proofs.lemmas.Bool.{and_parts, leb-true, ltb-true}
use Rattle.hr_base.specs.Texts.{Text}
use Rattle.hr_forms.specs.Forms.{form_of}
use Rattle.hr_forms.specs.declared.line.LineForm.{LineForm}
use Rattle.hr_forms.specs.declared.line.LineForm.TheVariants as form
use Rattle.hr_said.specs.declared.said.Said.{Said}
use Rattle.hr_said.specs.declared.scenario.Choice.{Choice}
use Rattle.hr_said.specs.declared.scenario.Choice.TheVariants as choice
use Rattle.hr_said.specs.declared.scenario.Scenario.{Scenario}
use Rattle.hr_said.specs.Said.{scenario}
use Rattle.hr_said.specs.Said as saying
use Rattle.hr_schedule.specs.Choices.{choices}
use Rattle.hr_driver.specs.Whole.{IsThere, AreThere}
use Rattle.hr_reader.specs.Reading.{form_says, scenario_of}
use Rattle.hr_records.proofs.Options.{on_some}
use Rattle.hr_runnable.specs.Runnable.{IsRunnable}
use Rattle.hr_runnable.proofs.SoFar.{IsGood, is_of, nothing_good}
use Rattle.hr_runnable.proofs.LineLemmas.{KeptByLines, by_lines}
use Rattle.hr_runnable.proofs.FormLemmas.{IsKeyed, form_keyed}
use Rattle.hr_runnable.proofs.HeadLemmas.{version_good, liars_good, replicas_good, retries_good}
use Rattle.hr_runnable.proofs.TableLemmas.{table_good, index_good}
use Rattle.hr_runnable.proofs.RowLemmas.{row_good}
use Rattle.hr_runnable.proofs.FaultLemmas.{fault_good, suspect_good}
use Rattle.hr_runnable.proofs.SessionLemmas.{session_good, session_line_good}
use Rattle.hr_runnable.proofs.ScheduleLemmas.{schedule_good, schedule_line_good}

-- ---- one line

module _ (said next : Said) (h : IsGood said) where
  form_good : (content : Text) (f : LineForm) → IsKeyed f → form_says said content f ≡ Ok next → IsGood next
  form_good content (form.Version n) keyed e = version_good said h n next e
  form_good content (form.Liars n) keyed e = liars_good said h n next e
  form_good content (form.Replicas kinds) keyed e = replicas_good said h kinds next e
  form_good content (form.Retries n) keyed e = retries_good said h n next e
  form_good content (form.Table name columns) keyed e = table_good said h name columns next keyed e
  form_good content (form.Index name column) keyed e = index_good said h name column next e
  form_good content (form.Row name) keyed e = row_good said h name content next e
  form_good content (form.Fault replica call act) keyed e = fault_good said h replica call act next e
  form_good content (form.Suspect after) keyed e = suspect_good said h after next e
  form_good content form.Session keyed e = session_good said h next e
  form_good content form.Schedule keyed e = schedule_good said h next e

kept_by_lines : KeptByLines IsGood
kept_by_lines = record {
  outside = λ said next content f out is e h. form_good said next h content f (on_some IsKeyed (form_of content) f is (form_keyed content)) e;
  session = λ said next content within e h. session_line_good said h within next content e;
  schedule = λ said next content within e h. schedule_line_good said h within next content e;
}

-- ---- the whole

-- a choice of a session or a replica that is there, in a scenario of this size
choice_there : (sc : Scenario) (c : Choice) → length sc.faults ≡ 2 * sc.f + 1 → is_of (length sc.scripts) (length sc.faults) c ≡ true → IsThere sc c
choice_there sc (choice.Session s) size e =
    let parts = and_parts (nat_le 1 s) (nat_le s (length sc.scripts)) e in
    (leb-true 1 s parts.0, leb-true s (length sc.scripts) parts.1)
choice_there sc (choice.Both r) size e = let less = ltb-true r (length sc.faults) e in omega (arith, size, less)
choice_there sc (choice.TakeJob r) size e = let less = ltb-true r (length sc.faults) e in omega (arith, size, less)
choice_there sc (choice.GiveReply r) size e = let less = ltb-true r (length sc.faults) e in omega (arith, size, less)
choice_there sc (choice.Rounds k) size e = tt

all_there : (sc : Scenario) (cs : List Choice) → length sc.faults ≡ 2 * sc.f + 1 → list_all (is_of (length sc.scripts) (length sc.faults)) cs ≡ true → AreThere sc cs
all_there sc [] size h i c at = cc
all_there sc (d ∷ cs) size h zero c at =
    let same : d ≡ c = cc in
    subst (IsThere sc) same (choice_there sc d size (and_parts (is_of (length sc.scripts) (length sc.faults) d) (list_all (is_of (length sc.scripts) (length sc.faults)) cs) h).0)
all_there sc (d ∷ cs) size h (suc i) c at =
    all_there sc cs size (and_parts (is_of (length sc.scripts) (length sc.faults) d) (list_all (is_of (length sc.scripts) (length sc.faults)) cs) h).1 i c at

-- without a schedule there are rounds, which name none
scheduled_there : (sessions replicas : ℕ) (b : Bool) (cs : List Choice) → list_all (is_of sessions replicas) cs ≡ true
    → list_all (is_of sessions replicas) (unwrap_or (saying.schedule b cs) (choice.Rounds 200 ∷ [])) ≡ true
scheduled_there sessions replicas true cs h = h
scheduled_there sessions replicas false cs h = refl

said_runs : (said : Said) → IsGood said → 3 ≤ said.part → IsRunnable (scenario said)
said_runs said h late = record {
  wrong = h.replicas.wrong;
  few = h.sessions.few;
  kinds = h.replicas.engines late;
  faults = h.replicas.lists late;
  named = h.named;
  sound = h.tables.sound;
  holds = h.tables.holds;
  there = all_there (scenario said) (choices (scenario said)) (h.replicas.lists late)
      (scheduled_there (length said.scripts) (length said.faults) (said.part == 8) said.choices h.schedule.there);
}

pub every_scenario_runs : (text : Text) (sc : Scenario) → scenario_of text ≡ Ok sc → IsRunnable sc
every_scenario_runs text sc e = by_lines IsGood kept_by_lines IsRunnable said_runs sc text nothing_good e
