-- What is told of a run.
use Rattle.std.proofs.Common.{◌≡◌, ℕ, ◌+◌, ◌*◌, Result, Ok, Err, List, length, map, ap, ◌∙◌}
use Rattle.std.specs.Prelude.{IfOk}
use Rattle.hr_base.specs.Lists.{one_to}
use Rattle.hr_base.specs.Texts.{Text}
use Rattle.hr_forms.specs.declared.line.EngineKind.{EngineKind}
use Rattle.hr_said.specs.declared.scenario.Scenario.{Scenario}
use Rattle.hr_history.specs.History.{History}
use Rattle.hr_ledger.specs.Chronicle.{Chronicle, history_in}
use Rattle.hr_schedule.specs.declared.attempt.Try.{Try}
use Rattle.hr_schedule.specs.Tries.{tries_of}
use Rattle.hr_schedule.specs.Claims.{TableRows, IsRun, Claims}
use Rattle.hr_scripted.specs.Scripted.{CallsStand}
use Rattle.hr_undisturbed.specs.Quiet.{IsQuiet, IsSmooth}
use Rattle.hr_run_report.specs.Report.{report_text}
use Rattle.hr_generator.specs.declared.order.Order.{Order}
use Rattle.hr_summary.specs.Summary.{summary_text}
use Rattle.hr_step.specs.Run.{locking, IsExecution, IsReport, IsSummary}

-- what runs, and what the laws say of runs, make an execution
pub executes : {R F : Type 0} (o : Result R F) (sc : Scenario) (kept : R → Chronicle) (dumps : R → List TableRows)
    → IfOk o (λ r. (kept r).f ≡ sc.f) → IfOk o (λ r. (kept r).sessions ≡ length sc.scripts) → IfOk o (λ r. length (dumps r) ≡ 2 * sc.f + 1)
    → IfOk o (λ r. IsRun locking sc (history_in (kept r)) (dumps r))
    → ((h : History) (rows : List TableRows) → IsRun locking sc h rows → Claims locking sc h rows)
    → ((h : History) (rows : List TableRows) → IsRun locking sc h rows → CallsStand sc h)
    → ((h : History) (rows : List TableRows) → IsRun locking sc h rows → IsQuiet sc → IsSmooth sc.f h)
    → IfOk o (λ r. IsExecution sc (kept r) (dumps r))
executes (Ok r) sc kept dumps f sessions all run claims calls smooth = record {
  size = (f, sessions);
  all = all;
  run = run;
  claims = claims (history_in (kept r)) (dumps r) run;
  calls = calls (history_in (kept r)) (dumps r) run;
  smooth = smooth (history_in (kept r)) (dumps r) run;
}
executes (Err e) sc kept dumps f sessions all run claims calls smooth = tt

pub reported : {S F : Type 0} (bytes : S → Text) (sc : Scenario) (c : Chronicle) (kinds : List EngineKind) (tries : List (List Try)) (dumps shown : List TableRows) (o : Result S F)
    → IsExecution sc c dumps → kinds ≡ sc.kinds → tries ≡ map (λ s. tries_of sc.retries s (history_in c)) (one_to c.sessions) → shown ≡ dumps
    → IfOk o (λ t. bytes t ≡ report_text kinds sc.catalog c tries shown) → IfOk o (λ t. IsReport sc (bytes t))
reported bytes sc c kinds tries dumps shown (Ok t) execution of_kinds of_tries same is = record {
  kept = c;
  dumps = dumps;
  execution = execution;
  is = is
      ∙ ap (λ (ks : List EngineKind). report_text ks sc.catalog c tries shown) of_kinds
      ∙ ap (λ (ts : List (List Try)). report_text sc.kinds sc.catalog c ts shown) (of_tries ∙ ap (λ (n : ℕ). map (λ s. tries_of sc.retries s (history_in c)) (one_to n)) execution.size.1)
      ∙ ap (λ (ds : List TableRows). report_text sc.kinds sc.catalog c (map (λ s. tries_of sc.retries s (history_in c)) (one_to (length sc.scripts))) ds) same;
}
reported bytes sc c kinds tries dumps shown (Err f) execution of_kinds of_tries same is = tt

pub summed_up : {S F : Type 0} (bytes : S → Text) (order : Order) (sc : Scenario) (c : Chronicle) (dumps shown : List TableRows) (o : Result S F)
    → IsExecution sc c dumps → shown ≡ dumps
    → IfOk o (λ t. bytes t ≡ summary_text order c shown) → IfOk o (λ t. IsSummary order sc (bytes t))
summed_up bytes order sc c dumps shown (Ok t) execution same is = record {
  kept = c;
  dumps = dumps;
  execution = execution;
  is = is ∙ ap (λ (ds : List TableRows). summary_text order c ds) same;
}
summed_up bytes order sc c dumps shown (Err f) execution same is = tt
