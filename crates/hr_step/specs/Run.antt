-- What the report of a scenario tells of.
use Rattle.std.specs.Prelude.{◌≡◌, ◌+◌, ◌*◌, List, length, map}
use Rattle.hr_base.specs.Lists.{one_to}
use Rattle.hr_base.specs.Texts.{Text}
use Rattle.hr_rel.specs.declared.stmt.Stmt.{Stmt}
use Rattle.hr_parts.specs.Parts.{Part}
use Rattle.hr_parts.specs.Footprints.{table_parts}
use Rattle.hr_parts.specs.Keys.{key_parts}
use Rattle.hr_lock_engine.specs.Conflicts.{by_parts}
use Rattle.hr_forms.specs.declared.line.EngineKind.{EngineKind}
use Rattle.hr_forms.specs.declared.line.EngineKind.TheVariants as kind
use Rattle.hr_said.specs.declared.scenario.Scenario.{Scenario}
use Rattle.hr_ledger.specs.Chronicle.{Chronicle, history_in}
use Rattle.hr_schedule.specs.declared.attempt.Try.{Try}
use Rattle.hr_schedule.specs.Tries.{tries_of}
use Rattle.hr_schedule.specs.Claims.{Locking, TableRows, IsRun, Claims}
use Rattle.hr_scripted.specs.Scripted.{CallsStand}
use Rattle.hr_undisturbed.specs.Quiet.{IsQuiet, IsSmooth}
use Rattle.hr_run_report.specs.Report.{report_text}
use Rattle.hr_generator.specs.declared.order.Order.{Order}
use Rattle.hr_summary.specs.Summary.{summary_text}

-- the rows that a statement needs at each kind of engine: whole tables, or intervals of keys
abbrev pub parts_at : EngineKind → Stmt → List Part
parts_at kind.ByTable stmt = table_parts stmt
parts_at kind.ByRange stmt = key_parts stmt

-- statements conflict at an engine where the rows that they need there meet
abbrev pub locking : Locking
locking kind = by_parts (parts_at kind)

-- the tries of each session of a kept history
abbrev pub tries_in : Scenario → Chronicle → List (List Try)
tries_in sc kept = map (λ s. tries_of sc.retries s (history_in kept)) (one_to (length sc.scripts))

-- A run of the scenario: one kept history that its choices make, over engines of its kinds behind its scripts, and the rows that
-- these engines have committed. All holds that is claimed of such runs, for the answers and for the rows. The calls of the
-- sessions stand as their scripts say, in order and once. Where nothing disturbs the replicas, the run is smooth.
pub record IsExecution (sc : Scenario) (kept : Chronicle) (dumps : List TableRows) : Type 0 where
  pub size : (kept.f ≡ sc.f) × (kept.sessions ≡ length sc.scripts)
  pub all : length dumps ≡ 2 * sc.f + 1
  pub run : IsRun locking sc (history_in kept) dumps
  pub claims : Claims locking sc (history_in kept) dumps
  pub calls : CallsStand sc (history_in kept)
  pub smooth : IsQuiet sc → IsSmooth sc.f (history_in kept)

-- the text is the report of a run of the scenario
pub record IsReport (sc : Scenario) (text : Text) : Type 0 where
  pub kept : Chronicle
  pub dumps : List TableRows
  pub execution : IsExecution sc kept dumps
  pub is : text ≡ report_text sc.kinds sc.catalog kept (tries_in sc kept) dumps

-- the text is the summary of a run of the scenario, which was made by this order
pub record IsSummary (order : Order) (sc : Scenario) (text : Text) : Type 0 where
  pub kept : Chronicle
  pub dumps : List TableRows
  pub execution : IsExecution sc kept dumps
  pub is : text ≡ summary_text order kept dumps
