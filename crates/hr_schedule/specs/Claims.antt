-- What is claimed of a history that a scenario's choices have made, and of the rows that its replicas then hold.
use Rattle.std.specs.Prelude.{◌≡◌, ◌⊎◌, ℕ, ◌+◌, ◌*◌, ◌≤◌, Bool, true, false, List, [], length, filter, unwrap_or, slice_get, is_some, IsTrue}
use Rattle.hr_rel.specs.declared.value.Value.{Value}
use Rattle.hr_rel.specs.declared.stmt.Stmt.{Stmt}
use Rattle.hr_rel.specs.Database.{Database}
use Rattle.hr_meaning.specs.Serial.{database_at}
use Rattle.hr_engine.specs.Journal.{Journal}
use Rattle.hr_engine.specs.Base.{base, settled}
use Rattle.hr_engine.specs.Rigorous.{Rigorous}
use Rattle.hr_engine.specs.Exact.{Exact}
use Rattle.hr_faulty.specs.declared.script.Fault.{Fault}
use Rattle.hr_faulty.specs.Script.{lies, names_calls}
use Rattle.hr_faulty.specs.Told.{Scripted}
use Rattle.hr_forms.specs.declared.line.EngineKind.{EngineKind}
use Rattle.hr_forms.specs.declared.line.EngineKind.TheVariants as kind
use Rattle.hr_said.specs.declared.scenario.Scenario.{Scenario}
use Rattle.hr_history.specs.History.{History}
use Rattle.hr_history.specs.Transactions.{log}
use Rattle.hr_history.specs.Replicas.{journal_of, position_of}
use Rattle.hr_history.specs.Faithful.{Faithful}
use Rattle.hr_serial.specs.Prefix.{log_statements}
use Rattle.hr_serial.specs.Serial.{AreSerial}
use Rattle.hr_schedule.specs.Choices.{Chosen}

-- the rows of each table
abbrev pub TableRows : Type 0
TableRows = List (List (List Value))

-- which statements conflict, at an engine
abbrev pub Conflict : Type 0
Conflict = Stmt → Stmt → Bool

-- The journal is what a script makes of that of an engine within: one whose replies are exact and rigorous, from this start.
-- The script names calls that a counter tells apart.
-- The rows are those that this engine has committed.
pub record IsTold (conflict : Conflict) (script : List Fault) (start : Database) (journal : Journal) (rows : TableRows) : Type 0 where
  pub named : IsTrue (names_calls script)
  pub within : Journal
  pub told : Scripted script within journal
  pub exact : Exact conflict within
  pub rigorous : Rigorous start within
  pub shown : rows ≡ (base start within).tables

-- The rows are those of the database after the first transactions of the log, run alone one after another: as many as
-- replica r has committed or, while a commit is in doubt there, one more.
pub record HoldsPrefix (start : Database) (h : History) (r : ℕ) (dump : TableRows) : Type 0 where
  pub k : ℕ
  pub at : (k ≡ position_of r h) ⊎ (is_some (settled (journal_of r h)).doubt ≡ true) × (k ≡ position_of r h + 1)
  pub within : k ≤ length (log h)
  pub shown : dump ≡ (database_at start (log_statements h) k).tables

-- how each kind of engine locks
abbrev pub Locking : Type 0
Locking = EngineKind → Conflict

-- the rows of replica r
abbrev pub rows_at : List TableRows → ℕ → TableRows
rows_at dumps r = unwrap_or (slice_get dumps r) []

module _ (locking : Locking) (sc : Scenario) where
  -- the database that every replica begins with
  abbrev pub start : Database
  start = record { catalog = sc.catalog; tables = sc.rows }

  abbrev pub kind_of : ℕ → EngineKind
  kind_of r = unwrap_or (slice_get sc.kinds r) kind.ByTable

  abbrev pub script_of : ℕ → List Fault
  script_of r = unwrap_or (slice_get sc.faults r) []

  -- The history follows the rules, it is what the scenario's choices make, and each replica's part is what its script makes of
  -- an engine of its kind; the rows are those of these engines.
  pub record IsRun (h : History) (dumps : List TableRows) : Type 0 where
    pub faithful : Faithful sc.f (length sc.scripts) h
    pub chosen : Chosen sc h
    pub told : (r : ℕ) → r ≤ 2 * sc.f → IsTold (locking (kind_of r)) (script_of r) start (journal_of r h) (rows_at dumps r)

  -- at most f replicas have a script with an act that is a lie
  abbrev pub FewLie : Type 0
  FewLie = length (filter lies sc.faults) ≤ sc.f

  -- What follows for the answers and the rows. If few lie, the answers accepted for the committed transactions are those of
  -- one engine that runs these alone, in the order of their commits. Each replica whose script has no lie, whatever the
  -- others do, holds the database after the first of these.
  pub record Claims (h : History) (dumps : List TableRows) : Type 0 where
    pub serial : FewLie → AreSerial start h
    pub prefix : (r : ℕ) → r ≤ 2 * sc.f → lies (script_of r) ≡ false → HoldsPrefix start h r (rows_at dumps r)
