-- What the steps of a run tell each other. It needn't be believed: what is promised of the whole doesn't cite it.
use Rattle.std.specs.Prelude.{◌≡◌, ℕ, List, ◌∷◌}
use Rattle.hr_rel.specs.Database.{Database}
use Rattle.hr_engine.specs.Journal.{Journal}
use Rattle.hr_engine.specs.Base.{base}
use Rattle.hr_engine.specs.Rigorous.{Rigorous}
use Rattle.hr_engine.specs.Exact.{Exact}
use Rattle.hr_engine.specs.Backend.{Standing}
use Rattle.hr_faulty.specs.declared.script.Fault.{Fault}
use Rattle.hr_faulty.specs.Make.{make_over}
use Rattle.hr_forms.specs.declared.line.EngineKind.{EngineKind}
use Rattle.hr_forms.specs.declared.line.EngineKind.TheVariants as kind
use Rattle.hr_schedule.specs.Claims.{Conflict, TableRows, IsTold}
use Rattle.hr_step.specs.Run.{locking}

-- the number by which the make of an engine tells its kind
abbrev pub kind_number : EngineKind → ℕ
kind_number kind.ByTable = 0
kind_number kind.ByRange = 1

-- a make is that of an engine of this kind
abbrev pub IsOfKind : EngineKind → List ℕ → Type 0
IsOfKind kind make = (rest : List ℕ) × (make ≡ kind_number kind ∷ rest)

-- a make is that of an engine of this kind, behind this script
abbrev pub IsBehind : EngineKind → List Fault → List ℕ → Type 0
IsBehind kind script make = (rest : List ℕ) × (make ≡ make_over (kind_number kind ∷ rest) script)

-- An engine's journal is exact and rigorous, and this is what it has committed.
pub record IsKept (conflict : Conflict) (committed start : Database) (journal : Journal) : Type 0 where
  pub exact : Exact conflict journal
  pub rigorous : Rigorous start journal
  pub base : committed ≡ base start journal

-- Whatever engine behind whatever script a backend is, each journal that it stands for is told by these, and so are the rows.
abbrev pub Shows : {B : Type 0} → (B → List ℕ) → (B → Standing) → B → TableRows → Type 0
Shows make stands b rows =
    (kind : EngineKind) (script : List Fault) (start : Database) (journal : Journal) → IsBehind kind script (make b) → stands b start journal → IsTold (locking kind) script start journal rows
