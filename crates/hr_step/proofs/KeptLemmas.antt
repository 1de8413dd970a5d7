-- What an engine, and a backend that has it behind a script, tells by what it stands for.
use Rattle.std.proofs.Common.{◌≡◌, ℕ, Bool, true, List, ◌∷◌, refl, ap, ◌∙◌, sym, subst}
use Rattle.std.specs.Prelude.{IsTrue, IfOk, Result, Ok, Err}
use Rattle.hr_rel.specs.declared.stmt.Stmt.{Stmt}
use Rattle.hr_rel.specs.Database.{Database}
use Rattle.hr_engine.specs.Journal.{Journal}
use Rattle.hr_engine.specs.Backend.{Standing}
use Rattle.hr_locks.specs.declared.need.Need.{Need}
use Rattle.hr_locks.specs.Table.{Table}
use Rattle.hr_parts.specs.Parts.{Part}
use Rattle.hr_parts.specs.Footprints.{table_parts}
use Rattle.hr_parts.specs.Keys.{key_parts}
use Rattle.hr_lock_engine.specs.Conflicts.{by_parts}
use Rattle.hr_lock_engine.specs.Views.{Seen}
use Rattle.hr_lock_engine.specs.Keeps.{Keeps}
use Rattle.hr_engines.specs.declared.engine.Engine.{Engine}
use Rattle.hr_engines.specs.declared.engine.Engine.TheVariants as engine
use Rattle.hr_engines.specs.Kinds.{by_kind, MatchKind, make_of}
use Rattle.hr_faulty.specs.declared.script.Fault.{Fault}
use Rattle.hr_faulty.specs.Script.{names_calls}
use Rattle.hr_faulty.specs.Told.{Scripted}
use Rattle.hr_faulty.specs.Make.{make_over}
use Rattle.hr_faulty.specs.MakeTells.{one_make}
use Rattle.hr_faulty.specs.Wraps.{Wraps}
use Rattle.hr_forms.specs.declared.line.EngineKind.{EngineKind}
use Rattle.hr_forms.specs.declared.line.EngineKind.TheVariants as kind
use Rattle.hr_schedule.specs.Claims.{TableRows, IsTold}
use Rattle.hr_step.specs.Run.{locking}
use Rattle.hr_step.specs.Within.{kind_number, IsOfKind, IsBehind, IsKept}

-- an engine that locks what statements need
pub lock_engine_keeps : {N : Type 0} (covered : Need N → Part) (parts : Stmt → List Part) (committed : Database) (seen_by : Seen) (table : Table N) (told : ℕ) (start : Database) (journal : Journal)
    → Keeps covered parts committed seen_by table told start journal → IsKept (by_parts parts) committed start journal
lock_engine_keeps covered parts committed seen_by table told start journal h = record { exact = h.tells.exact; rigorous = h.tells.rigorous; base = h.stored.base }

-- one of the two engines
pub engine_keeps : {T R : Type 0} (make_t : T → List ℕ) (make_r : R → List ℕ) (stands_t : T → Standing) (stands_r : R → Standing) (base_t : T → Database) (base_r : R → Database)
    → ((t : T) (start : Database) (journal : Journal) → stands_t t start journal → IsKept (by_parts table_parts) (base_t t) start journal)
    → ((r : R) (start : Database) (journal : Journal) → stands_r r start journal → IsKept (by_parts key_parts) (base_r r) start journal)
    → (e : Engine T R) (k : EngineKind) → IsOfKind k (make_of make_t make_r e) → (start : Database) (journal : Journal) → MatchKind e (λ t. stands_t t start journal) (λ r. stands_r r start journal)
    → IsKept (locking k) (by_kind base_t base_r e) start journal
engine_keeps make_t make_r stands_t stands_r base_t base_r keeps_t keeps_r (engine.Table t) kind.ByTable made start journal stood = keeps_t t start journal stood
engine_keeps make_t make_r stands_t stands_r base_t base_r keeps_t keeps_r (engine.Table t) kind.ByRange made start journal stood = cc made.1
engine_keeps make_t make_r stands_t stands_r base_t base_r keeps_t keeps_r (engine.Range r) kind.ByTable made start journal stood = cc made.1
engine_keeps make_t make_r stands_t stands_r base_t base_r keeps_t keeps_r (engine.Range r) kind.ByRange made start journal stood = keeps_r r start journal stood

-- a backend with an engine behind a script, of which these are the rows
pub backend_shows : (stands : Standing) (make : List ℕ) (committed : Database) (script : List Fault) (calls : ℕ) (lost : Bool) (rows : TableRows)
    → ((k : EngineKind) → IsOfKind k make → (start : Database) (journal : Journal) → stands start journal → IsKept (locking k) committed start journal)
    → rows ≡ committed.tables
    → (k : EngineKind) (named : List Fault) (start : Database) (journal : Journal) → IsBehind k named (make_over make script) → Wraps stands script calls lost start journal
    → IsTold (locking k) named start journal rows
backend_shows stands make committed script calls lost rows keeps is k named start journal made wraps =
    let same = one_make make (kind_number k ∷ made.0) script named made.1 in
    let kept = keeps k (made.0, same.0) start wraps.within wraps.stood in
    record {
      named = subst (λ (s : List Fault). IsTrue (names_calls s)) same.1 wraps.named;
      within = wraps.within;
      told = subst (λ (s : List Fault). Scripted s wraps.within journal) same.1 wraps.told;
      exact = kept.exact;
      rigorous = kept.rigorous;
      shown = is ∙ ap (λ (db : Database). db.tables) kept.base;
    }

-- both engines are honest
pub both_honest : {T R : Type 0} (e : Engine T R) → by_kind (λ t. true) (λ r. true) e ≡ true
both_honest (engine.Table t) = refl
both_honest (engine.Range r) = refl

-- a kind that is this one
pub of_kind : (k j : EngineKind) (rest : List ℕ) → j ≡ k → IsOfKind j (kind_number k ∷ rest)
of_kind k j rest e = (rest, ap (λ (i : EngineKind). kind_number i ∷ rest) (sym e))

-- an engine of a kind, behind a script
pub is_behind : (k j : EngineKind) (script named : List Fault) (within made : List ℕ) → IsOfKind k within → made ≡ make_over within script → k ≡ j → script ≡ named → IsBehind j named made
is_behind k j script named within made of_k is kinds scripts =
    (of_k.0, is ∙ ap (λ (m : List ℕ). make_over m script) of_k.1 ∙ ap (λ (i : EngineKind). make_over (kind_number i ∷ of_k.0) script) kinds ∙ ap (λ (s : List Fault). make_over (kind_number j ∷ of_k.0) s) scripts)

-- rows that one of two engines has committed, behind a script
pub rows_shown : {T R F : Type 0} (make_t : T → List ℕ) (make_r : R → List ℕ) (stands_t : T → Standing) (stands_r : R → Standing) (base_t : T → Database) (base_r : R → Database)
    → ((t : T) (start : Database) (journal : Journal) → stands_t t start journal → IsKept (by_parts table_parts) (base_t t) start journal)
    → ((r : R) (start : Database) (journal : Journal) → stands_r r start journal → IsKept (by_parts key_parts) (base_r r) start journal)
    → (e : Engine T R) (script : List Fault) (calls : ℕ) (lost : Bool) (o : Result TableRows F) → IfOk o (λ rows. rows ≡ (by_kind base_t base_r e).tables)
    → IfOk o (λ rows. (k : EngineKind) (named : List Fault) (start : Database) (journal : Journal) → IsBehind k named (make_over (make_of make_t make_r e) script)
    → Wraps (λ since calls. MatchKind e (λ t. stands_t t since calls) (λ r. stands_r r since calls)) script calls lost start journal → IsTold (locking k) named start journal rows)
rows_shown make_t make_r stands_t stands_r base_t base_r keeps_t keeps_r e script calls lost (Ok rows) is =
    backend_shows (λ since calls. MatchKind e (λ t. stands_t t since calls) (λ r. stands_r r since calls)) (make_of make_t make_r e) (by_kind base_t base_r e) script calls lost rows
    (engine_keeps make_t make_r stands_t stands_r base_t base_r keeps_t keeps_r e) is
rows_shown make_t make_r stands_t stands_r base_t base_r keeps_t keeps_r e script calls lost (Err f) is = tt
