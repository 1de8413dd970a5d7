-- What every history keeps of each replica's part.
use Rattle.std.specs.Prelude.{◌≡◌, ℕ, ◌+◌, true, false, Option, Some, List, [], ◌∷◌, ◌++◌, length, map, slice_get}
use Rattle.hr_rel.specs.declared.stmt.Stmt.{Stmt}
use Rattle.hr_engine.specs.Journal.{Journal}
use Rattle.hr_engine.specs.Attempts.{attempt, statements}
use Rattle.hr_engine.specs.Base.{settled, count}
use Rattle.hr_history.specs.declared.job.Job.{Job}
use Rattle.hr_history.specs.declared.job.Job.TheVariants as job
use Rattle.hr_history.specs.History.{History}
use Rattle.hr_history.specs.Transactions.{log, submits}
use Rattle.hr_history.specs.Replicas.{out_at, journal_of}

-- a list is the beginning of another
abbrev pub Begins : {X : Type 0} → List X → List X → Type 0
Begins {X} front all = (rest : List X) × (front ++ rest ≡ all)

-- Of these submitted statements, this log, the job that is out, and the journal.
pub record AtReplica (submitted : ℕ → List Stmt) (decided : List ℕ) (out : Option Job) (journal : Journal) : Type 0 where
  -- an attempt's statements are the first that were submitted
  pub attempts : (t : ℕ) → Begins (statements (attempt t journal)) (submitted t)
  -- the statement that is out is the next of the attempt
  pub runs : (t i : ℕ) → out ≡ Some (job.Run t i) → i ≡ length (attempt t journal) + 1
  -- the transaction whose commit is out is the next of the log, and all its statements are in its attempt
  pub commits : (t : ℕ) → out ≡ Some (job.Commit t) → (slice_get decided (count journal) ≡ Some t) × (length (attempt t journal) ≡ length (submitted t))
  -- a replica that is lost is given a restart alone, and no other is
  pub live : (j : Job) → out ≡ Some j → (j ≡ job.Restart → ⊥) → (settled journal).lost ≡ false
  pub lost : out ≡ Some job.Restart → (settled journal).lost ≡ true
  -- its commits begin the log, statement by statement
  pub base : Begins (settled journal).commits (map submitted decided)
  -- and a commit in doubt is the next one
  pub doubt : (stmts : List Stmt) → (settled journal).doubt ≡ Some stmts → Begins ((settled journal).commits ++ stmts ∷ []) (map submitted decided)

abbrev pub AtReplicaAt : ℕ → History → Type 0
AtReplicaAt r h = AtReplica (λ t. submits t h) (log h) (out_at r h) (journal_of r h)
