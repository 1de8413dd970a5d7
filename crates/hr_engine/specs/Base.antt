-- What a journal tells of the database: which commits count, and what they leave.
use Rattle.std.specs.Prelude.{◌≡◌, ◌⊎◌, ℕ, ◌+◌, Bool, true, false, ◌==◌, if◌then◌else◌, Option, Some, None, IsSome, List, [], ◌∷◌, ◌++◌, length, option_to_list}
use Rattle.std.specs.Option.{option_map}
use Rattle.hr_base.specs.Lists.{when}
use Rattle.hr_base.specs.Counters.{shown}
use Rattle.hr_rel.specs.declared.stmt.Stmt.{Stmt}
use Rattle.hr_rel.specs.Database.{Database}
use Rattle.hr_meaning.specs.Serial.{play, database_after}
use Rattle.hr_engine.specs.Journal.{Call, Ran, Committed, RolledBack, Restarted, Journal}
use Rattle.hr_engine.specs.Effects.{Settling, settling_of}
use Rattle.hr_engine.specs.Effects as does
use Rattle.hr_engine.specs.Attempts.{RanStmt, attempt, statements}

-- What a journal settles.
pub record Settled : Type 0 where
  -- the statements of each commit that counts, in order
  pub commits : List (List Stmt)
  -- the statements of the commit in doubt, if there is one
  pub doubt : Option (List Stmt)
  -- whether a loss lasts
  pub lost : Bool

-- one more commit counts
abbrev pub and_commit : List Stmt → Settled → Settled
and_commit stmts s = record { commits = s.commits ++ stmts ∷ []; doubt = s.doubt; lost = s.lost }

-- A loss begins, or one that began earlier lasts. Where it begins at a commit, that commit is in doubt.
abbrev pub at_loss : Option (List Stmt) → Settled → Settled
at_loss doubt s = record { commits = s.commits; doubt = if s.lost then s.doubt else doubt; lost = true }

-- the commit in doubt counts where the restart told one commit more than those that count
abbrev pub with_doubt : ℕ → Option (List Stmt) → List (List Stmt) → List (List Stmt)
with_doubt told None commits = commits
with_doubt told (Some stmts) commits = if told == shown (length commits + 1) then commits ++ stmts ∷ [] else commits

-- A restart ends a loss, and settles the commit in doubt.
abbrev pub at_restart : ℕ → Settled → Settled
at_restart told s = record { commits = with_doubt told s.doubt s.commits; doubt = None; lost = false }

-- what a call makes of what was settled, where its transaction's attempt had these statements
abbrev pub next_settled : Settling → List Stmt → Settled → Settled
next_settled does.Counts stmts s = and_commit stmts s
next_settled (does.Loses at_commit) stmts s = at_loss (when at_commit stmts) s
next_settled (does.Tells told) stmts s = at_restart told s
next_settled does.Keeps stmts s = s

-- the attempt that a call is about
abbrev pub attempt_at : Call → Journal → List RanStmt
attempt_at (Ran t stmt reply) journal = attempt t journal
attempt_at (Committed t reply) journal = attempt t journal
attempt_at (RolledBack t reply) journal = attempt t journal
attempt_at (Restarted told) journal = []

-- A commit answered Done counts. A loss begins at a reply Lost and lasts until a restart answered Ok. A commit at which
-- it begins is in doubt as long; the restart that ends the loss settles whether it counts.
abbrev pub settled : Journal → Settled
settled [] = record { commits = []; doubt = None; lost = false }
settled (call ∷ before) = next_settled (settling_of call) (statements (attempt_at call before)) (settled before)

-- how many commits count
abbrev pub count : Journal → ℕ
count journal = length (settled journal).commits

-- the database after the commits that count, one after another
abbrev pub base : Database → Journal → Database
base db journal = database_after db (settled journal).commits

-- the databases that may stand behind the journal: the base and, while a commit is in doubt, the base after that commit
abbrev pub bases : Database → Journal → List Database
bases db journal = base db journal ∷ option_to_list (option_map (λ stmts. (play (base db journal) stmts).after) (settled journal).doubt)

-- a restart tells how many commits count, or one more while a commit is in doubt
abbrev pub IsSoundCount : ℕ → Journal → Type 0
IsSoundCount told journal = (told ≡ shown (count journal)) ⊎ (IsSome (settled journal).doubt × (told ≡ shown (count journal + 1)))
