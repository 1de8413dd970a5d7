-- What one more call makes of the base.
use Rattle.std.proofs.Common.{◌≡◌, ℕ, ◌+◌, ◌≤◌, Bool, true, false, cond, ◌==◌, Option, Some, None, Ok, Err, List, [], ◌∷◌, ◌++◌, length, refl, ap, arith, length-append}
use Rattle.hr_rel.specs.declared.stmt.Stmt.{Stmt}
use Rattle.hr_rel.specs.Database.{Database}
use Rattle.hr_meaning.specs.Serial.{play}
use Rattle.hr_engine.specs.declared.reply.RunReply.TheVariants as run
use Rattle.hr_engine.specs.declared.reply.EndReply.TheVariants as end
use Rattle.hr_engine.specs.Journal.{Ran, Committed, RolledBack, Restarted, Journal}
use Rattle.hr_engine.specs.Effects.{Settling, settling_of}
use Rattle.hr_engine.specs.Effects as does
use Rattle.hr_engine.specs.Attempts.{attempt, statements}
use Rattle.hr_engine.specs.Base.{Settled, settled, next_settled, attempt_at, with_doubt, count, base}
use Rattle.hr_base.specs.Counters.{shown}
use Rattle.hr_engine.proofs.SerialLaws.{database_after-append}

module _ (journal : Journal) (t : ℕ) where
  -- a commit answered Done counts
  pub count-committed : count (Committed t end.Done ∷ journal) ≡ count journal + 1
  count-committed = length-append (settled journal).commits (statements (attempt t journal) ∷ [])

  -- and plays the statements of the attempt
  pub base-committed : (db : Database) → base db (Committed t end.Done ∷ journal) ≡ (play (base db journal) (statements (attempt t journal))).after
  base-committed db = database_after-append db (settled journal).commits (statements (attempt t journal) ∷ [])

-- a restart with no commit in doubt leaves the commits as they are
pub commits-restarted : (journal : Journal) (told : ℕ) → (settled journal).doubt ≡ None → (settled (Restarted (Ok told) ∷ journal)).commits ≡ (settled journal).commits
commits-restarted journal told none = ap (λ d. with_doubt told d (settled journal).commits) none

-- outside a loss no commit is in doubt
pub no_doubt : (journal : Journal) → (settled journal).lost ≡ false → (settled journal).doubt ≡ None
no_doubt [] h = refl
no_doubt (Ran t s (run.Done answer) ∷ before) h = no_doubt before h
no_doubt (Ran t s (run.Blocked named) ∷ before) h = no_doubt before h
no_doubt (Ran t s (run.Deadlock cycle) ∷ before) h = no_doubt before h
no_doubt (Ran t s run.Lost ∷ before) h = cc
no_doubt (Ran t s run.NoMemory ∷ before) h = no_doubt before h
no_doubt (Committed t end.Done ∷ before) h = no_doubt before h
no_doubt (Committed t end.Lost ∷ before) h = cc
no_doubt (RolledBack t end.Done ∷ before) h = no_doubt before h
no_doubt (RolledBack t end.Lost ∷ before) h = cc
no_doubt (Restarted (Ok told) ∷ before) h = refl
no_doubt (Restarted (Err lost) ∷ before) h = cc

with_doubt_le : (told : ℕ) (d : Option (List Stmt)) (commits : List (List Stmt)) → length (with_doubt told d commits) ≤ length commits + 1
with_doubt_le told None commits = omega arith
with_doubt_le told (Some stmts) commits = by_test (told == shown (length commits + 1))
  where
    by_test : (b : Bool) → length (cond b (commits ++ stmts ∷ []) commits) ≤ length commits + 1
    by_test true = omega (arith, length-append commits (stmts ∷ []))
    by_test false = omega arith

-- a call makes at most one commit count
count_step : (settling : Settling) (stmts : List Stmt) (s : Settled) → length (next_settled settling stmts s).commits ≤ length s.commits + 1
count_step does.Counts stmts s = omega (arith, length-append s.commits (stmts ∷ []))
count_step (does.Loses at_commit) stmts s = omega arith
count_step (does.Tells told) stmts s = with_doubt_le told s.doubt s.commits
count_step does.Keeps stmts s = omega arith

-- no more commits count than calls were made
pub count_le : (journal : Journal) → count journal ≤ length journal
count_le [] = omega arith
count_le (call ∷ before) = omega (arith, count_le before, count_step (settling_of call) (statements (attempt_at call before)) (settled before))
