-- A replica at a prefix of the log.
use Rattle.std.specs.Prelude.{◌≡◌, ◌⊎◌, ℕ, ◌+◌, ◌≤◌, Some, Contains, List, length, map, take, slice_get}
use Rattle.hr_rel.specs.declared.stmt.Stmt.{Stmt}
use Rattle.hr_rel.specs.Database.{Database}
use Rattle.hr_meaning.specs.Serial.{database_at}
use Rattle.hr_engine.specs.Base.{settled, base, bases}
use Rattle.hr_history.specs.History.{History}
use Rattle.hr_history.specs.Transactions.{log, submits}
use Rattle.hr_history.specs.Replicas.{journal_of, position_of}

-- the statements of the log's transactions, in the order of the log
abbrev pub log_statements : History → List (List Stmt)
log_statements h = map (λ t. submits t h) (log h)

-- The replica has committed the first transactions of the log, as many as its position says, each with its statements as
-- they were submitted. A commit in doubt is the next one. From any start its base is the database after those.
pub record IsAtPrefix (h : History) (r : ℕ) : Type 0 where
  pub within : position_of r h ≤ length (log h)
  pub commits : (settled (journal_of r h)).commits ≡ take (position_of r h) (log_statements h)
  pub doubt : (stmts : List Stmt) → (settled (journal_of r h)).doubt ≡ Some stmts → slice_get (log_statements h) (position_of r h) ≡ Some stmts
  pub base : (db : Database) → base db (journal_of r h) ≡ database_at db (log_statements h) (position_of r h)
  -- so what may stand behind its journal is the database after those, or after one more
  pub bases : (db d : Database) → Contains (bases db (journal_of r h)) d → (d ≡ database_at db (log_statements h) (position_of r h)) ⊎ (d ≡ database_at db (log_statements h) (position_of r h + 1))
