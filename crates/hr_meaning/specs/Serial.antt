-- Transactions, and serial runs of them.
use Rattle.std.specs.Prelude.{ℕ, List, [], ◌∷◌, take}
use Rattle.hr_rel.specs.declared.answer.Answer.{Answer}
use Rattle.hr_rel.specs.declared.stmt.Stmt.{Stmt}
use Rattle.hr_rel.specs.Database.{Database}
use Rattle.hr_meaning.specs.Exec.{exec}

-- The database after some statements, and their answers in order.
pub record Played : Type 0 where
  pub after : Database
  pub answers : List Answer

-- a transaction: its statements one after another, each on the database that the one before left
abbrev pub play : Database → List Stmt → Played
play db [] = record { after = db; answers = [] }
play db (s ∷ stmts) =
    let rest = play (exec db s).after stmts in
    record { after = rest.after; answers = (exec db s).answer ∷ rest.answers }

-- the database after a serial run: the transactions of a log one after another
abbrev pub database_after : Database → List (List Stmt) → Database
database_after db [] = db
database_after db (stmts ∷ log) = database_after (play db stmts).after log

-- the answers of a serial run, transaction by transaction
abbrev pub serial_answers : Database → List (List Stmt) → List (List Answer)
serial_answers db [] = []
serial_answers db (stmts ∷ log) = (play db stmts).answers ∷ serial_answers (play db stmts).after log

-- the database after the first k transactions of a log
abbrev pub database_at : Database → List (List Stmt) → ℕ → Database
database_at db log k = database_after db (take k log)
