-- Laws of serial runs.
use Rattle.std.proofs.Common.{◌≡◌, List, [], ◌∷◌, ◌++◌, refl, ap}
use Rattle.hr_rel.specs.declared.stmt.Stmt.{Stmt}
use Rattle.hr_rel.specs.Database.{Database}
use Rattle.hr_meaning.specs.Exec.{exec}
use Rattle.hr_meaning.specs.Serial.{Played, play, database_after}

-- two lists of statements played one after the other
abbrev pub then_played : Played → Played → Played
then_played first rest = record { after = rest.after; answers = first.answers ++ rest.answers }

pub play-append : (db : Database) (first rest : List Stmt) → play db (first ++ rest) ≡ then_played (play db first) (play (play db first).after rest)
play-append db [] rest = refl
play-append db (s ∷ first) rest =
    ap (λ (p : Played). record { after = p.after; answers = (exec db s).answer ∷ p.answers }) (play-append (exec db s).after first rest)

pub database_after-append : (db : Database) (log more : List (List Stmt)) → database_after db (log ++ more) ≡ database_after (database_after db log) more
database_after-append db [] more = refl
database_after-append db (stmts ∷ log) more = database_after-append (play db stmts).after log more
