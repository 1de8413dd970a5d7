-- The answers that a report tells, and those that are due.
use Rattle.std.specs.Prelude.{List, [], map, unwrap_or}
use Rattle.hr_rel.specs.declared.answer.Answer.{Answer}
use Rattle.hr_rel.specs.declared.stmt.Stmt.{Stmt}
use Rattle.hr_rel.specs.Database.{Database}
use Rattle.hr_meaning.specs.Serial.{serial_answers}
use Rattle.hr_said.specs.declared.scenario.Scenario.{Scenario}
use Rattle.hr_told.specs.declared.ToldCommit.{ToldCommit}
use Rattle.hr_told.specs.Blocks.{block_of}

-- the database that the scenario begins with
abbrev pub start : Scenario → Database
start sc = record { catalog = sc.catalog; tables = sc.rows }

-- the statements of the block that a commit tells of
abbrev pub statements_of : Scenario → ToldCommit → List Stmt
statements_of sc c = unwrap_or (block_of sc c.session c.block) []

-- the answers that are told, commit by commit
abbrev pub told : List ToldCommit → List (List Answer)
told commits = map (λ (c : ToldCommit). c.answers) commits

-- the answers that are due: those of the told blocks run alone on this database, one after another in the told order
abbrev pub due_from : Scenario → Database → List ToldCommit → List (List Answer)
due_from sc db commits = serial_answers db (map (statements_of sc) commits)

abbrev pub due : Scenario → List ToldCommit → List (List Answer)
due sc commits = due_from sc (start sc) commits
