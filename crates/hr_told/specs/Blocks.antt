-- The blocks of a scenario that a report tells of.
use Rattle.std.specs.Prelude.{◌≡◌, ℕ, List, length, map, Option, Some}
use Rattle.std.specs.Option.{option_map, option_and_then}
use Rattle.std.specs.List.{AllByRecursion}
use Rattle.hr_base.specs.Lists.{numbered}
use Rattle.hr_rel.specs.declared.answer.Answer.{Answer}
use Rattle.hr_rel.specs.declared.stmt.Stmt.{Stmt}
use Rattle.hr_answer.specs.Canonical.{IsCanonical}
use Rattle.hr_said.specs.declared.scenario.Scenario.{Scenario}
use Rattle.hr_said.specs.declared.scenario.Block.{Block}
use Rattle.hr_told.specs.declared.ToldCommit.{ToldCommit}

-- the statements of the block with this number, of the session with this number, both from 1
abbrev pub block_of : Scenario → ℕ → ℕ → Option (List Stmt)
block_of sc session block =
    option_and_then (λ script. option_map (λ (b : Block). b.stmts) (numbered script block)) (numbered sc.scripts session)

-- A commit tells of a block of the scenario, these its statements, and has an answer in canonical form for each of them.
abbrev pub TellsOf : Scenario → ToldCommit → List Stmt → Type 0
TellsOf sc commit stmts =
    (block_of sc commit.session commit.block ≡ Some stmts) × (length commit.answers ≡ length stmts) × AllByRecursion IsCanonical commit.answers

-- each commit tells of a block of the scenario
abbrev pub AreOf : Scenario → List ToldCommit → Type 0
AreOf sc commits = AllByRecursion (λ (c : ToldCommit). (stmts : List Stmt) × TellsOf sc c stmts) commits
