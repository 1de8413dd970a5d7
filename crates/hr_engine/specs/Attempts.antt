-- What a journal tells of each transaction: its attempt, and whether it is running.
use Rattle.std.specs.Prelude.{ℕ, Bool, not, List, [], ◌∷◌, map, IsTrue}
use Rattle.hr_rel.specs.declared.answer.Answer.{Answer}
use Rattle.hr_rel.specs.declared.stmt.Stmt.{Stmt}
use Rattle.hr_base.specs.Lists.{is_empty}
use Rattle.hr_engine.specs.Journal.{Journal}
use Rattle.hr_engine.specs.Effects.{Effect, effect_of, next_items}

-- A statement that was answered Done, with its answer.
pub record RanStmt : Type 0 where
  pub stmt : Stmt
  pub answer : Answer

abbrev pub statements : List RanStmt → List Stmt
statements steps = map (λ (s : RanStmt). s.stmt) steps

abbrev pub answers : List RanStmt → List Answer
answers steps = map (λ (s : RanStmt). s.answer) steps

abbrev pub next_attempt : ℕ → Effect → List RanStmt → List RanStmt
next_attempt t effect steps = next_items t (λ stmt answer. record { stmt = stmt; answer = answer }) effect steps

-- the attempt of a transaction: its statements that were answered Done, with their answers, in order, since it was last
-- committed or rolled back, and since the backend's last loss and last restart
abbrev pub attempt : ℕ → Journal → List RanStmt
attempt t [] = []
attempt t (call ∷ before) = next_attempt t (effect_of call) (attempt t before)

-- a transaction is running where its attempt has a statement
abbrev pub is_running : ℕ → Journal → Bool
is_running t journal = not (is_empty (attempt t journal))

abbrev pub IsRunning : ℕ → Journal → Type 0
IsRunning t journal = IsTrue (is_running t journal)
