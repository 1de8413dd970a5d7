-- What every history keeps of numbers and phases.
use Rattle.std.specs.Prelude.{◌≡◌, ◌↔◌, ℕ, ◌+◌, ◌≤◌, Bool, true, false, Option, Some, List, length}
use Rattle.hr_base.specs.Lists.{numbered}
use Rattle.hr_history.specs.declared.job.Job.{Job}
use Rattle.hr_history.specs.declared.job.Job.TheVariants as job
use Rattle.hr_history.specs.declared.phase.Phase.{Phase}
use Rattle.hr_history.specs.declared.phase.Phase.TheVariants as phase
use Rattle.hr_history.specs.History.{History}
use Rattle.hr_history.specs.Transactions.{begun, log, submits, phase_of, is_open}
use Rattle.hr_history.specs.Replicas.{out_at}
use Rattle.hr_history.specs.Given.{given_to}
use Rattle.hr_history.specs.Replies.{is_waiting, reply_to}

-- t is one of the first n numbers
abbrev pub IsBorn : ℕ → ℕ → Type 0
IsBorn n t = (1 ≤ t) × (t ≤ n)

-- How many statements were submitted and how many answers given, by the phase. An active transaction has at most one
-- statement without an answer, and none where its session waits for no reply. One whose commit was asked for has none, and
-- its session waits; a decided one has none; of an ended one there may be more statements than answers.
abbrev pub IsBalanced : Phase → ℕ → ℕ → Bool → Type 0
IsBalanced phase.Active submitted given waits = (given ≤ submitted) × (submitted ≤ given + 1) × (waits ≡ false → submitted ≡ given)
IsBalanced (phase.Asked n) submitted given waits = (submitted ≡ given) × (waits ≡ true)
IsBalanced (phase.Logged place) submitted given waits = submitted ≡ given
IsBalanced phase.RolledBack submitted given waits = given ≤ submitted
IsBalanced phase.Refused submitted given waits = given ≤ submitted

-- Of these sessions, phases, log, numbers of statements and answers, sessions that wait and jobs out.
pub record Numbers (sessions : List ℕ) (phases : ℕ → Phase) (decided : List ℕ) (submitted given : ℕ → ℕ) (waits : ℕ → Bool) (out : ℕ → Option Job) : Type 0 where
  -- a number that no transaction has yet has no statement, no answer and no place in the log
  pub unborn : (t : ℕ) → (IsBorn (length sessions) t → ⊥) → (phases t ≡ phase.Active) × (submitted t ≡ 0) × (given t ≡ 0)
  -- a session has one open transaction at most
  pub alone : (t u s : ℕ) → numbered sessions t ≡ Some s → numbered sessions u ≡ Some s → is_open (phases t) ≡ true → is_open (phases u) ≡ true → t ≡ u
  -- the decided transactions are those of the log, each at its place
  pub logged : (t place : ℕ) → (phases t ≡ phase.Logged place) ↔ (numbered decided place ≡ Some t)
  -- a statement that is out was submitted
  pub runs : (r t i : ℕ) → out r ≡ Some (job.Run t i) → IsBorn (length sessions) t × (i ≤ submitted t)
  pub balance : (t s : ℕ) → numbered sessions t ≡ Some s → IsBalanced (phases t) (submitted t) (given t) (waits s)

abbrev pub NumbersAt : History → Type 0
NumbersAt h =
    Numbers (begun h) (λ t. phase_of t h) (log h) (λ t. length (submits t h)) (λ t. length (given_to t h)) (λ s. is_waiting (reply_to s h)) (λ r. out_at r h)
