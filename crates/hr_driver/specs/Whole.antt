-- What stands of all sessions and of all replicas, between the choices.
use Rattle.std.specs.Prelude.{◌≡◌, ◌≤◌, ◌*◌, ◌+◌, ℕ, Option, Some, List, [], length, slice_get, IfSome, ⊤}
use Rattle.hr_base.specs.Lists.{numbered}
use Rattle.hr_base.specs.declared.limits.TheConstants.{MAX_SESSIONS}
use Rattle.hr_rel.specs.Database.{Database}
use Rattle.hr_engine.specs.Backend.{Standing}
use Rattle.hr_history.specs.Replicas.{journal_of}
use Rattle.hr_ledger.specs.Chronicle.{Chronicle, history_in}
use Rattle.hr_said.specs.declared.scenario.Scenario.{Scenario}
use Rattle.hr_said.specs.declared.scenario.Choice.{Choice}
use Rattle.hr_said.specs.declared.scenario.Choice.TheVariants as choice
use Rattle.hr_schedule.specs.declared.attempt.Try.{Try}
use Rattle.hr_schedule.specs.Tries.{last_try}
use Rattle.hr_driver.specs.declared.driver.Driver.{Driver}

-- The history is one of the scenario's size, and the tries are the last ones of its sessions.
pub record IsUnder (sc : Scenario) (tries : List (Option Try)) (c : Chronicle) : Type 0 where
  pub f : c.f ≡ sc.f
  pub sessions : c.sessions ≡ length sc.scripts
  pub many : length tries ≡ length sc.scripts
  pub last : (s : ℕ) → 1 ≤ s → s ≤ length sc.scripts → numbered tries s ≡ Some (last_try sc.retries s (history_in c))

-- there is a backend for each replica
abbrev pub AreAll : {X : Type 0} → Scenario → List X → Type 0
AreAll sc backends = length backends ≡ 2 * sc.f + 1

-- the backend of replica r stands for its journal, from this start
abbrev pub StandsAt : {X : Type 0} → (X → Standing) → List X → ℕ → Database → Chronicle → Type 0
StandsAt stands backends r start c = IfSome (slice_get backends r) (λ b. stands b start (journal_of r (history_in c)))

-- each backend that stood for its replica's journal, from any start, stands for it now
abbrev pub StandOn : {X : Type 0} → (X → Standing) → List X → List X → Chronicle → Chronicle → Type 0
StandOn stands were now before after = (r : ℕ) (start : Database) → StandsAt stands were r start before → StandsAt stands now r start after

-- There are no more sessions than may be, a backend for each replica, and the history and the tries are the scenario's.
pub record IsReady {X : Type 0} (sc : Scenario) (d : Driver X) : Type 0 where
  pub few : length sc.scripts ≤ MAX_SESSIONS
  pub all : AreAll sc d.backends.items
  pub under : IsUnder sc d.tries.items d.shepherd

-- the choice is of a session or a replica that is there
abbrev pub IsThere : Scenario → Choice → Type 0
IsThere sc (choice.Session s) = (1 ≤ s) × (s ≤ length sc.scripts)
IsThere sc (choice.Both r) = r ≤ 2 * sc.f
IsThere sc (choice.TakeJob r) = r ≤ 2 * sc.f
IsThere sc (choice.GiveReply r) = r ≤ 2 * sc.f
IsThere sc (choice.Rounds k) = ⊤

-- each of the choices is
abbrev pub AreThere : Scenario → List Choice → Type 0
AreThere sc choices = (i : ℕ) (c : Choice) → slice_get choices i ≡ Some c → IsThere sc c

-- each backend that stood for nothing, from any start, stands for its replica's journal
abbrev pub StandFromNothing : {X : Type 0} → (X → Standing) → List X → List X → Chronicle → Type 0
StandFromNothing stands were now after = (r : ℕ) (start : Database) → IfSome (slice_get were r) (λ b. stands b start []) → StandsAt stands now r start after
