-- What a request is answered, and what the answer leaves.
use Rattle.std.specs.Prelude.{◌≡◌, ◌≢◌, ℕ, Bool, false, List, [], ◌∷◌}
use Rattle.hr_locks.specs.declared.need.Need.{Need}
use Rattle.hr_locks.specs.declared.need.Lock.{Lock}
use Rattle.hr_locks.specs.declared.grant.Grant.{Grant}
use Rattle.hr_locks.specs.declared.grant.Grant.TheVariants as grant
use Rattle.hr_locks.specs.Locks.{locks_on, AreHolders}
use Rattle.hr_locks.specs.Cycles.{closes, IsToldCycle}

-- `in_way t`: t holds what conflicts with the request. `waits t`: whom t waits for.
module _ (in_way : ℕ → Bool) (waits : ℕ → List ℕ) (asker : ℕ) where
  -- Blocked: others are in the way, all of these, and no cycle closes
  pub record IsBlocked (named : List ℕ) : Type 0 where
    pub holders : AreHolders asker in_way named
    pub some : named ≢ []
    pub open_path : (path : List ℕ) → closes in_way waits asker path ≡ false

  -- Deadlock: the asker, with the path that is told of all that close a cycle
  pub record IsDeadlock (cycle : List ℕ) : Type 0 where
    pub path : List ℕ
    pub from_asker : cycle ≡ asker ∷ path
    pub told : IsToldCycle in_way waits asker path

  -- The answer that is due: Deadlock where a cycle closes, Blocked where others are in the way and no cycle closes, and
  -- Granted where nobody is.
  abbrev pub IsDue : Grant → Type 0
  IsDue grant.Granted = AreHolders asker in_way []
  IsDue (grant.Blocked named) = IsBlocked named.items
  IsDue (grant.Deadlock cycle) = IsDeadlock cycle.items

-- what an answer locks for the asker
abbrev pub locks_given : {N : Type 0} → ℕ → List (Need N) → Grant → List (Lock N)
locks_given asker needs grant.Granted = locks_on asker needs
locks_given asker needs (grant.Blocked named) = []
locks_given asker needs (grant.Deadlock cycle) = []

-- whom the asker waits for after an answer
abbrev pub wait_given : Grant → List ℕ
wait_given grant.Granted = []
wait_given (grant.Blocked named) = named.items
wait_given (grant.Deadlock cycle) = []
