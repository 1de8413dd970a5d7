-- Views that differ in one place.
use Rattle.std.specs.Prelude.{ℕ, ◌+◌, ◌==◌, if◌then◌else◌, List, [], ◌∷◌, map}
use Rattle.hr_history.specs.declared.phase.Phase.{Phase}
use Rattle.hr_history.specs.View.{View, TxnState, Progress, Attempt}

-- each of a list, changed with its number at hand; the first has number n
abbrev pub map_from : {X : Type 0} → (ℕ → X → X) → ℕ → List X → List X
map_from change n [] = []
map_from change n (x ∷ xs) = change n x ∷ map_from change (n + 1) xs

-- the change, for the one with this number
abbrev pub change_at : {X : Type 0} → ℕ → (X → X) → ℕ → X → X
change_at n change m x = if m == n then change x else x

-- the view with this transaction changed
abbrev pub with_txn : ℕ → (TxnState → TxnState) → View → View
with_txn t change v = record v { txns = map_from (change_at t change) 1 v.txns }

-- the view in which this transaction is in this phase
abbrev pub with_phase : ℕ → Phase → View → View
with_phase t p v = with_txn t (λ x. record x { phase = p }) v

-- the view with this replica changed
abbrev pub with_replica : ℕ → (Progress → Progress) → View → View
with_replica r change v = record v { replicas = map_from (change_at r change) 0 v.replicas }

-- a replica, with each attempt changed by its transaction
abbrev pub with_attempts : (ℕ → Attempt → Attempt) → Progress → Progress
with_attempts change p = record p { attempts = map (λ (entry : ℕ × Attempt). (entry.0, change entry.0 entry.1)) p.attempts }

-- a replica, with this transaction's attempt changed
abbrev pub with_attempt : ℕ → (Attempt → Attempt) → Progress → Progress
with_attempt t change p = with_attempts (change_at t change) p
