-- Groups of replicas.
use Rattle.std.specs.Prelude.{◌≡◌, ℕ, ◌+◌, ◌*◌, ◌<◌, ◌≤◌, Bool, true, count_by}
use Rattle.hr_history.specs.ReplicaNumbers.{replica_numbers}

-- more than f of the 2f + 1 replicas are of the group
abbrev pub IsGroup : ℕ → (ℕ → Bool) → Type 0
IsGroup f group = f + 1 ≤ count_by group (replica_numbers f)

-- one of the 2f + 1 replicas is of both
abbrev pub ShareAMember : ℕ → (ℕ → Bool) → (ℕ → Bool) → Type 0
ShareAMember f group other = (r : ℕ) × (r < 2 * f + 1) × (group r ≡ true) × (other r ≡ true)
