-- Who waits for whom.
use Rattle.std.specs.Prelude.{ℕ, Bool, false, not, ◌||◌, ◌==◌, if◌then◌else◌, Option, Some, None, List, [], ◌∷◌, map, filter}
use Rattle.hr_locks.specs.declared.wait.Wait.{Wait}

-- whom a transaction waits for, in a list of waits: the first of its own counts
abbrev pub wait_in : List Wait → ℕ → List ℕ
wait_in [] t = []
wait_in (wait ∷ waits) t = if wait.txn == t then wait.names.items else wait_in waits t

-- the list without one of its members
abbrev pub without : ℕ → List ℕ → List ℕ
without t ts = filter (λ u. not (u == t)) ts

-- whether this transaction was granted a request last; then its wait is kept for an undo alone
abbrev pub is_the_one : Option ℕ → ℕ → Bool
is_the_one None t = false
is_the_one (Some u) t = u == t

-- whom a transaction waits for
abbrev pub wait_seen : Option ℕ → List Wait → ℕ → List ℕ
wait_seen granted waits t = if is_the_one granted t then [] else wait_in waits t

-- the same, where the asker waits for these
abbrev pub next_in : (ℕ → List ℕ) → ℕ → List ℕ → ℕ → List ℕ
next_in waits asker holders t = if t == asker then holders else waits t

-- Waits as pairs: the one that waits, with those that it waits for.
abbrev pub pairs : List Wait → List (ℕ × List ℕ)
pairs waits = map (λ (w : Wait). (w.txn, w.names.items)) waits

-- whom a transaction waits for, in such a list: the first of its own counts
abbrev pub named_in : List (ℕ × List ℕ) → ℕ → List ℕ
named_in [] t = []
named_in (w ∷ waits) t = if w.0 == t then w.1 else named_in waits t

-- the waits that are seen
abbrev pub seen_waits : Option ℕ → List Wait → List Wait
seen_waits granted waits = filter (λ (w : Wait). not (is_the_one granted w.txn)) waits

-- and of these those of others than a transaction
abbrev pub waits_of_others : Option ℕ → ℕ → List Wait → List Wait
waits_of_others granted t waits = filter (λ (w : Wait). not ((w.txn == t) || is_the_one granted w.txn)) waits
