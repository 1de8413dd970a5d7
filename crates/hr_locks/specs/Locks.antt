-- What is locked, and whose locks are in whose way.
use Rattle.std.specs.Prelude.{◌≡◌, ℕ, Bool, true, false, not, ◌&&◌, ◌||◌, ◌==◌, List, [], ◌∷◌, map, IsTrue}
use Rattle.std.specs.List.{list_any, list_all}
use Rattle.hr_base.specs.Lists.{has, is_ascending}
use Rattle.hr_locks.specs.declared.need.Mode.{Mode}
use Rattle.hr_locks.specs.declared.need.Mode.TheVariants.{Shared, Exclusive}
use Rattle.hr_locks.specs.declared.need.Need.{Need}
use Rattle.hr_locks.specs.declared.need.Lock.{Lock}

abbrev pub is_exclusive : Mode → Bool
is_exclusive Shared = false
is_exclusive Exclusive = true

-- the locks of a transaction that is granted these needs
abbrev pub locks_on : {N : Type 0} → ℕ → List (Need N) → List (Lock N)
locks_on txn needs = map (λ need. record { txn = txn; need = need }) needs

-- `meets n m`: the names n and m cover a common item.
module _ {N : Type 0} (meets : N → N → Bool) where
  -- whether two needs have an item in common, which one of them wants for itself alone
  abbrev pub is_conflict : Need N → Need N → Bool
  is_conflict a b = (is_exclusive a.mode || is_exclusive b.mode) && meets a.name b.name

  -- whether a lock is of this transaction, and conflicts with one of the needs
  abbrev pub is_against : List (Need N) → ℕ → Lock N → Bool
  is_against needs t lock = (lock.txn == t) && list_any (λ need. is_conflict lock.need need) needs

  -- whether a transaction holds what conflicts with one of the needs
  abbrev pub is_in_the_way : List (Lock N) → List (Need N) → ℕ → Bool
  is_in_the_way locks needs t = list_any (is_against needs t) locks

  -- whether two locks are of one transaction, or don't conflict
  abbrev pub is_apart_from : Lock N → Lock N → Bool
  is_apart_from lock other = (lock.txn == other.txn) || not (is_conflict lock.need other.need)

  -- whether no two transactions hold what conflicts: each lock is set against all that were granted later
  abbrev pub is_apart : List (Lock N) → Bool
  is_apart [] = true
  is_apart (lock ∷ locks) = list_all (is_apart_from lock) locks && is_apart locks

-- the list is, in ascending order, all the others that are in the way of the asker
pub record AreHolders (asker : ℕ) (in_way : ℕ → Bool) (holders : List ℕ) : Type 0 where
  pub ascending : IsTrue (is_ascending holders)
  pub all : (t : ℕ) → has holders t ≡ (not (t == asker) && in_way t)
