-- The answer that is due, from the holders and what a search tells; and what an undo gives back.
use Rattle.std.proofs.Common.{◌≡◌, ◌≢◌, ℕ, Bool, true, false, not, ◌&&◌, ◌==◌, IfSome, Option, Some, None, List, [], ◌∷◌, ◌++◌, length, refl, ap, sym, ◌∙◌, arith}
use Rattle.std.proofs.lemmas.Bool.{eq-eqb, true≢false}
use Rattle.hr_base.specs.Lists.{has}
use Rattle.hr_locks.specs.declared.need.Lock.{Lock}
use Rattle.hr_locks.specs.declared.wait.Wait.{Wait}
use Rattle.hr_locks.specs.declared.grant.LastGrant.{LastGrant}
use Rattle.hr_locks.specs.Locks.{AreHolders}
use Rattle.hr_locks.specs.Waits.{seen_waits, pairs}
use Rattle.hr_locks.specs.Cycles.{is_chain, closes, IsToldCycle}
use Rattle.hr_locks.specs.Grants.{IsBlocked, IsDeadlock}
use Rattle.hr_locks.specs.Seen.{locks_before, undo_of, seen_table}

pub same_waits : (f g : ℕ → List ℕ) → ((t : ℕ) → f t ≡ g t) → f ≡ g
same_waits f g e = λ i t. e t i

pub some_named : (n : ℕ) (xs : List ℕ) → length xs ≡ n → (n == 0) ≡ false → xs ≢ []
some_named n xs l f e = let none : length xs ≡ 0 = ap length e in true≢false (sym (eq-eqb n 0 (omega arith)) ∙ f)

module _ (in_way : ℕ → Bool) (waits : ℕ → List ℕ) (asker : ℕ) (named : List ℕ) (are : AreHolders asker in_way named) where
  -- the asker isn't in its own way
  pub apart : has named asker ≡ false
  apart = are.all asker ∙ ap (λ b. not b && in_way asker) (eq-eqb asker asker refl)

  said_twice : (a b : Bool) → (not a && (not a && b)) ≡ (not a && b)
  said_twice true b = refl
  said_twice false b = refl

  -- to be named, and to be in the way, is the same for all others
  closes_alike : (path : List ℕ) → closes (has named) waits asker path ≡ closes in_way waits asker path
  closes_alike [] = refl
  closes_alike (t ∷ path) =
      ap (λ b. b && is_chain waits (t ∷ path ++ asker ∷ []))
      (ap (λ b. not (t == asker) && b) (are.all t) ∙ said_twice (t == asker) (in_way t))

  pub due_blocked : named ≢ [] → ((path : List ℕ) → closes (has named) waits asker path ≡ false) → IsBlocked in_way waits asker named
  due_blocked some none = record {
    holders = are;
    some = some;
    open_path = λ path. sym (closes_alike path) ∙ none path;
  }

  pub due_deadlock : (cycle path : List ℕ) → cycle ≡ asker ∷ path → IsToldCycle (has named) waits asker path → IsDeadlock in_way waits asker cycle
  due_deadlock cycle path from told = record {
    path = path;
    from_asker = from;
    told = record {
      closed = sym (closes_alike path) ∙ told.closed;
      first = λ other c. told.first other (closes_alike other ∙ c);
    };
  }

-- where no grant can be undone, all waits are seen
pub seen_all : (ws : List Wait) → seen_waits None ws ≡ ws
seen_all [] = refl
seen_all (w ∷ ws) = ap (λ v. w ∷ v) (seen_all ws)

pub undo_gives : {N : Type 0} (locks new : List (Lock N)) (ws : List Wait) (last : Option LastGrant) → new ≡ locks_before last locks
    → IfSome (undo_of locks ws last) (λ before. seen_table new ws None ≡ record { held = before.1; undo = None })
undo_gives locks new ws None e = tt
undo_gives locks new ws (Some grant) e = λ i. record { held = record { locks = e i; waits = pairs (seen_all ws i) }; undo = None }
