-- What a search has found. Each transaction that was found stands in a queue, with the place of the one that waits for it.
use Rattle.std.specs.Prelude.{◌≡◌, ◌<◌, IsTrue, ℕ, suc, Bool, List, [], ◌∷◌, ◌++◌, Option, Some, None, IfSome, get_or, if◌then◌else◌, ◌==◌}
use Rattle.std.specs.List.{list_any}
use Rattle.hr_base.specs.Lists.{has, is_ascending}
use Rattle.hr_locks.specs.declared.search.Link.{Link}

-- whether the queue has a transaction
abbrev pub reaches : List Link → ℕ → Bool
reaches links t = list_any (λ (link : Link). link.txn == t) links

-- a list has those of the queue, in ascending order
pub record AreFound (found : List ℕ) (links : List Link) : Type 0 where
  pub ascending : IsTrue (is_ascending found)
  pub all : (t : ℕ) → has found t ≡ reaches links t

-- the queue with a transaction that one at this place waits for, unless it is there
abbrev pub with_link : ℕ → ℕ → List Link → List Link
with_link at t links = if reaches links t then links else links ++ record { txn = t; by = Some at } ∷ []

-- and with each of a wait
abbrev pub led_on : ℕ → List ℕ → List Link → List Link
led_on at [] links = links
led_on at (t ∷ ts) links = led_on at ts (with_link at t links)

-- the route to the one at this place, of the routes to all
abbrev pub rest_by : List (List ℕ) → Option ℕ → List ℕ
rest_by found None = []
rest_by found (Some at) = get_or found at []

-- the route to one, with the last member first
abbrev pub route_by : List (List ℕ) → Link → List ℕ
route_by found link = link.txn ∷ rest_by found link.by

abbrev pub routes_on : List (List ℕ) → List Link → List (List ℕ)
routes_on found [] = found
routes_on found (link ∷ links) = routes_on (found ++ route_by found link ∷ []) links

-- the route to each in the queue
abbrev pub routes : List Link → List (List ℕ)
routes links = routes_on [] links

-- each was found from one before it; the list begins at the place n
abbrev pub IsLinkedFrom : ℕ → List Link → Type 0
IsLinkedFrom n [] = Unit {0}
IsLinkedFrom n (link ∷ links) = IfSome link.by (λ j. j < n) × IsLinkedFrom (suc n) links

abbrev pub IsLinked : List Link → Type 0
IsLinked links = IsLinkedFrom 0 links
