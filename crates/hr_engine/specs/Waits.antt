-- What a journal tells of waits, and when a reply that tells of waits is sound.
use Rattle.std.specs.Prelude.{ℕ, Bool, true, false, not, ◌&&◌, ◌==◌, if◌then◌else◌, Option, Some, None, List, [], ◌∷◌, ◌++◌, filter, option_and_then, IsTrue}
use Rattle.std.specs.List.{list_all}
use Rattle.hr_engine.specs.Journal.{Journal}
use Rattle.hr_engine.specs.Effects.{Effect, effect_of}
use Rattle.hr_engine.specs.Effects as does
use Rattle.hr_engine.specs.Attempts.{is_running}
use Rattle.hr_base.specs.Lists.{is_empty, has, is_distinct, is_ascending, once}

-- whom t waits for after a call, if each of them runs
abbrev pub next_wait : ℕ → Effect → List ℕ → List ℕ
next_wait t (does.Runs u stmt answer) named = if t == u then [] else named
next_wait t (does.Waits u them) named = if t == u then once them else named
next_wait t (does.Closes u cycle) named = if t == u then [] else named
next_wait t (does.Ends u) named = if t == u then [] else named
next_wait t does.EndsAll named = []
next_wait t does.Nothing named = named

-- The wait of a transaction: where its last reply is Blocked, those that the reply named and that have been running
-- without a break since. One that was rolled back and runs again isn't waited for any more.
abbrev pub wait : ℕ → Journal → List ℕ
wait t [] = []
wait t (call ∷ before) = filter (λ u. is_running u (call ∷ before)) (next_wait t (effect_of call) (wait t before))

-- the Deadlock reply of t that stands after a call, if each of its members runs
abbrev pub next_standing : ℕ → Effect → Option (List ℕ) → Option (List ℕ)
next_standing t (does.Runs u stmt answer) cycle = if t == u then None else cycle
next_standing t (does.Waits u named) cycle = if t == u then None else cycle
next_standing t (does.Closes u it) cycle = if t == u then Some it else cycle
next_standing t (does.Ends u) cycle = if t == u then None else cycle
next_standing t does.EndsAll cycle = None
next_standing t does.Nothing cycle = cycle

-- the list, if all its members pass the test
abbrev pub if_all : (ℕ → Bool) → List ℕ → Option (List ℕ)
if_all test ts = if list_all test ts then Some ts else None

-- The Deadlock reply of a transaction that stands: its last reply is this list, and all members of the list have been
-- running without a break since.
abbrev pub standing : ℕ → Journal → Option (List ℕ)
standing t [] = None
standing t (call ∷ before) = option_and_then (if_all (λ u. is_running u (call ∷ before))) (next_standing t (effect_of call) (standing t before))

-- whether each of a path waits for the next, where `waits` gives the wait of each transaction
abbrev pub is_chain : (ℕ → List ℕ) → List ℕ → Bool
is_chain waits [] = true
is_chain waits (t ∷ []) = true
is_chain waits (t ∷ u ∷ path) = has (waits t) u && is_chain waits (u ∷ path)

-- a chain of waits leads from one transaction to another
abbrev pub Leads : (ℕ → List ℕ) → ℕ → ℕ → Type 0
Leads waits from to = (between : List ℕ) × IsTrue (is_chain waits (from ∷ between ++ to ∷ []))

-- whether the list of a Blocked reply names some others that run, in ascending order
abbrev pub is_list_of_running : (ℕ → Bool) → ℕ → List ℕ → Bool
is_list_of_running running asker named = not (is_empty named) && is_ascending named && not (has named asker) && list_all running named

-- A Blocked reply to `asker` is sound: it names some others that run, in ascending order, and from none of them does a
-- chain of waits lead to the asker.
pub record IsSoundBlocked (running : ℕ → Bool) (waits : ℕ → List ℕ) (asker : ℕ) (named : List ℕ) : Type 0 where
  pub listed : IsTrue (is_list_of_running running asker named)
  pub no_cycle : (t : ℕ) → IsTrue (has named t) → Leads waits t asker → ⊥

-- Whether a Deadlock reply to `asker` is sound: it begins with the asker, has at least two members and none twice, its
-- other members run, each member after the first waits for the next, and the last for the first.
abbrev pub is_sound_deadlock : (ℕ → Bool) → (ℕ → List ℕ) → ℕ → List ℕ → Bool
is_sound_deadlock running waits asker [] = false
is_sound_deadlock running waits asker (first ∷ others) =
    (first == asker) && not (is_empty others) && is_distinct (first ∷ others) && list_all running others && is_chain waits (others ++ asker ∷ [])
