-- The rule of the turn lock: what holds between any two of its steps.
-- Word 0 is the ticket that is drawn next, word 1 the one that is served, both modulo 2^64. The one slot has the value, except while a pass is inside. The pass with number j has its view at the place j.
use Rattle.std.specs.Prelude.{◌≡◌, ◌≢◌, ℕ, ◌+◌, ◌%◌, ◌^◌, ◌<◌, ◌≤◌, ◌⊎◌, true, false, not, Option, Some, is_some, List, [], ◌∷◌, length, count_by}
use mathlib.Core.Option as m
use lib.ListN.{get_elem?}
use Rattle.atomic_table.specs.Table.{State}
use Rattle.hr_turn.specs.declared.view.View.{View}
use Rattle.hr_turn.specs.Entries.{Begins, Each, calls_by}
use Rattle.hr_turn.specs.Views.{spent_view}

-- v stands at the place j
abbrev pub IsAt : {V : Type 0} → List V → ℕ → V → Type 0
IsAt views j v = get_elem? views j ≡ m.some v

-- the numbers of the pairs differ
abbrev pub Differ : {A : Type 0} → List (ℕ × A) → Type 0
Differ [] = Unit {0}
Differ (p ∷ ps) = Each (λ q. q.0 ≢ p.0) ps × Differ ps

module _ {E : Type 0} (caller : E → ℕ) where
  -- what a pass that was not taken back knows, where its view stands at the place j, this list stands, and these tickets are out
  pub record Knows (about : List ℕ) (log : List E) (served drawn j : ℕ) (v : View E) : Type 0 where
    pub live : v.spent ≡ false
    pub number : v.number ≡ j
    -- it has seen a beginning of the list, and what it heard of is a beginning of that
    pub seen : Begins v.seen log
    pub heard : Begins v.heard v.seen
    -- the entries of its number are its own, in the list and in what it has seen
    pub mine : calls_by caller j log ≡ v.mine
    pub own : calls_by caller j v.seen ≡ v.mine
    -- its ticket is among those that are out
    pub ticket : (t : ℕ) → v.ticket ≡ Some t → (served ≤ t) × (t < drawn)
    -- inside, it has the ticket that is served, and has seen the whole list
    pub inside : v.inside ≡ true → (v.ticket ≡ Some served) × (v.seen ≡ log)
    pub fixed : v.fixed ≡ about

  -- what the root keeps of a pass that it has taken back: its number, and its entries, in the list and in what the root has seen
  pub record IsBack (log seen : List E) (views : List (View E)) (p : ℕ × List E) : Type 0 where
    pub number : 0 < p.0
    pub spent : IsAt views p.0 spent_view
    pub mine : calls_by caller p.0 log ≡ p.1
    pub own : calls_by caller p.0 seen ≡ p.1

  -- the root has counted the passes, and keeps each that it has taken back, once
  pub record IsRoot (log : List E) (views : List (View E)) (v : View E) : Type 0 where
    pub there : IsAt views 0 v
    pub live : v.spent ≡ false
    pub splits : length views ≡ v.splits + 1
    pub few : v.splits ≤ 2 ^ 32
    pub others : count_by (λ (u : View E). not u.spent) views ≡ v.others + 1
    pub joined : Each (IsBack log v.seen views) v.joined
    pub apart : Differ v.joined

module _ {S E : Type 0} (entries : S → List E) (caller : E → ℕ) (fixed : S → List ℕ) where
  -- the value is in its slot, and nobody is inside
  pub record IsHome (about : List ℕ) (log : List E) (s : State (Option S) (View E)) : Type 0 where
    pub value : S
    pub slot : s.homes ≡ m.some (Some value) ∷ []
    pub list : entries value ≡ log
    pub same : fixed value ≡ about
    pub nobody : (j : ℕ) (v : View E) → IsAt s.views j v → v.inside ≡ false

  -- the value is out, and some pass is inside
  pub record IsOut (s : State (Option S) (View E)) : Type 0 where
    pub slot : s.homes ≡ m.none ∷ []
    pub who : ℕ
    pub view : View E
    pub there : IsAt s.views who view
    pub inside : view.inside ≡ true

  -- The rule. There is one list, of which every pass knows its part; tickets are served in turn; the value is home, or out with the one pass that is inside.
  pub record InTurns (about : List ℕ) (s : State (Option S) (View E)) : Type 0 where
    -- the list, how many tickets were drawn, and how many of these were served
    pub log : List E
    pub drawn : ℕ
    pub served : ℕ
    pub words : s.words ≡ drawn % 2 ^ 64 ∷ served % 2 ^ 64 ∷ []
    -- the tickets that are out are as many as the passes that have one, and no two passes have the same
    pub out : drawn ≡ served + count_by (λ (v : View E). is_some v.ticket) s.views
    pub apart : (i j t : ℕ) (v w : View E) → IsAt s.views i v → IsAt s.views j w → v.ticket ≡ Some t → w.ticket ≡ Some t → i ≡ j
    pub place : IsHome about log s ⊎ IsOut s
    -- each pass was taken back, or knows its part
    pub passes : (j : ℕ) (v : View E) → IsAt s.views j v → (v ≡ spent_view) ⊎ Knows caller about log served drawn j v
    -- a number that is not given yet has no entry
    pub later : (j : ℕ) → length s.views ≤ j → calls_by caller j log ≡ []
    -- some pass that was not taken back has seen the whole list
    pub whole : (j : ℕ) × (v : View E) × IsAt s.views j v × (v.spent ≡ false) × (v.seen ≡ log)
    pub root : (v : View E) × IsRoot caller log s.views v
