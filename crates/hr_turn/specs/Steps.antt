-- What each kind of step on a word tells its pass. The other kinds are plain: the slot is read and written by `exchange`, and a split and a join change views as `Views` says.
use Rattle.std.specs.Prelude.{◌≡◌, ◌≢◌, ℕ, ◌%◌, ◌^◌, ◌<◌, ◌≤◌, Option, Some, List, [], ◌∷◌, ◌++◌}
use Rattle.atomic_table.specs.Table.{Me, Step}
use Rattle.hr_turn.specs.declared.view.View.{View}
use Rattle.hr_turn.specs.Entries.{Begins, Each, calls_by}
use Rattle.hr_turn.specs.Views.{with_ticket, inside_at, outside_after, settled_view}
use Rattle.hr_turn.specs.Turns.{Differ}

-- the passes taken back have numbers that were given, no two the same, and the entries kept of each are all that the list has of it
abbrev pub AreBack : {E : Type 0} → (E → ℕ) → View E → Type 0
AreBack caller v = Each (λ p. (0 < p.0) × (p.0 ≤ v.splits) × (calls_by caller p.0 v.seen ≡ p.1)) v.joined × Differ v.joined

module _ {S E : Type 0} where
  -- the ticket drawn is the pass's own, and the word had it
  abbrev pub Draws : Step (Option S) → Me (Option S) (View E) → ℕ → Me (Option S) (View E) → Type 0
  Draws step me found me' = (t : ℕ) × (found ≡ t % 2 ^ 64) × (me' ≡ (with_ticket me.0 t, me.1))

module _ {S E : Type 0} (entries : S → List E) (caller : E → ℕ) (fixed : S → List ℕ) where
  -- the pass has the value. Its list begins with what the pass had seen, and the pass's entries in it are its own
  abbrev pub TakesTurn : Me (Option S) (View E) → Me (Option S) (View E) → Type 0
  TakesTurn me me' = (value : S) × (me' ≡ (inside_at me.0 (entries value), (0, Some value) ∷ me.1))
      × Begins me.0.seen (entries value) × (calls_by caller me.0.number (entries value) ≡ me.0.mine) × (fixed value ≡ me.0.fixed)

  -- it is the pass's turn exactly where the word has its ticket
  abbrev pub Looks : Step (Option S) → Me (Option S) (View E) → ℕ → Me (Option S) (View E) → Type 0
  Looks step me found me' = (t : ℕ) → me.0.ticket ≡ Some t → (found ≡ t % 2 ^ 64 → TakesTurn me me') × (found ≢ t % 2 ^ 64 → me' ≡ me)

  -- the value is in its slot again, and what its list has more are the pass's entries
  abbrev pub Serves : Step (Option S) → Me (Option S) (View E) → ℕ → Me (Option S) (View E) → Type 0
  Serves step me found me' = (value : S) → me.1 ≡ (0, Some value) ∷ []
      → (more : List E) × (entries value ≡ me.0.seen ++ more) × (me' ≡ (outside_after me.0 more, [])) × (calls_by caller me.0.number (entries value) ≡ me.0.mine ++ more)

module _ {S E : Type 0} (caller : E → ℕ) where
  -- what the root heard of begins what it has seen; in that, its own entries are those that it made, and those of each pass taken back are those that it keeps
  abbrev pub Settles : Step (Option S) → Me (Option S) (View E) → ℕ → Me (Option S) (View E) → Type 0
  Settles step me found me' = (me' ≡ (settled_view me.0, me.1)) × Begins me.0.heard me.0.seen × (calls_by caller me.0.number me.0.seen ≡ me.0.mine) × AreBack caller me.0
