-- Not to be believed: what the walk along waits keeps.
use Rattle.std.specs.Prelude.{◌≡◌, ◌⊎◌, ℕ, suc, Bool, true, false, if◌then◌else◌, List, [], ◌∷◌, ◌++◌, length, take, slice_get, slice_index_or, Some, IsTrue}
use Rattle.hr_base.specs.Lists.{has}
use Rattle.hr_base.specs.declared.limits.TheConstants.{MAX_SUBMITS}
use Rattle.hr_engine.specs.Waits.{Leads}
use Rattle.hr_votes.specs.declared.walk.Walk.{Walk}

-- how many marks are set
abbrev pub set_marks : List Bool → ℕ
set_marks [] = 0
set_marks (b ∷ bs) = if b then suc (set_marks bs) else set_marks bs

-- those that were found
abbrev pub found_of : Walk → List ℕ
found_of w = take w.found w.queue

-- as many were found as marks are set, and a mark is set only of one that was found
pub record IsWalk (entries : List ℕ) (w : Walk) : Type 0 where
  pub marks : length w.marks ≡ MAX_SUBMITS
  pub queue : length w.queue ≡ MAX_SUBMITS
  pub count : w.found ≡ set_marks w.marks
  pub told : (p t : ℕ) → slice_index_or w.marks p false ≡ true → slice_get entries p ≡ Some t → has (found_of w) t ≡ true

-- it was found, or has no entry
abbrev pub IsKnown : List ℕ → List ℕ → ℕ → Type 0
IsKnown entries found t = (has found t ≡ true) ⊎ (has entries t ≡ false)

-- some of these were found more
abbrev pub GrowsBy : (ℕ → Bool) → List ℕ → List ℕ → Type 0
GrowsBy these before now = (more : List ℕ) × (now ≡ before ++ more) × ((t : ℕ) → has more t ≡ true → these t ≡ true)

-- each of these is known, and isn't the asker
abbrev pub StaysClear : List ℕ → ℕ → List ℕ → (ℕ → Bool) → Type 0
StaysClear entries asker found these = (t : ℕ) → these t ≡ true → IsKnown entries found t × (t ≡ asker → ⊥)

-- a chain of waits leads from one of the list to u
abbrev pub LeadsOn : (ℕ → List ℕ) → List ℕ → ℕ → Type 0
LeadsOn waits ts u = (t : ℕ) × IsTrue (has ts t) × Leads waits t u
