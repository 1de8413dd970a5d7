-- Views at each moment of a history: by the words of the history, and by steps from the view of the empty one.
use Rattle.std.specs.Prelude.{ℕ, List, [], ◌∷◌, length, map}
use Rattle.hr_history.specs.History.{History}
use Rattle.hr_history.specs.Transactions.{asks}
use Rattle.hr_history.specs.View.{View, view_of}
use Rattle.hr_history.specs.Step.{view_step}

-- the history and all that it begins with, the longest first
abbrev pub beginnings : History → List History
beginnings [] = [] ∷ []
beginnings (e ∷ before) = (e ∷ before) ∷ beginnings before

abbrev pub view_by_steps : ℕ → History → View
view_by_steps f [] = view_of f []
view_by_steps f (e ∷ before) = view_step (view_by_steps f before) (length before) (asks before) e.event

abbrev pub views_by_steps : ℕ → History → List View
views_by_steps f h = map (view_by_steps f) (beginnings h)

abbrev pub views_by_words : ℕ → History → List View
views_by_words f h = map (view_of f) (beginnings h)
