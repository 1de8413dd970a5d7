-- Not to be believed: the rules' searches, over what the view keeps in place of all transactions. The laws say what they find.
use Rattle.std.specs.Prelude.{ℕ, Bool, not, ◌&&◌, ◌||◌, Option, List, [], ◌∷◌, drop, filter, find}
use Rattle.std.specs.List.{list_any}
use Rattle.hr_base.specs.Lists.{first_some}
use Rattle.hr_history.specs.View.{View}
use Rattle.hr_history.specs.Processed.{live_in, is_primary, runs_in, processed_in}
use Rattle.hr_history.specs.Ranks.{first_in_rank}
use Rattle.hr_history.specs.Jobs.{is_to_roll_back, may_repeat, may_run_first}
use Rattle.hr_history.specs.Preemption.{stays, is_held_up, is_last_of_cycle}
use Rattle.hr_moves.specs.Kept.{open_in, touched_in}

module _ (v : View) (r : ℕ) where
  -- the transactions of the log that come after what is processed at a replica
  abbrev pub behind_in : List ℕ
  behind_in = drop (processed_in v r) v.log

  -- the lowest one to be rolled back here, among those that have something to roll back
  abbrev pub roll_back_next : Option ℕ
  roll_back_next = find (is_to_roll_back v r) (touched_in v r)

  -- the one that runs first at the primary, among the open ones
  abbrev pub run_first_next : Option ℕ
  run_first_next = first_in_rank v (filter (may_run_first v r) (open_in v))

  -- the one that runs here next: the first of the log behind what is processed, else the one of the open ones that ranks first
  abbrev pub repeat_next : Option ℕ
  repeat_next = first_some (find (may_repeat v r) behind_in ∷ first_in_rank v (filter (may_repeat v r) (open_in v)) ∷ [])

  -- h runs here and stays, and of those that have something to roll back one that comes before it waits for it, or it is the last of a cycle of waits
  abbrev pub gives_way_here : ℕ → Bool
  gives_way_here h = runs_in v r h && stays v r h && (list_any (is_held_up v r h) (touched_in v r) || list_any (is_last_of_cycle v r h) (touched_in v r))

  -- the lowest of them to preempt
  abbrev pub preempt_next : Option ℕ
  preempt_next = find (λ h. live_in v r && not (is_primary v r) && gives_way_here h) (touched_in v r)
