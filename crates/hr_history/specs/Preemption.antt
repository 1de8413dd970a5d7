-- Preemption: which transaction has to give way at a replica, and run again there later.
use Rattle.std.specs.Prelude.{ℕ, Bool, false, not, ◌&&◌, ◌||◌, Option, Some, None, List, find}
use Rattle.std.specs.List.{list_any, list_all}
use Rattle.hr_base.specs.Lists.{has}
use Rattle.hr_history.specs.Transactions.{is_asked, is_logged, is_ended}
use Rattle.hr_history.specs.View.{View}
use Rattle.hr_history.specs.Processed.{phase_in, attempt_in, runs_in, live_in, is_primary, wait_in, standing_in}
use Rattle.hr_history.specs.Ranks.{ranks_before}
use Rattle.hr_history.specs.Jobs.{txn_numbers}

module _ (v : View) (r : ℕ) where
  -- it isn't about to stop anyway: it isn't ended, and wasn't preempted here since its attempt began
  abbrev pub stays : ℕ → Bool
  stays h = not (is_ended (phase_in v h)) && not (attempt_in v r h).preempted

  -- t is logged or asked, ranks before h, and waits for h
  abbrev pub is_held_up : ℕ → ℕ → Bool
  is_held_up h t = (is_logged (phase_in v t) || is_asked (phase_in v t)) && ranks_before v t h && has (wait_in v r t) h

  -- h is of the list, and no other of it ranks after h
  abbrev pub is_last_in_rank : ℕ → List ℕ → Bool
  is_last_in_rank h ts = has ts h && list_all (λ t. not (ranks_before v h t)) ts

  abbrev pub gives_way_in : ℕ → Option (List ℕ) → Bool
  gives_way_in h None = false
  gives_way_in h (Some cycle) = list_all stays cycle && is_last_in_rank h cycle

  -- the cycle of waits that t was told of stands, none of it stops anyway, and h ranks last in it
  abbrev pub is_last_of_cycle : ℕ → ℕ → Bool
  is_last_of_cycle h t = gives_way_in h (standing_in v r t)

  -- h runs here and stays, and one that comes before it waits for it, or it is the last of a cycle of waits
  abbrev pub is_to_give_way : ℕ → Bool
  is_to_give_way h = runs_in v r h && stays h && (list_any (is_held_up h) (txn_numbers v) || list_any (is_last_of_cycle h) (txn_numbers v))

  -- the lowest transaction to preempt at a replica that is live and isn't the primary
  abbrev pub preempted_next : Option ℕ
  preempted_next = find (λ h. live_in v r && not (is_primary v r) && is_to_give_way h) (txn_numbers v)
