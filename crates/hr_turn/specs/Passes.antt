-- What callers see of a lock and of a pass.
use Rattle.std.specs.Prelude.{◌≡◌, ℕ, ◌%◌, ◌^◌, true, false, Some, None, [], ◌∷◌}
use Rattle.atomic_table.specs.Seated.{TableId}
use Rattle.hr_turn.specs.declared.view.View.{View}
use Rattle.hr_turn.specs.declared.pass.Pass.{Pass}
use Rattle.hr_turn.specs.declared.pass.TurnLock.{TurnLock}

module _ {S E : Type 0} where
  -- which lock it is: no two have the same
  abbrev pub id_of : TurnLock S E → TableId
  id_of lock = lock.table.shared.table_id

  -- the lock that a pass is of
  abbrev pub lock_of : Pass S E → TableId
  lock_of pass = pass.seat.table_id

  abbrev pub view_of : Pass S E → View E
  view_of pass = pass.seat.me.0

  -- the pass may enter: it has no ticket, and no value
  abbrev pub IsFree : Pass S E → Type 0
  IsFree pass = (pass.seat.me.1 ≡ []) × ((view_of pass).ticket ≡ None) × ((view_of pass).inside ≡ false) × ((view_of pass).spent ≡ false)

  -- the pass has this ticket, as the words tell it
  abbrev pub IsWaiting : Pass S E → ℕ → Type 0
  IsWaiting pass ticket = (pass.seat.me.1 ≡ []) × ((t : ℕ) × ((view_of pass).ticket ≡ Some t) × (ticket ≡ t % 2 ^ 64)) × ((view_of pass).inside ≡ false) × ((view_of pass).spent ≡ false)

  -- the pass has the value, and the slot is empty
  abbrev pub IsIn : Pass S E → Type 0
  IsIn pass = (pass.seat.me.1 ≡ (0, None) ∷ []) × ((view_of pass).inside ≡ true) × ((view_of pass).spent ≡ false)
