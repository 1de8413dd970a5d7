-- How a pass's view changes.
use Rattle.std.specs.Prelude.{ℕ, ◌+◌, ◌-◌, true, false, nat_le, if◌then◌else◌, Some, None, List, [], ◌∷◌, ◌++◌, length}
use Rattle.hr_turn.specs.declared.view.View.{View}

module _ {E : Type 0} where
  -- the root of a new lock with this fixed part: it has seen nothing and made nothing
  abbrev pub first_view : List ℕ → View E
  first_view about = record { number = 0; seen = []; heard = []; mine = []; ticket = None; inside = false; spent = false; splits = 0; others = 0; joined = []; fixed = about }

  -- what is left of a pass that was taken back
  abbrev pub spent_view : View E
  spent_view = record { number = 0; seen = []; heard = []; mine = []; ticket = None; inside = false; spent = true; splits = 0; others = 0; joined = []; fixed = [] }

  -- a ticket was drawn
  abbrev pub with_ticket : View E → ℕ → View E
  with_ticket v t = record v { ticket = Some t }

  -- the ticket is served: the pass has the value, and has seen its whole list
  abbrev pub inside_at : View E → List E → View E
  inside_at v list = record v { inside = true; seen = list }

  -- the next is served: the pass has made these entries in its turn
  abbrev pub outside_after : View E → List E → View E
  outside_after v more = record v { ticket = None; inside = false; seen = v.seen ++ more; mine = v.mine ++ more }

  -- the root, when it has split off one more
  abbrev pub root_after_split : View E → View E
  root_after_split v = record v { splits = v.splits + 1; others = v.others + 1 }

  -- the new pass: it has the next number, has seen what the root has, and made nothing
  abbrev pub split_off : View E → View E
  split_off v = record (first_view v.fixed) { number = v.splits + 1; seen = v.seen }

  abbrev pub longer : List E → List E → List E
  longer xs ys = if nat_le (length xs) (length ys) then ys else xs

  abbrev pub shorter : List E → List E → List E
  shorter xs ys = if nat_le (length xs) (length ys) then xs else ys

  -- the root, when it has taken back another: it has seen the longer of two lists, and keeps the shorter until it knows that this one begins the longer
  abbrev pub root_after_join : View E → View E → View E
  root_after_join v w = record v { seen = longer v.seen w.seen; heard = shorter v.seen w.seen; others = v.others - 1; joined = (w.number, w.mine) ∷ v.joined }

  -- the shorter list begins the longer, and is let go
  abbrev pub settled_view : View E → View E
  settled_view v = record v { heard = [] }
