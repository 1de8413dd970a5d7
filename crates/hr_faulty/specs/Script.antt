-- Scripts of lies and losses.
use Rattle.std.specs.Prelude.{ℕ, ◌-◌, ◌^◌, Bool, true, false, ◌==◌, nat_lt, if◌then◌else◌, Option, Some, None, List, [], ◌∷◌}
use Rattle.std.specs.List.{list_any, list_all}
use Rattle.hr_faulty.specs.declared.script.Fault.{Fault}
use Rattle.hr_faulty.specs.declared.script.Act.{Act}
use Rattle.hr_faulty.specs.declared.script.When.{When}
use Rattle.hr_faulty.specs.declared.script.Act.TheVariants.{Wrong, Drop, Early, Block, Deadlock, Fail, Position, Lose}

-- the act at the call with this number: that of the first fault that names it
abbrev pub act_at : List Fault → ℕ → Option Act
act_at [] call = None
act_at (fault ∷ script) call = if fault.call == call then Some fault.act else act_at script call

-- whether an act is a lie; a loss is none
abbrev pub is_lie : Act → Bool
is_lie (Wrong n) = true
is_lie (Drop n) = true
is_lie Early = true
is_lie (Block named) = true
is_lie (Deadlock cycle) = true
is_lie Fail = true
is_lie (Position n) = true
is_lie (Lose when) = false

-- whether a script has a lie
abbrev pub lies : List Fault → Bool
lies script = list_any (λ (f : Fault). is_lie f.act) script

-- the loss that an act is, on any call
abbrev pub loss_of : Option Act → Option When
loss_of None = None
loss_of (Some (Wrong n)) = None
loss_of (Some (Drop n)) = None
loss_of (Some Early) = None
loss_of (Some (Block named)) = None
loss_of (Some (Deadlock cycle)) = None
loss_of (Some Fail) = None
loss_of (Some (Position n)) = None
loss_of (Some (Lose when)) = Some when

-- the count that an act tells, on a restart
abbrev pub position_of : Option Act → Option ℕ
position_of None = None
position_of (Some (Wrong n)) = None
position_of (Some (Drop n)) = None
position_of (Some Early) = None
position_of (Some (Block named)) = None
position_of (Some (Deadlock cycle)) = None
position_of (Some Fail) = None
position_of (Some (Position n)) = Some n
position_of (Some (Lose when)) = None

-- Whether all faults name calls before the last that the counter tells apart. A counter of 64 bits stands still at its
-- last number, which no script names.
abbrev pub names_calls : List Fault → Bool
names_calls script = list_all (λ (f : Fault). nat_lt f.call (2 ^ 64 - 1)) script
