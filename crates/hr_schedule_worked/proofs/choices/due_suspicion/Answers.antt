use Rattle.std.proofs.Common.{◌≡◌, Bool, true, false}
use Rattle.hr_schedule_worked.proofs.choices.due_suspicion.Goals as goal

-- it is due still
pub returns : goal.returns
returns c all =
    let over : ◌≡◌ {A = Bool} true false = all.2 in cc
