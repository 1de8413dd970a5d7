use Rattle.std.proofs.Common.{◌≡◌, [], ◌∷◌, Bool, true, false}
use Rattle.hr_engine.proofs.worked.exact_runs.Goals as goal

-- 1 is in the way and waits for 3
pub returns-clause-cycle_closes : goal.returns-clause-cycle_closes
returns-clause-cycle_closes c blocked =
    let open_path : ◌≡◌ {A = Bool} true false = blocked.open_path (1 ∷ []) in cc

-- 3 is in the way of 4
pub returns-clause-one_left_out : goal.returns-clause-one_left_out
returns-clause-one_left_out c holders =
    let third : ◌≡◌ {A = Bool} false true = holders.all 3 in cc

pub returns-clause-one_made_up : goal.returns-clause-one_made_up
returns-clause-one_made_up c holders =
    let first : ◌≡◌ {A = Bool} true false = holders.all 1 in cc

pub returns-clause-asker_named : goal.returns-clause-asker_named
returns-clause-asker_named c holders =
    let asker : ◌≡◌ {A = Bool} true false = holders.all 3 in cc

pub returns-clause-not_done : goal.returns-clause-not_done
returns-clause-not_done c holders =
    let first : ◌≡◌ {A = Bool} false true = holders.all 1 in cc
