use Rattle.std.proofs.Common.{◌≡◌, [], ◌∷◌, Bool, true, false, refl}
use Rattle.hr_engine.proofs.worked.exact_deadlocks.Goals as goal

-- the path of 1 alone closes too, and is shorter
pub returns-clause-longer_not_told : goal.returns-clause-longer_not_told
returns-clause-longer_not_told c told =
    let shorter : ◌≡◌ {A = Bool} false true = told.first (1 ∷ []) refl in cc
