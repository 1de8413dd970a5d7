use Rattle.std.proofs.Common.{[], refl}
use Rattle.hr_engine.proofs.worked.cycle_of_waits_blocked.Goals as goal

-- transaction 2 was told to wait for 1, which waits for 2
pub returns-clause-not_rigorous : goal.returns-clause-not_rigorous
returns-clause-not_rigorous c rigorous = rigorous.1.no_cycle 1 refl ([], refl)
