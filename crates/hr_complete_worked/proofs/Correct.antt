-- Who is correct, and that none was lost, nobody suspected.
use Rattle.std.proofs.Common.{◌≡◌, ℕ, zero, suc, ◌<◌, [], ◌∷◌, arith}
use Rattle.hr_rel.specs.declared.answer.Answer.TheVariants.{Count}
use Rattle.hr_meaning.specs.Worked.{insert}
use Rattle.hr_engine.specs.declared.reply.RunReply.TheVariants as run
use Rattle.hr_engine.specs.Journal.{Journal, Ran}
use Rattle.hr_engine.specs.Rigorous.{AnyOrder}
use Rattle.hr_history.specs.Faithful.{Correct}
use Rattle.hr_barriers_worked.specs.OneRow.{empty_table}
use Rattle.hr_barriers_worked.proofs.Honest.{rigorous}
use Rattle.hr_complete_worked.specs.PrimaryLost.{primary_lost}
use Rattle.hr_complete_worked.specs.PrimarySuspected.{primary_suspected}

-- after a loss nothing runs
none_runs : AnyOrder empty_table (Ran 2 (insert 6 60) run.Lost ∷ Ran 1 (insert 5 50) (run.Done (Count 1)) ∷ [])
none_runs [] distinct running = tt
none_runs (t ∷ ts) distinct running = cc running

pub all_but_lost : (r : ℕ) → r < 3 → Correct empty_table primary_lost r
all_but_lost zero lt = (rigorous, tt, none_runs)
all_but_lost (suc zero) lt = tt
all_but_lost (suc (suc zero)) lt = tt
all_but_lost (suc (suc (suc r))) lt = absurd (omega (arith, lt))

pub all_but_suspected : (r : ℕ) → r < 3 → Correct empty_table primary_suspected r
all_but_suspected zero lt = rigorous
all_but_suspected (suc zero) lt = tt
all_but_suspected (suc (suc zero)) lt = tt
all_but_suspected (suc (suc (suc r))) lt = absurd (omega (arith, lt))
