-- Who answers one row is correct, and who answers two isn't.
use Rattle.std.proofs.Common.{◌≡◌, ℕ, [], ◌∷◌, refl}
use Rattle.hr_rel.specs.declared.answer.Answer.TheVariants.{Count}
use Rattle.hr_meaning.specs.Worked.{insert}
use Rattle.hr_engine.specs.declared.reply.RunReply.TheVariants as run
use Rattle.hr_engine.specs.Journal.{Ran}
use Rattle.hr_engine.specs.Rigorous.{Rigorous}
use Rattle.hr_engine.proofs.Orders.{one_runs}
use Rattle.hr_engine.proofs.WorkedLemmas.{only_first}
use Rattle.hr_barriers_worked.specs.OneRow.{empty_table}

-- one row isn't two
pub differ : ◌≡◌ {A = ℕ} 1 2 → ⊥
differ e = cc

pub rigorous : Rigorous empty_table (Ran 1 (insert 5 50) (run.Done (Count 1)) ∷ [])
rigorous = (tt, tt, one_runs empty_table (Ran 1 (insert 5 50) (run.Done (Count 1)) ∷ []) 1 (only_first 1 _ _) ((refl, tt), tt))

pub not_rigorous : Rigorous empty_table (Ran 1 (insert 5 50) (run.Done (Count 2)) ∷ []) → ⊥
not_rigorous wrong = differ (wrong.2 (1 ∷ []) refl refl).0.0
