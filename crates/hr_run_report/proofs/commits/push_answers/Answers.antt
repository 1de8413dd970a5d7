use Rattle.hr_history.specs.Processed.{given_in}
use Rattle.hr_run_report.specs.Report.{numbered_answer}
use Rattle.hr_run_report.proofs.Steps.{one_more}
use Rattle.hr_run_report.proofs.commits.push_answers.Goals as goal

pub answers-preserved : goal.answers-preserved
answers-preserved c = one_more numbered_answer (given_in c.args.view.now c.args.txn) c.answers.before _ _ _ c.answers.invariant c.in_ok-push_numbered_answer.ensures
