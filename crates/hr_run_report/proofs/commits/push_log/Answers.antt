use Rattle.std.proofs.Common.{rules}
use Rattle.hr_run_report.specs.Report.{commit_text}
use Rattle.hr_run_report.proofs.Steps.{each_more}
use Rattle.hr_run_report.proofs.commits.push_log.Goals as goal

pub log-preserved : goal.log-preserved
log-preserved c = each_more (commit_text c.args.shepherd.now c.args.tries.now) c.args.log.now c.log.before _ _ _ _ c.log-test.true (search rules) c.log.invariant c.in_ok-push_commit.ensures
