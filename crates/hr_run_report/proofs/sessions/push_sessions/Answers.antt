use Rattle.std.proofs.Common.{string_bytes}
use Rattle.hr_run_report.specs.Report.{session_text}
use Rattle.hr_run_report.proofs.Steps.{each_more}
use Rattle.hr_run_report.proofs.sessions.push_sessions.Goals as goal

pub sessions-preserved : goal.sessions-preserved
sessions-preserved c = each_more (session_text c.args.shepherd.now) c.args.tries.now c.sessions.before c.index-tries-before.result (string_bytes c.args.out.now) (string_bytes c.sessions.out) (string_bytes c.push_session.new.out) c.sessions-test.true c.index-tries-before.is c.sessions.invariant c.in_ok-push_session.ensures
