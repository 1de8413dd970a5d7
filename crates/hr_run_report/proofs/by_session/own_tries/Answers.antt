use Rattle.std.proofs.Common.{rules, sym}
use Rattle.hr_run_report.proofs.TryLemmas.{step}
use Rattle.hr_run_report.proofs.by_session.own_tries.Goals as goal

pub entries-preserved : goal.entries-preserved
entries-preserved c = step c.args.retries c.args.session c.args.history.now c.entries.place _ c.entries.own _ c.entries.refused _ (sym c.get-entry.ensures) (search rules) c.entries.invariant c.in_ok-push_begun.ensures c.is_refused_by-refused.ensures
