use Rattle.hr_audit.proofs.Verdicts.{Kept}
use Rattle.hr_audit.proofs.auditing.verdict.Given as goal

abbrev pub invariant-commits : goal.invariant-commits
invariant-commits l = Kept l.scenario l.commits l.fn.machine l.place l.machine
