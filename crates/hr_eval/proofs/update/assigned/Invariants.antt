use Rattle.std.proofs.Common.{◌≡◌, drop}
use Rattle.hr_meaning.specs.Exec.{assigned}
use Rattle.hr_eval.proofs.update.assigned.Given as goal

abbrev pub invariant-sets : goal.invariant-sets
invariant-sets l = assigned l.columns l.old (drop l.set-index l.sets) l.row ≡ assigned l.columns l.old l.sets l.old
