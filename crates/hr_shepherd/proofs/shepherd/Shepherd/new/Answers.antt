use Rattle.std.proofs.Common.{sym, subst, ◌∙◌}
use Rattle.hr_ledger.specs.Chronicle.{IsQuiet}
use Rattle.hr_shepherd.proofs.Allowed.{quiet_first}
use Rattle.hr_shepherd.proofs.shepherd.Shepherd.new.Goals as goal

pub invariant_of-result : goal.invariant_of-result
invariant_of-result c = subst IsQuiet (sym (c.in-Ok.ensures.ok ∙ c.in_ok-core.ensures)) (quiet_first c.args.f c.args.sessions)
