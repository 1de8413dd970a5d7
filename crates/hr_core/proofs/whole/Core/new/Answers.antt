use Rattle.std.proofs.Common.{◌≡◌, List, [], refl, ap, sym, ◌∙◌, subst}
use Rattle.hr_core.specs.Told.{PlainCore, AreTold, plain}
use Rattle.hr_core.proofs.Firsts.{first, told_first}
use Rattle.hr_core.proofs.whole.Core.new.Goals as goal

pub invariant_of-result : goal.invariant_of-result
invariant_of-result c = subst AreTold (λ i. record { ledger = sym c.in_ok-new.ensures i; seats = sym c.in_ok-empty_seats.ensures i; causes = sym c.new-2.ensures.items i; suspects = 0 }) (told_first c.args.f c.args.sessions)
