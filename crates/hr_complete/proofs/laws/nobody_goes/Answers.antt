use Rattle.hr_complete.proofs.LedLemmas.{undisturbed_led, unconvicted, stays}
use Rattle.hr_complete.proofs.laws.nobody_goes.Goals as goal

pub returns-clause-primary : goal.returns-clause-primary
returns-clause-primary c f sessions db h begun is = (stays f sessions db h begun (undisturbed_led f db h is)).0

pub returns-clause-unconvicted : goal.returns-clause-unconvicted
returns-clause-unconvicted c f sessions r db h begun is = unconvicted f sessions r db h begun is
