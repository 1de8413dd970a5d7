use Rattle.hr_complete.proofs.LedLemmas.{undisturbed_led, for_reply}
use Rattle.hr_complete.proofs.UnaskedLemmas.{never_asked}
use Rattle.hr_complete.proofs.laws.refusals.Goals as goal

pub returns-clause-causes : goal.returns-clause-causes
returns-clause-causes c f sessions caller t x db before begun is = for_reply f sessions caller t x db before begun (undisturbed_led f db before is)

pub returns-clause-asked : goal.returns-clause-asked
returns-clause-asked c f sessions caller t x db before begun is = never_asked f sessions caller t x before begun (for_reply f sessions caller t x db before begun (undisturbed_led f db before is))
