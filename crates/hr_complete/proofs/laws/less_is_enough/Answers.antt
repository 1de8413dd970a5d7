use Rattle.hr_complete.proofs.LedLemmas.{undisturbed_led, stays, for_reply}
use Rattle.hr_complete.proofs.UnaskedLemmas.{never_asked}
use Rattle.hr_complete.proofs.ReadyLemmas.{decided}
use Rattle.hr_complete.proofs.laws.less_is_enough.Goals as goal

pub returns-clause-less : goal.returns-clause-less
returns-clause-less c f db h is = undisturbed_led f db h is

pub returns-clause-primary : goal.returns-clause-primary
returns-clause-primary c f sessions db h begun is = (stays f sessions db h begun is).0

pub returns-clause-causes : goal.returns-clause-causes
returns-clause-causes c f sessions caller t x db before begun is = for_reply f sessions caller t x db before begun is

pub returns-clause-asked : goal.returns-clause-asked
returns-clause-asked c f sessions caller t x db before begun is = never_asked f sessions caller t x before begun (for_reply f sessions caller t x db before begun is)

pub returns-clause-decided : goal.returns-clause-decided
returns-clause-decided c f sessions t db group h faithful is many its = decided f sessions t db group h faithful is many its
