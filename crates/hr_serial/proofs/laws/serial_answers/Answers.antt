use Rattle.hr_serial.proofs.SerialLemmas.{serial, few_throughout}
use Rattle.hr_serial.proofs.laws.serial_answers.Goals as goal

pub returns-clause-at_each_decision : goal.returns-clause-at_each_decision
returns-clause-at_each_decision c f sessions db h begun few = serial f sessions db h begun few

pub returns-clause-in_the_end : goal.returns-clause-in_the_end
returns-clause-in_the_end c f sessions db h begun few = serial f sessions db h begun (few_throughout f db h few)
