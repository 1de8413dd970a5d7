use Rattle.std.proofs.Common.{length, ◌-◌}
use Rattle.hr_ledger.specs.Chronicle.{history_in}
use Rattle.hr_core.specs.Suspects as suspicions
use Rattle.hr_driver.specs.Made.{HasSuspected}
use Rattle.hr_driver.proofs.take.suspect_all.Given as goal

abbrev pub invariant-due : goal.invariant-due
invariant-due l = HasSuspected l.scenario l.fn.shepherd l.shepherd

abbrev pub decreases-due : goal.decreases-due
decreases-due l = length l.scenario.suspects - suspicions.suspects (history_in l.shepherd)
