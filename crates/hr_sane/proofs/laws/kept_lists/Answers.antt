use Rattle.hr_sane.proofs.KeptLists.{open_next, touched_next}
use Rattle.hr_sane.proofs.ProcessedLaws.{processed_next}
use Rattle.hr_sane.proofs.laws.kept_lists.Goals as goal

pub returns-clause-opened : goal.returns-clause-opened
returns-clause-opened c v place asks e sane fits = open_next v place asks sane e fits

pub returns-clause-touched : goal.returns-clause-touched
returns-clause-touched c v place asks r e sane fits = touched_next v place asks sane r e fits

pub returns-clause-processed : goal.returns-clause-processed
returns-clause-processed c v place asks r e sane fits = processed_next v place asks sane r e fits
