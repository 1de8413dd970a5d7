use Rattle.hr_records.proofs.RuleLemmas.{begun_before}
use Rattle.hr_records.proofs.KeptLemmas.{kept}
use Rattle.hr_records.proofs.Closed.{frozen, phase_stands}
use Rattle.hr_records.proofs.laws.closed_stands.Goals as goal

pub returns-clause-phase : goal.returns-clause-phase
returns-clause-phase c f sessions t e before begun closed = phase_stands f sessions e before (kept f sessions before (begun_before f sessions e before begun)) begun t closed

pub returns-clause-statements : goal.returns-clause-statements
returns-clause-statements c f sessions t e before begun closed = (frozen f sessions e before (kept f sessions before (begun_before f sessions e before begun)) begun t closed).0

pub returns-clause-answers : goal.returns-clause-answers
returns-clause-answers c f sessions t e before begun closed = (frozen f sessions e before (kept f sessions before (begun_before f sessions e before begun)) begun t closed).1
