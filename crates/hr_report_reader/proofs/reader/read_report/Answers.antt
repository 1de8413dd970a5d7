use Rattle.hr_report_reader.proofs.Sound.{read_sound}
use Rattle.hr_report_reader.proofs.reader.read_report.Goals as goal

pub returns-clause-told : goal.returns-clause-told
returns-clause-told c = read_sound c.args.scenario.now c.args.first_line c.args.text.now c.read.result c.read.ensures
