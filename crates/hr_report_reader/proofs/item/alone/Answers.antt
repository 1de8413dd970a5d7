use Rattle.hr_report_reader.proofs.Taken.{plain_takes}
use Rattle.hr_report_reader.proofs.item.alone.Goals as goal

pub returns : goal.returns
returns c = plain_takes c.args.line.now _ c.plain.ensures
