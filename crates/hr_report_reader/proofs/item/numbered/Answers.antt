use Rattle.std.proofs.Common.{rules, arith}
use Rattle.hr_report_reader.proofs.Taken.{numbered_takes}
use Rattle.hr_report_reader.proofs.item.numbered.Goals as goal

pub returns : goal.returns
returns c =
    numbered_takes c.args.text.now _ c.args.lines.now _ c.word_len-len.result c.long.result _ c.answer_behind.result c.word_len-len.ensures.value c.long.ensures c.behind.ensures
    (first_of (search rules, grind arith)) c.answer_behind.ensures
