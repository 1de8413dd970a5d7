use Rattle.hr_lex.specs.Bytes.{is_digit}
use Rattle.hr_lex.proofs.Runs.{run_passes}
use Rattle.hr_lex.proofs.reading.number_at.Goals as goal

pub number-requires : goal.number-requires
number-requires c = rw c.digits_len-len.ensures.value (run_passes is_digit c.args.bytes.now)
