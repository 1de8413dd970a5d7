use Rattle.std.proofs.Common.{◌≡◌, drop}
use Rattle.std.specs.List.{fold}
use Rattle.hr_answer_reader.specs.Rows.{start, next}
use Rattle.hr_answer_reader.proofs.row.scanned.Given as goal

abbrev pub invariant-bytes : goal.invariant-bytes
invariant-bytes l = fold next l.scan (drop l.byte-index l.line) ≡ fold next start l.fn.line
