use Rattle.std.proofs.Common.{◌≡◌, ◌+◌, ◌<◌, ◌^◌, length}
use Rattle.hr_report_reader.specs.Reading.{read_lines}
use Rattle.hr_report_reader.proofs.reader.read_lines.Given as goal

abbrev pub invariant-items : goal.invariant-items
invariant-items l =
    (read_lines l.scenario l.so_far l.number 0 l.rest ≡ read_lines l.scenario l.fn.told l.fn.first_line 0 l.fn.lines)
    × (l.number + length l.rest < 2 ^ 64)

abbrev pub decreases-items : goal.decreases-items
decreases-items l = length l.rest
