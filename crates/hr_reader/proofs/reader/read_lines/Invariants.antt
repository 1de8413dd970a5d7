use Rattle.std.proofs.Common.{◌≡◌, ◌+◌, length}
use Rattle.hr_said.specs.Said.{nothing}
use Rattle.hr_reader.specs.Shaped.{HasTables, AreOrdered}
use Rattle.hr_reader.specs.Reading.{read_lines}
use Rattle.hr_reader.proofs.reader.read_lines.Given as goal

abbrev pub invariant-lines : goal.invariant-lines
invariant-lines l = record {
  said : read_lines l.said l.number l.rest ≡ read_lines nothing 0 l.fn.lines;
  count : l.number + length l.rest ≡ length l.fn.lines;
  tables : HasTables l.said;
  order : AreOrdered l.ordered l.said;
}

abbrev pub decreases-lines : goal.decreases-lines
decreases-lines l = length l.rest
