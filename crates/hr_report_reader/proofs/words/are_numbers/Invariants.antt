use Rattle.std.proofs.Common.{◌≡◌, length}
use Rattle.std.specs.List.{list_all}
use Rattle.hr_report_reader.specs.Words.{is_long}
use Rattle.hr_report_reader.proofs.words.are_numbers.Given as goal

abbrev pub invariant-words : goal.invariant-words
invariant-words l = list_all is_long l.rest ≡ list_all is_long l.fn.words

abbrev pub decreases-words : goal.decreases-words
decreases-words l = length l.rest
