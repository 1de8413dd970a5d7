use Rattle.std.proofs.Common.{◌≡◌, ◌≤◌, ◌+◌, length, false}
use Rattle.hr_lex.specs.Quotes.{closing}
use Rattle.hr_lex.proofs.quote.closing.Given as goal

abbrev pub invariant-loop-bytes : goal.invariant-loop-bytes
invariant-loop-bytes l = record {
  whole : closing l.after_quote l.place l.bytes ≡ closing false l.at l.initial.bytes;
  passed : l.at ≤ l.place;
  fits : l.place + length l.bytes ≡ l.at + length l.initial.bytes;
}

abbrev pub decreases-loop-bytes : goal.decreases-loop-bytes
decreases-loop-bytes l = length l.bytes
