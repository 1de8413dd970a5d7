use Rattle.std.proofs.Common.{◌≡◌, ◌++◌, false, length}
use Rattle.hr_parse.specs.Lexemes.{undoubled}
use Rattle.hr_parse.proofs.lexeme.undoubled.Given as goal

-- the bytes so far, and those of the rest, are those of all
abbrev pub invariant-loop-bytes : goal.invariant-loop-bytes
invariant-loop-bytes l = l.out.items ++ undoubled l.after_quote l.bytes ≡ undoubled false l.initial.bytes

abbrev pub decreases-loop-bytes : goal.decreases-loop-bytes
decreases-loop-bytes l = length l.bytes
