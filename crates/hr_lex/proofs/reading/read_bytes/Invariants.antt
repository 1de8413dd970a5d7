use Rattle.std.proofs.Common.{◌≡◌, ◌+◌, zero, length, drop}
use Rattle.std.specs.List.{AllByRecursion}
use Rattle.hr_lex.specs.Tokens.{reading, with_front, IsTokenOf}
use Rattle.hr_lex.proofs.reading.read_bytes.Given as goal

-- the tokens so far, and those of the rest, are those of all
abbrev pub invariant-loop-rest : goal.invariant-loop-rest
invariant-loop-rest l = record {
  whole : with_front l.tokens.items (reading zero l.at l.rest) ≡ reading zero 0 l.bytes;
  fits : l.at + length l.rest ≡ length l.bytes;
  here : l.rest ≡ drop l.at l.bytes;
  each : AllByRecursion (IsTokenOf l.bytes) l.tokens.items;
}

abbrev pub decreases-loop-rest : goal.decreases-loop-rest
decreases-loop-rest l = length l.rest
