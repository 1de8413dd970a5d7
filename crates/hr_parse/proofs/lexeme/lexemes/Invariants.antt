use Rattle.std.proofs.Common.{◌≡◌, ◌++◌, length, map}
use Rattle.std.specs.List.{AllByRecursion}
use Rattle.hr_lex.specs.Tokens.{IsTokenOf}
use Rattle.hr_parse.specs.Lexemes.{lexemes}
use Rattle.hr_parse.specs.Parse.{moved}
use Rattle.hr_parse.proofs.lexeme.lexemes.Given as goal

-- the words so far, and those of the rest, are those of all
abbrev pub invariant-loop-tokens : goal.invariant-loop-tokens
invariant-loop-tokens l = record {
  whole : l.all.items ++ map (moved l.from) (lexemes l.text l.tokens) ≡ map (moved l.from) (lexemes l.text l.initial.tokens);
  each : AllByRecursion (IsTokenOf l.text) l.tokens;
}

abbrev pub decreases-loop-tokens : goal.decreases-loop-tokens
decreases-loop-tokens l = length l.tokens
