use Rattle.std.proofs.Common.{◌≡◌, ◌<◌, suc}
use Rattle.hr_parse.specs.Grammar.{expressions, tied_behind}
use Rattle.hr_parse.proofs.parser.Parser.+terms.Given as goal

abbrev pub decreases-boxed_expr : goal.decreases-boxed_expr
decreases-boxed_expr l = l.depth

abbrev pub decreases-term : goal.decreases-term
decreases-term l = l.depth

abbrev pub decreases-factor : goal.decreases-factor
decreases-factor l = l.depth

-- what is read behind the expression so far is what is read behind the first
abbrev pub invariant-boxed_expr-terms : goal.invariant-boxed_expr-terms
invariant-boxed_expr-terms l = (l.turns < l.fn.depth) × (tied_behind expressions 1 l.turns l.left l.self.rest.now ≡ tied_behind expressions 1 l.initial.turns l.initial.left l.initial.self.rest.now)

abbrev pub decreases-boxed_expr-terms : goal.decreases-boxed_expr-terms
decreases-boxed_expr-terms l = l.turns

abbrev pub invariant-term-factors : goal.invariant-term-factors
invariant-term-factors l = (l.turns < l.fn.depth) × (tied_behind expressions 0 (suc l.turns) l.left l.self.rest.now ≡ tied_behind expressions 0 (suc l.initial.turns) l.initial.left l.initial.self.rest.now)

abbrev pub decreases-term-factors : goal.decreases-term-factors
decreases-term-factors l = l.turns
