use Rattle.std.proofs.Common.{◌≡◌, ◌<◌, suc}
use Rattle.hr_parse.specs.Grammar.{conditions, tied_behind}
use Rattle.hr_parse.proofs.parser.Parser.+cond.Given as goal

abbrev pub decreases-boxed_cond : goal.decreases-boxed_cond
decreases-boxed_cond l = l.depth

abbrev pub decreases-conj : goal.decreases-conj
decreases-conj l = l.depth

abbrev pub decreases-neg : goal.decreases-neg
decreases-neg l = l.depth

-- what is read behind the condition so far is what is read behind the first
abbrev pub invariant-boxed_cond-ors : goal.invariant-boxed_cond-ors
invariant-boxed_cond-ors l = (l.turns < l.fn.depth) × (tied_behind conditions 1 (suc l.turns) l.left l.self.rest.now ≡ tied_behind conditions 1 (suc l.initial.turns) l.initial.left l.initial.self.rest.now)

abbrev pub decreases-boxed_cond-ors : goal.decreases-boxed_cond-ors
decreases-boxed_cond-ors l = l.turns

abbrev pub invariant-conj-ands : goal.invariant-conj-ands
invariant-conj-ands l = (l.turns < l.fn.depth) × (tied_behind conditions 0 (suc l.turns) l.left l.self.rest.now ≡ tied_behind conditions 0 (suc l.initial.turns) l.initial.left l.initial.self.rest.now)

abbrev pub decreases-conj-ands : goal.decreases-conj-ands
decreases-conj-ands l = l.turns
