-- Worked texts.
use Rattle.std.proofs.Common.{◌≡◌, ℕ, List, codes, None, false, refl, ap, get_or, arith}
use Rattle.hr_lex.specs.Keywords.{keyword}
use Rattle.hr_lex.specs.Tokens.{token_at}
use Rattle.hr_parse.specs.declared.ast.Ast.{Ast}
use Rattle.hr_parse.specs.declared.ast.Ast.TheVariants as ast
use Rattle.hr_parse.specs.declared.ast.CondAst.{CondAst}
use Rattle.hr_parse.specs.declared.ast.CondAst.TheVariants as cond_of
use Rattle.hr_parse.specs.declared.ast.OperandAst.{OperandAst}
use Rattle.hr_parse.specs.declared.ast.OperandAst.TheVariants as operand_of
use Rattle.hr_parse.specs.Words.{same_mark}
use Rattle.hr_print.specs.Print.{text, cond_text}
use Rattle.hr_print.specs.Canonical.{Alike, parentheses}
use Rattle.hr_print.proofs.Folds.{or_shown, and_shown, is_null_shown}
use Rattle.hr_print.proofs.OneText.{one_text}

-- the tree of `delete from T;`, where the table's name stands at a place
abbrev pub delete_all : ℕ → Ast
delete_all at = ast.Delete (record { table = record { name = codes "t"; at = at }; filter = None })

abbrev pub delete_other : Ast
delete_other = ast.Delete (record { table = record { name = codes "u"; at = 12 }; filter = None })

pub its_text : text (delete_all 12) ≡ codes "DELETE FROM t"
its_text = refl

-- two trees that differ in a place alone
pub alike : Alike (delete_all 12) (delete_all 40)
alike = refl

-- two trees that differ in a name
pub others : Alike (delete_all 12) delete_other → ⊥
others e = let letter : 116 ≡ 117 = ap (λ z. get_or z 12 0) (one_text (delete_all 12) delete_other e) in absurd (omega (arith, letter))

-- parentheses within quotes don't count
pub two_of_three : parentheses (codes "SELECT ((a)), '(' FROM t") ≡ 2
unfolding token_at keyword same_mark
two_of_three = refl

-- ---- conditions

abbrev column : List ℕ → OperandAst
column name = operand_of.Column (record { first = record { name = name; at = 0 }; second = None })

abbrev test : List ℕ → CondAst
test name = cond_of.IsNull (column name) false

-- OR within AND stands in parentheses
pub or_in_and : cond_text (cond_of.And (cond_of.Or (test (codes "a")) (test (codes "b"))) (test (codes "c"))) 0 ≡ codes "(a IS NULL OR b IS NULL) AND c IS NULL"
or_in_and = simp (and_shown, or_shown, is_null_shown) refl

-- AND within OR doesn't
pub and_in_or : cond_text (cond_of.Or (cond_of.And (test (codes "a")) (test (codes "b"))) (test (codes "c"))) 0 ≡ codes "a IS NULL AND b IS NULL OR c IS NULL"
and_in_or = simp (and_shown, or_shown, is_null_shown) refl
