-- The statements that are drawn fit the table of accounts.
use Rattle.std.proofs.Common.{◌≡◌, ℕ, ◌^◌, ◌<◌, true, false, nat_lt, List, [], ◌∷◌, Some, None, codes, refl, sym, ◌∙◌, ap, arith}
use Rattle.std.proofs.lemmas.Bool.Decides.{nat_tests}
use Rattle.hr_rel.specs.declared.catalog.Catalog.{Catalog}
use Rattle.hr_rel.specs.declared.catalog.ColKind.TheVariants as col
use Rattle.hr_rel.specs.declared.expr.Op.TheVariants as op
use Rattle.hr_parse.specs.declared.ast.ExprAst.{ExprAst, fold-roll-ExprAst}
use Rattle.hr_parse.specs.declared.ast.ExprKind.{ExprKind, fold-ExprKind, fold-roll-ExprKind}
use Rattle.hr_parse.specs.declared.ast.ExprKind.TheVariants as kind
use Rattle.hr_parse.specs.declared.ast.ExprKind.TheOpen.{ExprKind-F}
use Rattle.hr_parse.specs.declared.ast.CondAst.{fold-roll-CondAst}
use Rattle.hr_parse.specs.declared.ast.CondAst.TheVariants as cond
use Rattle.hr_parse.specs.declared.ast.CondAst.TheOpen.{CondAst-F}
use Rattle.hr_parse.specs.declared.ast.OperandAst.TheVariants as operand_of
use Rattle.hr_parse.specs.declared.ast.ColumnAst.{ColumnAst}
use Rattle.hr_parse.specs.declared.ast.LiteralAst.{LiteralAst}
use Rattle.hr_parse.specs.Trees.{expr, simple, sum, difference, place_of}
use Rattle.hr_problem.specs.declared.problem.Problem.{Problem}
use Rattle.hr_names.specs.Scope.{Scope, scope_of, alone, meant}
use Rattle.hr_names.specs.Operands.{column_problems, column_kind, literal_problems, literal_kind}
use Rattle.hr_check.specs.Conditions.{cond_layer, cond_problems}
use Rattle.hr_check.specs.Expressions.{Judged, arithmetic, kind_layer, expr_layer, judged}
use Rattle.hr_check.specs.Told.{problem_of}
use Rattle.hr_made.proofs.Parsing.{of_number, plain_column, number_at, change_tree, look_tree}

-- the table of accounts
abbrev pub accounts : Catalog
accounts = record {
  tables = record {
    name = codes "acct";
    columns =
        record { name = codes "id"; kind = col.Int; nullable = false; indexed = false }
        ∷ record { name = codes "owner"; kind = col.Text; nullable = false; indexed = false }
        ∷ record { name = codes "bal"; kind = col.Int; nullable = false; indexed = false } ∷ [];
  } ∷ [];
}

-- ---- what is told of an expression, by its first form

module _ (scope : Scope) where
  abbrev by_kind : ExprKind → ℕ → Judged
  by_kind = fold-ExprKind (ℕ → Judged) Judged (kind_layer scope) expr_layer

  judged_kind : (k : ExprKind) (at : ℕ) → judged scope (expr k at) ≡ by_kind k at
  judged_kind k at = fold-roll-ExprAst (ℕ → Judged) Judged (kind_layer scope) expr_layer (record { kind = k; at = at })

  judged_literal : (l : LiteralAst) (at : ℕ) → judged scope (expr (kind.Literal l) at) ≡ record { problems = literal_problems l; kind = literal_kind l.value; at = at }
  judged_literal l at = judged_kind (kind.Literal l) at ∙ ap (λ k. by_kind k at) (sym (kind.rolls-Literal l))
      ∙ ap (λ f. f at) (fold-roll-ExprKind (ℕ → Judged) Judged (kind_layer scope) expr_layer (ExprKind-F.Literal l))

  judged_column : (c : ColumnAst) (at : ℕ) → judged scope (expr (kind.Column c) at) ≡ record { problems = column_problems scope c; kind = column_kind scope c; at = at }
  judged_column c at = judged_kind (kind.Column c) at ∙ ap (λ k. by_kind k at) (sym (kind.rolls-Column c))
      ∙ ap (λ f. f at) (fold-roll-ExprKind (ℕ → Judged) Judged (kind_layer scope) expr_layer (ExprKind-F.Column c))

  judged_sum : (a b : ExprAst) (at : ℕ) → judged scope (expr (kind.Add a b) at) ≡ arithmetic (judged scope a) (judged scope b) at
  judged_sum a b at = judged_kind (kind.Add a b) at ∙ ap (λ k. by_kind k at) (sym (kind.rolls-Add a b))
      ∙ ap (λ f. f at) (fold-roll-ExprKind (ℕ → Judged) Judged (kind_layer scope) expr_layer (ExprKind-F.Add a b))

  judged_difference : (a b : ExprAst) (at : ℕ) → judged scope (expr (kind.Sub a b) at) ≡ arithmetic (judged scope a) (judged scope b) at
  judged_difference a b at = judged_kind (kind.Sub a b) at ∙ ap (λ k. by_kind k at) (sym (kind.rolls-Sub a b))
      ∙ ap (λ f. f at) (fold-roll-ExprKind (ℕ → Judged) Judged (kind_layer scope) expr_layer (ExprKind-F.Sub a b))

-- ---- the parts of these statements

abbrev here : Scope
here = scope_of accounts (alone (record { name = codes "acct"; at = 0 }))

-- an operator whose sides are judged alone, so that its number is one
abbrev pub IsArithmetic : (ExprAst → ExprAst → ExprAst) → Type 0
IsArithmetic tie = (scope : Scope) (a b : ExprAst) → judged scope (tie a b) ≡ arithmetic (judged scope a) (judged scope b) (place_of a)

pub sums : IsArithmetic sum
sums scope a b = judged_sum scope a b (place_of a)

pub differences : IsArithmetic difference
differences scope a b = judged_difference scope a b (place_of a)

-- a 64-bit number has no problem
number_fits : (n at : ℕ) → n < 2 ^ 63 → literal_problems (number_at n at) ≡ []
number_fits n at h = let e : nat_lt n (2 ^ 63) ≡ true = grind (arith, nat_tests, h) in rw e refl

-- the balance and a number
value_judged : (scope : Scope) (tie : ExprAst → ExprAst → ExprAst) (c : ColumnAst) (n at : ℕ) → IsArithmetic tie → n < 2 ^ 63 → column_problems scope c ≡ [] → column_kind scope c ≡ Some col.Int
    → judged scope (tie (expr (kind.Column c) c.first.at) (simple (of_number n at))) ≡ record { problems = []; kind = Some col.Int; at = place_of (expr (kind.Column c) c.first.at) }
value_judged scope tie c n at is small none int =
    let place : ℕ = place_of (expr (kind.Column c) c.first.at) in
    let e : nat_lt n (2 ^ 63) ≡ true = grind (arith, nat_tests, small) in
    is scope (expr (kind.Column c) c.first.at) (simple (of_number n at))
    ∙ ap (λ j. arithmetic j (judged scope (simple (of_number n at))) place) (judged_column scope c c.first.at)
    ∙ ap (λ j. arithmetic (record { problems = column_problems scope c; kind = column_kind scope c; at = c.first.at }) j place) (judged_literal scope (number_at n at) at)
    ∙ rw (none, int, e) refl

compared_none : (scope : Scope) (c : ColumnAst) (n at : ℕ) → n < 2 ^ 63 → column_problems scope c ≡ [] → column_kind scope c ≡ Some col.Int
    → cond_problems scope (cond.Compare op.Eq (operand_of.Column c) (of_number n at)) ≡ []
compared_none scope c n at small none int =
    let e : nat_lt n (2 ^ 63) ≡ true = grind (arith, nat_tests, small) in
    ap (cond_problems scope) (sym (cond.rolls-Compare op.Eq (operand_of.Column c) (of_number n at)))
    ∙ fold-roll-CondAst (List Problem) (cond_layer scope) (CondAst-F.Compare op.Eq (operand_of.Column c) (of_number n at))
    ∙ rw (none, int, e) refl

bounded_none : (scope : Scope) (c : ColumnAst) (low high p q : ℕ) → low < 2 ^ 63 → high < 2 ^ 63 → column_problems scope c ≡ [] → column_kind scope c ≡ Some col.Int
    → cond_problems scope (cond.Between (operand_of.Column c) (of_number low p) (of_number high q) false) ≡ []
bounded_none scope c low high p q small few none int =
    let e : nat_lt low (2 ^ 63) ≡ true = grind (arith, nat_tests, small) in
    let f : nat_lt high (2 ^ 63) ≡ true = grind (arith, nat_tests, few) in
    ap (cond_problems scope) (sym (cond.rolls-Between (operand_of.Column c) (of_number low p) (of_number high q) false))
    ∙ fold-roll-CondAst (List Problem) (cond_layer scope) (CondAst-F.Between (operand_of.Column c) (of_number low p) (of_number high q) false)
    ∙ rw (none, int, e, f) refl

-- the account table as a statement names it at a place
abbrev scope_at : ℕ → Scope
scope_at at = scope_of accounts (alone (record { name = codes "acct"; at = at }))

balance_is : (p at : ℕ) → (column_problems (scope_at p) (plain_column (codes "bal") at) ≡ []) × (column_kind (scope_at p) (plain_column (codes "bal") at) ≡ Some col.Int)
unfolding meant column_problems column_kind
balance_is p at = (refl, refl)

id_is : (p at : ℕ) → (column_problems (scope_at p) (plain_column (codes "id") at) ≡ []) × (column_kind (scope_at p) (plain_column (codes "id") at) ≡ Some col.Int)
unfolding meant column_problems column_kind
id_is p at = (refl, refl)

pub change_fits : (tie : ExprAst → ExprAst → ExprAst) (amount account : ℕ) (at : ℕ → ℕ) → IsArithmetic tie → amount < 2 ^ 63 → account < 2 ^ 63
    → problem_of accounts (change_tree tie amount account at) ≡ None
unfolding problem_of
change_fits tie amount account at is small few =
    let b = balance_is (at 1) (at 5) in
    let i = id_is (at 1) (at 9) in
    rw (
      value_judged (scope_at (at 1)) tie (plain_column (codes "bal") (at 5)) amount (at 7) is small b.0 b.1,
      compared_none (scope_at (at 1)) (plain_column (codes "id") (at 9)) account (at 11) few i.0 i.1,
    ) refl

pub look_fits : (first last : ℕ) (at : ℕ → ℕ) → first < 2 ^ 63 → last < 2 ^ 63 → problem_of accounts (look_tree first last at) ≡ None
unfolding problem_of
look_fits first last at low high =
    let b = balance_is (at 3) (at 1) in
    let i = id_is (at 3) (at 5) in
    rw (
      judged_column (scope_at (at 3)) (plain_column (codes "bal") (at 1)) (at 1),
      b.0,
      bounded_none (scope_at (at 3)) (plain_column (codes "id") (at 5)) first last (at 7) (at 9) low high i.0 i.1,
    ) refl
