-- A column, a literal and an operand without a problem: what they are bound to is there, and of the kind that was told of them.
use Rattle.std.proofs.Common.{◌≡◌, ℕ, suc, ◌+◌, Bool, true, false, cond, Option, Some, None, Result, Ok, Err, List, [], ◌∷◌, map, slice_get, option_map, option_and_then, refl, sym, ap, ◌∙◌, arith}
use Rattle.std.proofs.lemmas.Option.{slice_get-map}
use Rattle.hr_rel.specs.declared.catalog.ColumnDef.{ColumnDef}
use Rattle.hr_rel.specs.declared.catalog.ColKind.{ColKind}
use Rattle.hr_rel.specs.declared.catalog.ColKind.TheVariants as col
use Rattle.hr_rel.specs.Fit as fit
use Rattle.hr_rel.specs.Fit.{Entries, agree, both_agree}
use Rattle.hr_parse.specs.declared.ast.ColumnAst.{ColumnAst}
use Rattle.hr_parse.specs.declared.ast.LitAst.{LitAst}
use Rattle.hr_parse.specs.declared.ast.LitAst.TheVariants as lit
use Rattle.hr_parse.specs.declared.ast.LiteralAst.{LiteralAst}
use Rattle.hr_parse.specs.declared.ast.OperandAst.{OperandAst}
use Rattle.hr_parse.specs.declared.ast.OperandAst.TheVariants as operand
use Rattle.hr_problem.specs.declared.problem.ProblemKind.{ProblemKind}
use Rattle.hr_problem.specs.declared.problem.ProblemKind.TheVariants as kind
use Rattle.hr_names.specs.declared.scope.Place.{Place}
use Rattle.hr_names.specs.Scope.{Entry, Scope, same_name, column_of, own_name, may_be_in, found_in, and_found, found_from, the_one, meant, definition_at}
use Rattle.hr_names.specs.Operands.{refused, column_problems, kind_meant, column_kind, is_value, literal_problems, literal_kind, operand_problems, operand_kind, operand_at, mismatch}
use Rattle.hr_check.specs.Conditions.{against}
use Rattle.hr_bind.specs.Bound.{ref_of, bound_column, bound_value, bound_operand}
use Rattle.hr_fitting.proofs.Words.{left_none, right_none, passed, then_map, position_has}

-- the columns of each table entry
abbrev pub entries : Scope → Entries
entries scope = map (λ (e : Entry). e.columns) scope

-- ---- columns

-- a place, counted from the entry with this number on, has a column
abbrev IsThere : ℕ → Scope → Place → Type 0
IsThere number scope p = (i : ℕ) × (p.entry ≡ number + i) × (d : ColumnDef) × (option_and_then (λ (e : Entry). slice_get e.columns p.column) (slice_get scope i) ≡ Some d)

in_entry : (number : ℕ) (entry : Entry) (scope : Scope) (name : List ℕ) (p : Place) (b : Bool) (o : Option ℕ) → column_of entry.columns name ≡ o
    → cond b (option_map (λ (at : ℕ). record { entry = number; column = at }) o) None ≡ Some p → IsThere number (entry ∷ scope) p
in_entry number entry scope name p true None e is = cc
in_entry number entry scope name p false o e is = cc
in_entry number entry scope name p true (Some at) e is =
    let same : ◌≡◌ {A = Place} (record { entry = number; column = at }) p = cc in
    let first : p.entry ≡ number = ap (λ (q : Place). q.entry) (sym same) in
    let column : p.column ≡ at = ap (λ (q : Place). q.column) (sym same) in
    let d = position_has (λ (d : ColumnDef). same_name d.name name) entry.columns at e in
    (0, omega (arith, first), d.0, ap (slice_get entry.columns) column ∙ d.1)

there_by : (number : ℕ) (entry : Entry) (scope : Scope) (c : ColumnAst) (p : Place) (ps : List Place) (o : Option Place) → found_in number entry c ≡ o
    → (found_from (suc number) scope c ≡ p ∷ ps → IsThere (suc number) scope p) → and_found o (found_from (suc number) scope c) ≡ p ∷ ps → IsThere number (entry ∷ scope) p
there_by number entry scope c p ps None f more e =
    let there = more e in
    let at = there.1 in
    (suc there.0, omega (arith, at), there.2, there.3)
there_by number entry scope c p ps (Some q) f more e =
    let same : q ≡ p = cc in
    in_entry number entry scope (own_name c) p (may_be_in entry c) (column_of entry.columns (own_name c)) refl (f ∙ ap Some same)

found_there : (number : ℕ) (scope : Scope) (c : ColumnAst) (p : Place) (ps : List Place) → found_from number scope c ≡ p ∷ ps → IsThere number scope p
found_there number [] c p ps e = cc
found_there number (entry ∷ scope) c p ps e = there_by number entry scope c p ps (found_in number entry c) refl (found_there (suc number) scope c p ps) e

the_one_is : (ps : List Place) (p : Place) → the_one ps ≡ Ok p → ps ≡ p ∷ []
the_one_is [] p e = cc
the_one_is (q ∷ []) p e =
    let same : q ≡ p = cc in
    ap (λ (x : Place). x ∷ []) same
the_one_is (q ∷ r ∷ ps) p e = cc

meant_is : (scope : Scope) (c : ColumnAst) → meant scope c ≡ the_one (found_from 0 scope c)
unfolding meant
meant_is scope c = refl

pub meant_there : (scope : Scope) (c : ColumnAst) (p : Place) → meant scope c ≡ Ok p → (d : ColumnDef) × (definition_at scope p ≡ Some d)
meant_there scope c p e =
    let there = found_there 0 scope c p [] (the_one_is (found_from 0 scope c) p (sym (meant_is scope c) ∙ e)) in
    let at = there.1 in
    let same : p.entry ≡ there.0 = omega (arith, at) in
    (there.2, ap (λ (i : ℕ). option_and_then (λ (e : Entry). slice_get e.columns p.column) (slice_get scope i)) same ∙ there.3)

pub at_place : (scope : Scope) (p : Place) → fit.column_at (entries scope) (record { entry = p.entry; column = p.column }) ≡ definition_at scope p
at_place scope p = ap (option_and_then (λ (columns : List ColumnDef). slice_get columns p.column)) (slice_get-map (λ (e : Entry). e.columns) scope p.entry)
    ∙ then_map (λ (e : Entry). e.columns) (λ (columns : List ColumnDef). slice_get columns p.column) (slice_get scope p.entry)

problems_are : (scope : Scope) (c : ColumnAst) → column_problems scope c ≡ refused (meant scope c) c.first.at
unfolding column_problems
problems_are scope c = refl

kind_is : (scope : Scope) (c : ColumnAst) → column_kind scope c ≡ kind_meant scope (meant scope c)
unfolding column_kind
kind_is scope c = refl

-- a column without a problem means a place
pub is_meant_by : (scope : Scope) (c : ColumnAst) → column_problems scope c ≡ [] → (p : Place) × (meant scope c ≡ Ok p)
is_meant_by scope c e = by (meant scope c) refl (sym (problems_are scope c) ∙ e)
  where
    by : (r : Result Place ProblemKind) → meant scope c ≡ r → refused r c.first.at ≡ [] → (p : Place) × (meant scope c ≡ Ok p)
    by (Ok p) m n = (p, m)
    by (Err k) m n = cc

-- and there is a column, of the kind that is told
pub column_ok : (scope : Scope) (c : ColumnAst) → column_problems scope c ≡ [] → (k : ColKind) × (fit.column_kind (entries scope) (bound_column scope c) ≡ Some (Some k)) × (column_kind scope c ≡ Some k)
column_ok scope c e =
    let m = is_meant_by scope c e in
    let d = meant_there scope c m.0 m.1 in (
      d.0.kind,
      ap (λ (r : Result Place ProblemKind). fit.column_kind (entries scope) (ref_of r)) m.1 ∙ ap (option_map (λ (d : ColumnDef). Some d.kind)) (at_place scope m.0 ∙ d.1),
      kind_is scope c ∙ ap (kind_meant scope) m.1 ∙ ap (option_map (λ (d : ColumnDef). d.kind)) d.1,
    )

-- ---- literals and operands

value_ok : (v : LitAst) → is_value v ≡ true → fit.literal_kind (bound_value v) ≡ Some (literal_kind v)
value_ok lit.Null e = refl
value_ok (lit.Int n) e = ap (λ (b : Bool). cond b (Some (Some col.Int)) None) e
value_ok (lit.Text t) e = refl

pub literal_ok : (l : LiteralAst) → literal_problems l ≡ [] → fit.literal_kind (bound_value l.value) ≡ Some (literal_kind l.value)
literal_ok l e = value_ok l.value (passed (is_value l.value) kind.TextTooLong l.at e)

pub operand_ok : (scope : Scope) (o : OperandAst) → operand_problems scope o ≡ [] → fit.operand_kind (entries scope) (bound_operand scope o) ≡ Some (operand_kind scope o)
operand_ok scope (operand.Column c) e =
    let k = column_ok scope c e in
    k.1 ∙ ap Some (sym k.2)
operand_ok scope (operand.Literal l) e = literal_ok l e

-- kinds that are not told to differ agree
pub agreed : (a b : Option ColKind) (at : ℕ) → mismatch a b at ≡ [] → agree a b ≡ true
agreed a b at e = passed (agree a b) kind.TypeMismatch at e

-- two operands that are compared
pub compare_ok : (scope : Scope) (left right : OperandAst) → operand_problems scope left ≡ [] → against scope left right ≡ []
    → both_agree (fit.operand_kind (entries scope) (bound_operand scope left)) (fit.operand_kind (entries scope) (bound_operand scope right)) ≡ true
compare_ok scope left right e f =
    let own = operand_problems scope right in
    let differs = mismatch (operand_kind scope left) (operand_kind scope right) (operand_at right) in
    ap (λ (k : fit.Kind). both_agree k (fit.operand_kind (entries scope) (bound_operand scope right))) (operand_ok scope left e)
    ∙ ap (both_agree (Some (operand_kind scope left))) (operand_ok scope right (left_none own differs f))
    ∙ agreed (operand_kind scope left) (operand_kind scope right) (operand_at right) (right_none own differs f)
