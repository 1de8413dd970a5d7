-- The words in which the worked statements are written.
use Rattle.std.specs.Prelude.{ℕ, zero, suc, ◌+◌, ◌-◌, pos, negsuc, List, [], ◌∷◌, map}
use Rattle.hr_rel.specs.declared.value.Value.{Value}
use Rattle.hr_rel.specs.declared.value.Value.TheVariants as value
use Rattle.hr_rel.specs.declared.answer.Answer.{Answer}
use Rattle.hr_rel.specs.declared.expr.ColRef.{ColRef}
use Rattle.hr_rel.specs.declared.expr.Operand.{Operand}
use Rattle.hr_rel.specs.declared.expr.Operand.TheVariants as operand
use Rattle.hr_rel.specs.Database.{Database, with_rows}
use Rattle.hr_meaning.specs.Exec.{Outcome, exec}
use Rattle.hr_worked_statements.specs.Trees.{Term, Col, Shown, Plain, Assigned, Tree, stmt_of}

-- A worked statement: the database before it, and what it leaves and answers, worked out by hand.
pub record Worked : Type 0 where
  pub before : Database
  pub tree : Tree
  pub outcome : Outcome

-- a statement that leaves the database as it was
abbrev pub asked : Database → Tree → Answer → Worked
asked db tree answer = record { before = db; tree = tree; outcome = record { after = db; answer = answer } }

-- a statement after which a table has these rows
abbrev pub changed : Database → Tree → Answer → ℕ → List (List Value) → Worked
changed db tree answer table rows = record { before = db; tree = tree; outcome = record { after = with_rows db table rows; answer = answer } }

-- what was worked out, and what the definitions say
abbrev pub worked_out : List Worked → List Outcome
worked_out all = map (λ (w : Worked). w.outcome) all

abbrev pub defined : List Worked → List Outcome
defined all = map (λ (w : Worked). exec w.before (stmt_of w.tree)) all

-- ---- values

abbrev pub int : ℕ → Value
int n = value.Int (pos n)

-- the number -n, of an n that isn't 0
abbrev pub minus : ℕ → Value
minus n = value.Int (negsuc (n - 1))

abbrev pub text : List ℕ → Value
text bytes = value.Text bytes

-- rows of one number each, from this number on
abbrev pub numbers : ℕ → ℕ → List (List Value)
numbers from zero = []
numbers from (suc n) = (int from ∷ []) ∷ numbers (from + 1) n

-- ---- the tables t (id, v, s), u (id, w) and p (id, a, b), by their numbers, and their columns

abbrev pub t : ℕ
t = 0

abbrev pub u : ℕ
u = 1

abbrev pub p : ℕ
p = 2

-- a column of the statement's first table entry
abbrev pub first : ℕ → ColRef
first column = record { entry = 0; column = column }

abbrev pub id : ColRef
id = first 0

abbrev pub v : ColRef
v = first 1

abbrev pub s : ColRef
s = first 2

abbrev pub w : ColRef
w = first 1

abbrev pub a : ColRef
a = first 1

abbrev pub b : ColRef
b = first 2

-- the same column of the second one
abbrev pub second : ColRef → ColRef
second c = record { entry = 1; column = c.column }

-- ---- parts of statements

abbrev pub column : ColRef → Operand
column c = operand.Col c

abbrev pub literal : Value → Operand
literal x = operand.Lit x

-- the item that is a column
abbrev pub shows : ColRef → Shown
shows c = Plain (Col c)

abbrev pub set : ColRef → Term → Assigned
set c e = record { column = c.column; value = e }
