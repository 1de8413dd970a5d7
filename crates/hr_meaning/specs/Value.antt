-- The value of an expression.
use Rattle.std.specs.Prelude.{ℤ, ◌+ℤ◌, ◌-ℤ◌, ◌*ℤ◌, if◌then◌else◌, List, [], ◌∷◌, Result, Ok, Err}
use Rattle.hr_rel.specs.declared.value.Value.{Value}
use Rattle.hr_rel.specs.declared.value.Value.TheVariants.{Null, Int, Text}
use Rattle.hr_rel.specs.declared.answer.RunError.{RunError}
use Rattle.hr_rel.specs.declared.answer.RunError.TheVariants.{Overflow}
use Rattle.hr_rel.specs.declared.expr.Expr.{Expr, fold-Expr}
use Rattle.hr_rel.specs.declared.expr.Expr.TheOpen.{Expr-F}
use Rattle.hr_rel.specs.Kinds.{fits_i64}
use Rattle.hr_meaning.specs.Truth.{Tuple, column_value}

-- what comes next, unless there was an error
abbrev pub and_then : {X Y : Type 0} → Result X RunError → (X → Result Y RunError) → Result Y RunError
and_then (Ok x) f = f x
and_then (Err e) f = Err e

-- what f gives of each, or the first error
abbrev pub each : {X Y : Type 0} → (X → Result Y RunError) → List X → Result (List Y) RunError
each f [] = Ok []
each f (x ∷ xs) = and_then (f x) (λ y. and_then (each f xs) (λ ys. Ok (y ∷ ys)))

-- this number, if it has 64 bits
abbrev pub number : ℤ → Result Value RunError
number n = if fits_i64 n then Ok (Int n) else Err Overflow

-- the result of two numbers; NULL where one isn't there, or is a text, which doesn't fit
abbrev pub combined : (ℤ → ℤ → ℤ) → Value → Value → Result Value RunError
combined f (Int m) (Int n) = number (f m n)
combined f (Int m) Null = Ok Null
combined f (Int m) (Text t) = Ok Null
combined f Null b = Ok Null
combined f (Text s) b = Ok Null

-- both operands are evaluated, the left one first, also where one is NULL; the first overflow is that of the whole
abbrev pub operation : (ℤ → ℤ → ℤ) → Result Value RunError → Result Value RunError → Result Value RunError
operation f a b = and_then a (λ x. and_then b (λ y. combined f x y))

abbrev pub value_layer : Expr-F (Tuple → Result Value RunError) → Tuple → Result Value RunError
value_layer (Expr-F.Lit v) rows = Ok v
value_layer (Expr-F.Col c) rows = Ok (column_value rows c)
value_layer (Expr-F.Add a b) rows = operation (λ m n. m +ℤ n) (a rows) (b rows)
value_layer (Expr-F.Sub a b) rows = operation (λ m n. m -ℤ n) (a rows) (b rows)
value_layer (Expr-F.Mul a b) rows = operation (λ m n. m *ℤ n) (a rows) (b rows)

-- the value of an expression on a row or a pair
abbrev pub value_of : Expr → Tuple → Result Value RunError
value_of e = fold-Expr (Tuple → Result Value RunError) value_layer e
