-- The least of two lists together is the sooner of the least of each.
use Rattle.std.proofs.Common.{◌≡◌, ℕ, ◌+◌, ◌*◌, ◌<◌, Bool, true, false, ◌&&◌, ◌||◌, ◌==◌, nat_lt, if◌then◌else◌, Option, Some, None, List, [], ◌∷◌, ◌++◌, refl, ap, ◌∙◌, sym, arith}
use Rattle.std.proofs.lemmas.Bool.{false≢true, true≢false}
use Rattle.hr_problem.specs.declared.problem.Problem.{Problem}
use Rattle.hr_problem.specs.declared.problem.ProblemKind.{ProblemKind}
use Rattle.hr_problem.specs.declared.problem.ProblemKind.TheVariants as kind
use Rattle.hr_problem.specs.Problems.{is_before, least, number}
use Rattle.hr_problem.specs.Sooner.{sooner}

few : (k : ProblemKind) → number k < 10
few kind.UnknownTable = omega arith
few kind.UnknownColumn = omega arith
few kind.TypeMismatch = omega arith
few kind.KeyAssigned = omega arith
few kind.WrongArity = omega arith
few kind.TextTooLong = omega arith
few kind.AggregateMix = omega arith
few kind.NameTwice = omega arith
few kind.Ambiguous = omega arith

-- a place and a number below 10 as one number
lexical : (a b m n : ℕ) → m < 10 → n < 10 → (nat_lt a b || ((a == b) && nat_lt m n)) ≡ nat_lt (10 * a + m) (10 * b + n)
lexical a b m n l r = grind arith

abbrev pub key : Problem → ℕ
key p = 10 * p.place + number p.kind

pub by_key : (p q : Problem) → is_before p q ≡ nat_lt (key p) (key q)
unfolding is_before
by_key p q = lexical p.place q.place (number p.kind) (number q.kind) (few p.kind) (few q.kind)

abbrev pick : (Problem → Problem → Bool) → Problem → Problem → Problem
pick before p q = if before q p then q else p

-- of three, it doesn't matter which two are compared first
three_by : (before : Problem → Problem → Bool) (p q r : Problem) (a b c : Bool) → before q p ≡ a → before r q ≡ b → before r p ≡ c
    → (a ≡ true → b ≡ true → c ≡ true) → (a ≡ false → b ≡ false → c ≡ false)
    → pick before (pick before p q) r ≡ pick before p (pick before q r)
three_by before p q r true true true x y z up down = simp (x, y, z) refl
three_by before p q r true true false x y z up down = absurd (false≢true (up refl refl))
three_by before p q r true false c x y z up down = simp (x, y) refl
three_by before p q r false true true x y z up down = simp (x, y, z) refl
three_by before p q r false true false x y z up down = simp (x, y, z) refl
three_by before p q r false false true x y z up down = absurd (true≢false (down refl refl))
three_by before p q r false false false x y z up down = simp (x, y, z) refl

below : (k l m : ℕ) → nat_lt l k ≡ true → nat_lt m l ≡ true → nat_lt m k ≡ true
below k l m x y = grind arith

pub above : (k l m : ℕ) → nat_lt l k ≡ false → nat_lt m l ≡ false → nat_lt m k ≡ false
above k l m x y = grind arith

three : (p q r : Problem) → pick is_before (pick is_before p q) r ≡ pick is_before p (pick is_before q r)
three p q r = three_by is_before p q r (is_before q p) (is_before r q) (is_before r p) refl refl refl
    (λ x y. by_key r p ∙ below (key p) (key q) (key r) (sym (by_key q p) ∙ x) (sym (by_key r q) ∙ y))
    (λ x y. by_key r p ∙ above (key p) (key q) (key r) (sym (by_key q p) ∙ x) (sym (by_key r q) ∙ y))

pub sooner_assoc : (a b c : Option Problem) → sooner (sooner a b) c ≡ sooner a (sooner b c)
sooner_assoc None b c = refl
sooner_assoc (Some p) None c = refl
sooner_assoc (Some p) (Some q) None = refl
sooner_assoc (Some p) (Some q) (Some r) = ap Some (three p q r)

pub least_append : (xs ys : List Problem) → least (xs ++ ys) ≡ sooner (least xs) (least ys)
least_append [] ys = refl
least_append (x ∷ xs) ys = ap (sooner (Some x)) (least_append xs ys) ∙ sym (sooner_assoc (Some x) (least xs) (least ys))
