-- Problems of a statement, and which one is told.
use Rattle.std.specs.Prelude.{◌≡◌, All, Contains, ℕ, Bool, true, false, ◌&&◌, ◌||◌, ◌==◌, nat_lt, Option, Some, None, List, [], ◌∷◌}
use Rattle.hr_base.specs.Lists.{first_by, is_empty}
use Rattle.hr_problem.specs.declared.problem.Problem.{Problem}
use Rattle.hr_problem.specs.declared.problem.ProblemKind.{ProblemKind}
use Rattle.hr_problem.specs.declared.problem.ProblemKind.TheVariants as kind

-- the number of a kind: of two problems at one place, the one with the lower number is told
abbrev pub number : ProblemKind → ℕ
number kind.UnknownTable = 1
number kind.UnknownColumn = 2
number kind.TypeMismatch = 3
number kind.KeyAssigned = 4
number kind.WrongArity = 5
number kind.TextTooLong = 6
number kind.AggregateMix = 7
number kind.NameTwice = 8
number kind.Ambiguous = 9

-- a lower place comes first, and at one place a lower number
unfoldable pub is_before : Problem → Problem → Bool
is_before p q = nat_lt p.place q.place || ((p.place == q.place) && nat_lt (number p.kind) (number q.kind))

-- the one before which no other comes
abbrev pub least : List Problem → Option Problem
least problems = first_by is_before problems

-- This problem is in the list, and none of the list is before it.
abbrev pub IsLeast : List Problem → Problem → Type 0
IsLeast problems p = Contains problems p × All (λ (q : Problem). is_before q p ≡ false) problems

-- the first in the list
abbrev pub first_of : List Problem → Option Problem
first_of [] = None
first_of (p ∷ problems) = Some p

-- a problem of this kind at this place, where the test says so
abbrev pub problem_where : Bool → ProblemKind → ℕ → List Problem
problem_where true k at = record { kind = k; place = at } ∷ []
problem_where false k at = []

-- a list without parts, which no statement's text has
abbrev pub none_at_all : {X : Type 0} → List X → List Problem
none_at_all all = problem_where (is_empty all) kind.WrongArity 0
