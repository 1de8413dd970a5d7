-- The make of a scripted backend: numbers that tell the make of the backend within and the script.
use Rattle.std.specs.Prelude.{ℕ, pos, negsuc, List, [], ◌∷◌, ◌++◌, length}
use Rattle.hr_faulty.specs.declared.script.Fault.{Fault}
use Rattle.hr_faulty.specs.declared.script.Act.{Act}
use Rattle.hr_faulty.specs.declared.script.Act.TheVariants.{Wrong, Drop, Early, Block, Deadlock, Fail, Position, Lose}
use Rattle.hr_faulty.specs.declared.script.When.TheVariants.{Before, After}

-- an act as numbers: its kind, and what it holds
abbrev pub act_numbers : Act → List ℕ
act_numbers (Wrong (pos n)) = 0 ∷ n ∷ []
act_numbers (Wrong (negsuc n)) = 1 ∷ n ∷ []
act_numbers (Drop n) = 2 ∷ n ∷ []
act_numbers Early = 3 ∷ []
act_numbers (Block named) = 4 ∷ length named ∷ named
act_numbers (Deadlock cycle) = 5 ∷ length cycle ∷ cycle
act_numbers Fail = 6 ∷ []
act_numbers (Position n) = 7 ∷ n ∷ []
act_numbers (Lose Before) = 8 ∷ []
act_numbers (Lose After) = 9 ∷ []

-- a script as numbers, fault by fault
abbrev pub script_numbers : List Fault → List ℕ
script_numbers [] = []
script_numbers (fault ∷ script) = fault.call ∷ act_numbers fault.act ++ script_numbers script

-- the make of a scripted backend over one of that make
abbrev pub make_over : List ℕ → List Fault → List ℕ
make_over within script = length within ∷ within ++ script_numbers script
