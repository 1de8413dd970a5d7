-- Lists of entries, each with its caller's number.
use Rattle.std.specs.Prelude.{◌≡◌, ℕ, ◌==◌, List, [], ◌∷◌, ◌++◌, filter}

-- the whole list begins with the front
abbrev pub Begins : {A : Type 0} → List A → List A → Type 0
Begins {A} front whole = (more : List A) × (whole ≡ front ++ more)

-- P holds of each element
abbrev pub Each : {A : Type 0} → (A → Type 0) → List A → Type 0
Each P [] = Unit {0}
Each P (x ∷ xs) = P x × Each P xs

-- the entries of one caller, in order
abbrev pub calls_by : {E : Type 0} → (E → ℕ) → ℕ → List E → List E
calls_by caller number entries = filter (λ e. caller e == number) entries
