-- Not to be believed but checked: proofs that a trait's law has to cite. A make tells the make of the backend within, and
-- the script.
use Rattle.std.proofs.Common.{◌≡◌, ℕ, pos, negsuc, Bool, ◌==◌, ◌&&◌, not, cond, List, [], ◌∷◌, ◌++◌, length, take, drop, refl, ap, ◌∙◌, sym}
use Rattle.std.proofs.Math.Seq.{take-append_seam, drop-append_seam}
use Rattle.hr_faulty.specs.declared.script.Fault.{Fault}
use Rattle.hr_faulty.specs.declared.script.Act.{Act}
use Rattle.hr_faulty.specs.declared.script.Act.TheVariants.{Wrong, Drop, Early, Block, Deadlock, Fail, Position, Lose}
use Rattle.hr_faulty.specs.declared.script.When.TheVariants.{Before, After}
use Rattle.hr_faulty.specs.Script.{lies}
use Rattle.hr_faulty.specs.Make.{act_numbers, script_numbers, make_over}

abbrev first_of : List ℕ → ℕ
first_of [] = 0
first_of (n ∷ ns) = n

abbrev rest_of : List ℕ → List ℕ
rest_of [] = []
rest_of (n ∷ ns) = ns

-- an act and what stands behind it
record Read : Type 0 where
  act : Act
  behind : List ℕ

abbrev read_list : (List ℕ → Act) → List ℕ → Read
read_list of ns = record { act = of (take (first_of ns) (rest_of ns)); behind = drop (first_of ns) (rest_of ns) }

abbrev read_number : (ℕ → Act) → List ℕ → Read
read_number of ns = record { act = of (first_of ns); behind = rest_of ns }

abbrev read_kind : ℕ → List ℕ → Read
read_kind kind ns =
    cond (kind == 0) (read_number (λ n. Wrong (pos n)) ns)
    (cond (kind == 1) (read_number (λ n. Wrong (negsuc n)) ns)
    (cond (kind == 2) (read_number Drop ns)
    (cond (kind == 3) record { act = Early; behind = ns }
    (cond (kind == 4) (read_list Block ns)
    (cond (kind == 5) (read_list Deadlock ns)
    (cond (kind == 6) record { act = Fail; behind = ns }
    (cond (kind == 7) (read_number Position ns)
    (cond (kind == 8) record { act = Lose Before; behind = ns } record { act = Lose After; behind = ns }))))))))

abbrev read_act : List ℕ → Read
read_act ns = read_kind (first_of ns) (rest_of ns)

read_listed : (of : List ℕ → Act) (ts ns : List ℕ) → read_list of (length ts ∷ ts ++ ns) ≡ record { act = of ts; behind = ns }
read_listed of ts ns = λ i. record { act = of (take-append_seam ts ns i); behind = drop-append_seam ts ns i }

-- numbers are read back as the act that they came from
read_back : (a : Act) (ns : List ℕ) → read_act (act_numbers a ++ ns) ≡ record { act = a; behind = ns }
read_back (Wrong (pos n)) ns = refl
read_back (Wrong (negsuc n)) ns = refl
read_back (Drop n) ns = refl
read_back Early ns = refl
read_back (Block named) ns = read_listed Block named ns
read_back (Deadlock cycle) ns = read_listed Deadlock cycle ns
read_back Fail ns = refl
read_back (Position n) ns = refl
read_back (Lose Before) ns = refl
read_back (Lose After) ns = refl

one_act : (a b : Act) (m n : List ℕ) → act_numbers a ++ m ≡ act_numbers b ++ n → (a ≡ b) × (m ≡ n)
one_act a b m n e =
    let same = sym (read_back a m) ∙ ap read_act e ∙ read_back b n in
    (ap (λ (r : Read). r.act) same, ap (λ (r : Read). r.behind) same)

pub one_script : (s t : List Fault) → script_numbers s ≡ script_numbers t → s ≡ t
one_script [] [] e = refl
one_script [] (f ∷ t) e = cc
one_script (f ∷ s) [] e = cc
one_script (f ∷ s) (g ∷ t) e =
    let calls : f.call ≡ g.call = ap first_of e in
    let rest = one_act f.act g.act (script_numbers s) (script_numbers t) (ap rest_of e) in
    let later = one_script s t rest.1 in
    λ i. record { call = calls i; act = rest.0 i } ∷ later i

-- the front of a list whose length is told, and what stands behind it
front_told : (ms ns xs ys : List ℕ) → length ms ∷ ms ++ xs ≡ length ns ∷ ns ++ ys → (ms ≡ ns) × (xs ≡ ys)
front_told ms ns xs ys e =
    let size : length ms ≡ length ns = ap first_of e in
    let all : ms ++ xs ≡ ns ++ ys = ap rest_of e in
    let front = sym (take-append_seam ms xs) ∙ ap (take (length ms)) all ∙ ap (λ n. take n (ns ++ ys)) size ∙ take-append_seam ns ys in
    let back = sym (drop-append_seam ms xs) ∙ ap (drop (length ms)) all ∙ ap (λ n. drop n (ns ++ ys)) size ∙ drop-append_seam ns ys in
    (front, back)

pub one_make : (m n : List ℕ) (s t : List Fault) → make_over m s ≡ make_over n t → (m ≡ n) × (s ≡ t)
one_make m n s t e =
    let parts = front_told m n (script_numbers s) (script_numbers t) e in
    (parts.0, one_script s t parts.1)

-- so the make decides whether the whole is honest, if that within decides it there
pub same_honesty : {B : Type 0} (make : B → List ℕ) (honest : B → Bool) → ((a b : B) → make a ≡ make b → honest a ≡ honest b)
    → (a b : B) (s t : List Fault) → make_over (make a) s ≡ make_over (make b) t → (honest a && not (lies s)) ≡ (honest b && not (lies t))
same_honesty make honest decided a b s t e =
    let parts = one_make (make a) (make b) s t e in
    let within = decided a b parts.0 in
    λ i. within i && not (lies (parts.1 i))
