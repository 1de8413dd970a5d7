-- What holds of each backend of a list, and of what is found at its place.
use Rattle.std.proofs.Common.{◌≡◌, ℕ, zero, suc, ◌+◌, ◌*◌, ◌<◌, ◌≤◌, Option, Some, None, option_map, Result, Ok, Err, List, [], ◌∷◌, ◌++◌, length, map, take, get_or, slice_get, refl, ap, ◌∙◌, sym, subst, arith}
use Rattle.std.specs.Prelude.{IfOk, IfSome, unwrap_or}
use Rattle.hr_records.proofs.Options.{same_some, some_none}
use Rattle.hr_engine.specs.Backend.{Standing}
use Rattle.hr_history.specs.Replicas.{journal_of}
use Rattle.hr_ledger.specs.Chronicle.{Chronicle, history_in}
use Rattle.hr_said.specs.declared.scenario.Scenario.{Scenario}
use Rattle.hr_schedule.specs.Claims.{TableRows, IsTold, start, kind_of, script_of, rows_at}
use Rattle.hr_driver.specs.Whole.{StandFromNothing}
use Rattle.hr_step.specs.Run.{locking}
use Rattle.hr_step.specs.Within.{IsBehind, Shows}

-- ---- options and results

pub if_ok : {X E : Type 0} (P Q : X → Type 0) (r : Result X E) → ((x : X) → P x → Q x) → IfOk r P → IfOk r Q
if_ok P Q (Ok x) f h = f x h
if_ok P Q (Err e) f h = h

-- ---- what is found at a place

get_map : {X Y : Type 0} (f : X → Y) (xs : List X) (i : ℕ) → slice_get (map f xs) i ≡ option_map f (slice_get xs i)
get_map f [] i = refl
get_map f (x ∷ xs) zero = refl
get_map f (x ∷ xs) (suc i) = get_map f xs i

pub is_there : {X : Type 0} (xs : List X) (i : ℕ) → i < length xs → slice_get xs i ≡ None → ⊥
is_there [] i low e = absurd (omega (arith, low))
is_there (x ∷ xs) zero low e = some_none x e
is_there (x ∷ xs) (suc i) low e = is_there xs i (omega (arith, low)) e

-- an element of a list, by the two words for it
pub get_is : {X : Type 0} (xs ys : List X) (i : ℕ) (d : X) → xs ≡ ys → get_or xs i d ≡ unwrap_or (slice_get ys i) d
get_is {X = X} xs ys i d e = ap (λ zs. get_or zs i d) e ∙ by_place ys i
  where
    by_place : (zs : List X) (j : ℕ) → get_or zs j d ≡ unwrap_or (slice_get zs j) d
    by_place [] j = refl
    by_place (z ∷ zs) zero = refl
    by_place (z ∷ zs) (suc j) = by_place zs j

pub get_there : {X : Type 0} (xs ys : List X) (i : ℕ) (d o : X) → xs ≡ ys → i < length ys → get_or xs i d ≡ unwrap_or (slice_get ys i) o
get_there {X = X} xs ys i d o e low = ap (λ zs. get_or zs i d) e ∙ by_place ys i low
  where
    by_place : (zs : List X) (j : ℕ) → j < length zs → get_or zs j d ≡ unwrap_or (slice_get zs j) o
    by_place [] j few = absurd (omega (arith, few))
    by_place (z ∷ zs) zero few = refl
    by_place (z ∷ zs) (suc j) few = by_place zs j (omega (arith, few))

-- what holds of each is found, with one more at the end
pub one_more : {X : Type 0} (P : ℕ → X → Type 0) (xs : List X) (x : X) → ((i : ℕ) → IfSome (slice_get xs i) (P i)) → P (length xs) x → (i : ℕ) → IfSome (slice_get (xs ++ x ∷ []) i) (P i)
one_more P [] x each last zero = last
one_more P [] x each last (suc i) = tt
one_more P (y ∷ xs) x each last zero = each zero
one_more P (y ∷ xs) x each last (suc i) = one_more (λ j. P (suc j)) xs x (λ j. each (suc j)) last i

-- ---- each replica

same_make : {B : Type 0} (make : B → List ℕ) (was now : Option B) (P : List ℕ → Type 0) → option_map make now ≡ option_map make was → IfSome was (λ b. P (make b)) → IfSome now (λ b. P (make b))
same_make make was None P e h = tt
same_make make None (Some b) P e h = absurd (some_none (make b) e)
same_make make (Some a) (Some b) P e h = subst P (sym (same_some (make b) (make a) e)) h

abbrev Tells : Scenario → Chronicle → ℕ → TableRows → Type 0
Tells sc c r rows = IsTold (locking (kind_of locking sc r)) (script_of locking sc r) (start locking sc) (journal_of r (history_in c)) rows

at_one : {B : Type 0} (make : B → List ℕ) (stands : B → Standing) (sc : Scenario) (c : Chronicle) (r : ℕ) (rows : TableRows) (o : Option B) → (o ≡ None → ⊥)
    → IfSome o (λ b. IsBehind (kind_of locking sc r) (script_of locking sc r) (make b)) → IfSome o (λ b. stands b (start locking sc) (journal_of r (history_in c))) → IfSome o (λ b. Shows make stands b rows) → Tells sc c r rows
at_one make stands sc c r rows None there made stood shown = absurd (there refl)
at_one make stands sc c r rows (Some b) there made stood shown = shown (kind_of locking sc r) (script_of locking sc r) (start locking sc) (journal_of r (history_in c)) made stood

-- each replica's journal is told by its kind, its script and its rows
pub each_told : {B : Type 0} (make : B → List ℕ) (stands : B → Standing) (were now : List B) (dumps : List TableRows) (sc : Scenario) (c : Chronicle)
    → length now ≡ 2 * sc.f + 1 → map make now ≡ map make were
    → ((r : ℕ) → IfSome (slice_get were r) (λ b. stands b (start locking sc) [])) → ((r : ℕ) → IfSome (slice_get were r) (λ b. IsBehind (kind_of locking sc r) (script_of locking sc r) (make b)))
    → StandFromNothing stands were now c → ((r : ℕ) → IfSome (slice_get now r) (λ b. Shows make stands b (rows_at dumps r)))
    → (r : ℕ) → r ≤ 2 * sc.f → Tells sc c r (rows_at dumps r)
each_told make stands were now dumps sc c all same began behind stood shown r low =
    at_one make stands sc c r (rows_at dumps r) (slice_get now r) (is_there now r (omega (arith, low, all)))
    (same_make make (slice_get were r) (slice_get now r) (IsBehind (kind_of locking sc r) (script_of locking sc r)) (sym (get_map make now r) ∙ ap (λ (ms : List (List ℕ)). slice_get ms r) same ∙ get_map make were r) (behind r))
    (stood r (start locking sc) (began r)) (shown r)

-- ---- the rows of each backend

shown_next : {B : Type 0} (Q : B → TableRows → Type 0) (xs : List B) (i : ℕ) (x : B) (ds : List TableRows) (d : TableRows) → slice_get xs i ≡ Some x → length ds ≡ i
    → ((r : ℕ) → IfSome (slice_get (take i xs) r) (λ b. Q b (rows_at ds r))) → Q x d → (r : ℕ) → IfSome (slice_get (take (suc i) xs) r) (λ b. Q b (rows_at (ds ++ d ∷ []) r))
shown_next Q [] i x ds d e many each last r = absurd (some_none x (sym e))
shown_next Q (y ∷ xs) zero x [] d e many each last zero = subst (λ b. Q b d) (sym (same_some y x e)) last
shown_next Q (y ∷ xs) zero x [] d e many each last (suc r) = tt
shown_next Q (y ∷ xs) zero x (d0 ∷ ds) d e many each last r = absurd (omega (arith, many))
shown_next Q (y ∷ xs) (suc i) x [] d e many each last r = absurd (omega (arith, many))
shown_next Q (y ∷ xs) (suc i) x (d0 ∷ ds) d e many each last zero = each zero
shown_next Q (y ∷ xs) (suc i) x (d0 ∷ ds) d e many each last (suc r) = shown_next Q xs i x ds d e (omega (arith, many)) (λ q. each (suc q)) last r

next : (n : ℕ) → suc n ≡ n + 1
next n = omega arith

-- what its rows show of each backend so far, with one more
pub shown_more : {B : Type 0} (Q : B → TableRows → Type 0) (xs : List B) (i : ℕ) (x : B) (ds : List TableRows) (d : TableRows) → slice_get xs i ≡ Some x → length ds ≡ i
    → ((r : ℕ) → IfSome (slice_get (take i xs) r) (λ b. Q b (rows_at ds r))) → Q x d → (r : ℕ) → IfSome (slice_get (take (i + 1) xs) r) (λ b. Q b (rows_at (ds ++ d ∷ []) r))
shown_more Q xs i x ds d e many each last = subst (λ n. (r : ℕ) → IfSome (slice_get (take n xs) r) (λ b. Q b (rows_at (ds ++ d ∷ []) r))) (next i) (shown_next Q xs i x ds d e many each last)

pub take_past : {X : Type 0} (xs : List X) (n : ℕ) → length xs ≤ n → take n xs ≡ xs
take_past [] zero low = refl
take_past [] (suc n) low = refl
take_past (x ∷ xs) zero low = absurd (omega (arith, low))
take_past (x ∷ xs) (suc n) low = ap (λ ys. x ∷ ys) (take_past xs n (omega (arith, low)))

pub length_more : {X : Type 0} (xs : List X) (x : X) (n : ℕ) → length xs ≡ n → length (xs ++ x ∷ []) ≡ n + 1
length_more [] x n e = omega (arith, e)
length_more (y ∷ xs) x zero e = absurd (omega (arith, e))
length_more (y ∷ xs) x (suc n) e = omega (arith, length_more xs x n (omega (arith, e)))
