-- Entries of a replica.
use Rattle.std.proofs.Common.{◌≡◌, ℕ, zero, suc, ◌+◌, ◌<◌, Bool, true, false, nat_eq, not, ◌||◌, ◌++◌, cond, Option, Some, None, is_some, unwrap_or, List, [], ◌∷◌, map, length, slice_get, refl, ap, sym, ◌∙◌, arith}
use Rattle.std.specs.Map.{lookup}
use Rattle.std.specs.Option.{option_map}
use Rattle.std.specs.List.{position_or_len}
use Rattle.indexmap.specs.IndexMap.{set_value_at, insert_entry}
use Rattle.hr_base.specs.Lists.{has}
use Rattle.hr_base.proofs.Tests.{eq_turn, or_first, or_second}
use Rattle.hr_progress.specs.declared.attempt.Attempt.{Attempt}
use Rattle.hr_progress.specs.Plain.{PlainAttempt, to_idle_entry, key, idle_attempt, and_entry, plain_attempt, plain_entry, with_entry}
use Rattle.hr_progress.proofs.Parts.{lookup_map}
use Rattle.hr_progress.proofs.Changed.{changed_here, unchanged_else, past, length_from}
use Rattle.hr_moves.specs.Changes.{map_from, change_at}
use Rattle.std.proofs.lemmas.List.{length-map}

-- the i-th entry is the first of transaction t
abbrev pub IsFirstOf : {X : Type 0} → ℕ → List (ℕ × X) → ℕ → Type 0
IsFirstOf t [] i = ⊥
IsFirstOf t (e ∷ es) zero = nat_eq t e.0 ≡ true
IsFirstOf t (e ∷ es) (suc i) = (nat_eq t e.0 ≡ false) × IsFirstOf t es i

first_by : {X : Type 0} (b : Bool) (t i : ℕ) (e : ℕ × X) (es : List (ℕ × X)) → nat_eq t e.0 ≡ b → ((j : ℕ) → position_or_len (nat_eq t) (map (λ (p : ℕ × X). p.0) es) ≡ j → j < length es → IsFirstOf t es j)
    → cond (not b) (1 + position_or_len (nat_eq t) (map (λ (p : ℕ × X). p.0) es)) 0 ≡ i → i < suc (length es) → IsFirstOf t (e ∷ es) i
first_by true t zero e es same ih h l = same
first_by true t (suc i) e es same ih h l = absurd (omega (arith, h))
first_by false t zero e es same ih h l = absurd (omega (arith, h))
first_by false t (suc i) e es same ih h l = (same, ih i (omega (arith, h)) (omega (arith, l)))

pub is_first_of : {X : Type 0} (t : ℕ) (es : List (ℕ × X)) (i : ℕ) → position_or_len (nat_eq t) (map (λ (p : ℕ × X). p.0) es) ≡ i → i < length es → IsFirstOf t es i
is_first_of t [] i h l = absurd (omega (arith, l))
is_first_of t (e ∷ es) i h l = first_by (nat_eq t e.0) t i e es refl (λ j d m. is_first_of t es j d m) h l

-- the first entry of a transaction, set anew
pub entry_set : (t : ℕ) (k : PlainAttempt → PlainAttempt) (es : List (ℕ × Attempt)) (i : ℕ) (x y : Attempt) → IsFirstOf t es i → slice_get (map (λ (e : ℕ × Attempt). e.1) es) i ≡ Some x → plain_attempt y ≡ k (plain_attempt x)
    → map plain_entry (set_value_at es i y) ≡ with_entry t k (map plain_entry es)
entry_set t k [] i x y first at same = absurd first
entry_set t k (e ∷ es) zero x y first at same =
    ap (λ a. (e.0, a) ∷ map plain_entry es) (same ∙ ap (λ z. k (plain_attempt z)) (sym (inner at)))
    ∙ sym (ap (λ b. cond b ((e.0, k (plain_attempt e.1)) ∷ map plain_entry es) (plain_entry e ∷ with_entry t k (map plain_entry es))) first)
  where
    inner : {a b : Attempt} → Some a ≡ Some b → a ≡ b
    inner {a} p = ap (λ o. unwrap_or o a) p
entry_set t k (e ∷ es) (suc i) x y first at same =
    ap (λ rest. plain_entry e ∷ rest) (entry_set t k es i x y first.1 at same)
    ∙ sym (ap (λ b. cond b ((e.0, k (plain_attempt e.1)) ∷ map plain_entry es) (plain_entry e ∷ with_entry t k (map plain_entry es))) first.0)

none_by : (b : Bool) (t : ℕ) (k : PlainAttempt → PlainAttempt) (e : ℕ × PlainAttempt) (es : List (ℕ × PlainAttempt)) → nat_eq t e.0 ≡ b → (lookup (nat_eq t) es ≡ None → with_entry t k es ≡ es)
    → cond b (Some e.1) (lookup (nat_eq t) es) ≡ None → cond b ((e.0, k e.1) ∷ es) (e ∷ with_entry t k es) ≡ e ∷ es
none_by true t k e es same ih h = absurd (wrong h)
  where
    wrong : {a : PlainAttempt} → Some a ≡ None → ⊥
    wrong d = cc
none_by false t k e es same ih h = ap (λ rest. e ∷ rest) (ih h)

-- where there is no entry nothing changes
pub entry_none : (t : ℕ) (k : PlainAttempt → PlainAttempt) (es : List (ℕ × PlainAttempt)) → lookup (nat_eq t) es ≡ None → with_entry t k es ≡ es
entry_none t k [] h = refl
entry_none t k (e ∷ es) h = none_by (nat_eq t e.0) t k e es refl (λ d. entry_none t k es d) h

-- a look-up of an entry without where it lies in memory
pub lookup_plain : (t : ℕ) (es : List (ℕ × Attempt)) → lookup (nat_eq t) (map plain_entry es) ≡ option_map plain_attempt (lookup (nat_eq t) es)
lookup_plain t es = lookup_map (λ k a. plain_attempt a) t es

pub is_none : {X : Type 0} (o : Option X) → is_some o ≡ false → o ≡ None
is_none None h = refl
is_none (Some x) h = absurd (wrong h)
  where
    wrong : true ≡ false → ⊥
    wrong d = cc

pub keys_plain : (es : List (ℕ × Attempt)) → map key (map plain_entry es) ≡ map (λ (e : ℕ × Attempt). e.0) es
keys_plain [] = refl
keys_plain (e ∷ es) = ap (λ ks. e.0 ∷ ks) (keys_plain es)

-- an entry set to what is seen as before
pub entry_same : (t : ℕ) (es : List (ℕ × PlainAttempt)) → with_entry t (λ a. a) es ≡ es
entry_same t [] = refl
entry_same t (e ∷ es) = by (nat_eq t e.0) (entry_same t es)
  where
    by : (b : Bool) → with_entry t (λ a. a) es ≡ es → cond b ((e.0, e.1) ∷ es) (e ∷ with_entry t (λ a. a) es) ≡ e ∷ es
    by true rest = refl
    by false rest = ap (λ xs. e ∷ xs) rest

has_by : (b : Bool) (t : ℕ) (e : ℕ × Attempt) (es : List (ℕ × Attempt)) (x : Attempt) → nat_eq t e.0 ≡ b → (lookup (nat_eq t) es ≡ Some x → has (map key (map plain_entry es)) t ≡ true) → cond b (Some e.1) (lookup (nat_eq t) es) ≡ Some x → (nat_eq e.0 t || has (map key (map plain_entry es)) t) ≡ true
has_by true t e es x same more found = or_first (nat_eq e.0 t) (has (map key (map plain_entry es)) t) (eq_turn e.0 t ∙ same)
has_by false t e es x same more found = or_second (nat_eq e.0 t) (has (map key (map plain_entry es)) t) (more found)

pub has_found : (t : ℕ) (es : List (ℕ × Attempt)) (x : Attempt) → lookup (nat_eq t) es ≡ Some x → has (map key (map plain_entry es)) t ≡ true
has_found t [] x found = absurd (wrong found)
  where
    wrong : {a : Attempt} → None ≡ Some a → ⊥
    wrong d = cc
has_found t (e ∷ es) x found = has_by (nat_eq t e.0) t e es x refl (λ d. has_found t es x d) found

missing_by : (b : Bool) (t : ℕ) (e : ℕ × Attempt) (es : List (ℕ × Attempt)) → nat_eq t e.0 ≡ b → (lookup (nat_eq t) es ≡ None → has (map key (map plain_entry es)) t ≡ false) → cond b (Some e.1) (lookup (nat_eq t) es) ≡ None → (nat_eq e.0 t || has (map key (map plain_entry es)) t) ≡ false
missing_by true t e es same more found = absurd (wrong found)
  where
    wrong : {a : Attempt} → Some a ≡ None → ⊥
    wrong d = cc
missing_by false t e es same more found = ap (λ b. b || has (map key (map plain_entry es)) t) (eq_turn e.0 t ∙ same) ∙ more found

pub has_missing : (t : ℕ) (es : List (ℕ × Attempt)) → lookup (nat_eq t) es ≡ None → has (map key (map plain_entry es)) t ≡ false
has_missing t [] found = refl
has_missing t (e ∷ es) found = missing_by (nat_eq t e.0) t e es refl (λ d. has_missing t es d) found

insert_by : (b : Bool) (t : ℕ) (a : Attempt) (e : ℕ × Attempt) (es : List (ℕ × Attempt)) → (lookup (nat_eq t) es ≡ None → insert_entry nat_eq es t a ≡ es ++ (t, a) ∷ []) → cond b (Some e.1) (lookup (nat_eq t) es) ≡ None → cond b ((e.0, a) ∷ es) (e ∷ insert_entry nat_eq es t a) ≡ e ∷ es ++ (t, a) ∷ []
insert_by true t a e es more found = absurd (wrong found)
  where
    wrong : {x : Attempt} → Some x ≡ None → ⊥
    wrong d = cc
insert_by false t a e es more found = ap (λ xs. e ∷ xs) (more found)

-- a new entry is the last
pub inserted_last : (t : ℕ) (a : Attempt) (es : List (ℕ × Attempt)) → lookup (nat_eq t) es ≡ None → insert_entry nat_eq es t a ≡ es ++ (t, a) ∷ []
inserted_last t a [] found = refl
inserted_last t a (e ∷ es) found = insert_by (nat_eq t e.0) t a e es (λ d. inserted_last t a es d) found

pub plain_last : (es : List (ℕ × Attempt)) (e : ℕ × Attempt) → map plain_entry (es ++ e ∷ []) ≡ map plain_entry es ++ plain_entry e ∷ []
plain_last [] e = refl
plain_last (x ∷ es) e = ap (λ xs. plain_entry x ∷ xs) (plain_last es e)

-- an entry where there is one, or none
pub entry_there : (t : ℕ) (es : List (ℕ × PlainAttempt)) → has (map key es) t ≡ true → es ≡ and_entry t es
entry_there t es h = sym (ap (λ b. cond b es (es ++ (t, idle_attempt) ∷ [])) h)

pub entry_new : (t : ℕ) (es : List (ℕ × PlainAttempt)) → has (map key es) t ≡ false → es ++ (t, idle_attempt) ∷ [] ≡ and_entry t es
entry_new t es h = sym (ap (λ b. cond b es (es ++ (t, idle_attempt) ∷ [])) h)

-- the i-th entry is as if it had never begun
pub idle_set : (es : List (ℕ × Attempt)) (i n m : ℕ) (y : Attempt) → m ≡ n + i → i < length es → plain_attempt y ≡ idle_attempt → map plain_entry (set_value_at es i y) ≡ map_from (change_at m to_idle_entry) n (map plain_entry es)
idle_set [] i n m y e h idle = absurd (omega (arith, h))
idle_set (x ∷ es) zero n m y e h idle = λ j. (ap (λ a. (x.0, a)) idle ∙ sym (changed_here m n to_idle_entry (plain_entry x) (omega (arith, e)))) j ∷ sym (past to_idle_entry m (n + 1) (map plain_entry es) (omega (arith, e))) j
idle_set (x ∷ es) (suc i) n m y e h idle = λ j. sym (unchanged_else m n to_idle_entry (plain_entry x) (λ q. omega (arith, e, q))) j ∷ idle_set es i (n + 1) m y (omega (arith, e)) (omega (arith, h)) idle j

pub as_many : (now first : List (ℕ × Attempt)) (g : ℕ → ℕ × PlainAttempt → ℕ × PlainAttempt) → map plain_entry now ≡ map_from g 0 (map plain_entry first) → length now ≡ length first
as_many now first g e = sym (length-map now plain_entry) ∙ ap length e ∙ length_from g 0 (map plain_entry first) ∙ length-map first plain_entry
