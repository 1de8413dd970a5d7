-- Whole tables are footprints.
use Rattle.std.proofs.Common.{◌≡◌, ℕ, ◌-◌, ◌^◌, ◌==◌, ℤ, pos, negsuc, Bool, true, false, ◌&&◌, ◌||◌, not, inl, inr, List, [], ◌∷◌, map, refl, ap, sym, ◌∙◌, arith, ltb-true, eqb-true}
use Rattle.std.specs.Prelude.{Option, Some, None, int_le}
use Rattle.std.specs.List.{list_all, list_any}
use Rattle.std.proofs.lemmas.Bool.{and_from, and_parts, or_cases, or_left, or_right, eq-eqb, le-leb}
use Rattle.hr_base.specs.Lists.{has}
use Rattle.hr_base.proofs.ListLaws.{has_head, has_tail}
use Rattle.hr_rel.specs.declared.value.Value.{Value}
use Rattle.hr_rel.specs.declared.expr.Pred.{Pred}
use Rattle.hr_rel.specs.declared.stmt.Stmt.{Stmt}
use Rattle.hr_rel.specs.declared.stmt.Stmt.TheVariants as stmt
use Rattle.hr_rel.specs.Database.{key_of}
use Rattle.hr_rel.specs.Kinds.{fits_i64}
use Rattle.hr_rel.specs.Holds.{is_key, has_number_key}
use Rattle.hr_meaning.specs.Truth.{Tuple}
use Rattle.hr_parts.specs.Parts.{Part, is_in, covers, written, takes, lies}
use Rattle.hr_parts.specs.Footprints.{all_lie, new_lies, ChangesLie, Covers, least_key, greatest_key, whole, table_parts}

-- ---- every number of 64 bits is in between

pub not_below : (k : ℤ) → fits_i64 k ≡ true → int_le least_key k ≡ true
not_below (pos n) h = refl
not_below (negsuc n) h = let less = ltb-true n (2 ^ 63) h in le-leb n (2 ^ 63 - 1) (omega (arith, less))

pub not_above : (k : ℤ) → fits_i64 k ≡ true → int_le k greatest_key ≡ true
not_above (pos n) h = let less = ltb-true n (2 ^ 63) h in le-leb n (2 ^ 63 - 1) (omega (arith, less))
not_above (negsuc n) h = refl

in_whole : (w : Bool) (t : ℕ) (k : ℤ) → fits_i64 k ≡ true → is_in t k (whole w t) ≡ true
in_whole w t k h =
    and_from ((t == t) && int_le least_key k) (int_le k greatest_key) (and_from (t == t) (int_le least_key k) (eq-eqb t t refl) (not_below k h)) (not_above k h)

-- parts that cover all keys of a table take in each row of it
pub takes_all : (keys : ℤ → Bool) → ((k : ℤ) → fits_i64 k ≡ true → keys k ≡ true) → (o : Option ℤ) → is_key o ≡ true → takes keys o ≡ true
takes_all keys all None h = cc
takes_all keys all (Some k) h = all k h

-- ---- SELECT

covers_read : (ts : List ℕ) (t : ℕ) (k : ℤ) → has ts t ≡ true → fits_i64 k ≡ true → covers (map (whole false) ts) t k ≡ true
covers_read [] t k there h = cc
covers_read (u ∷ ts) t k there h = elim (or_cases (u == t) (has ts t) there) [
  | inl same ↦ or_left (is_in t k (whole false u)) (covers (map (whole false) ts) t k) (ap (λ (v : ℕ). is_in t k (whole false v)) (eqb-true u t same) ∙ in_whole false t k h)
  | inr later ↦ or_right (is_in t k (whole false u)) (covers (map (whole false) ts) t k) (covers_read ts t k later h)
]

all_lie_by : (parts : List Part) (ts : List ℕ) (rows : Tuple) → list_all has_number_key rows ≡ true → ((t : ℕ) → has ts t ≡ true → (k : ℤ) → fits_i64 k ≡ true → covers parts t k ≡ true)
    → all_lie parts ts rows ≡ true
all_lie_by parts [] rows keys each = refl
all_lie_by parts (t ∷ ts) [] keys each = refl
all_lie_by parts (t ∷ ts) (row ∷ rows) keys each =
    let both = and_parts (has_number_key row) (list_all has_number_key rows) keys in
    and_from (lies (covers parts t) row) (all_lie parts ts rows) (takes_all (covers parts t) (each t (has_head t ts)) (key_of row) both.0)
    (all_lie_by parts ts rows both.1 (λ u h. each u (has_tail u t ts h)))

-- ---- the others

covers_changed : (t : ℕ) (k : ℤ) → fits_i64 k ≡ true → covers (written (whole true t ∷ [])) t k ≡ true
covers_changed t k h = or_left (is_in t k (whole true t)) false (in_whole true t k h)

changes_lie : (t : ℕ) (condition : Option Pred) → ChangesLie (whole true t ∷ []) t condition
changes_lie t condition row key h = takes_all (covers (written (whole true t ∷ [])) t) (covers_changed t) (key_of row) key

new_by : (keys : ℤ → Bool) → ((k : ℤ) → fits_i64 k ≡ true → keys k ≡ true) → (o : Option ℤ) (b : Bool) → is_key o ≡ b → (not b || takes keys o) ≡ true
new_by keys all o false e = refl
new_by keys all o true e = takes_all keys all o e

new_rows : (t : ℕ) (rows : List (List Value)) → list_all (new_lies (covers (written (whole true t ∷ [])) t)) rows ≡ true
new_rows t [] = refl
new_rows t (row ∷ rows) =
    and_from (new_lies (covers (written (whole true t ∷ [])) t) row) (list_all (new_lies (covers (written (whole true t ∷ [])) t)) rows)
    (new_by (covers (written (whole true t ∷ [])) t) (covers_changed t) (key_of row) (has_number_key row) refl) (new_rows t rows)

pub tables_cover : (s : Stmt) → Covers (table_parts s) s
tables_cover (stmt.Select s) = λ rows keys h. all_lie_by (map (whole false) s.tables) s.tables rows keys (λ t there k fits. covers_read s.tables t k there fits)
tables_cover (stmt.Insert s) = new_rows s.table s.rows
tables_cover (stmt.Update s) = changes_lie s.table s.filter
tables_cover (stmt.Delete s) = changes_lie s.table s.filter
