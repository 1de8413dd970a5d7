-- Which statements change rows, by their needs.
use Rattle.std.proofs.Common.{◌≡◌, ℕ, suc, ℤ, Bool, true, false, cond, Option, Some, None, List, [], ◌∷◌, ◌++◌, refl, ap, sym, ◌∙◌}
use Rattle.std.proofs.lemmas.Bool.{both_ways}
use Rattle.hr_rel.specs.declared.stmt.Stmt.{Stmt}
use Rattle.hr_rel.specs.declared.stmt.Stmt.TheVariants as stmt
use Rattle.hr_rel.specs.declared.stmt.SelectStmt.{SelectStmt}
use Rattle.hr_parts.specs.declared.keys.Keys.{Keys}
use Rattle.hr_parts.specs.Parts.{Part, covers, written}
use Rattle.hr_parts.specs.Keys.{key_part, entry_parts, key_parts, select_keys, new_keys, kept_keys}
use Rattle.hr_locks.specs.declared.need.Need.{Need}
use Rattle.hr_locks.specs.Locks.{is_exclusive}
use Rattle.hr_plan.specs.declared.span.Span.{Span}
use Rattle.hr_plan.specs.Needs.{part_of, parts_of}
use Rattle.hr_range_engine.specs.Shown.{changed_in}

abbrev part_in : Span → Part
part_in span = record { table = span.table; low = span.low; high = span.high; written = true }

-- ---- a SELECT changes nothing

one_shared : (t : ℕ) (o : Option Keys) (rest : List Part) → written rest ≡ [] → written (key_part false t o ++ rest) ≡ []
one_shared t None rest e = e
one_shared t (Some keys) rest e = e

all_shared : (entry : ℕ) (s : SelectStmt) (ts : List ℕ) → written (entry_parts entry s ts) ≡ []
all_shared entry s [] = refl
all_shared entry s (t ∷ ts) = one_shared t (select_keys entry s) (entry_parts (suc entry) s ts) (all_shared (suc entry) s ts)

first_written : (p : Part) (rest : List Part) → p.written ≡ true → written (p ∷ rest) ≡ [] → ⊥
first_written p rest e h = cons_is_none (sym (ap (λ (b : Bool). cond b (p ∷ written rest) (written rest)) e) ∙ h)
  where
    cons_is_none : p ∷ written rest ≡ [] → ⊥
    cons_is_none f = cc

-- ---- what is needed by a statement that changes rows

first_is : (p q : Part) (xs ys : List Part) → p ∷ xs ≡ q ∷ ys → p ≡ q
first_is p q xs ys e = cc

change_by : (t : ℕ) (o : Option Keys) (need : Need Span) (needs : List (Need Span)) → part_of need ∷ parts_of needs ≡ key_part true t o
    → key_part true t o ≡ part_in need.name ∷ []
change_by t None need needs e = cc
change_by t (Some keys) need needs e =
    let same = first_is (part_of need) (record { table = t; low = keys.low; high = keys.high; written = true }) (parts_of needs) [] e in
    λ i. record { table = (sym same i).table; low = (sym same i).low; high = (sym same i).high; written = true } ∷ []

module _ (need : Need Span) (needs : List (Need Span)) where
  change_first : (s : Stmt) → part_of need ∷ parts_of needs ≡ key_parts s → is_exclusive need.mode ≡ true → key_parts s ≡ part_in need.name ∷ []
  change_first (stmt.Select s) e m =
      absurd (first_written (part_of need) (parts_of needs) m (ap written e ∙ all_shared 0 s s.tables))
  change_first (stmt.Insert s) e m = change_by s.table (new_keys s.rows) need needs e
  change_first (stmt.Update s) e m = change_by s.table (kept_keys 0 s.filter) need needs e
  change_first (stmt.Delete s) e m = change_by s.table (kept_keys 0 s.filter) need needs e

  read_by : (t : ℕ) (o : Option Keys) → part_of need ∷ parts_of needs ≡ key_part true t o → is_exclusive need.mode ≡ false → written (key_part true t o) ≡ []
  read_by t None e m = refl
  read_by t (Some keys) e m =
      let same = first_is (part_of need) (record { table = t; low = keys.low; high = keys.high; written = true }) (parts_of needs) [] e in
      absurd (both_ways (is_exclusive need.mode) m (ap (λ (p : Part). p.written) same))

  read_first : (s : Stmt) → part_of need ∷ parts_of needs ≡ key_parts s → is_exclusive need.mode ≡ false → written (key_parts s) ≡ []
  read_first (stmt.Select s) e m = all_shared 0 s s.tables
  read_first (stmt.Insert s) e m = read_by s.table (new_keys s.rows) e m
  read_first (stmt.Update s) e m = read_by s.table (kept_keys 0 s.filter) e m
  read_first (stmt.Delete s) e m = read_by s.table (kept_keys 0 s.filter) e m

same_span : (a b : Span) → ◌≡◌ {A = Option Span} (Some a) (Some b) → a ≡ b
same_span a b e = cc

pub change_is : (s : Stmt) (needs : List (Need Span)) → parts_of needs ≡ key_parts s → (span : Span) → changed_in needs ≡ Some span
    → key_parts s ≡ record { table = span.table; low = span.low; high = span.high; written = true } ∷ []
change_is s [] e span h = cc
change_is s (need ∷ needs) e span h = by_mode (is_exclusive need.mode) refl h
  where
    by_mode : (b : Bool) → is_exclusive need.mode ≡ b → cond b (Some need.name) None ≡ Some span → key_parts s ≡ part_in span ∷ []
    by_mode true m f = change_first need needs s e m ∙ ap (λ (x : Span). part_in x ∷ []) (same_span need.name span f)
    by_mode false m f = cc

pub read_is : (s : Stmt) (needs : List (Need Span)) → parts_of needs ≡ key_parts s → changed_in needs ≡ None → (t : ℕ) (k : ℤ) → covers (written (key_parts s)) t k ≡ false
read_is s [] e h t k = ap (λ (l : List Part). covers (written l) t k) (sym e)
read_is s (need ∷ needs) e h t k = by_mode (is_exclusive need.mode) refl h
  where
    by_mode : (b : Bool) → is_exclusive need.mode ≡ b → cond b (Some need.name) None ≡ None → covers (written (key_parts s)) t k ≡ false
    by_mode true m f = cc
    by_mode false m f = ap (λ (l : List Part). covers l t k) (read_first need needs s e m)
