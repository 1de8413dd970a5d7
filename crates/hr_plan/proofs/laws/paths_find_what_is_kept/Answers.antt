use Rattle.std.proofs.Common.{◌≡◌, ℕ, true, false, ◌&&◌, ◌||◌, not, Bool, List, [], ◌∷◌, refl, ap, sym, ◌∙◌, subst}
use Rattle.std.specs.Prelude.{Option, Some, None, ℤ, unwrap_or, slice_get}
use Rattle.std.specs.List.{list_all}
use Rattle.std.proofs.lemmas.Bool.{and_from}
use Rattle.hr_rel.specs.declared.value.Value.{Value}
use Rattle.hr_rel.specs.declared.expr.Pred.{Pred}
use Rattle.hr_rel.specs.declared.catalog.Catalog.{Catalog}
use Rattle.hr_rel.specs.declared.catalog.ColumnDef.{ColumnDef}
use Rattle.hr_rel.specs.Database.{columns_of, key_of}
use Rattle.hr_rel.specs.Holds.{is_key, has_number_key}
use Rattle.hr_meaning.specs.Truth.{is_kept}
use Rattle.hr_parts.specs.declared.keys.Keys.{Keys}
use Rattle.hr_parts.specs.Parts.{takes, lies}
use Rattle.hr_parts.specs.Keys.{has_in, select_keys, kept_keys, new_keys}
use Rattle.hr_parts.proofs.Rows.{all_imply}
use Rattle.hr_parts.proofs.KeyParts.{first_value, select_has, row_has, new_have}
use Rattle.hr_plan.specs.Paths.{condition_path, first_columns, by_keys, finds, is_stored}
use Rattle.hr_plan.proofs.PathLaws.{condition_finds, stored_key, stored_below}
use Rattle.hr_plan.proofs.laws.paths_find_what_is_kept.Goals as goal

pub returns-clause-select : goal.returns-clause-select
returns-clause-select c catalog s t ts row others first stored on filter =
    let k = stored_key (columns_of catalog t) row stored in
    let keys = select_has 0 s (row ∷ others) k.0 (first_value row k.0 k.1) k.2 (and_from (is_kept s.on (row ∷ others)) (is_kept s.filter (row ∷ others)) on filter) in
    ap (λ (tables : List ℕ). finds (condition_path (select_keys 0 s) s.on s.filter (first_columns catalog tables)) row) first
    ∙ condition_finds s.on s.filter row others k.0 k.1 k.2 on filter (select_keys 0 s) (columns_of catalog t) (stored_below (columns_of catalog t) row stored) keys

by_filter : (filter : Option Pred) (columns : List ColumnDef) (row : List Value) → is_stored columns row ≡ true → is_kept filter (row ∷ []) ≡ true
    → finds (condition_path (kept_keys 0 filter) None filter columns) row ≡ true
by_filter filter columns row stored kept =
    let k = stored_key columns row stored in
    condition_finds None filter row [] k.0 k.1 k.2 refl kept (kept_keys 0 filter) columns (stored_below columns row stored) (row_has filter row k.0 k.1 k.2 kept)

pub returns-clause-update : goal.returns-clause-update
returns-clause-update c catalog s row stored kept = by_filter s.filter (columns_of catalog s.table) row stored kept

pub returns-clause-delete : goal.returns-clause-delete
returns-clause-delete c catalog s row stored kept = by_filter s.filter (columns_of catalog s.table) row stored kept

found_new : (keys : Option Keys) (row : List Value) (o : Option ℤ) (b : Bool) → key_of row ≡ o → is_key o ≡ b → takes (has_in keys) o ≡ true → (not b || finds (by_keys keys) row) ≡ true
found_new keys row o false e f h = refl
found_new keys row None true e f h = cc
found_new None row (Some k) true e f h = h
found_new (Some keys) row (Some k) true e f h = ap (takes (has_in (Some record { low = keys.low; high = keys.high }))) e ∙ h

pub returns-clause-insert : goal.returns-clause-insert
returns-clause-insert c catalog s = all_imply (lies (has_in (new_keys s.rows))) (λ row. not (has_number_key row) || finds (by_keys (new_keys s.rows)) row) s.rows
    (λ row h. found_new (new_keys s.rows) row (key_of row) (has_number_key row) refl refl h) (new_have s.rows)
