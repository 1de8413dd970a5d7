-- An answer isn't large.
use Rattle.std.proofs.Common.{◌≡◌, ℕ, suc, ◌≤◌, Bool, true, false, ◌&&◌, cond, nat_lt, nat_le, length, List, [], ◌∷◌, refl, ap, ◌∙◌, arith}
use Rattle.std.specs.Prelude.{Result, Ok, Err, not}
use Rattle.std.specs.List.{list_all}
use Rattle.std.proofs.lemmas.Bool.{ltb-false, le-leb, and_from, and_parts}
use Rattle.hr_base.specs.Lists.{is_empty}
use Rattle.hr_base.specs.declared.limits.TheConstants.{MAX_ROWS, MAX_ITEMS}
use Rattle.hr_rel.specs.declared.value.Value.{Value}
use Rattle.hr_rel.specs.declared.answer.Answer.TheVariants.{Failed}
use Rattle.hr_rel.specs.declared.answer.RunError.{RunError}
use Rattle.hr_rel.specs.declared.answer.RunError.TheVariants.{TooManyRows}
use Rattle.hr_rel.specs.declared.stmt.Item.{Item}
use Rattle.hr_rel.specs.declared.stmt.Stmt.{Stmt}
use Rattle.hr_rel.specs.declared.stmt.Stmt.TheVariants as stmt
use Rattle.hr_rel.specs.declared.stmt.SelectStmt.{SelectStmt}
use Rattle.hr_rel.specs.Database.{Database}
use Rattle.hr_rel.specs.declared.catalog.Catalog.{Catalog}
use Rattle.hr_rel.specs.Fit.{fits, is_grouped, entries_of, is_joined, has_table, filter_fits, has_column, items_fit, item_fits}
use Rattle.hr_meaning.specs.Truth.{Tuple}
use Rattle.hr_meaning.specs.Value.{and_then, each}
use Rattle.hr_meaning.specs.Select.{few, shown, group_row, plain_row, groups_of, answer_from}
use Rattle.hr_meaning.specs.Exec.{exec, meaning, changed, kept}
use Rattle.hr_statement_laws.specs.Sizes.{is_narrow, is_small}
use Rattle.hr_statement_laws.proofs.Shape.{by_fit}

module _ {X Y : Type 0} (f : X → Result Y RunError) where
  -- one more result before the others
  longer : (n : ℕ) (r : Result Y RunError) (rest : Result (List Y) RunError) → ((more : List Y) → rest ≡ Ok more → length more ≡ n) → (ys : List Y)
      → and_then r (λ y. and_then rest (λ more. Ok (y ∷ more))) ≡ Ok ys → length ys ≡ suc n
  longer n (Err d) rest size ys e = cc
  longer n (Ok y) (Err d) size ys e = cc
  longer n (Ok y) (Ok more) size [] e = cc
  longer n (Ok y) (Ok more) size (z ∷ zs) e =
      let same : zs ≡ more = cc in
      ap suc (ap length same ∙ size more refl)

  -- a list of results that are all there is as long
  pub each_length : (xs : List X) (ys : List Y) → each f xs ≡ Ok ys → length ys ≡ length xs
  each_length [] [] e = refl
  each_length [] (y ∷ ys) e = cc
  each_length (x ∷ xs) ys e = longer (length xs) (f x) (each f xs) (λ more was. each_length xs more was) ys e

  and_all : (p : Y → Bool) (r : Result Y RunError) (rest : Result (List Y) RunError) → ((y : Y) → r ≡ Ok y → p y ≡ true) → ((more : List Y) → rest ≡ Ok more → list_all p more ≡ true)
      → (ys : List Y) → and_then r (λ y. and_then rest (λ more. Ok (y ∷ more))) ≡ Ok ys → list_all p ys ≡ true
  and_all p (Err d) rest one others ys e = cc
  and_all p (Ok y) (Err d) one others ys e = cc
  and_all p (Ok y) (Ok more) one others [] e = cc
  and_all p (Ok y) (Ok more) one others (z ∷ zs) e =
      let head : z ≡ y = cc in
      let same : zs ≡ more = cc in
      and_from (p z) (list_all p zs) (ap p head ∙ one y refl) (ap (list_all p) same ∙ others more refl)

  -- what holds of each result holds of them all
  pub each_all : (p : Y → Bool) → ((x : X) (y : Y) → f x ≡ Ok y → p y ≡ true) → (xs : List X) (ys : List Y) → each f xs ≡ Ok ys → list_all p ys ≡ true
  each_all p holds [] [] e = refl
  each_all p holds [] (y ∷ ys) e = cc
  each_all p holds (x ∷ xs) ys e = and_all p (f x) (each f xs) (holds x) (λ more was. each_all p holds xs more was) ys e

-- a row for each of a list of which no row is wider than allowed
few_small : {X : Type 0} (row : X → Result (List Value) RunError) (all : List X) → ((x : X) (r : List Value) → row x ≡ Ok r → is_narrow r ≡ true) → is_small (few row all) ≡ true
few_small row all narrow = by_length (nat_lt MAX_ROWS (length all)) refl
  where
    by_rows : length all ≤ MAX_ROWS → (r : Result (List (List Value)) RunError) → each row all ≡ r → is_small (shown r) ≡ true
    by_rows within (Err e) is = refl
    by_rows within (Ok rows) is =
        let size = each_length row all rows is in
        and_from (nat_le (length rows) MAX_ROWS) (list_all is_narrow rows) (le-leb (length rows) MAX_ROWS (omega (arith, size, within))) (each_all row is_narrow narrow all rows is)

    by_length : (b : Bool) → nat_lt MAX_ROWS (length all) ≡ b → is_small (cond b (Failed TooManyRows) (shown (each row all))) ≡ true
    by_length true e = refl
    by_length false e = by_rows (ltb-false MAX_ROWS (length all) e) (each row all) refl

group_narrow : (items : List Item) (kept : List Tuple) (r : List Value) → nat_le (length items) MAX_ITEMS ≡ true → group_row items kept ≡ Ok r → is_narrow r ≡ true
group_narrow items kept r fits e = ap (λ (n : ℕ). nat_le n MAX_ITEMS) (each_length _ items r e) ∙ fits

answer_small : (s : SelectStmt) (kept : List Tuple) → nat_le (length s.items) MAX_ITEMS ≡ true → is_small (answer_from s kept) ≡ true
answer_small s kept fits = by_groups (not (is_empty s.groups)) (is_grouped s)
  where
    by_groups : (b c : Bool) → is_small (cond b (few (group_row s.items) (groups_of s.groups kept)) (cond c (few (group_row s.items) (kept ∷ [])) (few (plain_row s.items) kept))) ≡ true
    by_groups true c = few_small (group_row s.items) (groups_of s.groups kept) (λ x r e. group_narrow s.items x r fits e)
    by_groups false true = few_small (group_row s.items) (kept ∷ []) (λ x r e. group_narrow s.items x r fits e)
    by_groups false false = few_small (plain_row s.items) kept (λ x r e. group_narrow s.items (x ∷ []) r fits e)

changed_small : (db : Database) (t n : ℕ) (r : Result (List (List Value)) RunError) → is_small (changed db t n r).answer ≡ true
changed_small db t n (Ok rows) = refl
changed_small db t n (Err e) = refl

few_items : (catalog : Catalog) (s : SelectStmt) → fits catalog (stmt.Select s) ≡ true → nat_le (length s.items) MAX_ITEMS ≡ true
few_items catalog s e =
    let entries = entries_of catalog s.tables in
    let items = and_parts (is_joined s.tables s.on && list_all (has_table catalog) s.tables && filter_fits entries s.on && filter_fits entries s.filter && list_all (has_column entries) s.groups) (items_fit entries s) e in
    (and_parts (not (is_empty s.items)) (nat_le (length s.items) MAX_ITEMS) (and_parts (not (is_empty s.items) && nat_le (length s.items) MAX_ITEMS) (list_all (item_fits entries s) s.items) items.1).0).1

meaning_small : (db : Database) (s : Stmt) → fits db.catalog s ≡ true → is_small (meaning db s).answer ≡ true
meaning_small db (stmt.Select s) e = answer_small s (kept db s) (few_items db.catalog s e)
meaning_small db (stmt.Insert s) e = changed_small db _ _ _
meaning_small db (stmt.Update s) e = changed_small db _ _ _
meaning_small db (stmt.Delete s) e = refl

pub answers_are_small : (db : Database) (s : Stmt) → is_small (exec db s).answer ≡ true
answers_are_small db s = by_fit (λ o. is_small o.answer ≡ true) db s (meaning_small db s) refl
