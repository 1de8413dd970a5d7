-- What putting the last of some rows does, and that its place was among theirs.
use Rattle.std.proofs.Common.{◌≡◌, ◌⊎◌, inl, inr, ◌<◌, ◌+◌, length, take, get_or, pos, ⊎_elim, ℤ, ℕ, Bool, true, false, ◌||◌, if◌then◌else◌, Option, Some, None, List, [], ◌∷◌, ◌++◌, refl, ap, sym, ◌∙◌}
use Rattle.std.specs.List.{list_any, find}
use Rattle.std.specs.Option.{option_or}
use Rattle.std.specs.BTreeMap.{is_at}
use Rattle.std.specs.Cmp.{IsTotalOrder, eq_by_cmp_equiv}
use Rattle.std.proofs.lemmas.Cmp.{nat_cmp_total, int_cmp_total, on_total, then_total}
use Rattle.std.proofs.lemmas.List.Folds.{list_any-append, find-append}
use Rattle.std.proofs.lemmas.List.{take_more}
use Rattle.hr_rel.specs.declared.value.Value.{Value}
use Rattle.hr_store.specs.declared.place.Place.{Place}
use Rattle.hr_store.specs.declared.cell.Cell.{Cell}
use Rattle.hr_store.specs.Places.{place_cmp, place_of, row_place, is_place, belongs_at}
use Rattle.hr_store.specs.Cells.{with_pending}
use Rattle.hr_store.specs.Changes.{is_any_at, is_key_at, put_in, after_put}
use Rattle.hr_store.proofs.CellLaws.{same_place}

pub places_total : IsTotalOrder place_cmp
places_total = then_total (on_total (λ (p : Place). p.table) nat_cmp_total) (on_total (λ (p : Place). p.key) int_cmp_total)

pub itself : (p : Place) → is_at (place_cmp p) p ≡ true
itself p = (eq_by_cmp_equiv places_total).refl p

or_left : (a b : Bool) → a ≡ true → (a || b) ≡ true
or_left true b h = refl
or_left false b h = cc

or_right : (a b : Bool) → b ≡ true → (a || b) ≡ true
or_right true b h = refl
or_right false b h = h

put_last : (txn : ℕ) (o : Option (List Value)) (b : Bool) (row : List Value) (cell : Cell)
    → put_in txn o (if b then with_pending txn (Some row) cell else cell) ≡ put_in txn (option_or o (if b then Some row else None)) cell
put_last txn None true row cell = refl
put_last txn None false row cell = refl
put_last txn (Some r) true row cell = refl
put_last txn (Some r) false row cell = refl

module _ (txn t : ℕ) (rows init : List (List Value)) (row : List Value) (split : rows ≡ init ++ row ∷ []) where
  any_of : (q : Place) → is_any_at t rows q ≡ (is_any_at t init q || (belongs_at t q row || false))
  any_of q = ap (λ all. is_any_at t all q) split ∙ list_any-append (belongs_at t q) init (row ∷ [])

  pub any_first : (q : Place) → is_any_at t init q ≡ true → is_any_at t rows q ≡ true
  any_first q h = any_of q ∙ or_left (is_any_at t init q) (belongs_at t q row || false) h

  pub any_last : (p : Place) → row_place t row ≡ Some p → is_any_at t rows p ≡ true
  any_last p h = any_of p ∙ or_right (is_any_at t init p) (belongs_at t p row || false) (or_left (belongs_at t p row) false (ap (λ o. is_place o p) h ∙ itself p))

  -- the last row is put, and then the rows before it
  pub last_put : (q : Place) (new cell : Cell) → new ≡ (if belongs_at t q row then with_pending txn (Some row) cell else cell) → after_put txn t init q new ≡ after_put txn t rows q cell
  last_put q new cell h =
      ap (after_put txn t init q) h
      ∙ put_last txn (find (belongs_at t q) init) (belongs_at t q row) row cell
      ∙ sym (ap (λ o. put_in txn o cell) (ap (find (belongs_at t q)) split ∙ find-append (belongs_at t q) init (row ∷ [])))

either : (a b : Bool) → (a || b) ≡ true → (a ≡ true) ⊎ (b ≡ true)
either true b h = inl refl
either false b h = inr h

-- a key among the first i + 1 is among the first i, or it is the next
pub keys_more : (t : ℕ) (keys : List ℤ) (i : ℕ) (q : Place) → i < length keys → is_key_at t (take (i + 1) keys) q ≡ true
    → (is_key_at t (take i keys) q ≡ true) ⊎ (place_of t (get_or keys i (pos 0)) ≡ q)
keys_more t keys i q within h =
    let at : ℤ → Bool = λ key. is_at (place_cmp (place_of t key)) q in
    let next = get_or keys i (pos 0) in
    let both : (list_any at (take i keys) || (at next || false)) ≡ true =
    sym (ap (list_any at) (take_more keys i (pos 0) within) ∙ list_any-append at (take i keys) (next ∷ [])) ∙ h in
    ⊎_elim (λ l. inl l)
    (λ r. inr (same_place (place_of t next) q (⊎_elim (λ x. x) (λ x. cc x) (either (at next) false r))))
    (either (list_any at (take i keys)) (at next || false) both)
