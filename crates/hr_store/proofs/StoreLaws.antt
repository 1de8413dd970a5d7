-- What is pending after a change, and that nothing is at the start.
use Rattle.std.proofs.Common.{◌≡◌, ◌⊎◌, inl, inr, ◌+◌, ℕ, ℤ, Bool, true, false, ◌||◌, cond, if◌then◌else◌, Option, Some, None, List, [], ◌∷◌, refl}
use Rattle.std.specs.List.{list_any, find}
use Rattle.std.proofs.lemmas.Bool.{eqb-true}
use Rattle.hr_rel.specs.declared.value.Value.{Value}
use Rattle.hr_store.specs.declared.place.Place.{Place}
use Rattle.hr_store.specs.declared.cell.Cell.{Cell}
use Rattle.hr_store.specs.Places.{belongs_at}
use Rattle.hr_store.specs.Cells.{is_pending_of, with_pending}
use Rattle.hr_store.specs.Changes.{is_any_at, is_key_at, put_in, after_put, after_remove}
use Rattle.hr_store.specs.Loads.{committed_cell, loaded, all_loaded}

-- ---- at the start

laid : (b : Bool) (row : List Value) (cell : Cell) → cell.pending ≡ None → (if b then committed_cell row else cell).pending ≡ None
laid true row cell h = refl
laid false row cell h = h

loaded_pending : (t : ℕ) (rows : List (List Value)) (q : Place) (cell : Cell) → cell.pending ≡ None → (loaded t rows q cell).pending ≡ None
loaded_pending t [] q cell h = h
loaded_pending t (row ∷ rows) q cell h = loaded_pending t rows q (if belongs_at t q row then committed_cell row else cell) (laid (belongs_at t q row) row cell h)

pub all_loaded_pending : (t : ℕ) (tables : List (List (List Value))) (q : Place) (cell : Cell) → cell.pending ≡ None → (all_loaded t tables q cell).pending ≡ None
all_loaded_pending t [] q cell h = h
all_loaded_pending t (rows ∷ tables) q cell h = all_loaded_pending (t + 1) tables q (loaded t rows q cell) (loaded_pending t rows q cell h)

-- ---- after a put or a remove

found_by : {X : Type 0} (b : Bool) (y x : X) (o : Option X) (any : Bool) → (o ≡ Some x → any ≡ true) → cond b (Some y) o ≡ Some x → (b || any) ≡ true
found_by true y x o any rest h = refl
found_by false y x o any rest h = rest h

found : {X : Type 0} (f : X → Bool) (xs : List X) (x : X) → find f xs ≡ Some x → list_any f xs ≡ true
found f [] x h = cc h
found f (y ∷ ys) x h = found_by (f y) y x (find f ys) (list_any f ys) (found f ys x) h

module _ (txn t : ℕ) (q : Place) (cell : Cell) (u : ℕ) where
  put_by : (rows : List (List Value)) (o : Option (List Value)) → find (belongs_at t q) rows ≡ o → is_pending_of u (put_in txn o cell) ≡ true
      → (is_pending_of u cell ≡ true) ⊎ ((is_any_at t rows q ≡ true) × (txn ≡ u))
  put_by rows None e h = inl h
  put_by rows (Some row) e h = inr (found (belongs_at t q) rows row e, eqb-true txn u h)

  -- what is pending after a put was so before, or is among what was put
  pub put_pending : (rows : List (List Value)) → is_pending_of u (after_put txn t rows q cell) ≡ true → (is_pending_of u cell ≡ true) ⊎ ((is_any_at t rows q ≡ true) × (txn ≡ u))
  put_pending rows h = put_by rows (find (belongs_at t q) rows) refl h

  remove_by : (keys : List ℤ) (b : Bool) → is_key_at t keys q ≡ b → is_pending_of u (if b then with_pending txn None cell else cell) ≡ true
      → (is_pending_of u cell ≡ true) ⊎ ((is_key_at t keys q ≡ true) × (txn ≡ u))
  remove_by keys true e h = inr (e, eqb-true txn u h)
  remove_by keys false e h = inl h

  pub remove_pending : (keys : List ℤ) → is_pending_of u (after_remove txn t keys q cell) ≡ true → (is_pending_of u cell ≡ true) ⊎ ((is_key_at t keys q ≡ true) × (txn ≡ u))
  remove_pending keys h = remove_by keys (is_key_at t keys q) refl h
