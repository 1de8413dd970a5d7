-- What a transaction and the others see after a write and after an end.
use Rattle.std.proofs.Common.{◌≡◌, ◌==◌, ℕ, ℤ, Bool, true, false, if◌then◌else◌, Option, Some, None, List, refl, ap, sym, ◌∙◌}
use Rattle.std.specs.List.{find}
use Rattle.std.proofs.lemmas.Bool.{eq-eqb}
use Rattle.hr_rel.specs.declared.value.Value.{Value}
use Rattle.hr_store.specs.declared.place.Place.{Place}
use Rattle.hr_store.specs.declared.cell.Cell.{Cell}
use Rattle.hr_store.specs.declared.ending.Ending.TheVariants.{Commit, Rollback}
use Rattle.hr_store.specs.Places.{belongs_at}
use Rattle.hr_store.specs.Cells.{is_pending_of, pending_row, seen_in, with_pending, closed, ended}
use Rattle.hr_store.specs.Changes.{is_key_at, put_in, after_put, after_remove}

put_by : (txn : ℕ) (o : Option (List Value)) (cell : Cell) → (put_in txn o cell).committed ≡ cell.committed
put_by txn None cell = refl
put_by txn (Some row) cell = refl

pub put_committed : (txn t : ℕ) (rows : List (List Value)) (q : Place) (cell : Cell) → (after_put txn t rows q cell).committed ≡ cell.committed
put_committed txn t rows q cell = put_by txn (find (belongs_at t q) rows) cell

remove_by : (txn : ℕ) (b : Bool) (cell : Cell) → (if b then with_pending txn None cell else cell).committed ≡ cell.committed
remove_by txn true cell = refl
remove_by txn false cell = refl

pub remove_committed : (txn t : ℕ) (keys : List ℤ) (q : Place) (cell : Cell) → (after_remove txn t keys q cell).committed ≡ cell.committed
remove_committed txn t keys q cell = remove_by txn (is_key_at t keys q) cell

-- a transaction sees what it has made pending
own_seen : (txn : ℕ) (row : Option (List Value)) (cell : Cell) → seen_in txn (with_pending txn row cell) ≡ row
own_seen txn row cell = ap (λ b. if b then row else cell.committed) (eq-eqb txn txn refl)

pub put_seen : (txn t : ℕ) (rows : List (List Value)) (q : Place) (cell : Cell) (row : List Value) → find (belongs_at t q) rows ≡ Some row → seen_in txn (after_put txn t rows q cell) ≡ Some row
put_seen txn t rows q cell row h = ap (λ o. seen_in txn (put_in txn o cell)) h ∙ own_seen txn (Some row) cell

pub remove_seen : (txn t : ℕ) (keys : List ℤ) (q : Place) (cell : Cell) → is_key_at t keys q ≡ true → seen_in txn (after_remove txn t keys q cell) ≡ None
remove_seen txn t keys q cell h = ap (λ b. seen_in txn (if b then with_pending txn None cell else cell)) h ∙ own_seen txn None cell

module _ (txn u : ℕ) (cell : Cell) (apart : (txn == u) ≡ false) (free : is_pending_of u cell ≡ false) where
  -- another doesn't
  unseen : (row : Option (List Value)) → seen_in u (with_pending txn row cell) ≡ seen_in u cell
  unseen row = ap (λ b. if b then row else cell.committed) apart ∙ sym (ap (λ b. if b then pending_row cell.pending else cell.committed) free)

  put_unseen_by : (o : Option (List Value)) → seen_in u (put_in txn o cell) ≡ seen_in u cell
  put_unseen_by None = refl
  put_unseen_by (Some row) = unseen (Some row)

  remove_unseen_by : (b : Bool) → seen_in u (if b then with_pending txn None cell else cell) ≡ seen_in u cell
  remove_unseen_by true = unseen None
  remove_unseen_by false = refl

pub put_unseen : (txn u t : ℕ) (rows : List (List Value)) (q : Place) (cell : Cell) → (txn == u) ≡ false → is_pending_of u cell ≡ false → seen_in u (after_put txn t rows q cell) ≡ seen_in u cell
put_unseen txn u t rows q cell apart free = put_unseen_by txn u cell apart free (find (belongs_at t q) rows)

pub remove_unseen : (txn u t : ℕ) (keys : List ℤ) (q : Place) (cell : Cell) → (txn == u) ≡ false → is_pending_of u cell ≡ false → seen_in u (after_remove txn t keys q cell) ≡ seen_in u cell
remove_unseen txn u t keys q cell apart free = remove_unseen_by txn u cell apart free (is_key_at t keys q)

commit_by : (b : Bool) (cell : Cell) → (if b then closed Commit cell else cell).committed ≡ (if b then pending_row cell.pending else cell.committed)
commit_by true cell = refl
commit_by false cell = refl

pub commit_seen : (txn : ℕ) (cell : Cell) → (ended Commit txn cell).committed ≡ seen_in txn cell
commit_seen txn cell = commit_by (is_pending_of txn cell) cell

rollback_by : (b : Bool) (cell : Cell) → (if b then closed Rollback cell else cell).committed ≡ cell.committed
rollback_by true cell = refl
rollback_by false cell = refl

pub rollback_committed : (txn : ℕ) (cell : Cell) → (ended Rollback txn cell).committed ≡ cell.committed
rollback_committed txn cell = rollback_by (is_pending_of txn cell) cell
