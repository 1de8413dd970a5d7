-- Places that compare alike are one, and what a change of the map is to the cells.
use Rattle.std.proofs.Common.{◌≡◌, Bool, true, false, cond, ◌&&◌, ℕ, ℤ, Option, Some, None, List, IsSome, refl, ap, sym, subst, ◌∙◌}
use Rattle.std.specs.Prelude.{unwrap_or, is_none}
use Rattle.std.specs.Ordering.{nat_cmp, int_cmp, is_eq}
use Rattle.std.specs.declared.cmp.Ordering.{Ordering}
use Rattle.std.specs.declared.cmp.Ordering.TheVariants.{Less, Equal, Greater}
use Rattle.std.specs.BTreeMap.{BTreeMap, get, is_at}
use Rattle.std.proofs.lemmas.Map.Lookups.{CmpEqualImpliesEq, exact_pairs, exact_unsigned, exact_signed}
use Rattle.hr_rel.specs.declared.value.Value.{Value}
use Rattle.hr_store.specs.declared.place.Place.{Place}
use Rattle.hr_store.specs.declared.cell.Cell.{Cell}
use Rattle.hr_store.specs.declared.cell.Pending.{Pending}
use Rattle.hr_store.specs.Places.{place_cmp}
use Rattle.hr_store.specs.Cells.{empty_cell, is_empty, held_at}

exact_places : CmpEqualImpliesEq place_cmp
exact_places a b h = ap (λ (p : ℕ × ℤ). record { table = p.0; key = p.1 }) (exact_pairs nat_cmp int_cmp exact_unsigned exact_signed (a.table, a.key) (b.table, b.key) h)

is_equal : (o : Ordering) → is_eq o ≡ true → o ≡ Equal
is_equal Less h = cc
is_equal Equal h = refl
is_equal Greater h = cc

-- a place at which a look-up stops is the one that is looked for
pub same_place : (p q : Place) → is_at (place_cmp p) q ≡ true → p ≡ q
same_place p q h = exact_places p q (is_equal (place_cmp p q) h)

pub some_stays : {X : Type 0} (b : Bool) (n m : Option X) (w : X) → n ≡ cond b (Some w) m → IsSome m → IsSome n
some_stays true n m w h s = subst IsSome (sym h) refl
some_stays false n m w h s = subst IsSome (sym h) s

empty_cells : (committed : Option (List Value)) (pending : Option Pending) → (is_none committed && is_none pending) ≡ true
    → ◌≡◌ {A = Cell} (record { committed = committed; pending = pending }) empty_cell
empty_cells None None h = refl
empty_cells None (Some p) h = cc
empty_cells (Some r) None h = cc
empty_cells (Some r) (Some p) h = cc

module _ (n m : BTreeMap Place Cell) (p q : Place) where
  room_by : (b : Bool) → is_at (place_cmp p) q ≡ b → get place_cmp n q ≡ cond b (Some empty_cell) (get place_cmp m q) → get place_cmp m p ≡ None → held_at n q ≡ held_at m q
  room_by true at h absent = ap (λ o. unwrap_or o empty_cell) h ∙ sym (ap (λ o. unwrap_or o empty_cell) (subst (λ x. get place_cmp m x ≡ None) (same_place p q at) absent))
  room_by false at h absent = ap (λ o. unwrap_or o empty_cell) h

  -- an empty cell where none was
  pub room_same : get place_cmp n q ≡ cond (is_at (place_cmp p) q) (Some empty_cell) (get place_cmp m q) → get place_cmp m p ≡ None → held_at n q ≡ held_at m q
  room_same h absent = room_by (is_at (place_cmp p) q) refl h absent

  gone_by : (b : Bool) → is_at (place_cmp p) q ≡ b → get place_cmp n q ≡ cond b None (get place_cmp m q) → is_empty (held_at m p) ≡ true → held_at n q ≡ held_at m q
  gone_by true at h empty =
      ap (λ o. unwrap_or o empty_cell) h
      ∙ sym (subst (λ x. held_at m x ≡ empty_cell) (same_place p q at) (empty_cells (held_at m p).committed (held_at m p).pending empty))
  gone_by false at h empty = ap (λ o. unwrap_or o empty_cell) h

  -- no cell where an empty one was
  pub gone_same : get place_cmp n q ≡ cond (is_at (place_cmp p) q) None (get place_cmp m q) → is_empty (held_at m p) ≡ true → held_at n q ≡ held_at m q
  gone_same h empty = gone_by (is_at (place_cmp p) q) refl h empty
