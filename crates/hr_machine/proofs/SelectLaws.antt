-- What a SELECT keeps of rows, before a row, of it and behind it.
use Rattle.std.proofs.Common.{◌≡◌, ℕ, zero, suc, ◌+◌, ◌<◌, List, [], ◌∷◌, ◌++◌, length, map, take, drop, get_or, refl, ap, sym, ◌∙◌, arith}
use Rattle.std.proofs.lemmas.List.{append_assoc}
use Rattle.std.proofs.lemmas.List.Concat.{flat_map-append}
use Rattle.std.proofs.lemmas.List.Elements.{filter-append}
use Rattle.hr_rel.specs.declared.value.Value.{Value}
use Rattle.hr_rel.specs.declared.stmt.SelectStmt.{SelectStmt}
use Rattle.hr_meaning.specs.Exec.{tuples}
use Rattle.hr_machine.specs.Kept.{keeps, kept_of, with_first}

parted_at : {X : Type 0} (xs : List X) (i : ℕ) (x : X) → i < length xs → x ≡ get_or xs i x → xs ≡ take i xs ++ x ∷ drop (i + 1) xs
parted_at [] i x lt e = absurd (omega arith)
parted_at (y ∷ xs) zero x lt e = ap (λ z. z ∷ xs) (sym e)
parted_at {X} (y ∷ xs) (suc i) x lt e =
    let one : suc i + 1 ≡ suc (i + 1) = omega arith in
    ap (λ (l : List X). y ∷ l) (parted_at xs i x (omega arith) e) ∙ ap (λ n. y ∷ take i xs ++ x ∷ drop n (y ∷ xs)) (sym one)

module _ (s : SelectStmt) (others : List (List (List Value))) where
  kept_append : (xs ys : List (List Value)) → kept_of s (tuples ((xs ++ ys) ∷ others)) ≡ kept_of s (tuples (xs ∷ others)) ++ kept_of s (tuples (ys ∷ others))
  kept_append xs ys = ap (kept_of s) (flat_map-append (λ row. map (λ t. row ∷ t) (tuples others)) xs ys) ∙ filter-append (keeps s) (tuples (xs ∷ others)) (tuples (ys ∷ others))

  kept_first : (row : List Value) (rows : List (List Value)) → kept_of s (tuples ((row ∷ rows) ∷ others)) ≡ kept_of s (map (with_first row) (tuples others)) ++ kept_of s (tuples (rows ∷ others))
  kept_first row rows = filter-append (keeps s) (map (with_first row) (tuples others)) (tuples (rows ∷ others))

  pub kept_through : (rows : List (List Value)) (i : ℕ) (row : List Value) → i < length rows → row ≡ get_or rows i row
      → kept_of s (tuples (rows ∷ others)) ≡ (kept_of s (tuples (take i rows ∷ others)) ++ kept_of s (map (with_first row) (tuples others))) ++ kept_of s (tuples (drop (i + 1) rows ∷ others))
  kept_through rows i row lt e =
      ap (λ l. kept_of s (tuples (l ∷ others))) (parted_at rows i row lt e)
      ∙ kept_append (take i rows) (row ∷ drop (i + 1) rows)
      ∙ ap (λ l. kept_of s (tuples (take i rows ∷ others)) ++ l) (kept_first row (drop (i + 1) rows))
      ∙ sym (append_assoc (kept_of s (tuples (take i rows ∷ others))) (kept_of s (map (with_first row) (tuples others))) (kept_of s (tuples (drop (i + 1) rows ∷ others))))
