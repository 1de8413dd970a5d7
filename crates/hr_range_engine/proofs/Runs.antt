-- What a statement makes of what is committed and seen.
use Rattle.std.proofs.Common.{◌≡◌, ◌⊎◌, ⊎_elim, inl, inr, ℕ, ℤ, Bool, true, false, cond, not, ◌&&◌, ◌||◌, ◌==◌, Option, Some, None, List, [], ◌∷◌, length, refl, ap, sym, subst, ◌∙◌}
use Rattle.std.specs.Prelude.{int_le, is_some}
use Rattle.std.specs.List.{find, list_any}
use Rattle.std.specs.BTreeMap.{is_at}
use Rattle.std.proofs.lemmas.Bool.{and_from, and_parts, both_ways, false_from_ne_true, eq-eqb, eqb-true}
use Rattle.hr_rel.specs.declared.value.Value.{Value}
use Rattle.hr_rel.specs.declared.answer.Answer.{Answer}
use Rattle.hr_rel.specs.declared.catalog.Catalog.{Catalog}
use Rattle.hr_rel.specs.declared.stmt.Stmt.{Stmt}
use Rattle.hr_rel.specs.Database.{Database, rows_of}
use Rattle.hr_rel.specs.Kinds.{fits_i64}
use Rattle.hr_rel.specs.Holds.{IsOrdered}
use Rattle.hr_meaning.specs.Exec.{exec}
use Rattle.hr_meaning.specs.SameAnswer.{SameAnswer}
use Rattle.hr_engine.proofs.SameAnswers.{same_itself}
use Rattle.hr_meaning.specs.Insert.{has_key}
use Rattle.hr_statement_laws.proofs.Shape.{keeps_catalog}
use Rattle.hr_statement_laws.proofs.Ascending.{Ascending}
use Rattle.hr_statement_laws.proofs.Ordered.{keeps_order}
use Rattle.hr_parts.specs.Parts.{Part, is_in, covers, written, row_at, Agree, Within}
use Rattle.hr_parts.specs.Keys.{key_parts}
use Rattle.hr_parts.proofs.Lists.{covered_within}
use Rattle.hr_parts.proofs.KeyParts.{keys_cover}
use Rattle.hr_parts.proofs.Statements.{ascending}
use Rattle.hr_store.specs.declared.cell.Cell.{Cell}
use Rattle.hr_store.specs.declared.store.Store.{Store}
use Rattle.hr_store.specs.Places.{place_cmp, place_of, belongs_at}
use Rattle.hr_store.specs.Cells.{pending_row, is_pending_of, seen_in, with_pending}
use Rattle.hr_store.specs.Changes.{put_in}
use Rattle.hr_store.specs.Store.{cell_at, tables_of, put_cell, remove_cell, is_key_in}
use Rattle.hr_store.proofs.StoreLaws.{put_pending, remove_pending}
use Rattle.hr_store.proofs.ViewLaws.{put_committed, remove_committed, put_seen, remove_seen, put_unseen, remove_unseen}
use Rattle.hr_lock_engine.specs.Views.{IsView, AreFree, Sees, OthersSee, WroteWithin}
use Rattle.hr_range_engine.specs.Shown.{stands_at, is_sound_at, IsOf, committed_base, seen_by, wrote_by, is_within, row_within}
use Rattle.hr_range_engine.specs.Changed.{is_row, new_rows, gone_keys, new_at}
use Rattle.hr_range_engine.specs.Laws.{key_fits}
use Rattle.hr_range_engine.proofs.Found.{row_stands, belongs_first, belongs_nowhere, key_nowhere}
use Rattle.hr_range_engine.proofs.Ends.{with_sound, same_base}
use Rattle.hr_range_engine.proofs.Changed.{is_that_row, is_itself, new_found, any_found, gone_found, nothing_more, just_that}

-- the only answer of one
first_answer : (a b : Answer) → a ∷ [] ≡ b ∷ [] → a ≡ b
first_answer a b e = cc

-- at what is no key of 64 bits nobody sees a row
stands_nowhere : (tables t : ℕ) (k : ℤ) → fits_i64 k ≡ false → (o : Option (List Value)) → stands_at tables t k o ≡ true → o ≡ None
stands_nowhere tables t k unfit None h = refl
stands_nowhere tables t k unfit (Some row) h = absurd (both_ways (fits_i64 k) unfit (key_fits tables t k row h))

unseen : (tables t : ℕ) (k : ℤ) → fits_i64 k ≡ false → (u : ℕ) (c : Cell) → is_sound_at tables t k c ≡ true → seen_in u c ≡ None
unseen tables t k unfit u c h = by_whom (is_pending_of u c)
  where
    by_whom : (b : Bool) → cond b (pending_row c.pending) c.committed ≡ None
    by_whom true = stands_nowhere tables t k unfit (pending_row c.pending) (and_parts (stands_at tables t k c.committed) (stands_at tables t k (pending_row c.pending)) h).1
    by_whom false = stands_nowhere tables t k unfit c.committed (and_parts (stands_at tables t k c.committed) (stands_at tables t k (pending_row c.pending)) h).0

or_none : (b : Bool) → (b || false) ≡ b
or_none true = refl
or_none false = refl

module _ (catalog : Catalog) (before : Store) (whole : IsOf catalog before) (txn : ℕ) (s : Stmt) (d : Database) (ordered : IsOrdered d) (same_catalog : d.catalog ≡ catalog) where
  abbrev after : Database
  after = (exec d s).after

  footprint : Within (key_parts s) (s ∷ [])
  footprint = covered_within (key_parts s) s (keys_cover s)

  module _ (looked : (t : ℕ) (k : ℤ) → covers (key_parts s) t k ≡ true → row_at d t k ≡ seen_by before txn t k) (db : Database)
      (view : IsView (committed_base catalog before) (seen_by before txn) db) where
    agree : Agree (key_parts s) d db
    agree = record { catalog = same_catalog ∙ sym view.catalog; rows = λ t k h. looked t k h ∙ view.rows t k }

    pub run_answer : (a : Answer) → a ≡ (exec d s).answer → SameAnswer (exec db s).answer a
    run_answer a e =
        subst (λ (x : Answer). SameAnswer (exec db s).answer x) (sym (e ∙ first_answer (exec d s).answer (exec db s).answer (footprint.answers d db ordered view.ordered agree)))
        (same_itself (exec db s).answer)

    left_alike : (t : ℕ) (k : ℤ) → covers (key_parts s) t k ≡ true → row_at after t k ≡ row_at (exec db s).after t k
    left_alike t k h = (footprint.results d db ordered view.ordered agree).rows t k h

    -- what writes nothing leaves what is seen
    pub read_after : ((t : ℕ) (k : ℤ) → covers (written (key_parts s)) t k ≡ false) → Sees (seen_by before) txn (exec db s).after
    read_after none t k = view.rows t k ∙ sym (footprint.frame db view.ordered t k (none t k))

  -- ---- a change within one interval

  module _ (t : ℕ) (low high : ℤ) (one : key_parts s ≡ record { table = t; low = low; high = high; written = true } ∷ []) where
    abbrev part : Part
    part = record { table = t; low = low; high = high; written = true }

    covers_by : (u : ℕ) (k : ℤ) → covers (key_parts s) u k ≡ is_in u k part
    covers_by u k = ap (λ (l : List Part). covers l u k) one ∙ or_none (is_in u k part)

    written_is : (u : ℕ) (k : ℤ) → covers (written (key_parts s)) u k ≡ covers (key_parts s) u k
    written_is u k = ap (λ (l : List Part). covers (written l) u k) one ∙ sym (ap (λ (l : List Part). covers l u k) one)

    covered_in : (u : ℕ) (k : ℤ) → covers (key_parts s) u k ≡ true → (t ≡ u) × (is_within low high k ≡ true)
    covered_in u k h =
        let both = and_parts ((t == u) && int_le low k) (int_le k high) (sym (covers_by u k) ∙ h) in
        let first = and_parts (t == u) (int_le low k) both.0 in
        (eqb-true t u first.0, and_from (int_le low k) (int_le k high) first.1 both.1)

    in_covered : (u : ℕ) (k : ℤ) → t ≡ u → is_within low high k ≡ true → covers (key_parts s) u k ≡ true
    in_covered u k same h =
        let both = and_parts (int_le low k) (int_le k high) h in
        covers_by u k ∙ and_from ((t == u) && int_le low k) (int_le k high) (and_from (t == u) (int_le low k) (eq-eqb t u same) both.0) both.1

    module _ (in_d : (k : ℤ) → row_at d t k ≡ row_within low high (seen_by before txn t) k) where
      pub looked_at : (u : ℕ) (k : ℤ) → covers (key_parts s) u k ≡ true → row_at d u k ≡ seen_by before txn u k
      looked_at u k h =
          let where_it = covered_in u k h in
          subst (λ (v : ℕ). row_at d v k ≡ seen_by before txn v k) where_it.0 (in_d k ∙ ap (λ (b : Bool). cond b (seen_by before txn t k) None) where_it.1)

      abbrev left_rows : List (List Value)
      left_rows = rows_of after t

      abbrev rows : List (List Value)
      rows = new_rows (seen_by before txn t) left_rows

      ascend : Ascending left_rows
      ascend = ascending after (keeps_order d s ordered) t

      put_at : (k : ℤ) → find (belongs_at t (place_of t k)) rows ≡ new_at (seen_by before txn t k) (row_at after t k)
      put_at k = belongs_first t k rows ∙ new_found (seen_by before txn t) k left_rows ascend

      none_put : (k : ℤ) → row_at after t k ≡ None → find (belongs_at t (place_of t k)) rows ≡ None
      none_put k e = put_at k ∙ ap (new_at (seen_by before txn t k)) e

      by_sight : (k : ℤ) (row : List Value) → row_at after t k ≡ Some row → (b : Bool) → is_row row (seen_by before txn t k) ≡ b → find (belongs_at t (place_of t k)) rows ≡ cond b None (Some row)
      by_sight k row e b h = put_at k ∙ ap (new_at (seen_by before txn t k)) e ∙ ap (λ (c : Bool). cond c None (Some row)) h

      module _ (keys : List ℤ) (found : (k : ℤ) → is_key_in t keys k ≡ (is_within low high k && is_some (seen_by before txn t k))) where
        abbrev gone : List ℤ
        gone = gone_keys left_rows keys

        gone_at : (k : ℤ) → is_key_in t gone k ≡ (is_key_in t keys k && not (is_some (row_at after t k)))
        gone_at k = gone_found t left_rows k keys ∙ ap (λ (b : Bool). is_key_in t keys k && not b) (any_found (has_key k) left_rows)

        -- where a row is left no key is gone
        still_there : (k : ℤ) (row : List Value) → row_at after t k ≡ Some row → is_key_in t gone k ≡ false
        still_there k row e = gone_at k ∙ ap (λ (o : Option (List Value)). is_key_in t keys k && not (is_some o)) e ∙ nothing_more (is_key_in t keys k)

        -- where none is left the keys are gone at which there was one
        gone_where : (k : ℤ) → row_at after t k ≡ None → is_key_in t gone k ≡ (is_within low high k && is_some (seen_by before txn t k))
        gone_where k e = gone_at k ∙ ap (λ (o : Option (List Value)). is_key_in t keys k && not (is_some o)) e ∙ just_that (is_key_in t keys k) ∙ found k

        not_gone : (k : ℤ) → is_within low high k ≡ false → is_key_in t gone k ≡ false
        not_gone k away =
            gone_at k ∙ ap (λ (b : Bool). b && not (is_some (row_at after t k))) (found k ∙ ap (λ (b : Bool). b && is_some (seen_by before txn t k)) away)

        module _ (now : Store) (tables : tables_of now ≡ tables_of before)
            (changed : (u : ℕ) (k : ℤ) → cell_at now u k ≡ put_cell txn t rows u k (remove_cell txn t gone u k (cell_at before u k))) where
          abbrev removed : ℕ → ℤ → Cell
          removed u k = remove_cell txn t gone u k (cell_at before u k)

          not_changed : (u : ℕ) (k : ℤ) → find (belongs_at t (place_of u k)) rows ≡ None → list_any (λ (key : ℤ). is_at (place_cmp (place_of t key)) (place_of u k)) gone ≡ false → cell_at now u k ≡ cell_at before u k
          not_changed u k none out =
              changed u k ∙ ap (λ (o : Option (List Value)). put_in txn o (removed u k)) none
              ∙ ap (λ (b : Bool). cond b (with_pending txn None (cell_at before u k)) (cell_at before u k)) out

          unchanged : (u : ℕ) (k : ℤ) → covers (key_parts s) u k ≡ false → cell_at now u k ≡ cell_at before u k
          unchanged u k out = by_table (t == u) refl
            where
              beyond : t ≡ u → is_within low high k ≡ false
              beyond same = false_from_ne_true (is_within low high k) (λ h. both_ways (covers (key_parts s) u k) out (in_covered u k same h))

              at_t : is_within low high k ≡ false → covers (key_parts s) t k ≡ false → cell_at now t k ≡ cell_at before t k
              at_t away uncovered =
                  not_changed t k
                  (none_put k (footprint.frame d ordered t k (written_is t k ∙ uncovered) ∙ in_d k ∙ ap (λ (b : Bool). cond b (seen_by before txn t k) None) away))
                  (not_gone k away)

              by_table : (b : Bool) → (t == u) ≡ b → cell_at now u k ≡ cell_at before u k
              by_table true e =
                  let same = eqb-true t u e in
                  subst (λ (v : ℕ). cell_at now v k ≡ cell_at before v k) same (at_t (beyond same) (subst (λ (v : ℕ). covers (key_parts s) v k ≡ false) (sym same) out))
              by_table false e =
                  let differ : t ≡ u → ⊥ = λ same. both_ways (t == u) e (eq-eqb t u same) in
                  not_changed u k (belongs_nowhere u k t differ rows) (key_nowhere u k t differ gone)

          -- ---- in the interval

          -- a row that was seen so is left alone
          same_cell : (k : ℤ) (row : List Value) → row_at after t k ≡ Some row → is_row row (seen_by before txn t k) ≡ true → cell_at now t k ≡ cell_at before t k
          same_cell k row e h = not_changed t k (by_sight k row e true h) (still_there k row e)

          sees_row : (k : ℤ) (row : List Value) → row_at after t k ≡ Some row → (b : Bool) → is_row row (seen_by before txn t k) ≡ b → seen_by now txn t k ≡ Some row
          sees_row k row e true h = ap (seen_in txn) (same_cell k row e h) ∙ is_that_row row (seen_by before txn t k) h
          sees_row k row e false h = ap (seen_in txn) (changed t k) ∙ put_seen txn t rows (place_of t k) (removed t k) row (by_sight k row e false h)

          nothing_seen : (o : Option (List Value)) → is_some o ≡ false → o ≡ None
          nothing_seen None h = refl
          nothing_seen (Some row) h = cc

          sees_none : (k : ℤ) → is_within low high k ≡ true → row_at after t k ≡ None → (b : Bool) → is_key_in t gone k ≡ b → seen_in txn (removed t k) ≡ None
          sees_none k within e true h = remove_seen txn t gone (place_of t k) (cell_at before t k) h
          sees_none k within e false h =
              ap (λ (b : Bool). seen_in txn (cond b (with_pending txn None (cell_at before t k)) (cell_at before t k))) h
              ∙ nothing_seen (seen_by before txn t k) (ap (λ (b : Bool). b && is_some (seen_by before txn t k)) (sym within) ∙ sym (gone_where k e) ∙ h)

          seen_now : (k : ℤ) → is_within low high k ≡ true → seen_by now txn t k ≡ row_at after t k
          seen_now k within = by_row (row_at after t k) refl
            where
              by_row : (o : Option (List Value)) → row_at after t k ≡ o → seen_by now txn t k ≡ row_at after t k
              by_row (Some row) e = sees_row k row e (is_row row (seen_by before txn t k)) refl ∙ sym e
              by_row None e =
                  ap (seen_in txn) (changed t k) ∙ ap (λ (o : Option (List Value)). seen_in txn (put_in txn o (removed t k))) (none_put k e)
                  ∙ sees_none k within e (is_key_in t gone k) refl ∙ sym e

          -- where the transaction sees what it saw nothing is written
          same_sight : (k : ℤ) → is_within low high k ≡ true → seen_by now txn t k ≡ seen_by before txn t k → cell_at now t k ≡ cell_at before t k
          same_sight k within same = by_row (row_at after t k) refl
            where
              by_sight_of : (row : List Value) → row_at after t k ≡ Some row → (b : Bool) → is_row row (seen_by before txn t k) ≡ b → cell_at now t k ≡ cell_at before t k
              by_sight_of row e true h = same_cell k row e h
              by_sight_of row e false h =
                  absurd (both_ways (is_row row (seen_by before txn t k)) h (ap (is_row row) (sym same ∙ sees_row k row e false h) ∙ is_itself row))

              by_row : (o : Option (List Value)) → row_at after t k ≡ o → cell_at now t k ≡ cell_at before t k
              by_row (Some row) e = by_sight_of row e (is_row row (seen_by before txn t k)) refl
              by_row None e =
                  let none : seen_by before txn t k ≡ None = sym same ∙ seen_now k within ∙ e in
                  not_changed t k (none_put k e) (gone_where k e ∙ ap (λ (o : Option (List Value)). is_within low high k && is_some o) none ∙ nothing_more (is_within low high k))

          pub change_untouched : (u : ℕ) (k : ℤ) → seen_by now txn u k ≡ seen_by before txn u k → cell_at now u k ≡ cell_at before u k
          change_untouched u k same = by_cover (covers (key_parts s) u k) refl
            where
              by_cover : (b : Bool) → covers (key_parts s) u k ≡ b → cell_at now u k ≡ cell_at before u k
              by_cover false h = unchanged u k h
              by_cover true h =
                  let where_it = covered_in u k h in
                  subst (λ (v : ℕ). cell_at now v k ≡ cell_at before v k) where_it.0
                  (same_sight k where_it.1 (subst (λ (v : ℕ). seen_by now txn v k ≡ seen_by before txn v k) (sym where_it.0) same))

          pub change_after : (db : Database) → IsView (committed_base catalog before) (seen_by before txn) db → Sees (seen_by now) txn (exec db s).after
          change_after db view u k = by_cover (covers (key_parts s) u k) refl
            where
              by_cover : (b : Bool) → covers (key_parts s) u k ≡ b → seen_by now txn u k ≡ row_at (exec db s).after u k
              by_cover true h =
                  let where_it = covered_in u k h in
                  subst (λ (v : ℕ). seen_by now txn v k ≡ row_at after v k) where_it.0 (seen_now k where_it.1) ∙ left_alike looked_at db view u k h
              by_cover false h = ap (seen_in txn) (unchanged u k h) ∙ view.rows u k ∙ sym (footprint.frame db view.ordered u k (written_is u k ∙ h))

          pub change_wrote : WroteWithin txn (key_parts s) (wrote_by before) (wrote_by now)
          change_wrote u x k fit w = by_cover (covers (key_parts s) x k) refl
            where
              by_cover : (b : Bool) → covers (key_parts s) x k ≡ b → (wrote_by before u x k ≡ true) ⊎ ((u ≡ txn) × (covers (written (key_parts s)) x k ≡ true))
              by_cover false h = inl (sym (ap (is_pending_of u) (unchanged x k h)) ∙ w)
              by_cover true h = ⊎_elim
                  (λ kept. ⊎_elim (λ old. inl old) (λ gone. inr (sym gone.1, written_is x k ∙ h)) (remove_pending txn t (place_of x k) (cell_at before x k) u gone kept))
                  (λ put. inr (sym put.1, written_is x k ∙ h))
                  (put_pending txn t (place_of x k) (remove_cell txn t gone x k (cell_at before x k)) u rows (sym (ap (is_pending_of u) (changed x k)) ∙ w))

          -- ---- the store goes on to be one

          size : length after.tables ≡ tables_of before
          size = (keeps_order d s ordered).tables ∙ ap (λ (c : Catalog). length c.tables) (keeps_catalog d s ∙ same_catalog) ∙ sym whole.count

          still_committed : (u : ℕ) (k : ℤ) → (cell_at now u k).committed ≡ (cell_at before u k).committed
          still_committed u k =
              ap (λ (c : Cell). c.committed) (changed u k) ∙ put_committed txn t rows (place_of u k) (remove_cell txn t gone u k (cell_at before u k))
              ∙ remove_committed txn t gone (place_of u k) (cell_at before u k)

          pub change_whole : IsOf catalog now
          change_whole = with_sound catalog before now whole tables (λ u k. by_cover u k (covers (key_parts s) u k) refl)
            where
              pending_at : (k : ℤ) → stands_at (tables_of before) t k (pending_row (cell_at now t k).pending) ≡ true
              pending_at k = ap (λ (c : Cell). stands_at (tables_of before) t k (pending_row c.pending)) (changed t k) ∙ by_row (row_at after t k) refl
                where
                  by_key : (b : Bool) → stands_at (tables_of before) t k (pending_row (cond b (with_pending txn None (cell_at before t k)) (cell_at before t k)).pending) ≡ true
                  by_key true = refl
                  by_key false = (and_parts (stands_at (tables_of before) t k (cell_at before t k).committed) (stands_at (tables_of before) t k (pending_row (cell_at before t k).pending)) (whole.rows t k)).1

                  with_put : (o : Option (List Value)) → find (belongs_at t (place_of t k)) rows ≡ o → stands_at (tables_of before) t k (pending_row (put_in txn o (removed t k)).pending) ≡ true
                      → stands_at (tables_of before) t k (pending_row (put_cell txn t rows t k (removed t k)).pending) ≡ true
                  with_put o e h = ap (λ (p : Option (List Value)). stands_at (tables_of before) t k (pending_row (put_in txn p (removed t k)).pending)) e ∙ h

                  by_seen : (row : List Value) → row_at after t k ≡ Some row → (b : Bool) → is_row row (seen_by before txn t k) ≡ b
                      → stands_at (tables_of before) t k (pending_row (put_cell txn t rows t k (removed t k)).pending) ≡ true
                  by_seen row e true h = with_put None (by_sight k row e true h) (by_key (is_key_in t gone k))
                  by_seen row e false h = with_put (Some row) (by_sight k row e false h) ((λ i. stands_at (sym size i) t k (sym e i)) ∙ row_stands after (keeps_order d s ordered) t k)

                  by_row : (o : Option (List Value)) → row_at after t k ≡ o → stands_at (tables_of before) t k (pending_row (put_cell txn t rows t k (removed t k)).pending) ≡ true
                  by_row (Some row) e = by_seen row e (is_row row (seen_by before txn t k)) refl
                  by_row None e = with_put None (none_put k e) (by_key (is_key_in t gone k))

              at_t : (k : ℤ) → is_sound_at (tables_of before) t k (cell_at now t k) ≡ true
              at_t k =
                  let c = cell_at before t k in
                  and_from (stands_at (tables_of before) t k (cell_at now t k).committed) (stands_at (tables_of before) t k (pending_row (cell_at now t k).pending))
                  (ap (stands_at (tables_of before) t k) (still_committed t k)
                  ∙ (and_parts (stands_at (tables_of before) t k c.committed) (stands_at (tables_of before) t k (pending_row c.pending)) (whole.rows t k)).0)
                  (pending_at k)

              by_cover : (u : ℕ) (k : ℤ) (b : Bool) → covers (key_parts s) u k ≡ b → is_sound_at (tables_of before) u k (cell_at now u k) ≡ true
              by_cover u k true h = subst (λ (v : ℕ). is_sound_at (tables_of before) v k (cell_at now v k) ≡ true) (covered_in u k h).0 (at_t k)
              by_cover u k false h = ap (is_sound_at (tables_of before) u k) (unchanged u k h) ∙ whole.rows u k

          pub change_base : committed_base catalog now ≡ committed_base catalog before
          change_base = same_base catalog before now whole tables change_whole still_committed

          pub change_others : AreFree (wrote_by before) txn (key_parts s) → OthersSee txn (seen_by before) (seen_by now)
          change_others free u x k differ = by_cover (covers (key_parts s) x k) refl
            where
              by_fit : covers (key_parts s) x k ≡ true → (b : Bool) → fits_i64 k ≡ b → seen_by now u x k ≡ seen_by before u x k
              by_fit h true fit =
                  let none : is_pending_of u (cell_at before x k) ≡ false = free u x k differ fit h in
                  let not_same : (txn == u) ≡ false = false_from_ne_true (txn == u) (λ e. differ (sym (eqb-true txn u e))) in
                  let still_none : is_pending_of u (remove_cell txn t gone x k (cell_at before x k)) ≡ false = false_from_ne_true (is_pending_of u (remove_cell txn t gone x k (cell_at before x k)))
                  (λ p. ⊎_elim (λ old. both_ways (is_pending_of u (cell_at before x k)) none old) (λ gone. differ (sym gone.1)) (remove_pending txn t (place_of x k) (cell_at before x k) u gone p)) in
                  ap (seen_in u) (changed x k) ∙ put_unseen txn u t rows (place_of x k) (remove_cell txn t gone x k (cell_at before x k)) not_same still_none
                  ∙ remove_unseen txn u t gone (place_of x k) (cell_at before x k) not_same none
              by_fit h false unfit =
                  unseen (tables_of now) x k unfit u (cell_at now x k) (change_whole.rows x k) ∙ sym (unseen (tables_of before) x k unfit u (cell_at before x k) (whole.rows x k))

              by_cover : (b : Bool) → covers (key_parts s) x k ≡ b → seen_by now u x k ≡ seen_by before u x k
              by_cover true h = by_fit h (fits_i64 k) refl
              by_cover false h = ap (seen_in u) (unchanged x k h)
