-- A correct replica answers as on the database after so many of the log, wherever these are processed there.
use Rattle.std.proofs.Common.{◌≡◌, ◌⊎◌, inl, inr, ℕ, suc, ◌+◌, ◌*◌, ◌<◌, ◌≤◌, true, Some, slice_get, [], ◌∷◌, ◌++◌, take, drop, length, map, ap, sym, ◌∙◌, subst, arith, append_assoc}
use Rattle.std.specs.List.{AllZip, prefix_len}
use Rattle.std.proofs.lemmas.List.{map-append, take-append-drop}
use Rattle.std.proofs.lemmas.Bool.{or_cases}
use Rattle.hr_base.specs.Lists.{is_distinct}
use Rattle.hr_rel.specs.Database.{Database}
use Rattle.hr_meaning.specs.Serial.{play, database_after, database_at, serial_answers}
use Rattle.hr_meaning.specs.SameAnswer.{SameAnswer}
use Rattle.hr_engine.specs.Attempts.{attempt, statements, answers}
use Rattle.hr_engine.specs.Base.{settled, base, count}
use Rattle.hr_engine.specs.Rigorous.{Rigorous}
use Rattle.hr_engine.proofs.AnyList.{any_list}
use Rattle.hr_engine.proofs.SerialLaws.{database_after-append}
use Rattle.hr_history.specs.History.{History}
use Rattle.hr_history.specs.Transactions.{log, submits}
use Rattle.hr_history.specs.Replicas.{journal_of}
use Rattle.hr_history.specs.View.{view_of}
use Rattle.hr_history.specs.Processed.{phase_in, replica_in, is_committed, is_whole, is_processed}
use Rattle.hr_records.specs.AtReplica.{Begins}
use Rattle.hr_records.specs.Kept.{Kept}
use Rattle.hr_records.proofs.Places.{got_more}
use Rattle.hr_records.proofs.NumberSteps.{same_place}
use Rattle.hr_records.proofs.Beginnings.{begins_take, map_same_at}
use Rattle.hr_records.proofs.ViewWords.{phase_seen, position_seen, later_place}
use Rattle.hr_serial.specs.Prefix.{log_statements}
use Rattle.hr_serial.proofs.Distinct.{distinct_by_places, distinct_tail, zip_last}
use Rattle.hr_serial.proofs.Processed.{whole_attempt, logged_born}
use Rattle.hr_serial.proofs.PlayedAt.{serial-end}
use Rattle.hr_barriers.specs.Played.{IsProcessedTo, IsNoneOfTheFirst, AnswersAsPlayed}
use Rattle.hr_barriers.proofs.Firsts.{of_first, begins_first, first_short, got_later, map_first, first_pass}

module _ (f r m t : ℕ) (db : Database) (h : History) (k : Kept h) (lt : r < 2 * f + 1) (rigorous : Rigorous db (journal_of r h)) (to : IsProcessedTo f r m h) (none : IsNoneOfTheFirst m t h) where
  -- those of the first m that aren't committed are whole
  whole_first : (i u : ℕ) → count (journal_of r h) ≤ i → i < m → slice_get (log h) i ≡ Some u → statements (attempt u (journal_of r h)) ≡ submits u h
  whole_first i u le within at =
      let v = view_of f h in
      let logged = (k.numbers.logged u (suc i)).1 at in
      let born = logged_born h k u (suc i) logged in
      let passes = first_pass (is_processed v r) (log h) m (omega (arith, to.1, first_short (prefix_len (is_processed v r) (log h)) (log h))) i u within at in
      elim (or_cases (is_committed v r u) (is_whole v r u) passes) [
        | inl committed ↦ absurd (later_place (phase_in v u) (suc i) (replica_in v r).position (phase_seen f u h born ∙ logged) (omega (arith, le, position_seen f r h lt)) committed)
        | inr whole ↦ whole_attempt f r h k lt u born whole
      ]

  -- and each stands at one place, with the transaction after them
  one_place : (i n u : ℕ) → slice_get (take m (log h) ++ t ∷ []) i ≡ Some u → slice_get (take m (log h) ++ t ∷ []) n ≡ Some u → i ≡ n
  one_place i n u a b = by_cases (got_more (take m (log h)) t i u a) (got_more (take m (log h)) t n u b)
    where
      not_its : (i : ℕ) → slice_get (take m (log h)) i ≡ Some u → t ≡ u → ⊥
      not_its i at same = let it = of_first m (log h) i u at in none i it.0 (it.1 ∙ ap Some (sym same))

      by_cases : (slice_get (take m (log h)) i ≡ Some u) ⊎ ((i ≡ length (take m (log h))) × (t ≡ u)) → (slice_get (take m (log h)) n ≡ Some u) ⊎ ((n ≡ length (take m (log h))) × (t ≡ u)) → i ≡ n
      by_cases (inl x) (inl y) =
          let e = same_place (suc i) (suc n) (sym ((k.numbers.logged u (suc i)).1 (of_first m (log h) i u x).1) ∙ (k.numbers.logged u (suc n)).1 (of_first m (log h) n u y).1) in omega (arith, e)
      by_cases (inl x) (inr y) = absurd (not_its i x y.1)
      by_cases (inr x) (inl y) = absurd (not_its n y x.1)
      by_cases (inr x) (inr y) = x.0 ∙ sym y.0

  commits_first : Begins (settled (journal_of r h)).commits (map (λ u. submits u h) (take m (log h)))
  commits_first =
      subst (Begins (settled (journal_of r h)).commits) (sym (map_first (λ u. submits u h) m (log h)))
      (begins_first m (settled (journal_of r h)).commits (map (λ u. submits u h) (log h)) to.0 (k.replicas r).base)

  pub played : AnswersAsPlayed db m t r h
  played =
      let commits = (settled (journal_of r h)).commits in
      let n = count (journal_of r h) in
      let front = take n (take m (log h)) in
      let back = drop n (take m (log h)) in
      let cut = take-append-drop n (take m (log h)) in
      let same : map (λ u. submits u h) front ≡ commits = map_first (λ u. submits u h) n (take m (log h)) ∙ sym (begins_take commits (map (λ u. submits u h) (take m (log h))) commits_first) in
      let distinct : is_distinct (back ++ t ∷ []) ≡ true =
      distinct_tail front (back ++ t ∷ []) (subst (λ xs. is_distinct xs ≡ true) (ap (λ xs. xs ++ t ∷ []) (sym cut) ∙ append_assoc front back (t ∷ [])) (distinct_by_places (take m (log h) ++ t ∷ []) one_place)) in
      let plays = any_list db (journal_of r h) rigorous (back ++ t ∷ []) distinct in
      let whole : map (λ u. statements (attempt u (journal_of r h))) back ≡ map (λ u. submits u h) back =
      map_same_at (λ u. statements (attempt u (journal_of r h))) (λ u. submits u h) back (λ i u at.
      let it = of_first m (log h) (n + i) u (got_later n (take m (log h)) i u at) in
      whole_first (n + i) u (omega arith) it.0 it.1) in
      let its = statements (attempt t (journal_of r h)) in
      let stmts : map (λ u. statements (attempt u (journal_of r h))) (back ++ t ∷ []) ≡ map (λ u. submits u h) back ++ its ∷ [] =
      map-append (λ u. statements (attempt u (journal_of r h))) back (t ∷ []) ∙ (λ i. whole i ++ its ∷ []) in
      let told : map (λ u. answers (attempt u (journal_of r h))) (back ++ t ∷ []) ≡ map (λ u. answers (attempt u (journal_of r h))) back ++ answers (attempt t (journal_of r h)) ∷ [] =
      map-append (λ u. answers (attempt u (journal_of r h))) back (t ∷ []) in
      let start = base db (journal_of r h) in
      let serial : serial_answers start (map (λ u. statements (attempt u (journal_of r h))) (back ++ t ∷ [])) ≡ serial_answers start (map (λ u. submits u h) back) ++ (play (database_after start (map (λ u. submits u h) back)) its).answers ∷ [] =
      ap (serial_answers start) stmts ∙ serial-end start (map (λ u. submits u h) back) its in
      let last : AllZip SameAnswer (play (database_after start (map (λ u. submits u h) back)) its).answers (answers (attempt t (journal_of r h))) =
      zip_last (AllZip SameAnswer) (serial_answers start (map (λ u. submits u h) back)) (map (λ u. answers (attempt u (journal_of r h))) back) (play (database_after start (map (λ u. submits u h) back)) its).answers (answers (attempt t (journal_of r h)))
      (subst (λ ys. AllZip (AllZip SameAnswer) (serial_answers start (map (λ u. submits u h) back) ++ (play (database_after start (map (λ u. submits u h) back)) its).answers ∷ []) ys) told
      (subst (λ xs. AllZip (AllZip SameAnswer) xs (map (λ u. answers (attempt u (journal_of r h))) (back ++ t ∷ []))) serial plays)) in
      let reached : database_after start (map (λ u. submits u h) back) ≡ database_at db (log_statements h) m =
      sym (database_after-append db commits (map (λ u. submits u h) back))
      ∙ ap (λ cs. database_after db (cs ++ map (λ u. submits u h) back)) (sym same)
      ∙ ap (database_after db) (sym (map-append (λ u. submits u h) front back) ∙ ap (map (λ u. submits u h)) cut ∙ map_first (λ u. submits u h) m (log h)) in
      subst (λ d. AllZip SameAnswer (play d its).answers (answers (attempt t (journal_of r h)))) reached last
