-- A correct replica that has processed the whole log answers a whole transaction as the database after the log does.
use Rattle.std.proofs.Common.{◌≡◌, ◌⊎◌, inl, inr, ℕ, suc, ◌+◌, ◌*◌, ◌<◌, true, Some, slice_get, List, [], ◌∷◌, ◌++◌, length, map, refl, ap, sym, ◌∙◌, subst, arith, append_assoc}
use Rattle.std.specs.List.{AllZip}
use Rattle.std.proofs.lemmas.List.{map-append, length-map}
use Rattle.hr_base.specs.Lists.{is_distinct}
use Rattle.hr_rel.specs.declared.stmt.Stmt.{Stmt}
use Rattle.hr_rel.specs.Database.{Database}
use Rattle.hr_meaning.specs.Serial.{play, database_after, serial_answers}
use Rattle.hr_meaning.specs.SameAnswer.{SameAnswer}
use Rattle.hr_engine.specs.Journal.{Journal}
use Rattle.hr_engine.specs.Attempts.{attempt, statements, answers}
use Rattle.hr_engine.specs.Base.{settled, base, count}
use Rattle.hr_engine.specs.Rigorous.{Rigorous}
use Rattle.hr_engine.proofs.AnyList.{any_list}
use Rattle.hr_engine.proofs.SerialLaws.{database_after-append}
use Rattle.hr_history.specs.History.{History}
use Rattle.hr_history.specs.Transactions.{log, submits, phase_of, is_open}
use Rattle.hr_history.specs.Replicas.{journal_of}
use Rattle.hr_history.specs.View.{view_of}
use Rattle.hr_history.specs.Processed.{processed_in}
use Rattle.hr_records.specs.AtReplica.{Begins}
use Rattle.hr_records.specs.Kept.{Kept}
use Rattle.hr_records.proofs.Places.{got_more}
use Rattle.hr_records.proofs.NumberSteps.{open_unlogged, same_place}
use Rattle.hr_serial.specs.Prefix.{log_statements}
use Rattle.hr_serial.proofs.Distinct.{distinct_by_places, distinct_tail, zip_last}
use Rattle.hr_serial.proofs.Processed.{later_whole}
use Rattle.hr_records.proofs.Beginnings.{map_same_at}

pub serial-end : (db : Database) (log : List (List Stmt)) (stmts : List Stmt) → serial_answers db (log ++ stmts ∷ []) ≡ serial_answers db log ++ (play (database_after db log) stmts).answers ∷ []
serial-end db [] stmts = refl
serial-end db (first ∷ log) stmts = ap (λ xs. (play db first).answers ∷ xs) (serial-end (play db first).after log stmts)

-- a log is cut where the commits end
record Cut (g : ℕ → List Stmt) (commits : List (List Stmt)) (xs : List ℕ) : Type 0 where
  front : List ℕ
  back : List ℕ
  whole : front ++ back ≡ xs
  same : map g front ≡ commits

module _ (g : ℕ → List Stmt) where
  cut : (commits : List (List Stmt)) (xs : List ℕ) → Begins commits (map g xs) → Cut g commits xs
  cut [] xs b = record { front = []; back = xs; whole = refl; same = refl }
  cut (c ∷ commits) [] b = absurd (filled b.1)
    where
      filled : c ∷ (commits ++ b.0) ≡ [] → ⊥
      filled e = cc
  cut (c ∷ commits) (x ∷ xs) b =
      let rest = cut commits xs (b.0, ap tail_of b.1) in
      record { front = x ∷ rest.front; back = rest.back; whole = ap (λ l. x ∷ l) rest.whole; same = λ i. sym (ap (head_of c) b.1) i ∷ rest.same i }
    where
      tail_of : List (List Stmt) → List (List Stmt)
      tail_of [] = []
      tail_of (w ∷ ws) = ws

      head_of : List Stmt → List (List Stmt) → List Stmt
      head_of d [] = d
      head_of d (w ∷ ws) = w

got_back : (xs ys : List ℕ) (i t : ℕ) → slice_get ys i ≡ Some t → slice_get (xs ++ ys) (length xs + i) ≡ Some t
got_back [] ys i t e = let place : i ≡ 0 + i = omega arith in ap (slice_get ys) (sym place) ∙ e
got_back (x ∷ xs) ys i t e =
    let place : suc (length xs + i) ≡ suc (length xs) + i = omega arith in
    ap (slice_get (x ∷ xs ++ ys)) (sym place) ∙ got_back xs ys i t e

module _ (f r : ℕ) (db : Database) (h : History) (k : Kept h) (lt : r < 2 * f + 1) (rigorous : Rigorous db (journal_of r h)) where
  J : Journal
  J = journal_of r h

  module _ (t : ℕ) (active : is_open (phase_of t h) ≡ true) (all : processed_in (view_of f h) r ≡ length (log h)) (its : statements (attempt t (journal_of r h)) ≡ submits t h) where
    one_place : (i n u : ℕ) → slice_get (log h ++ t ∷ []) i ≡ Some u → slice_get (log h ++ t ∷ []) n ≡ Some u → i ≡ n
    one_place i n u a b = by_cases (got_more (log h) t i u a) (got_more (log h) t n u b)
      where
        logged_open : (m : ℕ) → slice_get (log h) m ≡ Some u → t ≡ u → ⊥
        logged_open m at same = open_unlogged (phase_of t h) (suc m) active (ap (λ x. phase_of x h) same ∙ (k.numbers.logged u (suc m)).1 at)

        by_cases : (slice_get (log h) i ≡ Some u) ⊎ ((i ≡ length (log h)) × (t ≡ u)) → (slice_get (log h) n ≡ Some u) ⊎ ((n ≡ length (log h)) × (t ≡ u)) → i ≡ n
        by_cases (inl x) (inl y) =
            let e = same_place (suc i) (suc n) (sym ((k.numbers.logged u (suc i)).1 x) ∙ (k.numbers.logged u (suc n)).1 y) in omega (arith, e)
        by_cases (inl x) (inr y) = absurd (logged_open i x y.1)
        by_cases (inr x) (inl y) = absurd (logged_open n y x.1)
        by_cases (inr x) (inr y) = x.0 ∙ sym y.0

    pub played_at : AllZip SameAnswer (play (database_after db (log_statements h)) (submits t h)).answers (answers (attempt t (journal_of r h)))
    played_at =
        let commits = (settled (journal_of r h)).commits in
        let cut_log = cut (λ u. submits u h) commits (log h) (k.replicas r).base in
        let front = cut_log.front in
        let back = cut_log.back in
        let distinct : is_distinct (back ++ t ∷ []) ≡ true =
        distinct_tail front (back ++ t ∷ []) (subst (λ xs. is_distinct xs ≡ true) (ap (λ xs. xs ++ t ∷ []) (sym cut_log.whole) ∙ append_assoc front back (t ∷ [])) (distinct_by_places (log h ++ t ∷ []) one_place)) in
        let plays = any_list db (journal_of r h) rigorous (back ++ t ∷ []) distinct in
        let as_many : length front ≡ count (journal_of r h) = sym (length-map front (λ u. submits u h)) ∙ ap length cut_log.same in
        let whole : map (λ u. statements (attempt u (journal_of r h))) back ≡ map (λ u. submits u h) back =
        map_same_at (λ u. statements (attempt u (journal_of r h))) (λ u. submits u h) back (λ i u at.
        later_whole f r h k lt all (length front + i) u (omega (arith, as_many)) (subst (λ xs. slice_get xs (length front + i) ≡ Some u) cut_log.whole (got_back front back i u at))) in
        let stmts : map (λ u. statements (attempt u (journal_of r h))) (back ++ t ∷ []) ≡ map (λ u. submits u h) back ++ submits t h ∷ [] =
        map-append (λ u. statements (attempt u (journal_of r h))) back (t ∷ []) ∙ (λ i. whole i ++ its i ∷ []) in
        let told : map (λ u. answers (attempt u (journal_of r h))) (back ++ t ∷ []) ≡ map (λ u. answers (attempt u (journal_of r h))) back ++ answers (attempt t (journal_of r h)) ∷ [] =
        map-append (λ u. answers (attempt u (journal_of r h))) back (t ∷ []) in
        let start = base db (journal_of r h) in
        let serial : serial_answers start (map (λ u. statements (attempt u (journal_of r h))) (back ++ t ∷ [])) ≡ serial_answers start (map (λ u. submits u h) back) ++ (play (database_after start (map (λ u. submits u h) back)) (submits t h)).answers ∷ [] =
        ap (serial_answers start) stmts ∙ serial-end start (map (λ u. submits u h) back) (submits t h) in
        let last : AllZip SameAnswer (play (database_after start (map (λ u. submits u h) back)) (submits t h)).answers (answers (attempt t (journal_of r h))) =
        zip_last (AllZip SameAnswer) (serial_answers start (map (λ u. submits u h) back)) (map (λ u. answers (attempt u (journal_of r h))) back) (play (database_after start (map (λ u. submits u h) back)) (submits t h)).answers (answers (attempt t (journal_of r h)))
        (subst (λ ys. AllZip (AllZip SameAnswer) (serial_answers start (map (λ u. submits u h) back) ++ (play (database_after start (map (λ u. submits u h) back)) (submits t h)).answers ∷ []) ys) told
        (subst (λ xs. AllZip (AllZip SameAnswer) xs (map (λ u. answers (attempt u (journal_of r h))) (back ++ t ∷ []))) serial plays)) in
        let reached : database_after start (map (λ u. submits u h) back) ≡ database_after db (log_statements h) =
        sym (database_after-append db commits (map (λ u. submits u h) back))
        ∙ ap (λ cs. database_after db (cs ++ map (λ u. submits u h) back)) (sym cut_log.same)
        ∙ ap (database_after db) (sym (map-append (λ u. submits u h) front back) ∙ ap (map (λ u. submits u h)) cut_log.whole) in
        subst (λ d. AllZip SameAnswer (play d (submits t h)).answers (answers (attempt t (journal_of r h)))) reached last
