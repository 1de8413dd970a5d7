-- A statement with a stamp that is out at a replica: a database on which it may be answered there and by the primary.
use Rattle.std.proofs.Common.{◌≡◌, ◌⊎◌, inl, inr, ⊎_elim, ℕ, suc, ◌+◌, ◌*◌, ◌<◌, ◌≤◌, max, Bool, true, false, nat_le, Some, slice_get, List, ◌∷◌, length, refl, ap, sym, ◌∙◌, arith}
use Rattle.std.specs.List.{prefix_len}
use Rattle.std.proofs.lemmas.Bool.{or_cases, eqb-true, leb-true, leb-false}
use Rattle.hr_base.specs.Lists.{numbered}
use Rattle.hr_rel.specs.declared.answer.Answer.{Answer}
use Rattle.hr_engine.specs.Attempts.{attempt}
use Rattle.hr_engine.specs.Base.{count}
use Rattle.hr_history.specs.declared.entry.Entry.{Entry}
use Rattle.hr_history.specs.declared.entry.Event.{Event}
use Rattle.hr_history.specs.declared.phase.Phase.{Phase}
use Rattle.hr_history.specs.declared.phase.Phase.TheVariants as phase
use Rattle.hr_history.specs.History.{History}
use Rattle.hr_history.specs.Transactions.{begun, log, submits, phase_of, is_open}
use Rattle.hr_history.specs.Replicas.{journal_of}
use Rattle.hr_history.specs.Given.{Given, given_to}
use Rattle.hr_history.specs.View.{view_of}
use Rattle.hr_history.specs.Processed.{replica_in, is_committed, is_whole, is_processed, processed_in, is_logged_by}
use Rattle.hr_history.specs.Faithful.{Begun}
use Rattle.hr_records.specs.Numbers.{IsBorn}
use Rattle.hr_records.specs.Kept.{Kept}
use Rattle.hr_records.proofs.Places.{got_front, got_some}
use Rattle.hr_records.proofs.NumberSteps.{open_unlogged, same_place}
use Rattle.hr_records.proofs.JobWords.{many}
use Rattle.hr_records.proofs.ViewWords.{phase_seen, statements_seen, answers_seen, position_seen}
use Rattle.hr_records.proofs.Closed.{frozen}
use Rattle.hr_serial.proofs.Processed.{logged_born}
use Rattle.hr_barriers.specs.Played.{IsNoneOfTheFirst}
use Rattle.hr_barriers.specs.Stamps.{span}
use Rattle.hr_barriers.proofs.Firsts.{first_pass, first_short}
use Rattle.hr_barriers.proofs.StampLemmas.{stamped, span_open}
use Rattle.hr_barriers.proofs.StandLemmas.{span_within, log_by, closed_logged}
use Rattle.hr_barriers.proofs.SpanLemmas.{span_grows, logged_span}

-- Such a place of the log: from the stamp on, within the transaction's span, no fewer than are committed at the replica, each
-- of the first so many committed there or whole, and the transaction none of them.
pub record Window (r t stamp : ℕ) (h : History) : Type 0 where
  pub place : ℕ
  pub from_stamp : stamp ≤ place
  pub to_span : place ≤ span t h
  pub position : count (journal_of r h) ≤ place
  pub held : (i u : ℕ) → i < place → slice_get (log h) i ≡ Some u → (suc i ≤ count (journal_of r h)) ⊎ (length (attempt u (journal_of r h)) ≡ length (submits u h))
  pub none : IsNoneOfTheFirst place t h

-- IT STANDS, WHILE THE JOB IS OUT
log_back : (c : ℕ) (e : Event) (h : History) (i u : ℕ) → i < length (log h) → slice_get (log (record { caller = c; event = e } ∷ h)) i ≡ Some u → slice_get (log h) i ≡ Some u
log_back c e h i u lt at =
    let there = got_some (log h) i lt in
    let more = log_by c e h in
    there.1 ∙ sym (ap (λ l. slice_get l i) (sym more.1) ∙ got_front (log h) more.0 i there.0 there.1) ∙ at

pub window_stands : (f s r t stamp : ℕ) (e : Entry) (h : History) → Begun f s (e ∷ h) → Kept h → journal_of r (e ∷ h) ≡ journal_of r h → Window r t stamp h → Window r t stamp (e ∷ h)
window_stands f s r t stamp e h b k same w =
    let short : (i : ℕ) → i < w.place → i < length (log h) = λ i lt. omega (arith, lt, w.to_span, span_within t h) in
    record {
      place = w.place;
      from_stamp = w.from_stamp;
      to_span = omega (arith, w.to_span, span_grows f s t e h b k);
      position = omega (arith, w.position, ap count same);
      held = λ i u lt at.
          (let was = log_back e.caller e.event h i u (short i lt) at in
          ⊎_elim (λ (le : suc i ≤ count (journal_of r h)). inl (omega (arith, le, ap count same)))
          (λ (all : length (attempt u (journal_of r h)) ≡ length (submits u h)). inr (ap (λ j. length (attempt u j)) same ∙ all ∙ ap (λ l. length l) (sym (frozen f s e h k b u (closed_logged h k i u was)).0)))
          (w.held i u lt was));
      none = λ i lt at. w.none i lt (log_back e.caller e.event h i t (short i lt) at);
    }

-- IT IS THERE WHERE THE JOB IS TAKEN
module _ (f s r t i : ℕ) (g : Given) (h : History) (b : Begun f s h) (k : Kept h) (lt : r < 2 * f + 1) (born : IsBorn (length (begun h)) t) (at : numbered (given_to t h) i ≡ Some g) where
  -- a logged transaction that isn't committed
  pub late : (p : Phase) (place position : ℕ) → p ≡ phase.Logged place → is_logged_by position p ≡ false → position < place
  late p place position e fails = leb-false place position (sym (ap (is_logged_by position) e) ∙ fails)

  window_at : g.stamp ≤ processed_in (view_of f h) r → count (journal_of r h) ≤ span t h → ((n : ℕ) → n < max g.stamp (count (journal_of r h)) → slice_get (log h) n ≡ Some t → ⊥) → Window r t g.stamp h
  window_at barrier position none = record {
    place = max g.stamp (count (journal_of r h));
    from_stamp = omega arith;
    to_span = omega (arith, position, (stamped f s t h b).within i g at);
    position = omega arith;
    held = λ n u low there. held_by n u low there (n_or n);
    none = none;
  }
    where
      n_or : (n : ℕ) → (suc n ≤ count (journal_of r h)) ⊎ (count (journal_of r h) ≤ n)
      n_or n = by_test (nat_le (suc n) (count (journal_of r h))) refl
        where
          by_test : (x : Bool) → nat_le (suc n) (count (journal_of r h)) ≡ x → (suc n ≤ count (journal_of r h)) ⊎ (count (journal_of r h) ≤ n)
          by_test true e = inl (leb-true (suc n) (count (journal_of r h)) e)
          by_test false e = let more = leb-false (suc n) (count (journal_of r h)) e in inr (omega (arith, more))

      held_by : (n u : ℕ) → n < max g.stamp (count (journal_of r h)) → slice_get (log h) n ≡ Some u → (suc n ≤ count (journal_of r h)) ⊎ (count (journal_of r h) ≤ n) → (suc n ≤ count (journal_of r h)) ⊎ (length (attempt u (journal_of r h)) ≡ length (submits u h))
      held_by n u low there (inl le) = inl le
      held_by n u low there (inr later) =
          let v = view_of f h in
          let logged = (k.numbers.logged u (suc n)).1 there in
          let its = logged_born h k u (suc n) logged in
          let passes = first_pass (is_processed v r) (log h) g.stamp (omega (arith, barrier, first_short (prefix_len (is_processed v r) (log h)) (log h))) n u (omega (arith, low, later)) there in
          elim (or_cases (is_committed v r u) (is_whole v r u) passes) [
            | inl committed ↦ inl (omega (arith, position_seen f r h lt, leb-true (suc n) (replica_in v r).position (sym (ap (is_logged_by (replica_in v r).position) (phase_seen f u h its ∙ logged)) ∙ committed)))
            | inr whole ↦ inr (sym (ap (λ (x : List Answer). length x) (answers_seen f r h lt u) ∙ many (attempt u (journal_of r h))) ∙ eqb-true _ _ whole ∙ statements_seen f u h its)
          ]

  pub of_open : g.stamp ≤ processed_in (view_of f h) r → is_open (phase_of t h) ≡ true → count (journal_of r h) ≤ length (log h) → Window r t g.stamp h
  of_open barrier o within = window_at barrier (omega (arith, within, span_open t h o)) (λ n low there. open_unlogged (phase_of t h) (suc n) o ((k.numbers.logged t (suc n)).1 there))

  pub of_logged : g.stamp ≤ processed_in (view_of f h) r → (p : ℕ) → phase_of t h ≡ phase.Logged p → count (journal_of r h) < p → Window r t g.stamp h
  of_logged barrier p is later =
      let place = logged_span f s t p h b is in
      window_at barrier (omega (arith, place, later)) (λ n low there.
      let same = same_place (suc n) p (sym ((k.numbers.logged t (suc n)).1 there) ∙ is) in
      omega (arith, same, low, later, place, (stamped f s t h b).within i g at))
