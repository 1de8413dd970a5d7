-- What a job that is taken shows of its transaction, in words of the history.
use Rattle.std.proofs.Common.{◌≡◌, ◌⊎◌, inl, inr, ℕ, suc, ◌+◌, ◌*◌, ◌<◌, ◌≤◌, true, false, not, ◌&&◌, ◌||◌, nat_le, Option, Some, None, slice_get, List, length, refl, ap, sym, ◌∙◌, arith}
use Rattle.std.proofs.lemmas.Bool.{and_parts, or_cases, eqb-true, leb-true}
use Rattle.std.proofs.lemmas.List.{length-map}
use Rattle.hr_rel.specs.declared.answer.Answer.{Answer}
use Rattle.hr_engine.specs.Attempts.{RanStmt, attempt, answers}
use Rattle.hr_engine.specs.Base.{count, settled}
use Rattle.hr_history.specs.declared.job.Job.TheVariants as job
use Rattle.hr_history.specs.declared.phase.Phase.{Phase}
use Rattle.hr_history.specs.declared.phase.Phase.TheVariants as phase
use Rattle.hr_history.specs.History.{History}
use Rattle.hr_history.specs.Transactions.{begun, log, submits, phase_of, is_open, is_ended, is_logged}
use Rattle.hr_history.specs.Primary.{primary_of, is_some_of}
use Rattle.hr_history.specs.Replicas.{journal_of}
use Rattle.hr_history.specs.Given.{Given, given_to}
use Rattle.hr_history.specs.Attempts.{is_preempted}
use Rattle.hr_history.specs.SameAnswers.{same_answers}
use Rattle.hr_history.specs.View.{view_of}
use Rattle.hr_history.specs.Processed.{txn_in, phase_in, replica_in, attempt_in, answers_in, given_in, is_whole, is_committed, processed_in}
use Rattle.hr_history.specs.Jobs.{pending_index, may_go_on, is_stamped_by}
use Rattle.hr_records.specs.Numbers.{IsBorn, NumbersAt}
use Rattle.hr_records.specs.ByRule.{IsJobOf}
use Rattle.hr_records.proofs.Places.{got_within, numbered_some}
use Rattle.hr_records.proofs.NumberSteps.{given_le, open_unlogged}
use Rattle.hr_records.proofs.Born.{born_or_not}
use Rattle.hr_records.proofs.ViewWords.{txn_born, phase_seen, given_seen, statements_seen, answers_seen, position_seen, lost_seen, preempted_seen}

pub primary_is : (r : ℕ) (o : Option ℕ) → is_some_of r o ≡ true → o ≡ Some r
primary_is r None e = cc
primary_is r (Some p) e = ap Some (sym (eqb-true r p e))

pub many : (steps : List RanStmt) → length (answers steps) ≡ length steps
many steps = length-map steps (λ (s : RanStmt). s.answer)

stamped_some : (m : ℕ) (o : Option Given) → is_stamped_by m o ≡ true → (x : Given) × (o ≡ Some x)
stamped_some m None e = cc
stamped_some m (Some x) e = (x, refl)

-- a run of statement i of transaction t, at replica r
pub record RunTaken (r t i : ℕ) (h : History) : Type 0 where
  pub born : IsBorn (length (begun h)) t
  pub submitted : i ≤ length (submits t h)
  pub live : (settled (journal_of r h)).lost ≡ false
  pub place : ((primary_of h ≡ Some r) × (is_open (phase_of t h) ≡ true) × (i ≡ length (given_to t h) + 1)) ⊎ ((i ≡ length (attempt t (journal_of r h)) + 1) × (i ≤ length (given_to t h)))

-- a commit of transaction t there
pub record CommitTaken (r t : ℕ) (h : History) : Type 0 where
  pub live : (settled (journal_of r h)).lost ≡ false
  pub next : slice_get (log h) (count (journal_of r h)) ≡ Some t
  pub whole : length (attempt t (journal_of r h)) ≡ length (submits t h)

-- a rollback of transaction t there
pub record RollbackTaken (r t : ℕ) (h : History) : Type 0 where
  pub live : (settled (journal_of r h)).lost ≡ false
  pub why : (is_open (phase_of t h) ≡ false) ⊎ (is_preempted r t h ≡ true)

ended_closed : (p : Phase) → is_ended p ≡ true → is_open p ≡ false
ended_closed phase.Active e = cc
ended_closed (phase.Asked n) e = cc
ended_closed (phase.Logged n) e = cc
ended_closed phase.RolledBack e = refl
ended_closed phase.Refused e = refl

module _ (f r : ℕ) (h : History) (lt : r < 2 * f + 1) where
  is_live : (replica_in (view_of f h) r).lost ≡ false → (settled (journal_of r h)).lost ≡ false
  is_live here = sym (lost_seen f r h lt) ∙ here

  pub run_taken : (t i : ℕ) → NumbersAt h → IsJobOf (view_of f h) r (job.Run t i) → RunTaken r t i h
  run_taken t i g is =
      let v = view_of f h in
      let born = txn_born f t h is.rule.1 in
      let session = numbered_some (begun h) t born in
      let le = given_le (phase_of t h) (length (submits t h)) (length (given_to t h)) _ (g.balance t session.0 session.1) in
      elim is.rule.2 [
        | inl first ↦ (
            let all = and_parts (is_open (phase_in v t) && nat_le (pending_index v r t) (txn_in v t).statements) (may_go_on v r t) first.1 in
            let parts = and_parts (is_open (phase_in v t)) (nat_le (pending_index v r t) (txn_in v t).statements) all.0 in
            let index : i ≡ length (given_to t h) + 1 = first.2 ∙ ap (λ (x : List Given). length x + 1) (given_seen f t h born) in
            let enough : pending_index v r t ≤ (txn_in v t).statements = leb-true (pending_index v r t) (txn_in v t).statements parts.1 in
            record {
              born = born;
              submitted = omega (arith, first.2, enough, statements_seen f t h born);
              live = is_live is.rule.0;
              place = inl (primary_is r (primary_of h) first.0, ap is_open (sym (phase_seen f t h born)) ∙ parts.0, index);
            })
        | inr later ↦ (
            let all = and_parts ((is_open (phase_in v t) || (is_logged (phase_in v t) && not (is_committed v r t))) && is_stamped_by (processed_in v r) (slice_get (txn_in v t).given (length (answers_in v r t)))) (may_go_on v r t) later.1 in
            let stamp = (and_parts (is_open (phase_in v t) || (is_logged (phase_in v t) && not (is_committed v r t))) (is_stamped_by (processed_in v r) (slice_get (txn_in v t).given (length (answers_in v r t)))) all.0).1 in
            let given = stamped_some (processed_in v r) (slice_get (txn_in v t).given (length (answers_in v r t))) stamp in
            let below = got_within (txn_in v t).given (length (answers_in v r t)) given.0 given.1 in
            let as_many : length (txn_in v t).given ≡ length (given_to t h) = ap (λ (x : List Given). length x) (given_seen f t h born) in
            let told : length (answers_in v r t) ≡ length (attempt t (journal_of r h)) = ap (λ (x : List Answer). length x) (answers_seen f r h lt t) ∙ many (attempt t (journal_of r h)) in
            record {
              born = born;
              submitted = omega (arith, later.2, below, as_many, le);
              live = is_live is.rule.0;
              place = inr (omega (arith, later.2, told), omega (arith, later.2, below, as_many));
            })
      ]

  pub commit_taken : (t : ℕ) → NumbersAt h → IsJobOf (view_of f h) r (job.Commit t) → CommitTaken r t h
  commit_taken t g is =
      let v = view_of f h in
      let next : slice_get (log h) (count (journal_of r h)) ≡ Some t = ap (slice_get (log h)) (sym (position_seen f r h lt)) ∙ is.rule.1 in
      let whole = eqb-true _ _ (and_parts (is_whole v r t) (same_answers (answers_in v r t) (given_in v t)) is.rule.2).0 in
      let logged = (g.logged t (suc (count (journal_of r h)))).1 next in
      let born = logged_born logged in
      let told : length (answers_in v r t) ≡ length (attempt t (journal_of r h)) = ap (λ (x : List Answer). length x) (answers_seen f r h lt t) ∙ many (attempt t (journal_of r h)) in
      record { live = is_live is.rule.0; next = next; whole = omega (arith, told, whole, statements_seen f t h born) }
    where
      logged_born : {place : ℕ} → phase_of t h ≡ phase.Logged place → IsBorn (length (begun h)) t
      logged_born {place} e = elim (born_or_not (length (begun h)) t) [ inl born ↦ born | inr unborn ↦ absurd (open_unlogged phase.Active place refl (sym (g.unborn t unborn).0 ∙ e)) ]

  pub rollback_taken : (t : ℕ) → IsJobOf (view_of f h) r (job.Rollback t) → RollbackTaken r t h
  rollback_taken t is =
      let v = view_of f h in
      let born = txn_born f t h is.rule.1 in
      let both = and_parts (attempt_in v r t).touched (is_ended (phase_in v t) || (attempt_in v r t).preempted) is.rule.2 in
      record {
        live = is_live is.rule.0;
        why = elim (or_cases (is_ended (phase_in v t)) (attempt_in v r t).preempted both.1) [
          | inl ended ↦ inl (ap is_open (sym (phase_seen f t h born)) ∙ ended_closed (phase_in v t) ended)
          | inr gave_way ↦ inr (sym (preempted_seen f r h lt t) ∙ gave_way)
        ];
      }

  pub lost_taken : IsJobOf (view_of f h) r job.Restart → (settled (journal_of r h)).lost ≡ true
  lost_taken is = sym (lost_seen f r h lt) ∙ is.rule
