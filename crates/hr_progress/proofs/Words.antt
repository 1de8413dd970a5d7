-- What is kept beside the record is what the record tells.
use Rattle.std.proofs.Common.{◌≡◌, ℕ, not, ◌&&◌, ◌||◌, ◌==◌, filter, length, map, ap, sym, ◌∙◌}
use Rattle.std.proofs.lemmas.List.{length-map}
use Rattle.hr_base.specs.Lists.{one_to}
use Rattle.hr_history.specs.Transactions.{is_open}
use Rattle.hr_history.specs.View.{TxnState, Progress, Attempt}
use Rattle.hr_history.specs.Processed.{live_in, candidate_in, phase_in, attempt_in, is_logged_by, processed_in}
use Rattle.hr_history.specs.Primary.{candidate_after}
use Rattle.hr_moves.specs.Kept.{open_in, touched_in, entries_in}
use Rattle.hr_progress.specs.declared.attempt.Told.{Told}
use Rattle.hr_progress.specs.Plain.{PlainView, key, live_of, plain_attempt_in, plain_replica_in}
use Rattle.hr_progress.specs.Seen.{answer_at, seen_txn, seen_plain}
use Rattle.hr_progress.specs.Kept.{opened_of, touched_of, processed_of}
use Rattle.hr_progress.proofs.Numbers.{filter_same_test, take_while_agree}
use Rattle.hr_progress.proofs.Attempts.{keys_seen}
use Rattle.hr_progress.proofs.Parts.{txn_seen, replica_seen, attempt_seen}

module _ (p : PlainView) where
  numbers_seen : one_to (length p.txns) ≡ one_to (length (seen_plain p).txns)
  numbers_seen = ap one_to (sym (length-map p.txns (seen_txn p.replies)))

  pub opened_seen : opened_of p.txns ≡ open_in (seen_plain p)
  opened_seen =
      filter_same_test _ _ (one_to (length p.txns)) (λ t. ap (λ (x : TxnState). is_open x.phase) (sym (txn_seen p t)))
      ∙ ap (filter (λ t. is_open (phase_in (seen_plain p) t))) numbers_seen

  live_seen : (r : ℕ) → live_in (seen_plain p) r ≡ live_of p.replicas r
  live_seen r = ap (λ (x : Progress). not x.lost && not x.convicted) (replica_seen p r)

  pub candidate_seen : candidate_in (seen_plain p) ≡ candidate_after p.f (live_of p.replicas) p.search_after
  candidate_seen = λ i. candidate_after p.f (λ r. live_seen r i) p.search_after

  module _ (r : ℕ) where
    pub touched_seen : touched_of (length p.txns) (plain_replica_in p.replicas r).attempts ≡ touched_in (seen_plain p) r
    touched_seen =
        filter_same_test _ _ (one_to (length p.txns)) (λ t. ap (λ (x : Attempt). x.touched) (sym (attempt_seen p r t)))
        ∙ ap (filter (λ t. (attempt_in (seen_plain p) r t).touched)) numbers_seen

    pub answers_seen : (t : ℕ) → length (attempt_in (seen_plain p) r t).answers ≡ length (plain_attempt_in (plain_replica_in p.replicas r).attempts t).answers
    answers_seen t = ap (λ (x : Attempt). length x.answers) (attempt_seen p r t) ∙ length-map (plain_attempt_in (plain_replica_in p.replicas r).attempts t).answers (λ (a : Told). answer_at p.replies a.reply)

    pub processed_seen : processed_of p.txns p.log (plain_replica_in p.replicas r).position (plain_replica_in p.replicas r).attempts ≡ processed_in (seen_plain p) r
    processed_seen = ap length (take_while_agree _ _ p.log (λ t h. λ i.
        is_logged_by (sym (replica_seen p r) i).position (sym (txn_seen p t) i).phase || (sym (answers_seen t) i == (sym (txn_seen p t) i).statements)))

    pub entries_seen : entries_in (seen_plain p) r ≡ map key (plain_replica_in p.replicas r).attempts
    entries_seen = ap (λ (x : Progress). map (λ (e : ℕ × Attempt). e.0) x.attempts) (replica_seen p r) ∙ keys_seen p.replies p.fresh r (plain_replica_in p.replicas r).attempts (plain_replica_in p.replicas r).attempts

    pub entries_count : length (entries_in (seen_plain p) r) ≡ length (plain_replica_in p.replicas r).attempts
    entries_count = ap length entries_seen ∙ length-map (plain_replica_in p.replicas r).attempts key
