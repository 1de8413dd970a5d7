-- The barrier theorem: what a correct replica answers to a statement with a stamp is what a correct primary answered.
use Rattle.std.proofs.Common.{◌≡◌, ◌⊎◌, inl, inr, ⊎_elim, ℕ, zero, suc, ◌+◌, ◌*◌, ◌<◌, ◌≤◌, Bool, true, false, cond, Some, slice_get, take, List, [], ◌∷◌, length, refl, ap, sym, ◌∙◌, subst, arith}
use Rattle.std.specs.List.{prefix_len}
use Rattle.hr_base.specs.Lists.{numbered}
use Rattle.hr_rel.specs.declared.answer.Answer.{Answer}
use Rattle.hr_rel.specs.Database.{Database}
use Rattle.hr_meaning.specs.SameAnswer.{SameAnswer}
use Rattle.hr_engine.specs.Attempts.{attempt}
use Rattle.hr_engine.specs.Base.{count}
use Rattle.hr_engine.specs.declared.reply.RunReply.TheVariants as run
use Rattle.hr_engine.proofs.AttemptLaws.{attempt-done_other}
use Rattle.hr_engine.proofs.SameAnswers.{same_itself}
use Rattle.hr_history.specs.declared.entry.Event.TheVariants as event
use Rattle.hr_history.specs.declared.job.Job.TheVariants as job
use Rattle.hr_history.specs.declared.job.JobReply.TheVariants as reply
use Rattle.hr_history.specs.History.{History}
use Rattle.hr_history.specs.Transactions.{log, submits}
use Rattle.hr_history.specs.Replicas.{out_at, journal_of, stmt_at}
use Rattle.hr_history.specs.Given.{Given, given_to}
use Rattle.hr_history.specs.View.{view_of}
use Rattle.hr_history.specs.Processed.{is_processed}
use Rattle.hr_history.specs.Faithful.{Begun, Correct}
use Rattle.hr_history.proofs.StepLemmas.{call_allowed}
use Rattle.hr_records.specs.Kept.{Kept}
use Rattle.hr_records.proofs.Options.{same_some}
use Rattle.hr_records.proofs.Allowed.{give_allowed}
use Rattle.hr_records.proofs.RuleLemmas.{begun_before}
use Rattle.hr_records.proofs.GiveLemmas.{is_given}
use Rattle.hr_records.proofs.KeptLemmas.{kept}
use Rattle.hr_barriers.specs.Played.{IsProcessedTo, IsAnswerAsPlayed}
use Rattle.hr_barriers.specs.Served.{IsServed}
use Rattle.hr_barriers.proofs.CanonicalLemmas.{both_same}
use Rattle.hr_barriers.proofs.DoneLemmas.{done, journal_after}
use Rattle.hr_barriers.proofs.ProcessedLemmas.{held_processed}
use Rattle.hr_barriers.proofs.StandLemmas.{span_within}
use Rattle.hr_barriers.proofs.SpanLemmas.{span_grows}
use Rattle.hr_barriers.proofs.ServedLemmas.{given_on}
use Rattle.hr_barriers.proofs.WindowLemmas.{Window}
use Rattle.hr_barriers.proofs.TakenLemmas.{windows, new_by}

-- a front of which each passes is taken
front_by : (p : ℕ → Bool) (x m : ℕ) (xs : List ℕ) (b : Bool) → b ≡ true → m ≤ length (take (prefix_len p xs) xs) → suc m ≤ length (take (cond b (1 + prefix_len p xs) 0) (x ∷ xs))
front_by p x m xs true passes rest =
    let one : 1 + prefix_len p xs ≡ suc (prefix_len p xs) = omega arith in
    omega (arith, rest, ap (λ n. length (take n (x ∷ xs))) one)
front_by p x m xs false passes rest = cc passes

pub front_taken : (p : ℕ → Bool) (xs : List ℕ) (m : ℕ) → m ≤ length xs → ((i t : ℕ) → i < m → slice_get xs i ≡ Some t → p t ≡ true) → m ≤ length (take (prefix_len p xs) xs)
front_taken p xs zero le all = omega arith
front_taken p [] (suc m) le all = absurd (omega (arith, le))
front_taken p (x ∷ xs) (suc m) le all = front_by p x m xs (p x) (all 0 x (omega arith) refl) (front_taken p xs m (omega (arith, le)) (λ i t lt e. all (suc i) t (omega (arith, lt)) e))

module _ (f s c r t i : ℕ) (a : Answer) (g : Given) (db : Database) (h : History) (b : Begun f s (record { caller = c; event = event.Give r (reply.Ran (run.Done a)) } ∷ h)) (out : out_at r h ≡ Some (job.Run t i)) where
  abbrev Now : History
  Now = record { caller = c; event = event.Give r (reply.Ran (run.Done a)) } ∷ h

  before : Kept h
  before = kept f s h (begun_before f s record { caller = c; event = event.Give r (reply.Ran (run.Done a)) } h b)

  now : Kept (record { caller = c; event = event.Give r (reply.Ran (run.Done a)) } ∷ h)
  now = kept f s (record { caller = c; event = event.Give r (reply.Ran (run.Done a)) } ∷ h) b

  lt : r < 2 * f + 1
  lt = (give_allowed f s c h r (reply.Ran (run.Done a)) (call_allowed f s record { caller = c; event = event.Give r (reply.Ran (run.Done a)) } h b refl)).0

  same_count : count (journal_of r (record { caller = c; event = event.Give r (reply.Ran (run.Done a)) } ∷ h)) ≡ count (journal_of r h)
  same_count = ap count (journal_after c r t i a h out)

  -- what is processed before the reply is after it
  processed : (w : Window r t g.stamp h) → IsProcessedTo f r w.place (record { caller = c; event = event.Give r (reply.Ran (run.Done a)) } ∷ h)
  processed w = (omega (arith, same_count, w.position), front_taken (is_processed (view_of f Now) r) (log h) w.place (omega (arith, w.to_span, span_within t h)) (λ n u low there. passes n u low there (w.held n u low there)))
    where
      other : (n u : ℕ) → n < w.place → slice_get (log h) n ≡ Some u → u ≡ t → ⊥
      other n u low there same = w.none n low (there ∙ ap Some same)

      passes : (n u : ℕ) → n < w.place → slice_get (log h) n ≡ Some u → (suc n ≤ count (journal_of r h)) ⊎ (length (attempt u (journal_of r h)) ≡ length (submits u h))
          → is_processed (view_of f (record { caller = c; event = event.Give r (reply.Ran (run.Done a)) } ∷ h)) r u ≡ true
      passes n u low there (inl le) = held_processed f r Now now lt u (suc n) ((now.numbers.logged u (suc n)).1 there) false (inl (omega (arith, le, same_count)))
      passes n u low there (inr all) =
          held_processed f r Now now lt u (suc n) ((now.numbers.logged u (suc n)).1 there) false
          (inr (ap (λ j. length (attempt u j)) (journal_after c r t i a h out) ∙ ap (λ l. length l) (attempt-done_other (journal_of r h) t (stmt_at h t i) a u (other n u low there)) ∙ all, refl))

  -- both are the transaction's alone on the database at that place
  by_window : IsServed db t Now → Correct db Now r → numbered (given_to t Now) i ≡ Some g → Window r t g.stamp h → SameAnswer g.answer a
  by_window served correct at w =
      let own : IsAnswerAsPlayed db w.place t i a Now = done f s c r t i w.place a db h b out correct (processed w) w.none in
      let its : IsAnswerAsPlayed db w.place t i g.answer Now = given_on f s t db Now b served i w.place g at w.from_stamp (omega (arith, w.to_span, span_grows f s t record { caller = c; event = event.Give r (reply.Ran (run.Done a)) } h b before)) in
      both_same its.0 g.answer a its.2 (subst (λ x. SameAnswer x a) (same_some own.0 its.0 (sym own.1 ∙ its.1)) own.2)

  pub barrier : IsServed db t (record { caller = c; event = event.Give r (reply.Ran (run.Done a)) } ∷ h) → Correct db (record { caller = c; event = event.Give r (reply.Ran (run.Done a)) } ∷ h) r
      → numbered (given_to t (record { caller = c; event = event.Give r (reply.Ran (run.Done a)) } ∷ h)) i ≡ Some g → SameAnswer g.answer a
  barrier served correct at =
      ⊎_elim (λ (old : numbered (given_to t h) i ≡ Some g). by_window served correct at (windows f s r h (begun_before f s record { caller = c; event = event.Give r (reply.Ran (run.Done a)) } h b) t i g out old))
      (λ (new : (is_given t r h ≡ true) × (i ≡ length (given_to t h) + 1) × (record { answer = a; stamp = length (log h) } ≡ g)). subst (λ (x : Given). SameAnswer x.answer a) new.2 (same_itself a))
      (new_by (is_given t r h) (given_to t h) record { answer = a; stamp = length (log h) } g i at)
