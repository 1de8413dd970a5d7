-- The barrier theorem, whenever the answer is given: the answers are one and the same.
use Rattle.std.proofs.Common.{◌≡◌, ℕ, zero, suc, true, Some, slice_get, List, [], ◌∷◌, ◌++◌, refl, ap, sym, ◌∙◌}
use Rattle.hr_base.specs.Lists.{numbered}
use Rattle.hr_rel.specs.declared.answer.Answer.{Answer}
use Rattle.hr_rel.specs.Database.{Database}
use Rattle.hr_engine.specs.declared.reply.RunReply.TheVariants as run
use Rattle.hr_history.specs.declared.entry.Entry.{Entry}
use Rattle.hr_history.specs.declared.entry.Event.TheVariants as event
use Rattle.hr_history.specs.declared.job.Job.TheVariants as job
use Rattle.hr_history.specs.declared.job.JobReply.TheVariants as reply
use Rattle.hr_history.specs.History.{History}
use Rattle.hr_history.specs.SameAnswers.{is_canonical}
use Rattle.hr_history.specs.Replicas.{out_at}
use Rattle.hr_history.specs.Given.{Given, given_to, answers_given}
use Rattle.hr_history.specs.Faithful.{Begun, Correct}
use Rattle.hr_history.proofs.StepLemmas.{call_allowed}
use Rattle.hr_history.proofs.CanonicalLemmas.{canonical_exact, same_answer_exact}
use Rattle.hr_history.proofs.SameAnswersLemmas.{same_answer_decides}
use Rattle.hr_records.proofs.Options.{some_none, same_some}
use Rattle.hr_records.proofs.Allowed.{give_allowed}
use Rattle.hr_records.proofs.RuleLemmas.{begun_until}
use Rattle.hr_barriers.specs.Served.{IsServed}
use Rattle.hr_barriers.proofs.CanonicalLemmas.{AreCanonical, given_canonical, fits_canonical}
use Rattle.hr_barriers.proofs.BarrierLemmas.{barrier}
use Rattle.hr_barriers.proofs.EarlierLemmas.{given_then}

canonical_got : (xs : List Given) (i : ℕ) (g : Given) → AreCanonical (answers_given xs) → slice_get xs i ≡ Some g → is_canonical g.answer ≡ true
canonical_got [] i g are e = absurd (some_none g (sym e))
canonical_got (x ∷ xs) zero g are e = ap (λ (y : Given). is_canonical y.answer) (sym (same_some x g e)) ∙ are.0
canonical_got (x ∷ xs) (suc i) g are e = canonical_got xs i g are.1 e

canonical_at : (xs : List Given) (i : ℕ) (g : Given) → AreCanonical (answers_given xs) → numbered xs i ≡ Some g → is_canonical g.answer ≡ true
canonical_at xs zero g are e = absurd (some_none g (sym e))
canonical_at xs (suc i) g are e = canonical_got xs i g are e

pub the_same : (f s c r t i : ℕ) (a : Answer) (g : Given) (db : Database) (more : List Entry) (h : History) → Begun f s (more ++ record { caller = c; event = event.Give r (reply.Ran (run.Done a)) } ∷ h)
    → out_at r h ≡ Some (job.Run t i) → IsServed db t (record { caller = c; event = event.Give r (reply.Ran (run.Done a)) } ∷ h) → Correct db (record { caller = c; event = event.Give r (reply.Ran (run.Done a)) } ∷ h) r
    → numbered (given_to t (more ++ record { caller = c; event = event.Give r (reply.Ran (run.Done a)) } ∷ h)) i ≡ Some g → g.answer ≡ a
the_same f s c r t i a g db more h b out served correct at =
    let call : Entry = record { caller = c; event = event.Give r (reply.Ran (run.Done a)) } in
    let b_now : Begun f s (call ∷ h) = begun_until f s more (call ∷ h) b in
    let then = given_then f s c r t i a g more h b out at in
    let given = (canonical_exact g.answer).0 (canonical_at (given_to t (call ∷ h)) i g (given_canonical f s t (call ∷ h) b_now) then) in
    let told = (canonical_exact a).0 (fits_canonical a (out_at r h) (give_allowed f s c h r (reply.Ran (run.Done a)) (call_allowed f s call h b_now refl)).1) in
    (same_answer_decides g.answer a).0 ((same_answer_exact g.answer a given told).1 (barrier f s c r t i a g db h b_now out served correct then))
