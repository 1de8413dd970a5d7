-- Why every kept history keeps its promises.
use Rattle.std.proofs.Common.{◌≡◌, ℕ, Some, ◌∷◌, refl, sym, subst}
use Rattle.hr_base.specs.Lists.{numbered}
use Rattle.hr_rel.specs.Database.{Database}
use Rattle.hr_history.specs.declared.cause.CauseAt.{CauseAt}
use Rattle.hr_history.specs.declared.cause.CauseAt.TheVariants as cause
use Rattle.hr_history.specs.declared.evidence.Evidence.{Evidence}
use Rattle.hr_history.specs.declared.evidence.Evidence.TheVariants as evidence
use Rattle.hr_history.specs.History.{History}
use Rattle.hr_history.specs.Given.{given_to}
use Rattle.hr_history.specs.Faithful.{Begun, Faithful, Correct}
use Rattle.hr_records.proofs.RuleLemmas.{begun_until, by_rule}
use Rattle.hr_barriers.proofs.EqualLemmas.{the_same}
use Rattle.hr_convictions.proofs.CountLemmas.{restart_never}
use Rattle.hr_convictions.proofs.ReplyLemmas.{blocked_never, deadlock_never}
use Rattle.hr_convictions.proofs.DifferLemmas.{differs_never}
use Rattle.hr_convictions.proofs.OwedLemmas.{contradicted_never}
use Rattle.hr_causes.specs.Causes.{IsShown}
use Rattle.hr_causes.proofs.DifferenceLemmas.{difference_shown}
use Rattle.hr_causes.proofs.ReplyLemmas.{deadlock_shown, memory_shown}
use Rattle.hr_causes.proofs.TurnWords.{gone_shown}
use Rattle.hr_complete.proofs.LedLemmas.{stays, for_reply}
use Rattle.hr_complete.proofs.UnaskedLemmas.{never_asked}
use Rattle.hr_complete.proofs.ReadyLemmas as ready
use Rattle.hr_shepherd.specs.Promises.{KeepsBarrier, ConvictsLiars, LieFew, ShowsCauses, IsComplete, convicts, refuses}

convicted_never : (f s c r : ℕ) (x : Evidence) (db : Database) (h : History) → Begun f s (convicts c r x ∷ h) → LieFew f db x h → Correct db h r → ⊥
convicted_never f s c r (evidence.Contradicted t i) db h b few correct = contradicted_never f s c r t i db h b correct few
convicted_never f s c r (evidence.Differs t i) db h b few correct = differs_never f s c r t i db h b correct few
convicted_never f s c r (evidence.BadBlocked t) db h b few correct = blocked_never f s c r t db h b correct
convicted_never f s c r (evidence.BadDeadlock t) db h b few correct = deadlock_never f s c r t db h b correct
convicted_never f s c r (evidence.BadRestart n) db h b few correct = restart_never f s c r n db h b correct

shown : (f s c t : ℕ) (x : CauseAt) (h : History) → Begun f s (refuses c t x ∷ h) → IsShown t x h
shown f s c t (cause.Deadlock at) h b = deadlock_shown f s c t at h b
shown f s c t (cause.PrimaryChanged from because at) h b = gone_shown h record { from = from; why = because; at = at } (by_rule f s (refuses c t (cause.PrimaryChanged from because at)) h b refl).1
shown f s c t (cause.Differ index by at) h b = difference_shown f s c t index by at h b
shown f s c t (cause.PrimaryMemory at) h b = memory_shown f s c t at h b

module _ (f s : ℕ) (h : History) (begun : Begun f s h) where
  pub keeps_barrier : (db : Database) → KeepsBarrier db h
  keeps_barrier db caller r t i told given more before is out served correct at =
      the_same f s caller r t i told given db more before (subst (Begun f s) (sym is) begun) out served correct (subst (λ x. numbered (given_to t x) i ≡ Some given) (sym is) at)

  pub convicts_liars : (db : Database) → ConvictsLiars f db h
  convicts_liars db caller r x more before is few correct =
      convicted_never f s caller r x db before (begun_until f s more (convicts caller r x ∷ before) (subst (Begun f s) (sym is) begun)) few correct

  pub shows_causes : ShowsCauses h
  shows_causes caller t x more before is = shown f s caller t x before (begun_until f s more (refuses caller t x ∷ before) (subst (Begun f s) (sym is) begun))

  pub is_complete : (db : Database) → Faithful f s h → IsComplete f db h
  is_complete db faithful = record {
    primary = λ led. (stays f s db h begun led).0;
    refused = λ caller t x more before is led.
        let then = begun_until f s more (refuses caller t x ∷ before) (subst (Begun f s) (sym is) begun) in
        let why = for_reply f s caller t x db before then led in
        (why, never_asked f s caller t x before then why);
    decided = λ t group led many its. ready.decided f s t db group h faithful led many its;
  }
