-- What every history keeps that has begun rightly: in one induction, entry by entry.
use Rattle.std.proofs.Common.{◌≡◌, inl, inr, ℕ, zero, suc, ◌+◌, true, nat_le, Some, [], ◌∷◌, length, count_by, refl, ap, sym, ◌∙◌, subst, arith, IsTrue}
use Rattle.std.proofs.lemmas.Bool.{and_parts}
use Rattle.hr_base.specs.Lists.{numbered}
use Rattle.hr_history.specs.declared.entry.Entry.{Entry}
use Rattle.hr_history.specs.declared.entry.Event.{Event}
use Rattle.hr_history.specs.declared.entry.Event.TheVariants as event
use Rattle.hr_history.specs.declared.job.Job.TheVariants as job
use Rattle.hr_history.specs.declared.phase.Phase.TheVariants as phase
use Rattle.hr_history.specs.History.{History}
use Rattle.hr_history.specs.Transactions.{begun, phase_of, is_asked}
use Rattle.hr_history.specs.View.{view_of}
use Rattle.hr_history.specs.Processed.{phase_in}
use Rattle.hr_history.specs.Votes.{is_decidable, agrees}
use Rattle.hr_history.specs.ReplicaNumbers.{replica_numbers}
use Rattle.hr_history.specs.Faithful.{Begun}
use Rattle.hr_history.proofs.StepLemmas.{call_allowed}
use Rattle.hr_records.specs.ByRule.{IsJobOf}
use Rattle.hr_records.specs.Numbers.{IsBorn}
use Rattle.hr_records.specs.Kept.{Kept}
use Rattle.hr_records.proofs.Options.{some_none}
use Rattle.hr_records.proofs.Born.{born_or_not}
use Rattle.hr_records.proofs.NumberSteps.{not_both}
use Rattle.hr_records.proofs.RuleLemmas.{begun_before, by_rule, nothing_due}
use Rattle.hr_records.proofs.ViewWords.{txn_born, phase_seen, open_seen}
use Rattle.hr_records.proofs.Allowed.{may_go_on, none_open, begin_allowed, submit_allowed, take_allowed, give_allowed, restart_allowed}
use Rattle.hr_records.proofs.NumberLemmas.{at_begin, at_submit, at_ask, at_rollback, at_refuse, at_decide}
use Rattle.hr_records.proofs.GiveLemmas.{at_restarted, at_take, at_give}
use Rattle.hr_records.proofs.JobWords.{run_taken}
use Rattle.hr_records.proofs.ReplicaLemmas.{part_at_begin, part_at_submit, part_at_decide, part_at_take, part_at_give, part_at_restarted}
use Rattle.hr_records.proofs.LeadLemmas.{lead_at_begin, lead_at_submit, lead_at_ask, lead_at_rollback, lead_at_take, lead_at_give, lead_at_restarted, lead_at_suspect, lead_at_decide, lead_at_refuse, lead_at_convict, lead_at_new, lead_at_preempt}

at_start : Kept []
at_start = record {
  numbers = record {
    unborn = λ t unborn. (refl, refl, refl);
    alone = λ t u s at_t at_u open_t open_u. absurd (nobody t s at_t);
    logged = λ t place. (λ e. absurd (active place e), λ e. absurd (nobody place t e));
    runs = λ r t i e. absurd (some_none (job.Run t i) (sym e));
    balance = λ t s at. absurd (nobody t s at);
  };
  replicas = λ r. record {
    attempts = λ t. ([], refl);
    runs = λ t i e. absurd (some_none (job.Run t i) (sym e));
    commits = λ t e. absurd (some_none (job.Commit t) (sym e));
    live = λ j e other. refl;
    lost = λ e. absurd (some_none job.Restart (sym e));
    base = ([], refl);
    doubt = λ stmts e. absurd (some_none stmts (sym e));
  };
  leads = λ r. record {
    leads = λ e t o. (refl, refl);
    live = λ e. refl;
    follows = λ t o. omega arith;
    ahead = λ t i e o. absurd (some_none (job.Run t i) (sym e));
    vacant = λ none t o. inl refl;
    preempts = λ t was. cc;
    rolls_back = λ t e. absurd (some_none (job.Rollback t) (sym e));
    commits = λ t e. absurd (some_none (job.Commit t) (sym e));
  };
}
  where
    nobody : (t x : ℕ) → numbered [] t ≡ Some x → ⊥
    nobody zero x e = some_none x (sym e)
    nobody (suc n) x e = some_none x (sym e)

    active : (place : ℕ) → phase.Active ≡ phase.Logged place → ⊥
    active place e = cc

-- a transaction that may be decided was asked for
pub decided_asked : (f t : ℕ) (h : History) → IsBorn (length (begun h)) t → IsTrue (is_decidable (view_of f h) t) → is_asked (phase_of t h) ≡ true
decided_asked f t h born is =
    ap is_asked (sym (phase_seen f t h born)) ∙ (and_parts (is_asked (phase_in (view_of f h) t)) (nat_le (f + 1) (count_by (agrees (view_of f h) t) (replica_numbers f))) is).0

module _ (f s c : ℕ) (h : History) (k : Kept h) where
  next : (e : Event) → Begun f s (record { caller = c; event = e } ∷ h) → Kept (record { caller = c; event = e } ∷ h)
  next (event.Begin session txn) begun =
      let e : Entry = record { caller = c; event = event.Begin session txn } in
      let a = begin_allowed f s c h session txn (call_allowed f s e h begun refl) in
      let none = nothing_due f s e h begun refl in
      record {
        numbers = at_begin h k.numbers c session txn a.0 (λ t its o. none_open session t h a.1 its o);
        replicas = λ r. part_at_begin h k r c session txn a.0;
        leads = λ r. lead_at_begin h k r f none c session txn a.0;
      }
  next (event.Submit txn index stmt) begun =
      let e : Entry = record { caller = c; event = event.Submit txn index stmt } in
      let a = submit_allowed f s c h txn index stmt (call_allowed f s e h begun refl) in
      let none = nothing_due f s e h begun refl in
      record {
        numbers = at_submit h k.numbers c txn index stmt a.0;
        replicas = λ r. part_at_submit h k r c txn index stmt a.0;
        leads = λ r. lead_at_submit h k r f none c txn index stmt;
      }
  next (event.AskCommit txn) begun =
      let e : Entry = record { caller = c; event = event.AskCommit txn } in
      let on = may_go_on f c txn h (call_allowed f s e h begun refl) in
      let none = nothing_due f s e h begun refl in
      record { numbers = at_ask h k.numbers c txn on; replicas = k.replicas; leads = λ r. lead_at_ask h k r f none c txn on.is_open }
  next (event.AskRollback txn) begun =
      let e : Entry = record { caller = c; event = event.AskRollback txn } in
      let on = may_go_on f c txn h (call_allowed f s e h begun refl) in
      let none = nothing_due f s e h begun refl in
      record { numbers = at_rollback h k.numbers c txn on; replicas = k.replicas; leads = λ r. lead_at_rollback h k r f none c txn on.is_open }
  next (event.Take q j) begun =
      let e : Entry = record { caller = c; event = event.Take q j } in
      let a = take_allowed f s c h q j (call_allowed f s e h begun refl) in
      let none = nothing_due f s e h begun refl in
      record {
        numbers = at_take h k.numbers c q j (λ t i same. run_taken f q h a.0 t i k.numbers (subst (IsJobOf (view_of f h) q) same a.1));
        replicas = λ r. part_at_take h k r f c q j a.0 a.1;
        leads = λ r. lead_at_take h k r f none c q j a.0 a.1;
      }
  next (event.Give q told) begun =
      let e : Entry = record { caller = c; event = event.Give q told } in
      let a = give_allowed f s c h q told (call_allowed f s e h begun refl) in
      let none = nothing_due f s e h begun refl in
      record { numbers = at_give h k.numbers c q told a.1; replicas = λ r. part_at_give h k r c q told a.1; leads = λ r. lead_at_give h k r f none c q told a.1 }
  next (event.Restarted q n) begun =
      let e : Entry = record { caller = c; event = event.Restarted q n } in
      let a = restart_allowed f s c h q n (call_allowed f s e h begun refl) in
      let none = nothing_due f s e h begun refl in
      record { numbers = at_restarted h k.numbers c q n; replicas = λ r. part_at_restarted h k r c q n a.1; leads = λ r. lead_at_restarted h k r f none c q n a.1 }
  next event.Suspect begun =
      let e : Entry = record { caller = c; event = event.Suspect } in
      let none = nothing_due f s e h begun refl in
      record { numbers = k.numbers; replicas = k.replicas; leads = λ r. lead_at_suspect h k r f none c }
  next (event.Decide txn) begun =
      let e : Entry = record { caller = c; event = event.Decide txn } in
      let rule = by_rule f s e h begun refl in
      let born = txn_born f txn h rule.0 in
      record { numbers = at_decide h k.numbers c txn born (decided_asked f txn h born rule.1); replicas = λ r. part_at_decide h k r c txn; leads = λ r. lead_at_decide h k r c txn }
  next (event.Refuse txn x) begun =
      let e : Entry = record { caller = c; event = event.Refuse txn x } in
      let it = open_seen f txn h (by_rule f s e h begun refl).0 in
      record { numbers = at_refuse h k.numbers c txn x it.0 it.1; replicas = k.replicas; leads = λ r. lead_at_refuse h k r c txn x }
  next (event.Convict q x) begun = record { numbers = k.numbers; replicas = k.replicas; leads = λ r. lead_at_convict h k r c q x }
  next (event.NewPrimary q) begun =
      let e : Entry = record { caller = c; event = event.NewPrimary q } in
      record { numbers = k.numbers; replicas = k.replicas; leads = λ r. lead_at_new h k r f c q (by_rule f s e h begun refl) }
  next (event.Preempt q txn) begun =
      let e : Entry = record { caller = c; event = event.Preempt q txn } in
      record { numbers = k.numbers; replicas = k.replicas; leads = λ r. lead_at_preempt h k r f c q txn (by_rule f s e h begun refl) }

pub kept : (f s : ℕ) (h : History) → Begun f s h → Kept h
kept f s [] begun = at_start
kept f s (e ∷ h) begun = next f s e.caller h (kept f s h (begun_before f s e h begun)) e.event begun

-- one whose commit was asked for has begun
pub asked_born : (t : ℕ) (h : History) → Kept h → is_asked (phase_of t h) ≡ true → IsBorn (length (begun h)) t
asked_born t h k asked = elim (born_or_not (length (begun h)) t) [ inl born ↦ born | inr unborn ↦ absurd (not_both (is_asked (phase_of t h)) asked (ap is_asked (k.numbers.unborn t unborn).0)) ]
