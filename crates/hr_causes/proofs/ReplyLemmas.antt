-- A refusal for the primary's reply: that is the turn's call, and the primary was the primary then.
use Rattle.std.proofs.Common.{◌≡◌, ℕ, ◌+◌, ◌*◌, ◌<◌, true, false, if◌then◌else◌, Some, List, ◌∷◌, ◌++◌, length, refl, ap, sym, ◌∙◌, subst, IsTrue}
use Rattle.hr_base.specs.Lists.{last_of}
use Rattle.hr_engine.specs.declared.reply.RunReply.{RunReply}
use Rattle.hr_engine.specs.declared.reply.RunReply.TheVariants as run
use Rattle.hr_history.specs.declared.cause.CauseAt.TheVariants as cause
use Rattle.hr_history.specs.declared.entry.Entry.{Entry}
use Rattle.hr_history.specs.declared.entry.Event.TheVariants as event
use Rattle.hr_history.specs.declared.job.Job.TheVariants as job
use Rattle.hr_history.specs.declared.job.JobReply.TheVariants as reply
use Rattle.hr_history.specs.History.{History}
use Rattle.hr_history.specs.Transactions.{begun, phase_of, is_open}
use Rattle.hr_history.specs.Replicas.{out_at, journal_of, tells_loss}
use Rattle.hr_history.specs.Primary.{primary_of, other_than}
use Rattle.hr_history.specs.Processed.{phase_in, replica_in}
use Rattle.hr_history.specs.Rules.{due}
use Rattle.hr_history.specs.Turn.{turn_of, fresh_of, replies_to_runs}
use Rattle.hr_history.specs.View.{view_of, Progress}
use Rattle.hr_history.specs.Faithful.{Begun}
use Rattle.hr_history.proofs.StepLemmas.{replica_lookup, call_allowed}
use Rattle.hr_records.specs.ByRule.{IsReplyOfPrimary}
use Rattle.hr_records.specs.Numbers.{IsBorn}
use Rattle.hr_records.proofs.Options.{same_some}
use Rattle.hr_records.proofs.Allowed.{give_allowed}
use Rattle.hr_records.proofs.JobWords.{primary_is}
use Rattle.hr_records.proofs.RuleLemmas.{begun_before, begun_until, by_rule, was_due}
use Rattle.hr_records.proofs.ViewWords.{open_seen}
use Rattle.hr_calls.specs.Callers.{AreFollowUps}
use Rattle.hr_calls.proofs.PartLemmas.{follow_ups}
use Rattle.hr_causes.specs.Causes.{PrimaryReplied, IsShownDeadlock, IsShownMemory}
use Rattle.hr_causes.proofs.TurnWords.{FreshReply, fresh_shown}
use Rattle.hr_causes.proofs.PrimaryLemmas.{unconvicted, primary_then, o_then}
use Rattle.hr_causes.proofs.DeadlockLemmas.{nobody_convicted, no_evidence, sound_before}

-- What is seen where a refusal for the primary's reply is due.
pub record Seen (f t at r : ℕ) (told : RunReply) (h : History) : Type 0 where
  pub older : History
  pub caller : ℕ
  pub index : ℕ
  pub replied : PrimaryReplied t at r told older h
  pub out : out_at r older ≡ Some (job.Run t index)
  pub within : r < 2 * f + 1
  pub unconvicted : (replica_in (view_of f h) r).convicted ≡ false
  pub journal : journal_of r h ≡ journal_of r (record { caller = caller; event = event.Give r (reply.Ran told) } ∷ older)

-- the turn's call is such a reply, it was no loss, and the transaction is open, and this replica the primary, now
module _ (f s t at r i c : ℕ) (told : RunReply) (more : List Entry) (older h : History) (whole : more ++ record { caller = c; event = event.Give r (reply.Ran told) } ∷ older ≡ h)
    (b : Begun f s h) (are : AreFollowUps more) (no_loss : tells_loss (reply.Ran told) ≡ false) (out : out_at r older ≡ Some (job.Run t i)) (place : length older ≡ at)
    (its : IsBorn (length (begun h)) t × (is_open (phase_of t h) ≡ true)) (is_now : primary_of h ≡ Some r) where
  abbrev H : History
  H = more ++ record { caller = c; event = event.Give r (reply.Ran told) } ∷ older

  b_whole : Begun f s (more ++ record { caller = c; event = event.Give r (reply.Ran told) } ∷ older)
  b_whole = subst (Begun f s) (sym whole) b

  b_call : Begun f s (record { caller = c; event = event.Give r (reply.Ran told) } ∷ older)
  b_call = begun_until f s more (record { caller = c; event = event.Give r (reply.Ran told) } ∷ older) b_whole

  lt : r < 2 * f + 1
  lt = (give_allowed f s c older r (reply.Ran told) (call_allowed f s record { caller = c; event = event.Give r (reply.Ran told) } older b_call refl)).0

  stays : primary_of (record { caller = c; event = event.Give r (reply.Ran told) } ∷ older) ≡ primary_of older
  stays = ap (λ x. if x then other_than r (primary_of older) else primary_of older) no_loss

  o_whole : is_open (phase_of t (more ++ record { caller = c; event = event.Give r (reply.Ran told) } ∷ older)) ≡ true
  o_whole = ap (λ x. is_open (phase_of t x)) whole ∙ its.1

  born_whole : IsBorn (length (begun (more ++ record { caller = c; event = event.Give r (reply.Ran told) } ∷ older))) t
  born_whole = subst (λ x. IsBorn (length (begun x)) t) (sym whole) its.0

  primary_whole : primary_of (more ++ record { caller = c; event = event.Give r (reply.Ran told) } ∷ older) ≡ Some r
  primary_whole = ap primary_of whole ∙ is_now

  pub seen : Seen f t at r told h
  seen = record {
    older = older;
    caller = c;
    index = i;
    replied = record {
      stands = record { stands = record { caller = c; more = more; whole = whole; placed = place }; last = are };
      primary = primary_then f s r t i more record { caller = c; event = event.Give r (reply.Ran told) } older b_whole are refl stays out o_whole born_whole primary_whole;
      index = i;
      out = out;
      was_open = o_then f s r t i more record { caller = c; event = event.Give r (reply.Ran told) } older b_whole are refl stays out o_whole born_whole primary_whole;
    };
    out = out;
    within = lt;
    unconvicted = ap (λ (p : Progress). p.convicted) (replica_lookup f r h lt) ∙ unconvicted f s r h b is_now;
    journal = ap (journal_of r) (sym whole) ∙ (follow_ups r more (record { caller = c; event = event.Give r (reply.Ran told) } ∷ older) are).journal;
  }

by_fresh : (f s t at : ℕ) (told : RunReply) (h : History) → Begun f s h → tells_loss (reply.Ran told) ≡ false → IsTrue (is_open (phase_in (view_of f h) t)) → (is : IsReplyOfPrimary (view_of f h) (turn_of h) t at told)
    → (now : FreshReply is.fresh h) → Seen f t at (is.fresh).replica told h
by_fresh f s t at told h b no_loss o is now =
    seen f s t at (is.fresh).replica now.index ((now.stands).stands).caller told ((now.stands).stands).more now.older h
    (subst (λ x. ((now.stands).stands).more ++ record { caller = ((now.stands).stands).caller; event = event.Give (is.fresh).replica (reply.Ran x) } ∷ now.older ≡ h) (same_some now.told told (sym now.last ∙ is.told)) ((now.stands).stands).whole)
    b (now.stands).last no_loss (now.out ∙ ap (λ u. Some (job.Run u now.index)) is.txn) (((now.stands).stands).placed ∙ sym is.place) (open_seen f t h o) (primary_is (is.fresh).replica (primary_of h) is.by_primary)

memory_by : (f s t at : ℕ) (h : History) → Begun f s h → IsTrue (is_open (phase_in (view_of f h) t)) → IsReplyOfPrimary (view_of f h) (turn_of h) t at run.NoMemory → IsShownMemory t at h
memory_by f s t at h b o is =
    let now = by_fresh f s t at run.NoMemory h b refl o is (fresh_shown h is.fresh is.is_fresh) in
    record { replica = (is.fresh).replica; older = now.older; replied = now.replied }

pub memory_shown : (f s c t at : ℕ) (h : History) → Begun f s (record { caller = c; event = event.Refuse t (cause.PrimaryMemory at) } ∷ h) → IsShownMemory t at h
memory_shown f s c t at h b =
    let rule = by_rule f s record { caller = c; event = event.Refuse t (cause.PrimaryMemory at) } h b refl in
    memory_by f s t at h (begun_before f s record { caller = c; event = event.Refuse t (cause.PrimaryMemory at) } h b) rule.0 rule.1

deadlock_by : (f t at r : ℕ) (cycle : List ℕ) (h : History) → due f h ≡ Some (event.Refuse t (cause.Deadlock at)) → fresh_of h ≡ Some record { replica = r; txn = t }
    → last_of (replies_to_runs h) ≡ Some (run.Deadlock cycle) → Seen f t at r (run.Deadlock cycle) h → IsShownDeadlock t at h
deadlock_by f t at r cycle h was fresh told now = record {
  replica = r;
  cycle = cycle;
  older = now.older;
  replied = now.replied;
  sound = sound_before f r t now.index now.caller cycle now.older h now.within
      (no_evidence (view_of f h) (turn_of h) r (nobody_convicted (view_of f h) (turn_of h) t (cause.Deadlock at) was) now.within now.unconvicted)
      fresh told now.journal now.out;
}

pub deadlock_shown : (f s c t at : ℕ) (h : History) → Begun f s (record { caller = c; event = event.Refuse t (cause.Deadlock at) } ∷ h) → IsShownDeadlock t at h
deadlock_shown f s c t at h b =
    let e : Entry = record { caller = c; event = event.Refuse t (cause.Deadlock at) } in
    let rule = by_rule f s e h b refl in
    let cycle = (rule.1).0 in
    let is = (rule.1).1 in
    deadlock_by f t at (is.fresh).replica cycle h (was_due f s e h b refl) (is.is_fresh ∙ ap (λ u. Some record { replica = (is.fresh).replica; txn = u }) is.txn) is.told
    (by_fresh f s t at (run.Deadlock cycle) h (begun_before f s e h b) refl rule.0 is (fresh_shown h is.fresh is.is_fresh))
