-- After a turn, who has a cause to be refused is refused.
use Rattle.std.proofs.Common.{◌≡◌, ℕ, true, false, ◌&&◌, Some, None, is_some, length, option_and_then, refl, ap, sym, ◌∙◌}
use Rattle.std.proofs.lemmas.Bool.{false_from_ne_true}
use Rattle.hr_base.specs.Lists.{when}
use Rattle.hr_engine.specs.declared.reply.RunReply.{RunReply}
use Rattle.hr_engine.specs.declared.reply.RunReply.TheVariants as run
use Rattle.hr_history.specs.declared.cause.CauseAt.{CauseAt}
use Rattle.hr_history.specs.declared.cause.CauseAt.TheVariants as cause
use Rattle.hr_history.specs.declared.entry.Event.TheVariants as event
use Rattle.hr_history.specs.History.{History}
use Rattle.hr_history.specs.Transactions.{begun, phase_of, is_open}
use Rattle.hr_history.specs.Processed.{phase_in, is_primary}
use Rattle.hr_history.specs.Turn.{Turn, turn_of}
use Rattle.hr_history.specs.View.{View, view_of}
use Rattle.hr_history.specs.Rules.{owed_conviction, convict, primary_gone, cause_by, refuse_after, primary_reply, due_in}
use Rattle.hr_history.specs.Faithful.{Faithful}
use Rattle.hr_records.specs.ByRule.{HasCause, IsReplyOfPrimary}
use Rattle.hr_records.specs.Numbers.{IsBorn}
use Rattle.hr_records.proofs.Options.{some_none, first_none}
use Rattle.hr_records.proofs.LeadLemmas.{none_for_gone, refused_all}
use Rattle.hr_records.proofs.ViewWords.{phase_seen}
use Rattle.hr_decisions.proofs.DecisionLemmas.{nothing_after, none_contradicted}

module _ (v : View) (turn : Turn) (t at : ℕ) where
  no_reply : due_in v turn ≡ None → primary_reply v turn ≡ None
  no_reply nothing =
      let a = first_none (owed_conviction v turn) _ nothing in
      let b = first_none (convict v turn) _ a.1 in
      let c = first_none (primary_gone v turn) _ b.1 in
      (first_none (primary_reply v turn) _ c.1).0

  -- what is made of the primary's reply, where it has this cause
  made : (told : RunReply) (c : CauseAt) (is : IsReplyOfPrimary v turn t at told) → cause_by v turn (Some told) ≡ Some c → is_open (phase_in v t) ≡ true
      → primary_reply v turn ≡ Some (event.Refuse ((is.fresh).txn) c)
  made told c is by o =
      ap (option_and_then (refuse_after v turn)) is.is_fresh
      ∙ ap (λ r. option_and_then (λ x. when (is_primary v (is.fresh).replica && is_open (phase_in v (is.fresh).txn)) (event.Refuse (is.fresh).txn x)) (cause_by v turn r)) is.told
      ∙ ap (option_and_then (λ x. when (is_primary v (is.fresh).replica && is_open (phase_in v (is.fresh).txn)) (event.Refuse (is.fresh).txn x))) by
      ∙ (λ i. when (is.by_primary i && (ap (λ u. is_open (phase_in v u)) is.txn ∙ o) i) (event.Refuse (is.fresh).txn c))

  pub none_by_reply : (told : RunReply) (c : CauseAt) → cause_by v turn (Some told) ≡ Some c → due_in v turn ≡ None → IsReplyOfPrimary v turn t at told → is_open (phase_in v t) ≡ true → ⊥
  none_by_reply told c by nothing is o = some_none (event.Refuse ((is.fresh).txn) c) (sym (made told c is by o) ∙ no_reply nothing)

cause_refuses : (f s t : ℕ) (c : CauseAt) (h : History) → Faithful f s h → HasCause (view_of f h) (turn_of h) t c → IsBorn (length (begun h)) t → is_open (phase_of t h) ≡ true → ⊥
cause_refuses f s t (cause.Deadlock at) h faithful has born o =
    none_by_reply (view_of f h) (turn_of h) t at (run.Deadlock has.0) (cause.Deadlock (turn_of h).start) refl (nothing_after f s h faithful) has.1 (ap is_open (phase_seen f t h born) ∙ o)
cause_refuses f s t (cause.PrimaryMemory at) h faithful has born o =
    none_by_reply (view_of f h) (turn_of h) t at run.NoMemory (cause.PrimaryMemory (turn_of h).start) refl (nothing_after f s h faithful) has (ap is_open (phase_seen f t h born) ∙ o)
cause_refuses f s t (cause.PrimaryChanged from because at) h faithful has born o =
    refused_all f h (none_for_gone f h (nothing_after f s h faithful)) (ap (λ x. is_some x) has) t born o
cause_refuses f s t (cause.Differ index by at) h faithful has born o = none_contradicted (view_of f h) (turn_of h) (nothing_after f s h faithful) t has.0

pub refused_by : (f s t : ℕ) (c : CauseAt) (h : History) → Faithful f s h → HasCause (view_of f h) (turn_of h) t c → IsBorn (length (begun h)) t → is_open (phase_of t h) ≡ false
refused_by f s t c h faithful has born = false_from_ne_true (is_open (phase_of t h)) (λ o. cause_refuses f s t c h faithful has born o)
