-- What a turn's words tell of the turn's entries.
use Rattle.std.proofs.Common.{◌≡◌, ◌⊎◌, inl, inr, ℕ, Bool, true, false, ◌&&◌, if◌then◌else◌, Option, Some, None, List, [], ◌∷◌, ◌++◌, length, option_map, refl, ap, sym, ◌∙◌, subst}
use Rattle.std.proofs.lemmas.Bool.{and_parts}
use Rattle.hr_base.specs.Lists.{last_of, when}
use Rattle.hr_engine.specs.declared.reply.RunReply.{RunReply}
use Rattle.hr_engine.specs.declared.reply.RunReply.TheVariants as run
use Rattle.hr_rel.specs.declared.answer.Answer.{Answer}
use Rattle.hr_history.specs.declared.cause.CauseAt.{CauseAt}
use Rattle.hr_history.specs.declared.cause.CauseAt.TheVariants as cause
use Rattle.hr_history.specs.declared.cause.Why.{Why}
use Rattle.hr_history.specs.declared.cause.Why.TheVariants as why
use Rattle.hr_history.specs.declared.entry.Entry.{Entry}
use Rattle.hr_history.specs.declared.entry.Event.{Event}
use Rattle.hr_history.specs.declared.entry.Event.TheVariants as event
use Rattle.hr_history.specs.declared.evidence.Evidence.{Evidence}
use Rattle.hr_history.specs.declared.job.Job.{Job}
use Rattle.hr_history.specs.declared.job.Job.TheVariants as job
use Rattle.hr_history.specs.declared.job.JobReply.{JobReply}
use Rattle.hr_history.specs.declared.job.JobReply.TheVariants as reply
use Rattle.hr_history.specs.declared.phase.Fresh.{Fresh}
use Rattle.hr_history.specs.History.{History, is_call}
use Rattle.hr_history.specs.Replicas.{out_at, tells_loss}
use Rattle.hr_history.specs.Primary.{primary_of, is_some_of}
use Rattle.hr_history.specs.Turn.{turn_of, turn_start, replies_to_runs, fresh_of, fresh_from, Gone, gone_if, went}
use Rattle.hr_history.specs.View.{view_of}
use Rattle.hr_history.specs.Faithful.{Begun}
use Rattle.hr_records.specs.ByRule.{HasCause}
use Rattle.hr_records.proofs.Options.{some_none, same_some}
use Rattle.hr_records.proofs.JobWords.{primary_is}
use Rattle.hr_records.proofs.RuleLemmas.{by_rule}
use Rattle.hr_calls.specs.Callers.{AreFollowUps}
use Rattle.hr_causes.specs.Places.{StandsInTurn}
use Rattle.hr_causes.specs.Causes.{GoesBy, IsShownChange, is_no_reply}

pub last_end : {X : Type 0} (xs : List X) (x : X) → last_of (xs ++ x ∷ []) ≡ Some x
last_end [] x = refl
last_end (y ∷ []) x = refl
last_end (y ∷ z ∷ xs) x = last_end (z ∷ xs) x

pub when_some : {X : Type 0} (b : Bool) (x y : X) → when b x ≡ Some y → (b ≡ true) × (x ≡ y)
when_some true x y e = (refl, same_some x y e)
when_some false x y e = absurd (some_none y (sym e))

-- The last entry, and so with one more that follows.
at_last : (c : ℕ) (e : Event) (h : History) → StandsInTurn (length h) e h (record { caller = c; event = e } ∷ h)
at_last c e h = record { stands = record { caller = c; more = []; whole = refl; placed = refl }; last = tt }

one_later : (place : ℕ) (by : Event) (older : History) (e : Entry) (h : History) → is_call e.event ≡ false → StandsInTurn place by older h → StandsInTurn place by older (e ∷ h)
one_later place by older e h n s = record {
  stands = record { caller = s.stands.caller; more = e ∷ s.stands.more; whole = ap (λ l. e ∷ l) s.stands.whole; placed = s.stands.placed };
  last = (n, s.last);
}

-- THE PRIMARY THAT WENT
change_by : (c : ℕ) (e : Event) (h : History) (from : ℕ) (because : Why) (g : Gone) → record { from = from; why = because; at = length h } ≡ g → primary_of h ≡ Some from → GoesBy from because e
    → IsShownChange g.from g.why g.at (record { caller = c; event = e } ∷ h)
change_by c e h from because g same primary goes =
    subst (λ (x : Gone). IsShownChange x.from x.why x.at (record { caller = c; event = e } ∷ h)) same record { by = e; older = h; stands = at_last c e h; primary = primary; goes = goes }

change_later : (e : Entry) (h : History) (g : Gone) → is_call e.event ≡ false → IsShownChange g.from g.why g.at h → IsShownChange g.from g.why g.at (e ∷ h)
change_later e h g n s = record { by = s.by; older = s.older; stands = one_later g.at s.by s.older e h n s.stands; primary = s.primary; goes = s.goes }

suspected : (c : ℕ) (h : History) (g : Gone) (o : Option ℕ) → primary_of h ≡ o → option_map (λ (p : ℕ). record { from = p; why = why.Suspected; at = length h }) o ≡ Some g
    → IsShownChange g.from g.why g.at (record { caller = c; event = event.Suspect } ∷ h)
suspected c h g None p e = absurd (some_none g (sym e))
suspected c h g (Some q) p e = change_by c event.Suspect h q why.Suspected g (same_some _ g e) p refl

convicted : (c q : ℕ) (x : Evidence) (h : History) (g : Gone) (b : Bool) → is_some_of q (primary_of h) ≡ b
    → (if b then Some record { from = q; why = why.Convicted; at = length h } else went h) ≡ Some g → (went h ≡ Some g → IsShownChange g.from g.why g.at h)
    → IsShownChange g.from g.why g.at (record { caller = c; event = event.Convict q x } ∷ h)
convicted c q x h g true was e rest = change_by c (event.Convict q x) h q why.Convicted g (same_some _ g e) (primary_is q (primary_of h) was) (x, refl)
convicted c q x h g false was e rest = change_later record { caller = c; event = event.Convict q x } h g refl (rest e)

lost : (c q : ℕ) (told : JobReply) (h : History) (g : Gone) → gone_if (tells_loss told && is_some_of q (primary_of h)) q why.Lost (length h) ≡ Some g
    → IsShownChange g.from g.why g.at (record { caller = c; event = event.Give q told } ∷ h)
lost c q told h g e =
    let is = when_some (tells_loss told && is_some_of q (primary_of h)) _ g e in
    let both = and_parts (tells_loss told) (is_some_of q (primary_of h)) is.0 in
    change_by c (event.Give q told) h q why.Lost g is.1 (primary_is q (primary_of h) both.1) (told, both.0, refl)

gone_by : (c : ℕ) (e : Event) (h : History) (g : Gone) → went (record { caller = c; event = e } ∷ h) ≡ Some g → (went h ≡ Some g → IsShownChange g.from g.why g.at h)
    → IsShownChange g.from g.why g.at (record { caller = c; event = e } ∷ h)
gone_by c (event.Give q told) h g e rest = lost c q told h g e
gone_by c event.Suspect h g e rest = suspected c h g (primary_of h) refl e
gone_by c (event.Convict q x) h g e rest = convicted c q x h g (is_some_of q (primary_of h)) refl e rest
gone_by c (event.Decide txn) h g e rest = change_later record { caller = c; event = event.Decide txn } h g refl (rest e)
gone_by c (event.Refuse txn x) h g e rest = change_later record { caller = c; event = event.Refuse txn x } h g refl (rest e)
gone_by c (event.NewPrimary q) h g e rest = change_later record { caller = c; event = event.NewPrimary q } h g refl (rest e)
gone_by c (event.Preempt q txn) h g e rest = change_later record { caller = c; event = event.Preempt q txn } h g refl (rest e)
gone_by c _ h g e rest = absurd (some_none g (sym e))

pub gone_shown : (h : History) (g : Gone) → went h ≡ Some g → IsShownChange g.from g.why g.at h
gone_shown [] g e = absurd (some_none g (sym e))
gone_shown (e ∷ h) g is = gone_by e.caller e.event h g is (λ before. gone_shown h g before)

-- THE REPLY THAT IS FRESH
-- The turn's call is this replica's reply to a run of this transaction.
pub record FreshReply (fresh : Fresh) (h : History) : Type 0 where
  pub told : RunReply
  pub older : History
  pub stands : StandsInTurn (turn_start h) (event.Give fresh.replica (reply.Ran told)) older h
  pub index : ℕ
  pub out : out_at fresh.replica older ≡ Some (job.Run fresh.txn index)
  pub last : last_of (replies_to_runs h) ≡ Some told

fresh_later : (c : ℕ) (e : Event) (h : History) (fresh : Fresh) → is_call e ≡ false → turn_start (record { caller = c; event = e } ∷ h) ≡ turn_start h
    → replies_to_runs (record { caller = c; event = e } ∷ h) ≡ replies_to_runs h → FreshReply fresh h → FreshReply fresh (record { caller = c; event = e } ∷ h)
fresh_later c e h fresh n start replies r = record {
  told = r.told;
  older = r.older;
  stands = subst (λ place. StandsInTurn place (event.Give fresh.replica (reply.Ran r.told)) r.older (record { caller = c; event = e } ∷ h)) (sym start)
      (one_later (turn_start h) (event.Give fresh.replica (reply.Ran r.told)) r.older record { caller = c; event = e } h n r.stands);
  index = r.index;
  out = r.out;
  last = ap (λ l. last_of l) replies ∙ r.last;
}

fresh_given : (c q : ℕ) (told : RunReply) (h : History) (fresh : Fresh) (o : Option Job) → out_at q h ≡ o → fresh_from q o ≡ Some fresh → FreshReply fresh (record { caller = c; event = event.Give q (reply.Ran told) } ∷ h)
fresh_given c q told h fresh (Some (job.Run t i)) out e =
    subst (λ (x : Fresh). FreshReply x (record { caller = c; event = event.Give q (reply.Ran told) } ∷ h)) (same_some _ fresh e) record {
      told = told;
      older = h;
      stands = at_last c (event.Give q (reply.Ran told)) h;
      index = i;
      out = out;
      last = last_end (replies_to_runs h) told;
    }
fresh_given c q told h fresh (Some (job.Commit t)) out e = absurd (some_none fresh (sym e))
fresh_given c q told h fresh (Some (job.Rollback t)) out e = absurd (some_none fresh (sym e))
fresh_given c q told h fresh (Some job.Restart) out e = absurd (some_none fresh (sym e))
fresh_given c q told h fresh None out e = absurd (some_none fresh (sym e))

fresh_by : (c : ℕ) (e : Event) (h : History) (fresh : Fresh) → fresh_of (record { caller = c; event = e } ∷ h) ≡ Some fresh → (fresh_of h ≡ Some fresh → FreshReply fresh h)
    → FreshReply fresh (record { caller = c; event = e } ∷ h)
fresh_by c (event.Give q (reply.Ran told)) h fresh e rest = fresh_given c q told h fresh (out_at q h) refl e
fresh_by c (event.Decide txn) h fresh e rest = fresh_later c (event.Decide txn) h fresh refl refl refl (rest e)
fresh_by c (event.Refuse txn x) h fresh e rest = fresh_later c (event.Refuse txn x) h fresh refl refl refl (rest e)
fresh_by c (event.Convict q x) h fresh e rest = fresh_later c (event.Convict q x) h fresh refl refl refl (rest e)
fresh_by c (event.NewPrimary q) h fresh e rest = fresh_later c (event.NewPrimary q) h fresh refl refl refl (rest e)
fresh_by c (event.Preempt q txn) h fresh e rest = fresh_later c (event.Preempt q txn) h fresh refl refl refl (rest e)
fresh_by c (event.Give q (reply.Ended told)) h fresh e rest = absurd (some_none fresh (sym e))
fresh_by c (event.Give q reply.StillLost) h fresh e rest = absurd (some_none fresh (sym e))
fresh_by c (event.Begin session txn) h fresh e rest = absurd (some_none fresh (sym e))
fresh_by c (event.Submit txn index stmt) h fresh e rest = absurd (some_none fresh (sym e))
fresh_by c (event.AskCommit txn) h fresh e rest = absurd (some_none fresh (sym e))
fresh_by c (event.AskRollback txn) h fresh e rest = absurd (some_none fresh (sym e))
fresh_by c (event.Take q j) h fresh e rest = absurd (some_none fresh (sym e))
fresh_by c (event.Restarted q n) h fresh e rest = absurd (some_none fresh (sym e))
fresh_by c event.Suspect h fresh e rest = absurd (some_none fresh (sym e))

pub fresh_shown : (h : History) (fresh : Fresh) → fresh_of h ≡ Some fresh → FreshReply fresh h
fresh_shown [] fresh e = absurd (some_none fresh (sym e))
fresh_shown (e ∷ h) fresh is = fresh_by e.caller e.event h fresh is (λ before. fresh_shown h fresh before)

-- AN ANSWER
-- the last reply to a run is that of the turn's call
same_replies : (c : ℕ) (e : Event) (h : History) → is_call e ≡ false → replies_to_runs (record { caller = c; event = e } ∷ h) ≡ replies_to_runs h
same_replies c (event.Decide txn) h n = refl
same_replies c (event.Refuse txn x) h n = refl
same_replies c (event.Convict q x) h n = refl
same_replies c (event.NewPrimary q) h n = refl
same_replies c (event.Preempt q txn) h n = refl
same_replies c (event.Give q told) h n = cc n
same_replies c _ h n = refl

replies_stand : (more : List Entry) (h : History) → AreFollowUps more → replies_to_runs (more ++ h) ≡ replies_to_runs h
replies_stand [] h are = refl
replies_stand (e ∷ more) h are = same_replies e.caller e.event (more ++ h) are.0 ∙ replies_stand more h are.1

not_answer : (answer : Answer) (told : RunReply) → Some (run.Done answer) ≡ Some told → (told ≡ run.NoMemory) ⊎ ((cycle : List ℕ) × (told ≡ run.Deadlock cycle)) → ⊥
not_answer answer told e (inl is) = cc (e, is)
not_answer answer told e (inr is) = cc (e, is.1)

pub answer_refuses_nothing : (f s c giver r t : ℕ) (answer : Answer) (x : CauseAt) (more : List Entry) (h : History)
    → Begun f s (record { caller = c; event = event.Refuse t x } ∷ more ++ record { caller = giver; event = event.Give r (reply.Ran (run.Done answer)) } ∷ h) → AreFollowUps more → is_no_reply x ≡ true
answer_refuses_nothing f s c giver r t answer x more h b are =
    by_cause x (by_rule f s record { caller = c; event = event.Refuse t x } (more ++ call ∷ h) b refl).1
  where
    call : Entry
    call = record { caller = giver; event = event.Give r (reply.Ran (run.Done answer)) }

    told : last_of (replies_to_runs (more ++ call ∷ h)) ≡ Some (run.Done answer)
    told = ap (λ l. last_of l) (replies_stand more (call ∷ h) are) ∙ last_end (replies_to_runs h) (run.Done answer)

    by_cause : (x : CauseAt) → HasCause (view_of f (more ++ call ∷ h)) (turn_of (more ++ call ∷ h)) t x → is_no_reply x ≡ true
    by_cause (cause.Deadlock at) has = absurd (not_answer answer (run.Deadlock has.0) (sym told ∙ (has.1).told) (inr (has.0, refl)))
    by_cause (cause.PrimaryMemory at) has = absurd (not_answer answer run.NoMemory (sym told ∙ has.told) (inl refl))
    by_cause (cause.PrimaryChanged from because at) has = refl
    by_cause (cause.Differ index by at) has = refl
