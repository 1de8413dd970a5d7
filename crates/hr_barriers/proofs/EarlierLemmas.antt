-- An answer that is ever given to a statement has been given once any replica has replied Done to it.
use Rattle.std.proofs.Common.{◌≡◌, ◌⊎◌, inl, inr, ℕ, ◌+◌, ◌≤◌, Bool, true, false, Some, is_some, List, [], ◌∷◌, ◌++◌, length, refl, ap, sym, ◌∙◌, arith}
use Rattle.hr_base.specs.Lists.{numbered}
use Rattle.hr_rel.specs.declared.answer.Answer.{Answer}
use Rattle.hr_engine.specs.Attempts.{attempt}
use Rattle.hr_engine.specs.declared.reply.RunReply.TheVariants as run
use Rattle.hr_history.specs.declared.entry.Entry.{Entry}
use Rattle.hr_history.specs.declared.entry.Event.{Event}
use Rattle.hr_history.specs.declared.entry.Event.TheVariants as event
use Rattle.hr_history.specs.declared.job.Job.TheVariants as job
use Rattle.hr_history.specs.declared.job.JobReply.{JobReply}
use Rattle.hr_history.specs.declared.job.JobReply.TheVariants as reply
use Rattle.hr_history.specs.History.{History}
use Rattle.hr_history.specs.Transactions.{log, phase_of, is_open}
use Rattle.hr_history.specs.Replicas.{out_at, journal_of}
use Rattle.hr_history.specs.Primary.{primary_of}
use Rattle.hr_history.specs.Turn.{went}
use Rattle.hr_history.specs.Given.{Given, given_to}
use Rattle.hr_history.specs.Faithful.{Begun}
use Rattle.hr_history.proofs.StepLemmas.{call_allowed}
use Rattle.hr_records.specs.AtReplica.{Begins}
use Rattle.hr_records.specs.Kept.{Kept}
use Rattle.hr_records.proofs.Options.{same_some}
use Rattle.hr_records.proofs.Places.{numbered_front, numbered_some}
use Rattle.hr_records.proofs.Allowed.{begin_allowed}
use Rattle.hr_records.proofs.RuleLemmas.{begun_before, begun_until, nothing_due}
use Rattle.hr_records.proofs.NumberLemmas.{given_at_begin}
use Rattle.hr_records.proofs.GiveLemmas.{is_given, is_given_at, one_more}
use Rattle.hr_records.proofs.Beginnings.{begins_chain, begins_length}
use Rattle.hr_records.proofs.KeptLemmas.{kept}
use Rattle.hr_records.proofs.LeadLemmas.{none_for_gone, refused_all}
use Rattle.hr_records.proofs.Closed.{frozen, phase_stands}
use Rattle.hr_barriers.proofs.StandLemmas.{all_of, same_begins, if_begins}

-- WHAT IS GIVEN STAYS
module _ (f s c t : ℕ) (h : History) (k : Kept h) where
  given_by_reply : (q : ℕ) (told : JobReply) → Begins (given_to t h) (given_to t (record { caller = c; event = event.Give q told } ∷ h))
  given_by_reply q (reply.Ran (run.Done a)) = if_begins (is_given t q h) (given_to t h) record { answer = a; stamp = length (log h) }
  given_by_reply q (reply.Ran (run.Blocked named)) = all_of (given_to t h)
  given_by_reply q (reply.Ran (run.Deadlock cycle)) = all_of (given_to t h)
  given_by_reply q (reply.Ran run.Lost) = all_of (given_to t h)
  given_by_reply q (reply.Ran run.NoMemory) = all_of (given_to t h)
  given_by_reply q (reply.Ended x) = all_of (given_to t h)
  given_by_reply q reply.StillLost = all_of (given_to t h)

  given_by : (e : Event) → Begun f s (record { caller = c; event = e } ∷ h) → Begins (given_to t h) (given_to t (record { caller = c; event = e } ∷ h))
  given_by (event.Give q told) b = given_by_reply q told
  given_by (event.Begin session txn) b =
      same_begins (given_to t h) (given_to t (record { caller = c; event = event.Begin session txn } ∷ h))
      (given_at_begin h k.numbers txn (begin_allowed f s c h session txn (call_allowed f s record { caller = c; event = event.Begin session txn } h b refl)).0 t)
  given_by _ b = all_of (given_to t h)

given_stays : (f s t : ℕ) (more : List Entry) (h : History) → Begun f s (more ++ h) → Begins (given_to t h) (given_to t (more ++ h))
given_stays f s t [] h b = all_of (given_to t h)
given_stays f s t (e ∷ more) h b =
    let before = begun_before f s e (more ++ h) b in
    begins_chain (given_to t h) (given_to t (more ++ h)) (given_to t (e ∷ more ++ h)) (given_stays f s t more h before) (given_by f s e.caller t (more ++ h) (kept f s (more ++ h) before) e.event b)

-- nothing is given to one that isn't open
closed_given : (f s t : ℕ) (more : List Entry) (h : History) → Begun f s (more ++ h) → is_open (phase_of t h) ≡ false → (is_open (phase_of t (more ++ h)) ≡ false) × (given_to t (more ++ h) ≡ given_to t h)
closed_given f s t [] h b closed = (closed, refl)
closed_given f s t (e ∷ more) h b closed =
    let before = begun_before f s e (more ++ h) b in
    let k = kept f s (more ++ h) before in
    let rest = closed_given f s t more h before closed in
    (ap is_open (phase_stands f s e (more ++ h) k b t rest.0) ∙ rest.0, (frozen f s e (more ++ h) k b t rest.0).1 ∙ rest.1)

-- BY THE REPLY
module _ (f s c r t i : ℕ) (a : Answer) (g : Given) (more : List Entry) (h : History) (b : Begun f s (more ++ record { caller = c; event = event.Give r (reply.Ran (run.Done a)) } ∷ h))
    (out : out_at r h ≡ Some (job.Run t i)) (at : numbered (given_to t (more ++ record { caller = c; event = event.Give r (reply.Ran (run.Done a)) } ∷ h)) i ≡ Some g) where
  abbrev Now : History
  Now = record { caller = c; event = event.Give r (reply.Ran (run.Done a)) } ∷ h

  b_now : Begun f s (record { caller = c; event = event.Give r (reply.Ran (run.Done a)) } ∷ h)
  b_now = begun_until f s more (record { caller = c; event = event.Give r (reply.Ran (run.Done a)) } ∷ h) b

  k : Kept h
  k = kept f s h (begun_before f s record { caller = c; event = event.Give r (reply.Ran (run.Done a)) } h b_now)

  next : i ≡ length (attempt t (journal_of r h)) + 1
  next = (k.replicas r).runs t i out

  now_or_later : i ≤ length (given_to t Now) → numbered (given_to t Now) i ≡ Some g
  now_or_later within =
      let it = numbered_some (given_to t Now) i (omega (arith, next), within) in
      let stays = given_stays f s t more Now b in
      let later : numbered (given_to t (more ++ Now)) i ≡ Some it.0 = ap (λ l. numbered l i) (sym stays.1) ∙ numbered_front (given_to t Now) stays.0 i it.0 it.1 in
      it.1 ∙ ap Some (same_some it.0 g (sym later ∙ at))

  was_open : is_open (phase_of t h) ≡ true → i ≤ length (given_to t Now)
  was_open o = by_case ((k.leads r).ahead t i out o)
    where
      by_case : (i ≤ length (given_to t h)) ⊎ (primary_of h ≡ Some r) ⊎ (is_some (went h) ≡ true) → i ≤ length (given_to t Now)
      by_case (inl le) = omega (arith, le, begins_length (given_to t h) (given_to t Now) (given_by_reply f s c t h k r (reply.Ran (run.Done a))))
      by_case (inr (inl lead)) =
          let same = ((k.leads r).leads lead t o).0 in
          let last : i ≡ length (given_to t h) + 1 = omega (arith, same, next) in
          omega (arith, last, one_more (is_given t r h) record { answer = a; stamp = length (log h) } (given_to t h) (is_given_at t i r h out last lead o))
      by_case (inr (inr gone)) =
          absurd (refused_all f h (none_for_gone f h (nothing_due f s record { caller = c; event = event.Give r (reply.Ran (run.Done a)) } h b_now refl)) gone t (k.numbers.runs r t i out).0 o)

  was_closed : is_open (phase_of t h) ≡ false → numbered (given_to t Now) i ≡ Some g
  was_closed closed =
      let here = closed_given f s t (record { caller = c; event = event.Give r (reply.Ran (run.Done a)) } ∷ []) h b_now closed in
      ap (λ l. numbered l i) (sym (closed_given f s t more Now b here.0).1) ∙ at

  pub given_then : numbered (given_to t (record { caller = c; event = event.Give r (reply.Ran (run.Done a)) } ∷ h)) i ≡ Some g
  given_then = by_test (is_open (phase_of t h)) refl
    where
      by_test : (x : Bool) → is_open (phase_of t h) ≡ x → numbered (given_to t (record { caller = c; event = event.Give r (reply.Ran (run.Done a)) } ∷ h)) i ≡ Some g
      by_test true o = now_or_later (was_open o)
      by_test false closed = was_closed closed
