-- The answers given to an open transaction are those in the primary's attempt.
use Rattle.std.proofs.Common.{◌≡◌, ◌⊎◌, inl, inr, ℕ, ◌+◌, Bool, true, false, ◌&&◌, ◌==◌, if◌then◌else◌, Option, Some, is_some, List, [], ◌∷◌, ◌++◌, length, refl, ap, sym, ◌∙◌, subst, arith}
use Rattle.std.proofs.lemmas.Bool.{eqb-true, eq-eqb}
use Rattle.std.proofs.lemmas.List.{map-append}
use Rattle.hr_rel.specs.declared.answer.Answer.{Answer}
use Rattle.hr_engine.specs.Journal.{Call, Ran}
use Rattle.hr_engine.specs.Attempts.{RanStmt, attempt, answers}
use Rattle.hr_engine.specs.Base.{settled}
use Rattle.hr_engine.specs.declared.reply.RunReply.TheVariants as run
use Rattle.hr_engine.specs.declared.reply.EndReply.TheVariants as end
use Rattle.hr_engine.proofs.AttemptLaws.{attempt-done, attempt-done_other, attempt-committed_other, attempt-rolled_back_other}
use Rattle.hr_history.specs.declared.entry.Event.{Event}
use Rattle.hr_history.specs.declared.entry.Event.TheVariants as event
use Rattle.hr_history.specs.declared.job.Job.{Job}
use Rattle.hr_history.specs.declared.job.Job.TheVariants as job
use Rattle.hr_history.specs.declared.job.JobReply.{JobReply}
use Rattle.hr_history.specs.declared.job.JobReply.TheVariants as reply
use Rattle.hr_history.specs.History.{History}
use Rattle.hr_history.specs.Transactions.{begun, log, phase_of, is_open}
use Rattle.hr_history.specs.Replicas.{out_at, journal_of, stmt_at, call_of, call_if, restart_if, next_journal, tells_loss}
use Rattle.hr_history.specs.Primary.{primary_of, is_some_of, other_than}
use Rattle.hr_history.specs.Given.{Given, given_to, answers_given, is_run_of}
use Rattle.hr_history.specs.Turn.{turn_of, went}
use Rattle.hr_history.specs.View.{view_of}
use Rattle.hr_history.specs.Faithful.{Begun, fits_job}
use Rattle.hr_history.proofs.StepLemmas.{call_allowed}
use Rattle.hr_base.proofs.Tests.{and_false}
use Rattle.hr_records.specs.ByRule.{IsElected}
use Rattle.hr_records.specs.Numbers.{IsBorn}
use Rattle.hr_records.specs.Kept.{Kept}
use Rattle.hr_records.proofs.Options.{some_none, same_some}
use Rattle.hr_records.proofs.PrimaryWords.{other_is}
use Rattle.hr_records.proofs.Places.{same_or_not}
use Rattle.hr_records.proofs.Born.{born_or_not}
use Rattle.hr_records.proofs.NumberSteps.{not_both}
use Rattle.hr_records.proofs.NumberLemmas.{given_at_begin}
use Rattle.hr_records.proofs.Allowed.{begin_allowed, give_allowed, restart_allowed}
use Rattle.hr_records.proofs.GiveLemmas.{is_given, is_given_at, given_not, no_more}
use Rattle.hr_records.proofs.RuleLemmas.{begun_before, by_rule}
use Rattle.hr_records.proofs.KeptLemmas.{kept}
use Rattle.hr_records.proofs.LeadLemmas.{refused_all}
use Rattle.hr_records.proofs.Closed.{phase_stands}

-- what the primary answered is what was given
abbrev AreGiven : History → ℕ → ℕ → Type 0
AreGiven h r t = answers_given (given_to t h) ≡ answers (attempt t (journal_of r h))

-- no answers on either side
none_given : (given : List Given) (steps : List RanStmt) → length given ≡ 0 → length steps ≡ length given → answers_given given ≡ answers steps
none_given [] [] e same = refl
none_given [] (s ∷ steps) e same = absurd (omega (arith, same))
none_given (g ∷ given) steps e same = absurd (omega (arith, e))

given_end : (given : List Given) (g : Given) (steps : List RanStmt) (s : RanStmt) → g.answer ≡ s.answer → answers_given given ≡ answers steps → answers_given (given ++ g ∷ []) ≡ answers (steps ++ s ∷ [])
given_end given g steps s same before =
    map-append (λ (x : Given). x.answer) given (g ∷ []) ∙ (λ i. before i ++ same i ∷ []) ∙ sym (map-append (λ (x : RanStmt). x.answer) steps (s ∷ []))

if_given : (b : Bool) (xs : List Given) (g : Given) → b ≡ true → (if b then xs ++ g ∷ [] else xs) ≡ xs ++ g ∷ []
if_given true xs g e = refl
if_given false xs g e = cc e

-- who is primary after a reply was it before, and hasn't told of a loss
still : (b : Bool) (q r : ℕ) (o : Option ℕ) → (if b then other_than q o else o) ≡ Some r → (o ≡ Some r) × (b ≡ true → (q == r) ≡ false)
still true q r o e = let is = other_is q r o e in (is.0, λ _. is.1)
still false q r o e = (e, λ t. cc t)

module _ (f s c t r : ℕ) (h : History) (k : Kept h) (is : primary_of h ≡ Some r) (o : is_open (phase_of t h) ≡ true) (before : AreGiven h r t) where
  other_txn : (u : ℕ) → is_open (phase_of u h) ≡ false → t ≡ u → ⊥
  other_txn u closed same = not_both (is_open (phase_of t h)) o (ap (λ x. is_open (phase_of x h)) same ∙ closed)

  abbrev After : JobReply → Option Call → Type 0
  After told call = answers_given (given_to t (record { caller = c; event = event.Give r told } ∷ h)) ≡ answers (attempt t (next_journal call (journal_of r h)))

  ran_done : (u i : ℕ) (a : Answer) → out_at r h ≡ Some (job.Run u i) → (t ≡ u) ⊎ (t ≡ u → ⊥) → After (reply.Ran (run.Done a)) (Some (Ran u (stmt_at h u i) (run.Done a)))
  ran_done u i a out (inl same) =
      let out_t = out ∙ ap (λ x. Some (job.Run x i)) (sym same) in
      let next : i ≡ length (given_to t h) + 1 = (k.replicas r).runs t i out_t ∙ ap (λ n. n + 1) ((k.leads r).leads is t o).0 in
      ap answers_given (if_given (is_given t r h) (given_to t h) record { answer = a; stamp = length (log h) } (is_given_at t i r h out_t next is o))
      ∙ given_end (given_to t h) record { answer = a; stamp = length (log h) } (attempt t (journal_of r h)) record { stmt = stmt_at h u i; answer = a } refl before
      ∙ ap answers (sym (ap (λ x. attempt t (Ran x (stmt_at h u i) (run.Done a) ∷ journal_of r h)) (sym same) ∙ attempt-done (journal_of r h) t (stmt_at h u i) a))
  ran_done u i a out (inr other) =
      ap answers_given (no_more (is_given t r h) record { answer = a; stamp = length (log h) } (given_to t h) (given_not t u i r h out (λ same. other (sym same))))
      ∙ before ∙ ap answers (sym (attempt-done_other (journal_of r h) u (stmt_at h u i) a t other))

  rolls_other : (u : ℕ) → out_at r h ≡ Some (job.Rollback u) → t ≡ u → ⊥
  rolls_other u out same = elim ((k.leads r).rolls_back u out) [
    | inl closed ↦ other_txn u closed same
    | inr preempted ↦ not_both _ preempted ((k.leads r).leads is u (ap (λ x. is_open (phase_of x h)) (sym same) ∙ o)).1
  ]

  replied : (told : JobReply) (j : Option Job) → out_at r h ≡ j → tells_loss told ≡ false → fits_job told j ≡ true → After told (call_of j told (stmt_at h))
  replied (reply.Ran (run.Done a)) (Some (job.Run u i)) out no_loss fits = ran_done u i a out (same_or_not t u)
  replied (reply.Ran (run.Blocked named)) (Some (job.Run u i)) out no_loss fits = before
  replied (reply.Ran (run.Deadlock cycle)) (Some (job.Run u i)) out no_loss fits = before
  replied (reply.Ran run.NoMemory) (Some (job.Run u i)) out no_loss fits = before
  replied (reply.Ran run.Lost) (Some (job.Run u i)) out no_loss fits = cc no_loss
  replied (reply.Ended end.Done) (Some (job.Commit u)) out no_loss fits = before ∙ ap answers (sym (attempt-committed_other (journal_of r h) u t (other_txn u ((k.leads r).commits u out))))
  replied (reply.Ended end.Done) (Some (job.Rollback u)) out no_loss fits = before ∙ ap answers (sym (attempt-rolled_back_other (journal_of r h) u t (rolls_other u out)))
  replied (reply.Ended end.Lost) (Some (job.Commit u)) out no_loss fits = cc no_loss
  replied (reply.Ended end.Lost) (Some (job.Rollback u)) out no_loss fits = cc no_loss
  replied reply.StillLost j out no_loss fits = cc no_loss
  replied _ _ out no_loss fits = cc fits

module _ (f s c t r : ℕ) (h : History) (k : Kept h) (before : primary_of h ≡ Some r → is_open (phase_of t h) ≡ true → AreGiven h r t) where
  -- what is open now was open
  opened : (e : Event) → Begun f s (record { caller = c; event = e } ∷ h) → (was : Bool) → is_open (phase_of t h) ≡ was → is_open (phase_of t (record { caller = c; event = e } ∷ h)) ≡ true → is_open (phase_of t h) ≡ true
  opened e b true was now = was
  opened e b false was now =
      absurd (not_both (is_open (phase_of t (record { caller = c; event = e } ∷ h))) now (ap is_open (phase_stands f s record { caller = c; event = e } h k b t was) ∙ was))

  -- the primary replies
  by_primary : (told : JobReply) → Begun f s (record { caller = c; event = event.Give r told } ∷ h) → primary_of h ≡ Some r → tells_loss told ≡ false → is_open (phase_of t h) ≡ true
      → AreGiven (record { caller = c; event = event.Give r told } ∷ h) r t
  by_primary told b is no_loss o =
      replied f s c t r h k is o (before is o) told (out_at r h) refl no_loss (give_allowed f s c h r told (call_allowed f s record { caller = c; event = event.Give r told } h b refl)).1
      ∙ ap (λ x. answers (attempt t (next_journal (call_if x r told (λ p. out_at p h) (stmt_at h)) (journal_of r h)))) (sym (eq-eqb r r refl))

  -- another replica replies
  not_given : (q : ℕ) → (q == r) ≡ false → primary_of h ≡ Some r → is_given t q h ≡ false
  not_given q apart is =
      ap (λ x. x && is_open (phase_of t h)) (and_false (is_run_of t (length (given_to t h) + 1) (out_at q h)) (is_some_of q (primary_of h)) (ap (is_some_of q) is ∙ apart))

  given_kept : (q : ℕ) (told : JobReply) → (q == r) ≡ false → primary_of h ≡ Some r → given_to t (record { caller = c; event = event.Give q told } ∷ h) ≡ given_to t h
  given_kept q (reply.Ran (run.Done a)) apart is = no_more (is_given t q h) record { answer = a; stamp = length (log h) } (given_to t h) (not_given q apart is)
  given_kept q (reply.Ran (run.Blocked named)) apart is = refl
  given_kept q (reply.Ran (run.Deadlock cycle)) apart is = refl
  given_kept q (reply.Ran run.Lost) apart is = refl
  given_kept q (reply.Ran run.NoMemory) apart is = refl
  given_kept q (reply.Ended x) apart is = refl
  given_kept q reply.StillLost apart is = refl

  by_other : (q : ℕ) (told : JobReply) → (q == r) ≡ false → primary_of h ≡ Some r → is_open (phase_of t h) ≡ true → AreGiven (record { caller = c; event = event.Give q told } ∷ h) r t
  by_other q told apart is o =
      ap answers_given (given_kept q told apart is) ∙ before is o
      ∙ ap (λ x. answers (attempt t (next_journal (call_if x r told (λ p. out_at p h) (stmt_at h)) (journal_of r h)))) (sym apart)

  by_reply : (q : ℕ) (told : JobReply) (here loss : Bool) → (q == r) ≡ here → tells_loss told ≡ loss → Begun f s (record { caller = c; event = event.Give q told } ∷ h)
      → (primary_of h ≡ Some r) × (tells_loss told ≡ true → (q == r) ≡ false) → is_open (phase_of t h) ≡ true → AreGiven (record { caller = c; event = event.Give q told } ∷ h) r t
  by_reply q told false loss apart e b is o = by_other q told apart is.0 o
  by_reply q told true true same e b is o = absurd (not_both (q == r) same (is.1 e))
  by_reply q told true false same e b is o =
      let it = eqb-true q r same in
      subst (λ x. AreGiven (record { caller = c; event = event.Give x told } ∷ h) r t) (sym it)
      (by_primary told (subst (λ x. Begun f s (record { caller = c; event = event.Give x told } ∷ h)) it b) is.0 e o)

  by_restart : (q n : ℕ) (here : Bool) → (q == r) ≡ here → Begun f s (record { caller = c; event = event.Restarted q n } ∷ h) → primary_of h ≡ Some r → is_open (phase_of t h) ≡ true
      → AreGiven (record { caller = c; event = event.Restarted q n } ∷ h) r t
  by_restart q n false apart b is o = before is o ∙ ap (λ x. answers (attempt t (next_journal (restart_if x r n (λ p. out_at p h)) (journal_of r h)))) (sym apart)
  by_restart q n true same b is o =
      let out = (restart_allowed f s c h q n (call_allowed f s record { caller = c; event = event.Restarted q n } h b refl)).1 in
      absurd (not_both (settled (journal_of r h)).lost ((k.replicas r).lost (ap (λ x. out_at x h) (sym (eqb-true q r same)) ∙ out)) ((k.leads r).live is))

  -- a new primary: no open transaction was given an answer
  zero_given : IsElected (view_of f h) (turn_of h) r → is_open (phase_of t h) ≡ true → length (given_to t h) ≡ 0
  zero_given is o = elim ((k.leads r).vacant is.vacant t o) [ inl zero_long ↦ zero_long | inr gone ↦ by_birth (born_or_not (length (begun h)) t) gone ]
    where
      by_birth : IsBorn (length (begun h)) t ⊎ (IsBorn (length (begun h)) t → ⊥) → is_some (went h) ≡ true → length (given_to t h) ≡ 0
      by_birth (inl born) gone = absurd (refused_all f h is.settled gone t born o)
      by_birth (inr unborn) gone = (k.numbers.unborn t unborn).2

  by_election : IsElected (view_of f h) (turn_of h) r → is_open (phase_of t h) ≡ true → AreGiven h r t
  by_election is o =
      let none = zero_given is o in
      none_given (given_to t h) (attempt t (journal_of r h)) none (omega (arith, none, (k.leads r).follows t o))

  step : (e : Event) → Begun f s (record { caller = c; event = e } ∷ h) → primary_of (record { caller = c; event = e } ∷ h) ≡ Some r → is_open (phase_of t h) ≡ true
      → AreGiven (record { caller = c; event = e } ∷ h) r t
  step (event.Give q told) b is o = by_reply q told (q == r) (tells_loss told) refl refl b (still (tells_loss told) q r (primary_of h) is) o
  step (event.Restarted q n) b is o = by_restart q n (q == r) refl b is o
  step (event.NewPrimary q) b is o = by_election (subst (IsElected (view_of f h) (turn_of h)) (same_some q r is) (by_rule f s record { caller = c; event = event.NewPrimary q } h b refl)) o
  step (event.Convict q x) b is o = before (other_is q r (primary_of h) is).0 o
  step event.Suspect b is o = absurd (some_none r (sym is))
  step (event.Begin session txn) b is o =
      ap answers_given (given_at_begin h k.numbers txn (begin_allowed f s c h session txn (call_allowed f s record { caller = c; event = event.Begin session txn } h b refl)).0 t) ∙ before is o
  step (event.Submit txn index stmt) b is o = before is o
  step (event.AskCommit txn) b is o = before is o
  step (event.AskRollback txn) b is o = before is o
  step (event.Take q j) b is o = before is o
  step (event.Decide txn) b is o = before is o
  step (event.Refuse txn x) b is o = before is o
  step (event.Preempt q txn) b is o = before is o

pub given_by_primary : (f s t r : ℕ) (h : History) → Begun f s h → primary_of h ≡ Some r → is_open (phase_of t h) ≡ true → AreGiven h r t
given_by_primary f s t r [] b is o = refl
given_by_primary f s t r (e ∷ h) b is o =
    let b_before : Begun f s h = begun_before f s e h b in
    let k : Kept h = kept f s h b_before in
    let before : primary_of h ≡ Some r → is_open (phase_of t h) ≡ true → AreGiven h r t = λ was open_then. given_by_primary f s t r h b_before was open_then in
    step f s e.caller t r h k before e.event b is (opened f s e.caller t r h k before e.event b (is_open (phase_of t h)) refl o)
