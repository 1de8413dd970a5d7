-- What every history keeps of the primary's part, entry by entry.
use Rattle.std.proofs.Common.{◌≡◌, ◌⊎◌, inl, inr, ℕ, suc, ◌+◌, ◌*◌, ◌<◌, ◌≤◌, Bool, true, false, not, ◌==◌, ◌&&◌, ◌||◌, if◌then◌else◌, Option, Some, None, is_some, option_map, option_and_then, find, List, [], ◌∷◌, ◌++◌, length, refl, ap, sym, ◌∙◌, subst, arith, length-append}
use Rattle.std.proofs.lemmas.Bool.{and_parts, or_cases, or_right, eqb-true, eq-eqb, ne_eqb}
use Rattle.hr_base.specs.Lists.{has, is_empty}
use Rattle.hr_rel.specs.declared.answer.Answer.{Answer}
use Rattle.hr_rel.specs.declared.stmt.Stmt.{Stmt}
use Rattle.hr_engine.specs.declared.reply.RunReply.{RunReply}
use Rattle.hr_engine.specs.declared.reply.RunReply.TheVariants as run
use Rattle.hr_engine.specs.declared.reply.EndReply.{EndReply}
use Rattle.hr_engine.specs.declared.reply.EndReply.TheVariants as end
use Rattle.hr_engine.specs.Journal.{Call, Ran, Committed, RolledBack, Journal}
use Rattle.hr_engine.specs.Attempts.{attempt}
use Rattle.hr_engine.specs.Base.{settled, count}
use Rattle.hr_history.specs.declared.entry.Event.TheVariants as event
use Rattle.hr_history.specs.declared.job.Job.{Job}
use Rattle.hr_history.specs.declared.job.Job.TheVariants as job
use Rattle.hr_history.specs.declared.job.JobReply.{JobReply}
use Rattle.hr_history.specs.declared.job.JobReply.TheVariants as reply
use Rattle.hr_history.specs.declared.cause.CauseAt.{CauseAt}
use Rattle.hr_history.specs.declared.cause.CauseAt.TheVariants as cause
use Rattle.hr_history.specs.declared.cause.Why.TheVariants as why
use Rattle.hr_history.specs.declared.evidence.Evidence.{Evidence}
use Rattle.hr_history.specs.declared.phase.Phase.{Phase}
use Rattle.hr_history.specs.declared.phase.Phase.TheVariants as phase
use Rattle.hr_history.specs.History.{History}
use Rattle.hr_history.specs.Transactions.{begun, log, asks, phase_of, is_open}
use Rattle.hr_history.specs.Primary.{primary_of, is_some_of, other_than}
use Rattle.hr_history.specs.Replicas.{out_at, stmt_at, call_of, call_if, restart_of, restart_if, next_journal, journal_of}
use Rattle.hr_history.specs.Given.{given_to}
use Rattle.hr_history.specs.Attempts.{is_touched, is_preempted, unless_ended}
use Rattle.hr_history.specs.Turn.{Gone, gone_if, went, turn_of}
use Rattle.hr_history.specs.View.{view_of}
use Rattle.hr_history.specs.Processed.{phase_in, replica_in, answers_in, runs_in}
use Rattle.hr_history.specs.Preemption.{stays}
use Rattle.hr_history.specs.Jobs.{txn_numbers}
use Rattle.hr_history.specs.Rules.{refuse_for, primary_gone, due, owed_conviction, convict}
use Rattle.hr_history.specs.Faithful.{fits_job}
use Rattle.hr_records.specs.ByRule.{IsJobOf, IsElected, GivesWay}
use Rattle.hr_records.specs.Numbers.{IsBorn}
use Rattle.hr_records.specs.Leads.{Leads, LeadsAt}
use Rattle.hr_records.specs.Kept.{Kept}
use Rattle.hr_records.proofs.Options.{some_none, same_some, first_none, none_mapped, find_none, in_range}
use Rattle.hr_records.proofs.Places.{same_or_not, if_same, if_other}
use Rattle.hr_records.proofs.Born.{born_or_not}
use Rattle.hr_records.proofs.NumberSteps.{not_both}
use Rattle.hr_records.proofs.NumberLemmas.{phase_at_begin, given_at_begin}
use Rattle.hr_records.proofs.ViewWords.{how_many, phase_seen, lost_seen, answers_seen}
use Rattle.hr_records.proofs.Allowed.{ran_out}
use Rattle.hr_records.proofs.JobWords.{many, RunTaken, run_taken, commit_taken, rollback_taken}
use Rattle.hr_records.proofs.GiveLemmas.{is_given, is_given_at, given_not, given_where, one_more, no_more, at_least}
use Rattle.hr_records.proofs.ReplicaLemmas.{ended_out, still_out}
use Rattle.hr_records.proofs.LeadSteps.{calm, closes, goes, elects, takes, gives_elsewhere, silent, runs_on, all_end, one_ends, preempted_more}

-- where nothing is due, nobody has to be refused for the primary's going
pub none_for_gone : (f : ℕ) (h : History) → due f h ≡ None → primary_gone (view_of f h) (turn_of h) ≡ None
none_for_gone f h e =
    let a = first_none (owed_conviction (view_of f h) (turn_of h)) _ e in
    let b = first_none (convict (view_of f h) (turn_of h)) _ a.1 in
    (first_none (primary_gone (view_of f h) (turn_of h)) _ b.1).0

-- so none is open, where it went
none_open_by : (f : ℕ) (h : History) (o : Option Gone) → option_and_then (refuse_for (view_of f h) (turn_of h)) o ≡ None → is_some o ≡ true → (t : ℕ) → IsBorn (length (begun h)) t → is_open (phase_of t h) ≡ true → ⊥
none_open_by f h None e gone t born o = cc gone
none_open_by f h (Some g) e gone t born o =
    let v = view_of f h in
    let none = none_mapped (λ t. event.Refuse t (cause.PrimaryChanged g.from g.why g.at)) (find (λ t. is_open (phase_in v t)) (txn_numbers v)) e in
    let there : has (txn_numbers v) t ≡ true = in_range 1 (length v.txns) t born.0 (omega (arith, born.1, how_many f h)) in
    let closed : is_open (phase_in v t) ≡ false = find_none (λ t. is_open (phase_in v t)) (txn_numbers v) none t there in
    not_both (is_open (phase_of t h)) o (ap is_open (sym (phase_seen f t h born)) ∙ closed)

pub refused_all : (f : ℕ) (h : History) → primary_gone (view_of f h) (turn_of h) ≡ None → is_some (went h) ≡ true → (t : ℕ) → IsBorn (length (begun h)) t → is_open (phase_of t h) ≡ true → ⊥
refused_all f h none gone t born o = none_open_by f h (went h) none gone t born o

other_not : (r : ℕ) (o : Option ℕ) → other_than r o ≡ Some r → ⊥
other_not r None e = some_none r (sym e)
other_not r (Some p) e = by_test (r == p) refl e
  where
    by_test : (b : Bool) → (r == p) ≡ b → (if b then None else Some p) ≡ Some r → ⊥
    by_test true same e = some_none r (sym e)
    by_test false differ e = not_both (r == p) (eq-eqb r p (sym (same_some p r e))) differ

not_empty : (steps : List Answer) → not (is_empty steps) ≡ true → 1 ≤ length steps
not_empty [] e = cc
not_empty (x ∷ xs) e = omega arith

module _ (h : History) (k : Kept h) (r : ℕ) where
  abbrev J : Journal
  J = journal_of r h

  abbrev Words : Option ℕ → Bool → Type 0
  Words primary gone =
      Leads r primary gone (λ t. is_open (phase_of t h)) (λ t. length (given_to t h)) (λ t. length (attempt t (journal_of r h))) (out_at r h) (λ t. is_preempted r t h) (settled (journal_of r h)).lost

  its : LeadsAt r h
  its = k.leads r

  -- an open transaction, in a turn in which all have been refused, hasn't begun
  unborn_has : ((t : ℕ) → IsBorn (length (begun h)) t → is_open (phase_of t h) ≡ true → ⊥) → (t : ℕ) → is_open (phase_of t h) ≡ true → (length (given_to t h) ≡ 0) × ((i : ℕ) → out_at r h ≡ Some (job.Run t i) → ⊥)
  unborn_has none t o = elim (born_or_not (length (begun h)) t) [
    | inl born ↦ absurd (none t born o)
    | inr unborn ↦ ((k.numbers.unborn t unborn).2, λ i e. unborn (k.numbers.runs r t i e).0)
  ]

  module _ (f : ℕ) (nothing : due f h ≡ None) where
    calmed : Words (primary_of h) false
    calmed =
        calm its
        (λ t o gone. unborn_has (λ u born o_u. refused_all f h (none_for_gone f h nothing) gone u born o_u) t o)

    pub lead_at_begin : (c session txn : ℕ) → txn ≡ length (begun h) + 1 → LeadsAt r (record { caller = c; event = event.Begin session txn } ∷ h)
    lead_at_begin c session txn next =
        let active : (λ t. is_open (phase_of t h)) ≡ (λ t. is_open (if txn == t then phase.Active else phase_of t h)) = λ i t. is_open (sym (phase_at_begin h k.numbers txn next t) i) in
        let given : (λ t. length (given_to t h)) ≡ (λ t. length (if txn == t then [] else given_to t h)) = λ i t. length (sym (given_at_begin h k.numbers txn next t) i) in
        subst (λ a. Leads r (primary_of h) false a (λ t. length (if txn == t then [] else given_to t h)) (λ t. length (attempt t J)) (out_at r h) (λ t. is_preempted r t h) (settled J).lost) active
        (subst (λ n. Leads r (primary_of h) false (λ t. is_open (phase_of t h)) n (λ t. length (attempt t J)) (out_at r h) (λ t. is_preempted r t h) (settled J).lost) given calmed)

    pub lead_at_submit : (c txn index : ℕ) (stmt : Stmt) → LeadsAt r (record { caller = c; event = event.Submit txn index stmt } ∷ h)
    lead_at_submit c txn index stmt = calmed

    ends_calm : (txn : ℕ) (p : Phase) → is_open (phase_of txn h) ≡ true
        → Leads r (primary_of h) false (λ t. is_open (if txn == t then p else phase_of t h)) (λ t. length (given_to t h)) (λ t. length (attempt t J)) (out_at r h) (λ t. is_preempted r t h) (settled J).lost
    ends_calm txn p o =
        closes calmed
        (λ t. is_open (if txn == t then p else phase_of t h)) (λ t now. was t now (same_or_not txn t))
      where
        was : (t : ℕ) → is_open (if txn == t then p else phase_of t h) ≡ true → (txn ≡ t) ⊎ (txn ≡ t → ⊥) → is_open (phase_of t h) ≡ true
        was t now (inl same) = ap (λ u. is_open (phase_of u h)) (sym same) ∙ o
        was t now (inr other) = ap is_open (sym (if_other txn t p (phase_of t h) other)) ∙ now

    pub lead_at_ask : (c txn : ℕ) → is_open (phase_of txn h) ≡ true → LeadsAt r (record { caller = c; event = event.AskCommit txn } ∷ h)
    lead_at_ask c txn o = ends_calm txn (phase.Asked (asks h + 1)) o

    pub lead_at_rollback : (c txn : ℕ) → is_open (phase_of txn h) ≡ true → LeadsAt r (record { caller = c; event = event.AskRollback txn } ∷ h)
    lead_at_rollback c txn o = ends_calm txn phase.RolledBack o

    pub lead_at_take : (c q : ℕ) (j : Job) → q < 2 * f + 1 → IsJobOf (view_of f h) q j → LeadsAt r (record { caller = c; event = event.Take q j } ∷ h)
    lead_at_take c q j lt is = by_test (q == r) refl
      where
        of_run : (t i : ℕ) → q ≡ r → RunTaken q t i h → (i ≤ length (given_to t h)) ⊎ (primary_of h ≡ Some r)
        of_run t i same run = elim run.place [ inl first ↦ inr (first.0 ∙ ap Some same) | inr later ↦ inl later.1 ]

        closed_place : (p : Phase) (place : ℕ) → p ≡ phase.Logged place → is_open p ≡ false
        closed_place p place e = ap is_open e

        by_test : (b : Bool) → (q == r) ≡ b
            → Leads r (primary_of h) false (λ t. is_open (phase_of t h)) (λ t. length (given_to t h)) (λ t. length (attempt t J)) (if b then Some j else out_at r h) (λ t. is_preempted r t h) (settled J).lost
        by_test true e =
            let same = eqb-true q r e in
            takes calmed j
            (λ t i e o. of_run t i same (run_taken f q h lt t i k.numbers (subst (IsJobOf (view_of f h) q) e is)))
            (λ t e. (let w = rollback_taken f q h lt t (subst (IsJobOf (view_of f h) q) e is) in elim w.why [ inl closed ↦ inl closed | inr was ↦ inr (ap (λ p. is_preempted p t h) (sym same) ∙ was) ]))
            (λ t e. closed_place (phase_of t h) (suc (count (journal_of q h))) ((k.numbers.logged t (suc (count (journal_of q h)))).1 (commit_taken f q h lt t k.numbers (subst (IsJobOf (view_of f h) q) e is)).next))
        by_test false e = calmed

    -- a loss is told by q
    lost_elsewhere : (q : ℕ) → Words (other_than q (primary_of h)) (is_some (gone_if (true && is_some_of q (primary_of h)) q why.Lost (length h)))
    lost_elsewhere q = by_test (is_some_of q (primary_of h))
      where
        by_test : (b : Bool) → Words (if b then None else primary_of h) (is_some (gone_if (true && b) q why.Lost (length h)))
        by_test true =
            goes calmed
        by_test false = calmed

    given_elsewhere : (q : ℕ) (a : Answer) → (q ≡ r → ⊥) → fits_job (reply.Ran (run.Done a)) (out_at q h) ≡ true
        → Leads r (primary_of h) false (λ t. is_open (phase_of t h)) (λ t. length (if is_given t q h then given_to t h ++ record { answer = a; stamp = length (log h) } ∷ [] else given_to t h))
        (λ t. length (attempt t J)) (out_at r h) (λ t. is_preempted r t h) (settled J).lost
    given_elsewhere q a other fits =
        let o = ran_out (run.Done a) (out_at q h) fits in
        gives_elsewhere calmed
        (λ t. length (if is_given t q h then given_to t h ++ record { answer = a; stamp = length (log h) } ∷ [] else given_to t h)) (λ t. at_least (is_given t q h) _ (given_to t h))
        (λ primary t. kept o.0 o.1 o.2 t (λ p. other (same_some q r (sym p ∙ primary))) (same_or_not o.0 t))
        (λ none t. kept o.0 o.1 o.2 t (λ p. some_none q (sym p ∙ none)) (same_or_not o.0 t))
      where
        not_given : (b : Bool) → (b ≡ true → ⊥) → b ≡ false
        not_given true never = absurd (never refl)
        not_given false never = refl

        kept : (u i : ℕ) → out_at q h ≡ Some (job.Run u i) → (t : ℕ) → (primary_of h ≡ Some q → ⊥) → (u ≡ t) ⊎ (u ≡ t → ⊥)
            → length (if is_given t q h then given_to t h ++ record { answer = a; stamp = length (log h) } ∷ [] else given_to t h) ≡ length (given_to t h)
        kept u i out t never (inl same) =
            ap length (no_more (is_given t q h) _ (given_to t h) (not_given (is_given t q h) (λ is. never (given_where t i q h (out ∙ ap (λ x. Some (job.Run x i)) same) is).1)))
        kept u i out t never (inr differs) = ap length (no_more (is_given t q h) _ (given_to t h) (given_not t u i q h out differs))

    elsewhere : (q : ℕ) (told : JobReply) → (q ≡ r → ⊥) → fits_job told (out_at q h) ≡ true
        → Leads r (primary_of (record { caller = q; event = event.Give q told } ∷ h)) (is_some (went (record { caller = q; event = event.Give q told } ∷ h))) (λ t. is_open (phase_of t h))
        (λ t. length (given_to t (record { caller = q; event = event.Give q told } ∷ h))) (λ t. length (attempt t J)) (out_at r h) (λ t. is_preempted r t h) (settled J).lost
    elsewhere q (reply.Ran (run.Done a)) other fits = given_elsewhere q a other fits
    elsewhere q (reply.Ran (run.Blocked named)) other fits = calmed
    elsewhere q (reply.Ran (run.Deadlock cycle)) other fits = calmed
    elsewhere q (reply.Ran run.Lost) other fits = lost_elsewhere q
    elsewhere q (reply.Ran run.NoMemory) other fits = calmed
    elsewhere q (reply.Ended end.Done) other fits = calmed
    elsewhere q (reply.Ended end.Lost) other fits = lost_elsewhere q
    elsewhere q reply.StillLost other fits = lost_elsewhere q

    -- what r itself replies
    abbrev After : Option ℕ → Bool → (ℕ → ℕ) → Option Call → Type 0
    After primary gone given c =
        Leads r primary gone (λ t. is_open (phase_of t h)) given (λ t. length (attempt t (next_journal c J))) None (λ t. unless_ended t c (is_preempted r t h)) (settled (next_journal c J)).lost

    -- all attempts end at a loss
    ends_all : (q : ℕ) (lost : Bool) → q ≡ r
        → Leads r (other_than q (primary_of h)) (is_some (gone_if (true && is_some_of q (primary_of h)) q why.Lost (length h))) (λ t. is_open (phase_of t h)) (λ t. length (given_to t h)) (λ t. 0) None (λ t. false) lost
    ends_all q lost same =
        all_end calmed
        (other_than q (primary_of h)) (is_some (gone_if (true && is_some_of q (primary_of h)) q why.Lost (length h))) lost
        (λ e. other_not r (primary_of h) (ap (λ x. other_than x (primary_of h)) (sym same) ∙ e)) (by_test (is_some_of q (primary_of h)))
      where
        by_test : (b : Bool) → (if b then None else primary_of h) ≡ None → (t : ℕ) → is_open (phase_of t h) ≡ true → (length (given_to t h) ≡ 0) ⊎ (is_some (gone_if (true && b) q why.Lost (length h)) ≡ true)
        by_test true e t o = inr refl
        by_test false e t o = calmed.vacant e t o

    -- one attempt ends
    ends_one : (t : ℕ) → (is_open (phase_of t h) ≡ false) ⊎ (is_preempted r t h ≡ true)
        → Leads r (primary_of h) false (λ u. is_open (phase_of u h)) (λ u. length (given_to u h)) (λ u. length (if u == t then [] else attempt u J)) None (λ u. not (u == t) && is_preempted r u h) (settled J).lost
    ends_one t why =
        one_ends calmed
        t (λ u. length (if u == t then [] else attempt u J)) (λ u. not (u == t) && is_preempted r u h) why
        (ap length (if_same t t [] (attempt t J) refl)) (ap (λ b. not b && is_preempted r t h) (eq-eqb t t refl))
        (λ u other. ap length (if_other u t [] (attempt u J) (λ e. other (sym e)))) (λ u other. ap (λ b. not b && is_preempted r u h) (ne_eqb u t (λ e. other (sym e))))

    done_now : (q t i : ℕ) (a : Answer) (stmt : Stmt) → q ≡ r → out_at r h ≡ Some (job.Run t i)
        → After (primary_of h) false (λ u. length (if is_given u q h then given_to u h ++ record { answer = a; stamp = length (log h) } ∷ [] else given_to u h)) (Some (Ran t stmt (run.Done a)))
    done_now q t i a stmt same out =
        let out_q : out_at q h ≡ Some (job.Run t i) = ap (λ p. out_at p h) same ∙ out in
        runs_on calmed
        t i (λ u. length (if is_given u q h then given_to u h ++ record { answer = a; stamp = length (log h) } ∷ [] else given_to u h)) (λ u. length (attempt u (Ran t stmt (run.Done a) ∷ J)))
        refl out ((k.replicas r).runs t i out)
        (ap length (if_same t t _ (attempt t J) refl) ∙ length-append (attempt t J) (record { stmt = stmt; answer = a } ∷ []))
        (λ u other. ap length (if_other u t _ (attempt u J) (λ e. other (sym e))))
        (λ u other. ap length (no_more (is_given u q h) _ (given_to u h) (given_not u t i q h out_q other)))
        (at_least (is_given t q h) _ (given_to t h))
        (λ primary o index. one_more (is_given t q h) _ (given_to t h) (is_given_at t i q h out_q index (primary ∙ ap Some (sym same)) o))
        (λ none u. ap length (no_more (is_given u q h) _ (given_to u h) (nobody none u (same_or_not t u))))
      where
        not_given : (b : Bool) → (b ≡ true → ⊥) → b ≡ false
        not_given true never = absurd (never refl)
        not_given false never = refl

        nobody : primary_of h ≡ None → (u : ℕ) → (t ≡ u) ⊎ (t ≡ u → ⊥) → is_given u q h ≡ false
        nobody none u (inl e) =
            let out_u : out_at q h ≡ Some (job.Run u i) = ap (λ p. out_at p h) same ∙ out ∙ ap (λ x. Some (job.Run x i)) e in
            not_given (is_given u q h) (λ is. some_none q (sym (given_where u i q h out_u is).1 ∙ none))
        nobody none u (inr other) = given_not u t i q h (ap (λ p. out_at p h) same ∙ out) other

    quiet : Leads r (primary_of h) false (λ t. is_open (phase_of t h)) (λ t. length (given_to t h)) (λ t. length (attempt t J)) None (λ t. is_preempted r t h) (settled J).lost
    quiet = silent calmed

    abbrev Then : ℕ → JobReply → Option Call → Type 0
    Then q told c =
        After (primary_of (record { caller = q; event = event.Give q told } ∷ h)) (is_some (went (record { caller = q; event = event.Give q told } ∷ h))) (λ t. length (given_to t (record { caller = q; event = event.Give q told } ∷ h))) c

    run_told : (q t i : ℕ) (x : RunReply) (stmt : Stmt) → q ≡ r → out_at r h ≡ Some (job.Run t i) → Then q (reply.Ran x) (Some (Ran t stmt x))
    run_told q t i (run.Done a) stmt same out = done_now q t i a stmt same out
    run_told q t i (run.Blocked named) stmt same out = quiet
    run_told q t i (run.Deadlock cycle) stmt same out = quiet
    run_told q t i run.Lost stmt same out = ends_all q true same
    run_told q t i run.NoMemory stmt same out = quiet

    commit_told : (q t : ℕ) (x : EndReply) → q ≡ r → out_at r h ≡ Some (job.Commit t) → Then q (reply.Ended x) (Some (Committed t x))
    commit_told q t end.Done same out = ends_one t (inl (its.commits t out))
    commit_told q t end.Lost same out = ends_all q true same

    rollback_told : (q t : ℕ) (x : EndReply) → q ≡ r → out_at r h ≡ Some (job.Rollback t) → Then q (reply.Ended x) (Some (RolledBack t x))
    rollback_told q t end.Done same out = ends_one t (its.rolls_back t out)
    rollback_told q t end.Lost same out = ends_all q true same

    here : (q : ℕ) (told : JobReply) → q ≡ r → fits_job told (out_at r h) ≡ true → Then q told (call_of (out_at r h) told (stmt_at h))
    here q (reply.Ran x) same fits =
        let o = ran_out x (out_at r h) fits in
        subst (λ p. Then q (reply.Ran x) (call_of p (reply.Ran x) (stmt_at h))) (sym o.2) (run_told q o.0 o.1 x (stmt_at h o.0 o.1) same o.2)
    here q (reply.Ended x) same fits =
        let o = ended_out x (out_at r h) fits in
        elim o.1 [
          | inl commit ↦ subst (λ p. Then q (reply.Ended x) (call_of p (reply.Ended x) (stmt_at h))) (sym commit) (commit_told q o.0 x same commit)
          | inr rollback ↦ subst (λ p. Then q (reply.Ended x) (call_of p (reply.Ended x) (stmt_at h))) (sym rollback) (rollback_told q o.0 x same rollback)
        ]
    here q reply.StillLost same fits =
        subst (λ p. Then q reply.StillLost (call_of p reply.StillLost (stmt_at h))) (sym (still_out (out_at r h) fits)) (ends_all q true same)

    pub lead_at_give : (c q : ℕ) (told : JobReply) → fits_job told (out_at q h) ≡ true → LeadsAt r (record { caller = c; event = event.Give q told } ∷ h)
    lead_at_give c q told fits = by_test (q == r) refl
      where
        differs : (q == r) ≡ false → q ≡ r → ⊥
        differs e same = not_both (q == r) (eq-eqb q r same) e

        by_test : (b : Bool) → (q == r) ≡ b
            → Leads r (primary_of (record { caller = q; event = event.Give q told } ∷ h)) (is_some (went (record { caller = q; event = event.Give q told } ∷ h))) (λ t. is_open (phase_of t h))
            (λ t. length (given_to t (record { caller = q; event = event.Give q told } ∷ h))) (λ t. length (attempt t (next_journal (call_if b r told (λ p. out_at p h) (stmt_at h)) J)))
            (if b then None else out_at r h) (λ t. unless_ended t (call_if b r told (λ p. out_at p h) (stmt_at h)) (is_preempted r t h)) (settled (next_journal (call_if b r told (λ p. out_at p h) (stmt_at h)) J)).lost
        by_test true e = let same = eqb-true q r e in here q told same (subst (λ p. fits_job told (out_at p h) ≡ true) same fits)
        by_test false e = elsewhere q told (differs e) fits

    pub lead_at_restarted : (c q n : ℕ) → out_at q h ≡ Some job.Restart → LeadsAt r (record { caller = c; event = event.Restarted q n } ∷ h)
    lead_at_restarted c q n out = by_test (q == r) refl
      where
        by_test : (b : Bool) → (q == r) ≡ b
            → Leads r (primary_of h) false (λ t. is_open (phase_of t h)) (λ t. length (given_to t h)) (λ t. length (attempt t (next_journal (restart_if b r n (λ p. out_at p h)) J)))
            (if b then None else out_at r h) (λ t. unless_ended t (restart_if b r n (λ p. out_at p h)) (is_preempted r t h)) (settled (next_journal (restart_if b r n (λ p. out_at p h)) J)).lost
        by_test true e =
            let out_r : out_at r h ≡ Some job.Restart = subst (λ p. out_at p h ≡ Some job.Restart) (eqb-true q r e) out in
            subst (λ o. After (primary_of h) false (λ t. length (given_to t h)) (restart_of o n)) (sym out_r)
            (all_end calmed
            (primary_of h) false false (λ p. not_both (settled J).lost ((k.replicas r).lost out_r) (its.live p)) calmed.vacant)
        by_test false e = calmed

    pub lead_at_suspect : (c : ℕ) → LeadsAt r (record { caller = c; event = event.Suspect } ∷ h)
    lead_at_suspect c = by_primary (primary_of h) refl
      where
        by_primary : (o : Option ℕ) → primary_of h ≡ o → Words None (is_some {T = Gone} (option_map (λ (p : ℕ). record { from = p; why = why.Suspected; at = length h }) o))
        by_primary None e = subst (λ p. Words p false) e calmed
        by_primary (Some p) e =
            goes calmed

  ends_in_turn : (txn : ℕ) (p : Phase) → is_open p ≡ false
      → Leads r (primary_of h) (is_some (went h)) (λ t. is_open (if txn == t then p else phase_of t h)) (λ t. length (given_to t h)) (λ t. length (attempt t J)) (out_at r h) (λ t. is_preempted r t h) (settled J).lost
  ends_in_turn txn p closed =
      closes its
      (λ t. is_open (if txn == t then p else phase_of t h)) (λ t now. was t now (same_or_not txn t))
    where
      was : (t : ℕ) → is_open (if txn == t then p else phase_of t h) ≡ true → (txn ≡ t) ⊎ (txn ≡ t → ⊥) → is_open (phase_of t h) ≡ true
      was t now (inl same) = absurd (not_both (is_open p) (ap is_open (sym (if_same txn t p (phase_of t h) same)) ∙ now) closed)
      was t now (inr other) = ap is_open (sym (if_other txn t p (phase_of t h) other)) ∙ now

  pub lead_at_decide : (c txn : ℕ) → LeadsAt r (record { caller = c; event = event.Decide txn } ∷ h)
  lead_at_decide c txn = ends_in_turn txn (phase.Logged (length (log h) + 1)) refl

  pub lead_at_refuse : (c txn : ℕ) (x : CauseAt) → LeadsAt r (record { caller = c; event = event.Refuse txn x } ∷ h)
  lead_at_refuse c txn x = ends_in_turn txn phase.Refused refl

  pub lead_at_convict : (c q : ℕ) (x : Evidence) → LeadsAt r (record { caller = c; event = event.Convict q x } ∷ h)
  lead_at_convict c q x = by_test (is_some_of q (primary_of h))
    where
      by_test : (b : Bool) → Words (if b then None else primary_of h) (is_some (if b then Some record { from = q; why = why.Convicted; at = length h } else went h))
      by_test true =
          goes its
      by_test false = its

  pub lead_at_new : (f c q : ℕ) → IsElected (view_of f h) (turn_of h) q → LeadsAt r (record { caller = c; event = event.NewPrimary q } ∷ h)
  lead_at_new f c q is =
      elects its
      q is.vacant (λ t o gone. (unborn_has (λ u born o_u. refused_all f h is.settled gone u born o_u) t o).0)
      (λ same. ap (λ p. (settled (journal_of p h)).lost) (sym same) ∙ sym (lost_seen f q h is.replica) ∙ live (replica_in (view_of f h) q).lost (and_parts (not (replica_in (view_of f h) q).lost) _ is.live).0)
    where
      live : (b : Bool) → not b ≡ true → b ≡ false
      live true e = cc
      live false e = refl

  pub lead_at_preempt : (f c q txn : ℕ) → GivesWay (view_of f h) q txn → LeadsAt r (record { caller = c; event = event.Preempt q txn } ∷ h)
  lead_at_preempt f c q txn is = by_test (q == r) refl
    where
      attempted : q ≡ r → 1 ≤ length (attempt txn J)
      attempted same =
          let first = and_parts (runs_in (view_of f h) q txn && stays (view_of f h) q txn) _ is.gives_way in
          let runs = (and_parts (runs_in (view_of f h) q txn) (stays (view_of f h) q txn) first.0).0 in
          let some = not_empty (answers_in (view_of f h) q txn) runs in
          let told : length (answers_in (view_of f h) q txn) ≡ length (attempt txn (journal_of q h)) = ap (λ (x : List Answer). length x) (answers_seen f q h is.replica txn) ∙ many (attempt txn (journal_of q h)) in
          let moved : length (attempt txn (journal_of q h)) ≡ length (attempt txn J) = ap (λ p. length (attempt txn (journal_of p h))) same in
          omega (arith, some, told, moved)

      runs : (b : Bool) → (q == r) ≡ b → (t : ℕ) → ((b && (txn == t) && is_touched t J) || is_preempted r t h) ≡ true → 1 ≤ length (attempt t J)
      runs b e t now = elim (or_cases (b && (txn == t) && is_touched t J) (is_preempted r t h) now) [
        | inl new ↦ (
            let two = and_parts (b && (txn == t)) (is_touched t J) new in
            let one = and_parts b (txn == t) two.0 in
            subst (λ u. 1 ≤ length (attempt u J)) (eqb-true txn t one.1) (attempted (eqb-true q r (e ∙ one.0))))
        | inr was ↦ its.preempts t was
      ]

      secondary : (b : Bool) → (q == r) ≡ b → b ≡ true → primary_of h ≡ Some r → ⊥
      secondary b e holds primary = not_both (is_some_of q (primary_of h)) (ap (is_some_of q) primary ∙ e ∙ holds) is.secondary

      by_test : (b : Bool) → (q == r) ≡ b
          → Leads r (primary_of h) (is_some (went h)) (λ t. is_open (phase_of t h)) (λ t. length (given_to t h)) (λ t. length (attempt t J)) (out_at r h) (λ t. (b && (txn == t) && is_touched t J) || is_preempted r t h) (settled J).lost
      by_test true e =
          preempted_more its
          (λ t. (true && (txn == t) && is_touched t J) || is_preempted r t h) (secondary true e refl) (λ t was. or_right _ (is_preempted r t h) was) (runs true e)
      by_test false e = its
