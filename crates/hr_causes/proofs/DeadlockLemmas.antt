-- The primary's Deadlock is no evidence: it is one that a correct replica may tell.
use Rattle.std.proofs.Common.{◌≡◌, inl, inr, ℕ, ◌+◌, ◌*◌, ◌<◌, Bool, true, false, not, ◌&&◌, ◌==◌, Option, Some, None, List, [], ◌∷◌, ◌++◌, length, map, option_and_then, refl, ap, sym, ◌∙◌, arith}
use Rattle.std.specs.List.{list_all}
use Rattle.std.proofs.lemmas.Bool.{and_parts, or_cases, eqb-true, eq-eqb, ne_eqb, not-true}
use Rattle.hr_base.specs.Lists.{has, is_empty, is_distinct, last_of, first_some, when}
use Rattle.hr_base.proofs.ListLaws.{all_agree_on}
use Rattle.hr_base.proofs.Tests.{or_false}
use Rattle.hr_engine.specs.Journal.{Ran}
use Rattle.hr_engine.specs.Attempts.{RanStmt, attempt, answers, is_running}
use Rattle.hr_engine.specs.Waits.{wait, is_chain, is_sound_deadlock}
use Rattle.hr_engine.specs.declared.reply.RunReply.{RunReply}
use Rattle.hr_engine.specs.declared.reply.RunReply.TheVariants as run
use Rattle.hr_engine.proofs.WaitLaws.{wait-deadlock_other}
use Rattle.hr_history.specs.declared.entry.Event.{Event}
use Rattle.hr_history.specs.declared.entry.Event.TheVariants as event
use Rattle.hr_history.specs.declared.evidence.Evidence.{Evidence}
use Rattle.hr_history.specs.declared.evidence.Evidence.TheVariants as evidence
use Rattle.hr_history.specs.declared.cause.CauseAt.{CauseAt}
use Rattle.hr_history.specs.declared.job.Job.TheVariants as job
use Rattle.hr_history.specs.declared.job.JobReply.TheVariants as reply
use Rattle.hr_history.specs.declared.phase.Fresh.{Fresh}
use Rattle.hr_history.specs.History.{History}
use Rattle.hr_history.specs.ReplicaNumbers.{replica_numbers}
use Rattle.hr_history.specs.Replicas.{out_at, journal_of, stmt_at, call_if, call_of, next_journal}
use Rattle.hr_history.specs.Attempts.{last_told}
use Rattle.hr_history.specs.Turn.{Turn, turn_of, fresh_of, replies_to_runs}
use Rattle.hr_history.specs.View.{View, Attempt, view_of, is_fresh}
use Rattle.hr_history.specs.Processed.{replica_in, runs_in, wait_in, named_in}
use Rattle.hr_history.specs.Evidence.{evidence_of, differs, bad_waits, bad_reply, bad_restart, asker_of}
use Rattle.hr_history.specs.Rules.{convict_with, owed_conviction, conviction_of, convict, due_in}
use Rattle.hr_history.proofs.WaitLaws.{wait_of_last}
use Rattle.hr_history.proofs.AttemptSteps.{attempt_lookup}
use Rattle.hr_records.proofs.Options.{On, on_some, then_on, first_of_on, when_on, first_none, some_none, in_range}
use Rattle.hr_records.proofs.NumberSteps.{not_both}

-- WHAT IS DUE IS A REFUSAL, SO NOBODY IS TO BE CONVICTED
abbrev IsConviction : Event → Type 0
IsConviction e = (r : ℕ) × (x : Evidence) × (e ≡ event.Convict r x)

no_refusal : (t : ℕ) (c : CauseAt) → IsConviction (event.Refuse t c) → ⊥
no_refusal t c is = cc is.2

owed_convicts : (v : View) (turn : Turn) → On IsConviction (owed_conviction v turn)
owed_convicts v turn = then_on IsConviction (convict_with v.primary) turn.owed (λ c owed. of_primary v.primary c)
  where
    of_primary : (o : Option ℕ) (c : _) → On IsConviction (convict_with o c)
    of_primary None c = tt
    of_primary (Some p) c = (p, evidence.Contradicted c.txn c.index, refl)

evidence_convicts : (v : View) (turn : Turn) → On IsConviction (convict v turn)
evidence_convicts v turn = first_of_on IsConviction (conviction_of v turn) (replica_numbers v.f) (λ r there.
    then_on IsConviction (λ e. when (not (replica_in v r).convicted) (event.Convict r e)) (evidence_of v r turn) (λ e shown.
    when_on IsConviction (not (replica_in v r).convicted) (event.Convict r e) (λ un. (r, e, refl))))

skip : (o : Option Event) (os : List (Option Event)) (t : ℕ) (c : CauseAt) → On IsConviction o → first_some (o ∷ os) ≡ Some (event.Refuse t c) → (o ≡ None) × (first_some os ≡ Some (event.Refuse t c))
skip None os t c on e = (refl, e)
skip (Some x) os t c on e = absurd (no_refusal t c (on_some IsConviction (Some x) (event.Refuse t c) e on))

pub nobody_convicted : (v : View) (turn : Turn) (t : ℕ) (c : CauseAt) → due_in v turn ≡ Some (event.Refuse t c) → convict v turn ≡ None
nobody_convicted v turn t c e =
    let a = skip (owed_conviction v turn) _ t c (owed_convicts v turn) e in
    (skip (convict v turn) _ t c (evidence_convicts v turn) a.1).0

none_of : (g : ℕ → Option Event) (xs : List ℕ) (x : ℕ) → first_some (map g xs) ≡ None → has xs x ≡ true → g x ≡ None
none_of g [] x none there = cc there
none_of g (y ∷ xs) x none there =
    let parts = first_none (g y) (map g xs) none in
    elim (or_cases (y == x) (has xs x) there) [ inl same ↦ ap g (sym (eqb-true y x same)) ∙ parts.0 | inr later ↦ none_of g xs x parts.1 later ]

no_evidence_by : (r : ℕ) (b : Bool) (o : Option Evidence) → b ≡ false → option_and_then (λ e. when (not b) (event.Convict r e)) o ≡ None → o ≡ None
no_evidence_by r b None e none = refl
no_evidence_by r true (Some x) e none = cc e
no_evidence_by r false (Some x) e none = absurd (some_none (event.Convict r x) none)

pub no_evidence : (v : View) (turn : Turn) (r : ℕ) → convict v turn ≡ None → r < 2 * v.f + 1 → (replica_in v r).convicted ≡ false → evidence_of v r turn ≡ None
no_evidence v turn r none lt un =
    no_evidence_by r (replica_in v r).convicted (evidence_of v r turn) un (none_of (conviction_of v turn) (replica_numbers v.f) r none (in_range 0 (2 * v.f + 1) r (omega arith) (omega (arith, lt))))

no_bad_waits : (v : View) (turn : Turn) (r : ℕ) → evidence_of v r turn ≡ None → bad_waits v r ≡ None
no_bad_waits v turn r none =
    let a = first_none (differs v r) (bad_waits v r ∷ bad_restart r turn.bad_count ∷ []) none in
    (first_none (bad_waits v r) (bad_restart r turn.bad_count ∷ []) a.1).0

asked_here : (r t : ℕ) (o : Option Fresh) → o ≡ Some record { replica = r; txn = t } → asker_of r o ≡ Some t
asked_here r t o is = ap (asker_of r) is ∙ ap (λ b. when b t) (eq-eqb r r refl)

sound_by : (b : Bool) (t : ℕ) → when (not b) (evidence.BadDeadlock t) ≡ None → b ≡ true
sound_by true t none = refl
sound_by false t none = absurd (some_none (evidence.BadDeadlock t) none)

-- the reply of this turn is a Deadlock that is no evidence
view_sound : (v : View) (turn : Turn) (r t : ℕ) (cycle : List ℕ) → evidence_of v r turn ≡ None → v.fresh ≡ Some record { replica = r; txn = t } → last_of v.replies ≡ Some (run.Deadlock cycle)
    → is_sound_deadlock (runs_in v r) (wait_in v r) t cycle ≡ true
view_sound v turn r t cycle none fresh told =
    sound_by (is_sound_deadlock (runs_in v r) (wait_in v r) t cycle) t
    (sym (ap (λ o. option_and_then (λ u. bad_reply (runs_in v r) (wait_in v r) (length (replica_in v r).attempts) u o) (Some t)) told)
    ∙ sym (ap (λ o. option_and_then (λ u. bad_reply (runs_in v r) (wait_in v r) (length (replica_in v r).attempts) u (last_of v.replies)) o) (asked_here r t v.fresh fresh))
    ∙ no_bad_waits v turn r none)

-- WHAT THE VIEW TELLS OF WAITS IS WHAT THE JOURNAL TELLS
empty_answers : (steps : List RanStmt) → is_empty (answers steps) ≡ is_empty steps
empty_answers [] = refl
empty_answers (s ∷ steps) = refl

module _ (f r t : ℕ) (h : History) (lt : r < 2 * f + 1) where
  running_seen : (u : ℕ) → runs_in (view_of f h) r u ≡ is_running u (journal_of r h)
  running_seen u = ap (λ (a : Attempt). not (is_empty a.answers)) (attempt_lookup f r u h lt) ∙ ap not (empty_answers (attempt u (journal_of r h)))

  not_fresh : (u : ℕ) → fresh_of h ≡ Some record { replica = r; txn = t } → (u ≡ t → ⊥) → is_fresh (fresh_of h) r u ≡ false
  not_fresh u fresh other = ap (λ o. is_fresh o r u) fresh ∙ ap (λ b. (r == r) && b) (ne_eqb t u (λ same. other (sym same))) ∙ and_no (r == r)
    where
      and_no : (b : Bool) → (b && false) ≡ false
      and_no true = refl
      and_no false = refl

  waits_seen : (u : ℕ) → fresh_of h ≡ Some record { replica = r; txn = t } → (u ≡ t → ⊥) → wait_in (view_of f h) r u ≡ wait u (journal_of r h)
  waits_seen u fresh other =
      ap (λ (a : Attempt). named_in a.last) (attempt_lookup f r u h lt)
      ∙ ap (λ b. named_in (last_told b u (journal_of r h))) (not_fresh u fresh other)
      ∙ wait_of_last false u (journal_of r h)

-- SOUND BY THE SAME WORDS
chain_same : (w x : ℕ → List ℕ) (t : ℕ) → ((u : ℕ) → (u ≡ t → ⊥) → w u ≡ x u) → (path : List ℕ) → has path t ≡ false → is_chain w (path ++ t ∷ []) ≡ is_chain x (path ++ t ∷ [])
chain_same w x t same [] apart = refl
chain_same w x t same (u ∷ []) apart = ap (λ ts. has ts t && true) (same u (λ is. not_there is apart))
  where
    not_there : u ≡ t → has (u ∷ []) t ≡ false → ⊥
    not_there is apart = cc (eq-eqb u t is, apart)
chain_same w x t same (u ∷ v ∷ path) apart =
    let parts = or_false (u == t) (has (v ∷ path) t) apart in
    λ i. has (same u (λ is. not_both (u == t) (eq-eqb u t is) parts.0) i) v && chain_same w x t same (v ∷ path) parts.1 i

sound_same : (p q : ℕ → Bool) (w x : ℕ → List ℕ) (t : ℕ) → ((u : ℕ) → p u ≡ q u) → ((u : ℕ) → (u ≡ t → ⊥) → w u ≡ x u) → (cycle : List ℕ)
    → is_sound_deadlock p w t cycle ≡ true → is_sound_deadlock q x t cycle ≡ true
sound_same p q w x t runs waits [] is = cc is
sound_same p q w x t runs waits (first ∷ others) is =
    let last = and_parts ((first == t) && not (is_empty others) && is_distinct (first ∷ others) && list_all p others) (is_chain w (others ++ t ∷ [])) is in
    let four = and_parts ((first == t) && not (is_empty others) && is_distinct (first ∷ others)) (list_all p others) last.0 in
    let three = and_parts ((first == t) && not (is_empty others)) (is_distinct (first ∷ others)) four.0 in
    let two = and_parts (first == t) (not (is_empty others)) three.0 in
    let apart = not-true (has others first) (and_parts (not (has others first)) (is_distinct others) three.1).0 in
    together three.0 three.1
    (sym (all_agree_on p q others (λ u there. runs u)) ∙ four.1)
    (sym (chain_same w x t waits others (ap (has others) (sym (eqb-true first t two.0)) ∙ apart)) ∙ last.1)
  where
    together : ((first == t) && not (is_empty others)) ≡ true → is_distinct (first ∷ others) ≡ true → list_all q others ≡ true → is_chain x (others ++ t ∷ []) ≡ true
        → is_sound_deadlock q x t (first ∷ others) ≡ true
    together a b c d = λ i. a i && b i && c i && d i

-- THE JOURNAL AFTER THE REPLY
journal_after : (c r t i : ℕ) (told : RunReply) (h : History) → out_at r h ≡ Some (job.Run t i)
    → journal_of r (record { caller = c; event = event.Give r (reply.Ran told) } ∷ h) ≡ Ran t (stmt_at h t i) told ∷ journal_of r h
journal_after c r t i told h out =
    ap (λ b. next_journal (call_if b r (reply.Ran told) (λ q. out_at q h) (stmt_at h)) (journal_of r h)) (eq-eqb r r refl)
    ∙ ap (λ o. next_journal (call_of o (reply.Ran told) (stmt_at h)) (journal_of r h)) out

-- the Deadlock of this turn is sound by the journal before it
pub sound_before : (f r t i c : ℕ) (cycle : List ℕ) (older h : History) → r < 2 * f + 1 → evidence_of (view_of f h) r (turn_of h) ≡ None
    → fresh_of h ≡ Some record { replica = r; txn = t } → last_of (replies_to_runs h) ≡ Some (run.Deadlock cycle)
    → journal_of r h ≡ journal_of r (record { caller = c; event = event.Give r (reply.Ran (run.Deadlock cycle)) } ∷ older) → out_at r older ≡ Some (job.Run t i)
    → is_sound_deadlock (λ u. is_running u (journal_of r older)) (λ u. wait u (journal_of r older)) t cycle ≡ true
sound_before f r t i c cycle older h lt none fresh told same out =
    sound_same (runs_in (view_of f h) r) (λ u. is_running u (journal_of r older)) (wait_in (view_of f h) r) (λ u. wait u (journal_of r older)) t
    (λ u. running_seen f r t h lt u ∙ ap (is_running u) journal)
    (λ u other. waits_seen f r t h lt u fresh other ∙ ap (wait u) journal ∙ wait-deadlock_other (journal_of r older) t u (stmt_at older t i) cycle other)
    cycle (view_sound (view_of f h) (turn_of h) r t cycle none fresh told)
  where
    journal : journal_of r h ≡ Ran t (stmt_at older t i) (run.Deadlock cycle) ∷ journal_of r older
    journal = same ∙ journal_after c r t i (run.Deadlock cycle) older out
