-- What an event makes of the open transactions, and of those touched at a replica.
use Rattle.std.proofs.Common.{◌≡◌, ℕ, zero, suc, ◌+◌, ◌<◌, ◌≤◌, Bool, true, false, not, ◌&&◌, ◌||◌, ◌==◌, nat_lt, cond, if◌then◌else◌, Option, Some, Err, List, [], ◌∷◌, ◌++◌, length, filter, refl, ap, sym, ◌∙◌, arith, append-nil, IsTrue}
use Rattle.std.specs.List.{range_with_len}
use Rattle.std.proofs.lemmas.Bool.{eqb-true, eq-eqb, ne_eqb, lt-ltb, le-ltb}
use Rattle.std.proofs.lemmas.List.Elements.{filter-append}
use Rattle.hr_base.specs.Lists.{has, one_to}
use Rattle.hr_base.proofs.Tests.{eq_turn, and_false}
use Rattle.hr_engine.specs.Journal.{Call, Ran, Committed, RolledBack, Restarted}
use Rattle.hr_engine.specs.declared.reply.RunReply.TheVariants as run
use Rattle.hr_engine.specs.declared.reply.EndReply.TheVariants as end
use Rattle.hr_history.specs.declared.entry.Event.{Event}
use Rattle.hr_history.specs.declared.entry.Event.TheVariants as event
use Rattle.hr_history.specs.declared.job.Job.{Job}
use Rattle.hr_history.specs.declared.job.Job.TheVariants as job
use Rattle.hr_history.specs.declared.job.JobReply.{JobReply}
use Rattle.hr_history.specs.declared.job.JobReply.TheVariants as reply
use Rattle.hr_history.specs.declared.phase.Phase.{Phase}
use Rattle.hr_history.specs.declared.phase.Phase.TheVariants as phase
use Rattle.hr_history.specs.Transactions.{is_open, next_phase}
use Rattle.hr_history.specs.Replicas.{any_stmt, call_of, call_if, restart_of, restart_if}
use Rattle.hr_history.specs.View.{View, Attempt}
use Rattle.hr_history.specs.Processed.{phase_in, replica_in, attempt_in}
use Rattle.hr_history.specs.Jobs.{txn_numbers}
use Rattle.hr_history.specs.Faithful.{fits_job, is_restart}
use Rattle.hr_history.specs.Step.{out_in, call_in, touched_after, begun_by, view_step}
use Rattle.hr_moves.specs.Kept.{open_in, touched_in, entries_in, without, and_in_order, next_open, touched_by_reply, next_touched_in}
use Rattle.hr_moves.specs.Sane.{IsSane, IsKnown}
use Rattle.hr_moves.specs.Fits.{Fits}
use Rattle.hr_sane.proofs.Lists.{on_true, on_false}
use Rattle.hr_sane.proofs.Elsewhere.{no_call}
use Rattle.hr_sane.proofs.Next.{true_false, attempt_at, no_entry}
use Rattle.hr_sane.proofs.MeasureLaws.{phase_at, count_with}
use Rattle.hr_sane.proofs.MoveLaws.{restart_out}

-- ---- filters

filter_same : (p q : ℕ → Bool) (xs : List ℕ) → ((x : ℕ) → p x ≡ q x) → filter p xs ≡ filter q xs
filter_same p q [] each = refl
filter_same p q (x ∷ xs) each = λ i. cond (each x i) (x ∷ filter_same p q xs each i) (filter_same p q xs each i)

filter_none : (xs : List ℕ) → filter (λ x. false) xs ≡ []
filter_none [] = refl
filter_none (x ∷ xs) = filter_none xs

both_head : (p q : ℕ → Bool) (x : ℕ) (xs : List ℕ) (b : Bool) → p x ≡ b → filter (λ y. q y && p y) xs ≡ filter q (filter p xs)
    → cond (q x && b) (x ∷ filter (λ y. q y && p y) xs) (filter (λ y. q y && p y) xs) ≡ filter q (cond b (x ∷ filter p xs) (filter p xs))
both_head p q x xs true e ih = (λ i. cond (and_one (q x) i) (x ∷ ih i) (ih i))
  where
    and_one : (b : Bool) → (b && true) ≡ b
    and_one true = refl
    and_one false = refl
both_head p q x xs false e ih = (λ i. cond (and_false (q x) false refl i) (x ∷ filter (λ y. q y && p y) xs) (filter (λ y. q y && p y) xs)) ∙ ih

filter_both : (p q : ℕ → Bool) (xs : List ℕ) → filter (λ x. q x && p x) xs ≡ filter q (filter p xs)
filter_both p q [] = refl
filter_both p q (x ∷ xs) = (λ i. cond (q x && p x) (x ∷ filter (λ y. q y && p y) xs) (filter (λ y. q y && p y) xs)) ∙ both_head p q x xs (p x) refl (filter_both p q xs)

range_end : (a n : ℕ) → range_with_len a (suc n) ≡ range_with_len a n ++ (a + n) ∷ []
range_end a zero = ap (λ x. x ∷ []) (omega arith)
range_end a (suc n) = ap (λ xs. a ∷ xs) (range_end (a + 1) n ∙ ap (λ x. range_with_len (a + 1) n ++ x ∷ []) (omega arith))

filter_end : (p : ℕ → Bool) (xs : List ℕ) (x : ℕ) → filter p (xs ++ x ∷ []) ≡ filter p xs ++ cond (p x) (x ∷ []) []
filter_end p xs x = filter-append p xs (x ∷ [])

range_same : (p q : ℕ → Bool) (a n : ℕ) → ((x : ℕ) → a ≤ x → x < a + n → p x ≡ q x) → filter p (range_with_len a n) ≡ filter q (range_with_len a n)
range_same p q a zero each = refl
range_same p q a (suc n) each =
    λ i. cond (each a (omega arith) (omega arith) i) (a ∷ range_same p q (a + 1) n (λ x low high. each x (omega (arith, low)) (omega (arith, high))) i) (range_same p q (a + 1) n (λ x low high. each x (omega (arith, low)) (omega (arith, high))) i)

-- ---- one more, in its place

-- each is above
abbrev Above : ℕ → List ℕ → Type 0
Above a [] = Unit {0}
Above a (x ∷ xs) = a < x

above_by : (p : ℕ → Bool) (b : Bool) (a x : ℕ) (xs : List ℕ) → a < x → Above a xs → Above a (cond b (x ∷ xs) xs)
above_by p true a x xs lt rest = lt
above_by p false a x xs lt rest = rest

above_range : (p : ℕ → Bool) (a b n : ℕ) → a < b → Above a (filter p (range_with_len b n))
above_range p a b zero lt = tt
above_range p a b (suc n) lt = above_by p (p b) a b (filter p (range_with_len (b + 1) n)) lt (above_range p a (b + 1) n (omega (arith, lt)))

order_first : (u : ℕ) (xs : List ℕ) → Above u xs → and_in_order u xs ≡ u ∷ xs
order_first u [] above = refl
order_first u (x ∷ xs) above = on_true (nat_lt u x) (u ∷ x ∷ xs) _ (lt-ltb u x above)

module _ (p : ℕ → Bool) (u : ℕ) where
  abbrev more : ℕ → Bool
  more t = (t == u) || p t

  -- past it nothing is more
  more_past : (a n : ℕ) → u < a → filter more (range_with_len a n) ≡ filter p (range_with_len a n)
  more_past a n past = range_same more p a n (λ x low high. ap (λ b. b || p x) (ne_eqb x u (λ same. omega (arith, past, low, same))))

  at_by : (c : Bool) (a n : ℕ) → a ≡ u → p a ≡ c → a ∷ filter p (range_with_len (a + 1) n) ≡ and_in_order u (cond c (a ∷ filter p (range_with_len (a + 1) n)) (filter p (range_with_len (a + 1) n)))
  at_by true a n same e =
      let xs = filter p (range_with_len (a + 1) n) in
      sym (on_false (nat_lt u a) (u ∷ a ∷ xs) (if a == u then a ∷ xs else a ∷ and_in_order u xs) (le-ltb u a (omega (arith, same))) ∙ on_true (a == u) (a ∷ xs) (a ∷ and_in_order u xs) (eq-eqb a u same))
  at_by false a n same e =
      let xs = filter p (range_with_len (a + 1) n) in
      ap (λ x. x ∷ xs) same ∙ sym (order_first u xs (above_range p u (a + 1) n (omega (arith, same))))

  before_by : (c : Bool) (a n : ℕ) → a < u → filter more (range_with_len (a + 1) n) ≡ and_in_order u (filter p (range_with_len (a + 1) n))
      → cond c (a ∷ filter more (range_with_len (a + 1) n)) (filter more (range_with_len (a + 1) n)) ≡ and_in_order u (cond c (a ∷ filter p (range_with_len (a + 1) n)) (filter p (range_with_len (a + 1) n)))
  before_by true a n lt ih =
      let xs = filter p (range_with_len (a + 1) n) in
      ap (λ ys. a ∷ ys) ih
      ∙ sym (on_false (nat_lt u a) (u ∷ a ∷ xs) (if a == u then a ∷ xs else a ∷ and_in_order u xs) (le-ltb u a (omega (arith, lt))) ∙ on_false (a == u) (a ∷ xs) (a ∷ and_in_order u xs) (ne_eqb a u (λ same. omega (arith, lt, same))))
  before_by false a n lt ih = ih

  head_by : (b : Bool) (a n : ℕ) → (a == u) ≡ b → a ≤ u → u < a + suc n → (a + 1 ≤ u → u < a + 1 + n → filter more (range_with_len (a + 1) n) ≡ and_in_order u (filter p (range_with_len (a + 1) n)))
      → cond (b || p a) (a ∷ filter more (range_with_len (a + 1) n)) (filter more (range_with_len (a + 1) n)) ≡ and_in_order u (cond (p a) (a ∷ filter p (range_with_len (a + 1) n)) (filter p (range_with_len (a + 1) n)))
  head_by true a n e low high ih =
      let same : a ≡ u = eqb-true a u e in
      ap (λ xs. a ∷ xs) (more_past (a + 1) n (omega (arith, same))) ∙ at_by (p a) a n same refl
  head_by false a n e low high ih =
      let lt : a < u = omega (arith, low, apart) in
      before_by (p a) a n lt (ih (omega (arith, lt)) (omega (arith, high)))
    where
      apart : a ≡ u → ⊥
      apart same = true_false (eq-eqb a u same) e

  pub one_more_in : (a n : ℕ) → a ≤ u → u < a + n → filter more (range_with_len a n) ≡ and_in_order u (filter p (range_with_len a n))
  one_more_in a zero low high = absurd (omega (arith, low, high))
  one_more_in a (suc n) low high = head_by (a == u) a n refl low high (λ l h. one_more_in (a + 1) n l h)

-- ---- open transactions

shut_by : (b c : Bool) (x p : Phase) → b ≡ c → is_open x ≡ false → is_open (if b then x else p) ≡ (not c && is_open p)
shut_by true true x p e shut = shut
shut_by true false x p e shut = cc e
shut_by false true x p e shut = cc e
shut_by false false x p e shut = refl

asked_open : (v : View) (b : Bool) (u t n : ℕ) → (u == t) ≡ b → is_open (phase_in v u) ≡ true → is_open (if b then phase.Asked n else phase_in v t) ≡ is_open (phase_in v t)
asked_open v true u t n e was = sym (ap (λ x. is_open (phase_in v x)) (sym (eqb-true u t e)) ∙ was)
asked_open v false u t n e was = refl

module _ (v : View) (place asks : ℕ) (sane : IsSane v) where
  module _ (e : Event) (fits : Fits v e) where
    abbrev now : View
    now = view_step v place asks e

    same_numbers : begun_by e ≡ [] → txn_numbers now ≡ txn_numbers v
    same_numbers none = let count : length now.txns ≡ length v.txns = omega (arith, count_with v place asks sane e fits 0 (ap length none)) in ap one_to count

    open_by : (q : ℕ → Bool) → begun_by e ≡ [] → ((t : ℕ) → is_open (next_phase t e asks (length v.log) (phase_in v t)) ≡ q t) → open_in now ≡ filter q (txn_numbers v)
    open_by q none each =
        filter_same (λ t. is_open (phase_in now t)) q (txn_numbers now) (λ t. ap is_open (phase_at v place asks sane e fits t) ∙ each t) ∙ ap (filter q) (same_numbers none)

    open_same : begun_by e ≡ [] → ((t : ℕ) → is_open (next_phase t e asks (length v.log) (phase_in v t)) ≡ is_open (phase_in v t)) → open_in now ≡ open_in v
    open_same none each = open_by (λ t. is_open (phase_in v t)) none each

    open_less : (u : ℕ) → begun_by e ≡ [] → ((t : ℕ) → is_open (next_phase t e asks (length v.log) (phase_in v t)) ≡ (not (t == u) && is_open (phase_in v t))) → open_in now ≡ without u (open_in v)
    open_less u none each = open_by (λ t. not (t == u) && is_open (phase_in v t)) none each ∙ filter_both (λ t. is_open (phase_in v t)) (λ t. not (t == u)) (txn_numbers v)

  opens : (session txn : ℕ) (fits : Fits v (event.Begin session txn)) → open_in (view_step v place asks (event.Begin session txn)) ≡ open_in v ++ txn ∷ []
  opens session txn fits =
      let e = event.Begin session txn in
      let p : ℕ → Bool = λ t. is_open (phase_in (view_step v place asks e) t) in
      let count : length (view_step v place asks e).txns ≡ suc (length v.txns) = omega (arith, count_with v place asks sane e fits 1 refl) in
      let last : txn ≡ 1 + length v.txns = omega (arith, fits) in
      let new : p (1 + length v.txns) ≡ true = ap is_open (phase_at v place asks sane e fits (1 + length v.txns)) ∙ ap is_open (on_true (txn == 1 + length v.txns) phase.Active (phase_in v (1 + length v.txns)) (eq-eqb txn (1 + length v.txns) last)) in
      ap (λ n. filter p (one_to n)) count
      ∙ ap (filter p) (range_end 1 (length v.txns))
      ∙ filter_end p (one_to (length v.txns)) (1 + length v.txns)
      ∙ (λ i. range_same p (λ t. is_open (phase_in v t)) 1 (length v.txns) (λ x low high. ap is_open (phase_at v place asks sane e fits x) ∙ ap is_open (old x high)) i ++ cond (new i) (sym last i ∷ []) [])
    where
      old : (x : ℕ) → x < 1 + length v.txns → (if txn == x then phase.Active else phase_in v x) ≡ phase_in v x
      old x high = on_false (txn == x) phase.Active (phase_in v x) (ne_eqb txn x (λ same. omega (arith, fits, same, high)))

  pub open_next : (e : Event) → Fits v e → open_in (view_step v place asks e) ≡ next_open e (open_in v)
  open_next (event.Begin session txn) fits = opens session txn fits
  open_next (event.AskCommit txn) fits = open_same (event.AskCommit txn) fits refl (λ t. asked_open v (txn == t) txn t (asks + 1) refl fits)
  open_next (event.AskRollback txn) fits = open_less (event.AskRollback txn) fits txn refl (λ t. shut_by (txn == t) (t == txn) phase.RolledBack (phase_in v t) (eq_turn txn t) refl)
  open_next (event.Decide txn) fits = open_less (event.Decide txn) fits txn refl (λ t. shut_by (txn == t) (t == txn) (phase.Logged (length v.log + 1)) (phase_in v t) (eq_turn txn t) refl)
  open_next (event.Refuse txn cause) fits = open_less (event.Refuse txn cause) fits txn refl (λ t. shut_by (txn == t) (t == txn) phase.Refused (phase_in v t) (eq_turn txn t) refl)
  open_next (event.Submit txn index stmt) fits = open_same (event.Submit txn index stmt) fits refl (λ t. refl)
  open_next (event.Take q j) fits = open_same (event.Take q j) fits refl (λ t. refl)
  open_next (event.Give q told) fits = open_same (event.Give q told) fits refl (λ t. refl)
  open_next (event.Restarted q count) fits = open_same (event.Restarted q count) fits refl (λ t. refl)
  open_next event.Suspect fits = open_same event.Suspect fits refl (λ t. refl)
  open_next (event.Convict q x) fits = open_same (event.Convict q x) fits refl (λ t. refl)
  open_next (event.NewPrimary q) fits = open_same (event.NewPrimary q) fits refl (λ t. refl)
  open_next (event.Preempt q u) fits = open_same (event.Preempt q u) fits refl (λ t. refl)

  -- ---- touched ones

  module _ (r : ℕ) where
    abbrev was : ℕ → Bool
    was t = (attempt_in v r t).touched

    module _ (e : Event) (fits : Fits v e) where
      touched_by : (q : ℕ → Bool) → begun_by e ≡ [] → ((t : ℕ) → touched_after t (call_in v r e) (was t) ≡ q t) → touched_in (view_step v place asks e) r ≡ filter q (txn_numbers v)
      touched_by q none each =
          filter_same (λ t. (attempt_in (view_step v place asks e) r t).touched) q (txn_numbers (view_step v place asks e)) (λ t. ap (λ (a : Attempt). a.touched) (attempt_at v place asks e sane fits r t) ∙ each t)
          ∙ ap (filter q) (same_numbers e fits none)

      touched_same : begun_by e ≡ [] → ((t : ℕ) → touched_after t (call_in v r e) (was t) ≡ was t) → touched_in (view_step v place asks e) r ≡ touched_in v r
      touched_same none each = touched_by was none each

      no_touch : (t : ℕ) (b : Bool) → has (entries_in v r) t ≡ b → (IsKnown v t → ⊥) → was t ≡ false
      no_touch t true d far = absurd (far (sane.known r t d))
      no_touch t false d far = ap (λ (a : Attempt). a.touched) (no_entry v place asks e sane fits r t d)

    touched_at_begin : (session txn : ℕ) (fits : Fits v (event.Begin session txn)) → touched_in (view_step v place asks (event.Begin session txn)) r ≡ touched_in v r
    touched_at_begin session txn fits =
        let e = event.Begin session txn in
        let n = length v.txns in
        let p : ℕ → Bool = λ t. (attempt_in (view_step v place asks e) r t).touched in
        let same : (t : ℕ) → p t ≡ was t = λ t. ap (λ (a : Attempt). a.touched) (attempt_at v place asks e sane fits r t) in
        let count : length (view_step v place asks e).txns ≡ suc n = omega (arith, count_with v place asks sane e fits 1 refl) in
        let new : p (1 + n) ≡ false = same (1 + n) ∙ no_touch e fits (1 + n) (has (entries_in v r) (1 + n)) refl (λ known. omega (arith, known.1)) in
        ap (λ m. filter p (one_to m)) count
        ∙ ap (filter p) (range_end 1 n)
        ∙ filter_end p (one_to n) (1 + n)
        ∙ (λ i. filter_same p was (one_to n) same i ++ cond (new i) ((1 + n) ∷ []) [])
        ∙ append-nil (touched_in v r)

    none_touched : IsTrue (replica_in v r).lost → touched_in v r ≡ []
    none_touched lost = filter_same was (λ t. false) (txn_numbers v) (λ t. sane.stopped r t lost) ∙ filter_none (txn_numbers v)

    module _ (q : ℕ) (told : JobReply) (here : (q == r) ≡ true) (fits : Fits v (event.Give q told)) where
      abbrev e : Event
      e = event.Give q told

      abbrev after : List ℕ
      after = touched_in (view_step v place asks e) r

      -- by the call that the reply is
      touched_call : (o : Option Job) (c : Option Call) (p : ℕ → Bool) → out_in v r ≡ o → call_of o told (λ t i. any_stmt) ≡ c → ((t : ℕ) → touched_after t c (was t) ≡ p t) → after ≡ filter p (txn_numbers v)
      touched_call o c p out is each =
          let call = ap (λ b. call_if b r told (out_in v) (λ t i. any_stmt)) here ∙ ap (λ x. call_of x told (λ t i. any_stmt)) out ∙ is in
          touched_by e fits p refl (λ t. ap (λ x. touched_after t x (was t)) call ∙ each t)

      one_more : (t n : ℕ) → out_in v r ≡ Some (job.Run t n) → after ≡ filter (λ u. (u == t) || was u) (txn_numbers v) → after ≡ and_in_order t (touched_in v r)
      one_more t n out is = let known = sane.known r t (sane.out r (job.Run t n) out).1 in is ∙ one_more_in was t 1 (length v.txns) known.0 (omega (arith, known.1))

      all_gone : after ≡ filter (λ t. false) (txn_numbers v) → after ≡ []
      all_gone is = is ∙ filter_none (txn_numbers v)

      one_less : (t : ℕ) → after ≡ filter (λ u. not (u == t) && was u) (txn_numbers v) → after ≡ without t (touched_in v r)
      one_less t is = is ∙ filter_both was (λ u. not (u == t)) (txn_numbers v)

    replies_by : (q : ℕ) (told : JobReply) (o : Option Job) → (q == r) ≡ true → (fits : Fits v (event.Give q told)) → out_in v r ≡ o → IsTrue (fits_job told o) → touched_in (view_step v place asks (event.Give q told)) r ≡ touched_by_reply o told (touched_in v r)
    replies_by q (reply.Ran (run.Done answer)) (Some (job.Run t n)) here fits out ok =
        one_more q (reply.Ran (run.Done answer)) here fits t n out (touched_call q (reply.Ran (run.Done answer)) here fits (Some (job.Run t n)) (Some (Ran t any_stmt (run.Done answer))) (λ u. (u == t) || was u) out refl (λ u. refl))
    replies_by q (reply.Ran (run.Blocked named)) (Some (job.Run t n)) here fits out ok =
        one_more q (reply.Ran (run.Blocked named)) here fits t n out (touched_call q (reply.Ran (run.Blocked named)) here fits (Some (job.Run t n)) (Some (Ran t any_stmt (run.Blocked named))) (λ u. (u == t) || was u) out refl (λ u. refl))
    replies_by q (reply.Ran (run.Deadlock cycle)) (Some (job.Run t n)) here fits out ok =
        one_more q (reply.Ran (run.Deadlock cycle)) here fits t n out (touched_call q (reply.Ran (run.Deadlock cycle)) here fits (Some (job.Run t n)) (Some (Ran t any_stmt (run.Deadlock cycle))) (λ u. (u == t) || was u) out refl (λ u. refl))
    replies_by q (reply.Ran run.Lost) (Some (job.Run t n)) here fits out ok =
        all_gone q (reply.Ran run.Lost) here fits (touched_call q (reply.Ran run.Lost) here fits (Some (job.Run t n)) (Some (Ran t any_stmt run.Lost)) (λ u. false) out refl (λ u. refl))
    replies_by q (reply.Ran run.NoMemory) (Some (job.Run t n)) here fits out ok =
        touched_call q (reply.Ran run.NoMemory) here fits (Some (job.Run t n)) (Some (Ran t any_stmt run.NoMemory)) was out refl (λ u. refl)
    replies_by q (reply.Ended end.Done) (Some (job.Commit t)) here fits out ok =
        one_less q (reply.Ended end.Done) here fits t (touched_call q (reply.Ended end.Done) here fits (Some (job.Commit t)) (Some (Committed t end.Done)) (λ u. not (u == t) && was u) out refl (λ u. refl))
    replies_by q (reply.Ended end.Lost) (Some (job.Commit t)) here fits out ok =
        all_gone q (reply.Ended end.Lost) here fits (touched_call q (reply.Ended end.Lost) here fits (Some (job.Commit t)) (Some (Committed t end.Lost)) (λ u. false) out refl (λ u. refl))
    replies_by q (reply.Ended end.Done) (Some (job.Rollback t)) here fits out ok =
        one_less q (reply.Ended end.Done) here fits t (touched_call q (reply.Ended end.Done) here fits (Some (job.Rollback t)) (Some (RolledBack t end.Done)) (λ u. not (u == t) && was u) out refl (λ u. refl))
    replies_by q (reply.Ended end.Lost) (Some (job.Rollback t)) here fits out ok =
        all_gone q (reply.Ended end.Lost) here fits (touched_call q (reply.Ended end.Lost) here fits (Some (job.Rollback t)) (Some (RolledBack t end.Lost)) (λ u. false) out refl (λ u. refl))
    replies_by q reply.StillLost (Some job.Restart) here fits out ok =
        all_gone q reply.StillLost here fits (touched_call q reply.StillLost here fits (Some job.Restart) (Some (Restarted (Err record {}))) (λ u. false) out refl (λ u. refl)) ∙ sym (none_touched (sane.out r job.Restart out))
    replies_by q _ _ here fits out ok = cc ok

    give_by : (q : ℕ) (told : JobReply) (b : Bool) → (q == r) ≡ b → (fits : Fits v (event.Give q told)) → touched_in (view_step v place asks (event.Give q told)) r ≡ (if b then touched_by_reply (out_in v r) told (touched_in v r) else touched_in v r)
    give_by q told true e fits = replies_by q told (out_in v r) e fits refl (ap (λ x. fits_job told (out_in v x)) (sym (eqb-true q r e)) ∙ fits.1)
    give_by q told false e fits = touched_same (event.Give q told) fits refl (λ t. ap (λ c. touched_after t c (was t)) (no_call r v (event.Give q told) e))

    restart_each : (q count t : ℕ) (b : Bool) → (q == r) ≡ b → Fits v (event.Restarted q count) → touched_after t (restart_if b r count (out_in v)) (was t) ≡ was t
    restart_each q count t true e fits =
        let out : out_in v r ≡ Some job.Restart = restart_out v place asks sane (out_in v r) (ap (λ x. is_restart (out_in v x)) (sym (eqb-true q r e)) ∙ fits.1) in
        ap (λ o. touched_after t (restart_of o count) (was t)) out ∙ sym (sane.stopped r t (sane.out r job.Restart out))
    restart_each q count t false e fits = refl

    pub touched_next : (e : Event) → Fits v e → touched_in (view_step v place asks e) r ≡ next_touched_in r e (out_in v r) (touched_in v r)
    touched_next (event.Begin session txn) fits = touched_at_begin session txn fits
    touched_next (event.Give q told) fits = give_by q told (q == r) refl fits
    touched_next (event.Restarted q count) fits = touched_same (event.Restarted q count) fits refl (λ t. restart_each q count t (q == r) refl fits)
    touched_next (event.AskCommit txn) fits = touched_same (event.AskCommit txn) fits refl (λ t. refl)
    touched_next (event.AskRollback txn) fits = touched_same (event.AskRollback txn) fits refl (λ t. refl)
    touched_next (event.Decide txn) fits = touched_same (event.Decide txn) fits refl (λ t. refl)
    touched_next (event.Refuse txn cause) fits = touched_same (event.Refuse txn cause) fits refl (λ t. refl)
    touched_next (event.Submit txn index stmt) fits = touched_same (event.Submit txn index stmt) fits refl (λ t. refl)
    touched_next (event.Take q j) fits = touched_same (event.Take q j) fits refl (λ t. refl)
    touched_next event.Suspect fits = touched_same event.Suspect fits refl (λ t. refl)
    touched_next (event.Convict q x) fits = touched_same (event.Convict q x) fits refl (λ t. refl)
    touched_next (event.NewPrimary q) fits = touched_same (event.NewPrimary q) fits refl (λ t. refl)
    touched_next (event.Preempt q u) fits = touched_same (event.Preempt q u) fits refl (λ t. refl)
