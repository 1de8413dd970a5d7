-- What a reply makes of numbers, and of what was given.
use Rattle.std.proofs.Common.{◌≡◌, ◌⊎◌, inl, inr, ℕ, ◌+◌, ◌≤◌, Bool, true, false, ◌==◌, ◌&&◌, if◌then◌else◌, Option, Some, None, List, [], ◌∷◌, ◌++◌, length, refl, ap, sym, ◌∙◌, subst, arith, length-append}
use Rattle.std.proofs.lemmas.Bool.{and_parts, eqb-true, eq-eqb, ne_eqb}
use Rattle.hr_rel.specs.declared.answer.Answer.{Answer}
use Rattle.hr_engine.specs.declared.reply.RunReply.TheVariants as run
use Rattle.hr_history.specs.declared.entry.Event.TheVariants as event
use Rattle.hr_history.specs.declared.job.Job.{Job}
use Rattle.hr_history.specs.declared.job.Job.TheVariants as job
use Rattle.hr_history.specs.declared.job.JobReply.{JobReply}
use Rattle.hr_history.specs.declared.job.JobReply.TheVariants as reply
use Rattle.hr_history.specs.declared.reply.Reply.TheVariants as told
use Rattle.hr_history.specs.History.{History}
use Rattle.hr_history.specs.Transactions.{begun, log, submits, phase_of, is_open}
use Rattle.hr_history.specs.Replicas.{out_at}
use Rattle.hr_history.specs.Primary.{primary_of, is_some_of}
use Rattle.hr_history.specs.Given.{Given, found, given_to, is_run_of, is_primary_run}
use Rattle.hr_history.specs.Replies.{reply_to, reply_if, gives_to, is_waiting, is_of}
use Rattle.hr_history.specs.Faithful.{fits_job}
use Rattle.hr_records.specs.Numbers.{IsBorn, IsBalanced, Numbers, NumbersAt}
use Rattle.hr_records.proofs.Options.{some_none, same_some}
use Rattle.hr_records.proofs.Places.{same_or_not, numbered_some}
use Rattle.hr_records.proofs.NumberSteps.{open_unlogged, answered, redirected, stays_out}
use Rattle.hr_records.proofs.NumberLemmas.{told_as_before, not_replied}
use Rattle.hr_records.proofs.Allowed.{ran_out}
use Rattle.hr_records.proofs.JobWords.{primary_is, RunTaken}

-- whether a Done of replica r now is the answer to the next statement of a transaction
abbrev pub is_given : ℕ → ℕ → History → Bool
is_given t r h = is_primary_run t (length (given_to t h) + 1) r (found t h)

-- it is where the statement is out at the primary, and the transaction is open
pub given_where : (t i r : ℕ) (h : History) → out_at r h ≡ Some (job.Run t i) → is_given t r h ≡ true → (i ≡ length (given_to t h) + 1) × (primary_of h ≡ Some r) × (is_open (phase_of t h) ≡ true)
given_where t i r h out is =
    let all = and_parts (is_run_of t (length (given_to t h) + 1) (out_at r h) && is_some_of r (primary_of h)) (is_open (phase_of t h)) is in
    let first = and_parts (is_run_of t (length (given_to t h) + 1) (out_at r h)) (is_some_of r (primary_of h)) all.0 in
    let run : ((t == t) && (i == length (given_to t h) + 1)) ≡ true = sym (ap (is_run_of t (length (given_to t h) + 1)) out) ∙ first.0 in
    (eqb-true i (length (given_to t h) + 1) (and_parts (t == t) _ run).1, primary_is r (primary_of h) first.1, all.1)

pub is_given_at : (t i r : ℕ) (h : History) → out_at r h ≡ Some (job.Run t i) → i ≡ length (given_to t h) + 1 → primary_of h ≡ Some r → is_open (phase_of t h) ≡ true → is_given t r h ≡ true
is_given_at t i r h out index primary o =
    let run : is_run_of t (length (given_to t h) + 1) (out_at r h) ≡ true =
    ap (is_run_of t (length (given_to t h) + 1)) out ∙ ap (λ b. b && (i == length (given_to t h) + 1)) (eq-eqb t t refl) ∙ eq-eqb i (length (given_to t h) + 1) index in
    let here : is_some_of r (primary_of h) ≡ true = ap (is_some_of r) primary ∙ eq-eqb r r refl in
    λ k. run k && here k && o k

pub given_not : (u t i r : ℕ) (h : History) → out_at r h ≡ Some (job.Run t i) → (t ≡ u → ⊥) → is_given u r h ≡ false
given_not u t i r h out other =
    ap (λ o. is_run_of u (length (given_to u h) + 1) o && is_some_of r (primary_of h) && is_open (phase_of u h)) out
    ∙ ap (λ b. b && (i == length (given_to u h) + 1) && is_some_of r (primary_of h) && is_open (phase_of u h)) (ne_eqb t u other)

pub one_more : (b : Bool) (x : Given) (xs : List Given) → b ≡ true → length (if b then xs ++ x ∷ [] else xs) ≡ length xs + 1
one_more true x xs e = length-append xs (x ∷ [])
one_more false x xs e = cc

pub no_more : (b : Bool) (x : Given) (xs : List Given) → b ≡ false → (if b then xs ++ x ∷ [] else xs) ≡ xs
no_more true x xs e = cc
no_more false x xs e = refl

pub at_least : (b : Bool) (x : Given) (xs : List Given) → length xs ≤ length (if b then xs ++ x ∷ [] else xs)
at_least true x xs = omega (arith, length-append xs (x ∷ []))
at_least false x xs = omega arith

-- the job that was out is out no more
out_gone : (b : Bool) (o : Option Job) (j : Job) → (if b then None else o) ≡ Some j → o ≡ Some j
out_gone true o j e = absurd (some_none j (sym e))
out_gone false o j e = e

out_new : (b : Bool) (o : Option Job) (k j : Job) → (if b then Some k else o) ≡ Some j → ((b ≡ true) × (k ≡ j)) ⊎ (o ≡ Some j)
out_new true o k j e = inl (refl, same_some k j e)
out_new false o k j e = inr e

module _ (h : History) (g : NumbersAt h) where
  -- none is out at r
  replied_to : (r : ℕ) → Numbers (begun h) (λ t. phase_of t h) (log h) (λ t. length (submits t h)) (λ t. length (given_to t h)) (λ s. is_waiting (reply_to s h)) (λ q. if r == q then None else out_at q h)
  replied_to r =
      redirected g
      (λ q. if r == q then None else out_at q h) (λ q t i e. g.runs q t i (out_gone (r == q) (out_at q h) (job.Run t i) e))

  pub at_restarted : (c r count : ℕ) → NumbersAt (record { caller = c; event = event.Restarted r count } ∷ h)
  at_restarted c r count = replied_to r

  pub at_take : (c r : ℕ) (j : Job) → ((t i : ℕ) → j ≡ job.Run t i → RunTaken r t i h) → NumbersAt (record { caller = c; event = event.Take r j } ∷ h)
  at_take c r j taken =
      redirected g
      (λ q. if r == q then Some j else out_at q h) (λ q t i e. of_out q t i (out_new (r == q) (out_at q h) j (job.Run t i) e))
    where
      of_out : (q t i : ℕ) → (((r == q) ≡ true) × (j ≡ job.Run t i)) ⊎ (out_at q h ≡ Some (job.Run t i)) → IsBorn (length (begun h)) t × (i ≤ length (submits t h))
      of_out q t i (inl new) = let it = taken t i new.1 in (it.born, it.submitted)
      of_out q t i (inr old) = g.runs q t i old

  -- a Done
  module _ (c r t i : ℕ) (a : Answer) (out : out_at r h ≡ Some (job.Run t i)) where
    abbrev Waits : ℕ → Bool
    Waits q = is_waiting (reply_if (gives_to q r (out_at r h) h) (told.Answered a) (reply_to q h))

    abbrev Answers : ℕ → ℕ
    Answers u = length (if is_given u r h then given_to u h ++ record { answer = a; stamp = length (log h) } ∷ [] else given_to u h)

    gives : (q : ℕ) → gives_to q r (out_at r h) h ≡ is_of q t h && is_given t r h
    gives q = ap (λ o. gives_to q r o h) out

    other_given : (u : ℕ) → (t ≡ u → ⊥) → Answers u ≡ length (given_to u h)
    other_given u other = ap length (no_more (is_given u r h) _ (given_to u h) (given_not u t i r h out other))

    no_and : (b : Bool) → (b && false) ≡ false
    no_and true = refl
    no_and false = refl

    nothing_given : is_given t r h ≡ false → Numbers (begun h) (λ u. phase_of u h) (log h) (λ u. length (submits u h)) Answers Waits (λ q. if r == q then None else out_at q h)
    nothing_given none =
        let givs : (λ u. length (given_to u h)) ≡ Answers = λ k u. sym (given_same u (same_or_not t u)) k in
        let waits : (λ q. is_waiting (reply_to q h)) ≡ Waits = λ k q. sym (waits_same q) k in
        subst (λ n. Numbers (begun h) (λ u. phase_of u h) (log h) (λ u. length (submits u h)) n Waits (λ q. if r == q then None else out_at q h)) givs
        (subst (λ w. Numbers (begun h) (λ u. phase_of u h) (log h) (λ u. length (submits u h)) (λ u. length (given_to u h)) w (λ q. if r == q then None else out_at q h)) waits (replied_to r))
      where
        given_same : (u : ℕ) → (t ≡ u) ⊎ (t ≡ u → ⊥) → Answers u ≡ length (given_to u h)
        given_same u (inl same) = ap length (no_more (is_given u r h) _ (given_to u h) (ap (λ x. is_given x r h) (sym same) ∙ none))
        given_same u (inr other) = other_given u other

        waits_same : (q : ℕ) → Waits q ≡ is_waiting (reply_to q h)
        waits_same q =
            ap (λ b. is_waiting (reply_if b (told.Answered a) (reply_to q h))) (gives q ∙ ap (λ b. is_of q t h && b) none ∙ no_and (is_of q t h))
            ∙ ap is_waiting (not_replied (told.Answered a) (reply_to q h))

    and_true : (b : Bool) → (b && true) ≡ b
    and_true true = refl
    and_true false = refl

    one_given : is_given t r h ≡ true → Numbers (begun h) (λ u. phase_of u h) (log h) (λ u. length (submits u h)) Answers Waits (λ q. if r == q then None else out_at q h)
    one_given is =
        let facts = given_where t i r h out is in
        let run = g.runs r t i out in
        let session = numbered_some (begun h) t run.0 in
        let more : Answers t ≡ length (given_to t h) + 1 = one_more (is_given t r h) _ (given_to t h) is in
        let le : length (given_to t h) + 1 ≤ length (submits t h) = omega (arith, facts.0, run.1) in
        let gives_now : (q : ℕ) → gives_to q r (out_at r h) h ≡ is_of q t h = λ q. gives q ∙ ap (λ b. is_of q t h && b) is ∙ and_true (is_of q t h) in
        let next : Numbers (begun h) (λ u. phase_of u h) (log h) (λ u. length (submits u h)) Answers Waits (λ q. out_at q h) =
        stays_out g
        t session.0 session.1 facts.2 (λ u. phase_of u h) (λ u. length (submits u h)) Answers Waits
        (λ u other. refl) (λ u other. refl) (λ u other. other_given u other)
        (λ q other. ap (λ b. is_waiting (reply_if b (told.Answered a) (reply_to q h))) (gives_now q) ∙ told_as_before t session.0 h session.1 q (told.Answered a) (reply_to q h) other)
        (λ place e. open_unlogged (phase_of t h) place facts.2 e) (omega arith)
        (subst (λ n. IsBalanced (phase_of t h) (length (submits t h)) n (Waits session.0)) (sym more)
        (answered (phase_of t h) (length (submits t h)) (length (given_to t h)) (is_waiting (reply_to session.0 h)) (Waits session.0) facts.2 le (g.balance t session.0 session.1))) in
        redirected next
        (λ q. if r == q then None else out_at q h) (λ q u k e. g.runs q u k (out_gone (r == q) (out_at q h) (job.Run u k) e))

    pub at_done : NumbersAt (record { caller = c; event = event.Give r (reply.Ran (run.Done a)) } ∷ h)
    at_done = by_test (is_given t r h) refl
      where
        by_test : (b : Bool) → is_given t r h ≡ b → Numbers (begun h) (λ u. phase_of u h) (log h) (λ u. length (submits u h)) Answers Waits (λ q. if r == q then None else out_at q h)
        by_test true e = one_given e
        by_test false e = nothing_given e

  pub at_give : (c r : ℕ) (told : JobReply) → fits_job told (out_at r h) ≡ true → NumbersAt (record { caller = c; event = event.Give r told } ∷ h)
  at_give c r (reply.Ran (run.Done a)) fits = let o = ran_out (run.Done a) (out_at r h) fits in at_done c r o.0 o.1 a o.2
  at_give c r (reply.Ran (run.Blocked named)) fits = replied_to r
  at_give c r (reply.Ran (run.Deadlock cycle)) fits = replied_to r
  at_give c r (reply.Ran run.Lost) fits = replied_to r
  at_give c r (reply.Ran run.NoMemory) fits = replied_to r
  at_give c r (reply.Ended x) fits = replied_to r
  at_give c r reply.StillLost fits = replied_to r
