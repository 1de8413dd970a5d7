-- What a given answer is, on every database from its stamp on.
use Rattle.std.proofs.Common.{◌≡◌, ◌⊎◌, inl, inr, ⊎_elim, ℕ, zero, suc, ◌+◌, ◌<◌, ◌≤◌, Bool, true, false, not, ◌&&◌, if◌then◌else◌, Option, Some, None, is_some, List, [], ◌∷◌, ◌++◌, length, map, find, refl, ap, sym, ◌∙◌, subst, arith, length-append}
use Rattle.std.proofs.lemmas.Bool.{and_parts}
use Rattle.hr_base.specs.Lists.{numbered, first_some, when}
use Rattle.hr_rel.specs.Database.{Database}
use Rattle.hr_meaning.specs.Serial.{play, database_at}
use Rattle.hr_meaning.specs.SameAnswer.{SameAnswer}
use Rattle.hr_engine.specs.Attempts.{attempt, statements, answers}
use Rattle.hr_engine.specs.declared.reply.RunReply.TheVariants as run
use Rattle.hr_history.specs.declared.cause.CauseAt.TheVariants as cause
use Rattle.hr_history.specs.declared.entry.Entry.{Entry}
use Rattle.hr_history.specs.declared.entry.Event.{Event}
use Rattle.hr_history.specs.declared.entry.Event.TheVariants as event
use Rattle.hr_history.specs.declared.evidence.Evidence.TheVariants as evidence
use Rattle.hr_history.specs.declared.job.JobReply.{JobReply}
use Rattle.hr_history.specs.declared.job.JobReply.TheVariants as reply
use Rattle.hr_history.specs.History.{History}
use Rattle.hr_history.specs.ReplicaNumbers.{replica_numbers}
use Rattle.hr_history.specs.Transactions.{begun, log, submits, phase_of, is_open}
use Rattle.hr_history.specs.Primary.{primary_of, is_some_of}
use Rattle.hr_history.specs.Replicas.{out_at, journal_of}
use Rattle.hr_history.specs.Given.{Given, given_to, is_run_of}
use Rattle.hr_history.specs.Turn.{Turn, turn_of, went}
use Rattle.hr_history.specs.View.{View, view_of}
use Rattle.hr_history.specs.Processed.{phase_in, replica_in}
use Rattle.hr_history.specs.Jobs.{txn_numbers}
use Rattle.hr_history.specs.Evidence.{evidence_of}
use Rattle.hr_history.specs.Rules.{convict_with, owed_conviction, conviction_of, convict, refuse_for, primary_gone, due_in}
use Rattle.hr_history.specs.Faithful.{Begun, Correct}
use Rattle.hr_history.proofs.StepLemmas.{call_allowed}
use Rattle.hr_records.specs.Numbers.{IsBorn}
use Rattle.hr_records.specs.Kept.{Kept}
use Rattle.hr_records.proofs.Options.{On, then_on, map_on, when_on, first_of_on, some_none, same_some}
use Rattle.hr_records.proofs.Places.{numbered_born, numbered_more}
use Rattle.hr_records.proofs.Born.{born_or_not}
use Rattle.hr_records.proofs.NumberSteps.{not_both, open_unlogged}
use Rattle.hr_records.proofs.NumberLemmas.{given_at_begin}
use Rattle.hr_records.proofs.Allowed.{begin_allowed}
use Rattle.hr_records.proofs.RuleLemmas.{begun_before, was_due}
use Rattle.hr_records.proofs.GiveLemmas.{is_given}
use Rattle.hr_records.proofs.LeadLemmas.{refused_all}
use Rattle.hr_records.proofs.JobWords.{primary_is}
use Rattle.hr_records.proofs.KeptLemmas.{kept}
use Rattle.hr_records.proofs.Closed.{frozen, phase_stands}
use Rattle.hr_serial.specs.Prefix.{log_statements}
use Rattle.hr_serial.proofs.PrefixLemmas.{at_prefix}
use Rattle.hr_barriers.specs.Played.{IsProcessedTo, IsNoneOfTheFirst, IsAnswerAsPlayed}
use Rattle.hr_barriers.specs.Stamps.{span}
use Rattle.hr_barriers.specs.Served.{IsServed}
use Rattle.hr_barriers.proofs.PlayedLemmas.{played}
use Rattle.hr_barriers.proofs.DoneLemmas.{zip_at, play_front}
use Rattle.hr_barriers.proofs.StampLemmas.{span_open, span_closed}
use Rattle.hr_barriers.proofs.GivenLemmas.{given_by_primary}
use Rattle.hr_barriers.proofs.ProcessedLemmas.{primary_within, primary_processed}
use Rattle.hr_barriers.proofs.StandLemmas.{span_within, stands}

-- ON THE WHOLE LOG, AT THE PRIMARY
numbered_map : {X Y : Type 0} (g : X → Y) (xs : List X) (i : ℕ) (x : X) → numbered xs i ≡ Some x → numbered (map g xs) i ≡ Some (g x)
numbered_map g xs zero x e = absurd (some_none x (sym e))
numbered_map g [] (suc i) x e = absurd (some_none x (sym e))
numbered_map g (y ∷ xs) (suc zero) x e = ap Some (ap g (same_some y x e))
numbered_map g (y ∷ xs) (suc (suc i)) x e = numbered_map g xs (suc i) x e

pub given_now : (f s t r i : ℕ) (db : Database) (g : Given) (h : History) → Begun f s h → primary_of h ≡ Some r → is_open (phase_of t h) ≡ true → Correct db h r
    → numbered (given_to t h) i ≡ Some g → IsAnswerAsPlayed db (length (log h)) t i g.answer h
given_now f s t r i db g h b is o correct at =
    let k = kept f s h b in
    let m = length (log h) in
    let d = database_at db (log_statements h) m in
    let steps = attempt t (journal_of r h) in
    let to : IsProcessedTo f r m h = ((at_prefix h k r).within, omega (arith, primary_processed f s r h b is)) in
    let none : IsNoneOfTheFirst m t h = λ n lt e. open_unlogged (phase_of t h) (suc n) o ((k.numbers.logged t (suc n)).1 e) in
    let its : numbered (answers steps) i ≡ Some g.answer =
    ap (λ l. numbered l i) (sym (given_by_primary f s t r h b is o)) ∙ numbered_map (λ (x : Given). x.answer) (given_to t h) i g at in
    let like = zip_at SameAnswer (play d (statements steps)).answers (answers steps) i g.answer (played f r m t db h k (primary_within f s r h b is) correct to none) its in
    (like.0, play_front d (statements steps) (submits t h) i like.0 ((k.replicas r).attempts t) like.1, like.2)

-- A DECIDE IS DUE ONLY WHERE NOTHING IS TO BE REFUSED FOR THE PRIMARY'S GOING
abbrev IsNoDecide : Event → Type 0
IsNoDecide e = (u : ℕ) → e ≡ event.Decide u → ⊥

refusal : (u : ℕ) (x : _) → IsNoDecide (event.Refuse u x)
refusal u x v e = cc e

conviction : (r : ℕ) (x : _) → IsNoDecide (event.Convict r x)
conviction r x v e = cc e

skip : (o : Option Event) (os : List (Option Event)) (u : ℕ) → On IsNoDecide o → first_some (o ∷ os) ≡ Some (event.Decide u) → (o ≡ None) × (first_some os ≡ Some (event.Decide u))
skip None os u on e = (refl, e)
skip (Some x) os u on e = absurd (on u (same_some x (event.Decide u) e))

module _ (v : View) (turn : Turn) where
  no_owed : On IsNoDecide (owed_conviction v turn)
  no_owed = then_on IsNoDecide (convict_with v.primary) turn.owed (λ c owed. of_primary v.primary c)
    where
      of_primary : (o : Option ℕ) (c : _) → On IsNoDecide (convict_with o c)
      of_primary None c = tt
      of_primary (Some p) c = conviction p (evidence.Contradicted c.txn c.index)

  no_convict : On IsNoDecide (convict v turn)
  no_convict = first_of_on IsNoDecide (conviction_of v turn) (replica_numbers v.f) (λ r there.
      then_on IsNoDecide (λ x. when (not (replica_in v r).convicted) (event.Convict r x)) (evidence_of v r turn) (λ x shown.
      when_on IsNoDecide (not (replica_in v r).convicted) (event.Convict r x) (λ un. conviction r x)))

  no_gone : On IsNoDecide (primary_gone v turn)
  no_gone = then_on IsNoDecide (refuse_for v turn) turn.went (λ gone is.
      map_on IsNoDecide (λ t. event.Refuse t (cause.PrimaryChanged gone.from gone.why gone.at)) (find (λ t. is_open (phase_in v t)) (txn_numbers v)) (λ t found. refusal t (cause.PrimaryChanged gone.from gone.why gone.at)))

  settled_at_decide : (u : ℕ) → due_in v turn ≡ Some (event.Decide u) → primary_gone v turn ≡ None
  settled_at_decide u e =
      let a = skip (owed_conviction v turn) _ u no_owed e in
      let x = skip (convict v turn) _ u no_convict a.1 in
      (skip (primary_gone v turn) _ u no_gone x.1).0

-- so where one is decided, and another is open that has answers, there is a primary
primary_at_decide : (f s c u t : ℕ) (h : History) → Begun f s (record { caller = c; event = event.Decide u } ∷ h) → Kept h → is_open (phase_of t h) ≡ true → 0 < length (given_to t h) → primary_of h ≡ None → ⊥
primary_at_decide f s c u t h b k o some none =
    elim ((k.leads 0).vacant none t o) [ inl nil ↦ omega (arith, nil, some) | inr gone ↦ by_birth gone (born_or_not (length (begun h)) t) ]
  where
    by_birth : is_some (went h) ≡ true → IsBorn (length (begun h)) t ⊎ (IsBorn (length (begun h)) t → ⊥) → ⊥
    by_birth gone (inl born) = refused_all f h (settled_at_decide (view_of f h) (turn_of h) u (was_due f s record { caller = c; event = event.Decide u } h b refl)) gone t born o
    by_birth gone (inr unborn) = let nil = (k.numbers.unborn t unborn).2 in omega (arith, nil, some)

-- ONE MORE ENTRY
-- The answer was given by this entry: it has the log's length as its stamp, the log and the transaction stand, and there is a primary.
pub record IsNew (t : ℕ) (g : Given) (now h : History) : Type 0 where
  pub stamp : g.stamp ≡ length (log h)
  pub same_log : log now ≡ log h
  pub open_now : is_open (phase_of t now) ≡ true
  pub giver : ℕ
  pub primary : primary_of now ≡ Some giver

old_by : (x : Bool) (xs : List Given) (y g : Given) (i : ℕ) → numbered (if x then xs ++ y ∷ [] else xs) i ≡ Some g → (numbered xs i ≡ Some g) ⊎ ((x ≡ true) × (y ≡ g))
old_by false xs y g i e = inl e
old_by true xs y g i e = ⊎_elim (λ (old : numbered xs i ≡ Some g). inl old) (λ (new : (i ≡ length xs + 1) × (y ≡ g)). inr (refl, new.1)) (numbered_more xs y i g e)

module _ (f s c t i : ℕ) (g : Given) (h : History) (k : Kept h) where
  old_at_give : (q : ℕ) (told : JobReply) → Begun f s (record { caller = c; event = event.Give q told } ∷ h) → numbered (given_to t (record { caller = c; event = event.Give q told } ∷ h)) i ≡ Some g
      → (numbered (given_to t h) i ≡ Some g) ⊎ IsNew t g (record { caller = c; event = event.Give q told } ∷ h) h
  old_at_give q (reply.Ran (run.Done a)) b e =
      ⊎_elim (λ (old : numbered (given_to t h) i ≡ Some g). inl old)
      (λ (new : (is_given t q h ≡ true) × (record { answer = a; stamp = length (log h) } ≡ g)). inr record {
        stamp = ap (λ (x : Given). x.stamp) (sym new.1);
        same_log = refl;
        open_now = (parts new.0).1;
        giver = q;
        primary = (parts new.0).0;
      })
      (old_by (is_given t q h) (given_to t h) record { answer = a; stamp = length (log h) } g i e)
    where
      parts : is_given t q h ≡ true → (primary_of h ≡ Some q) × (is_open (phase_of t h) ≡ true)
      parts is =
          let two = and_parts (is_run_of t (length (given_to t h) + 1) (out_at q h) && is_some_of q (primary_of h)) (is_open (phase_of t h)) is in
          (primary_is q (primary_of h) (and_parts (is_run_of t (length (given_to t h) + 1) (out_at q h)) (is_some_of q (primary_of h)) two.0).1, two.1)
  old_at_give q (reply.Ran (run.Blocked named)) b e = inl e
  old_at_give q (reply.Ran (run.Deadlock cycle)) b e = inl e
  old_at_give q (reply.Ran run.Lost) b e = inl e
  old_at_give q (reply.Ran run.NoMemory) b e = inl e
  old_at_give q (reply.Ended x) b e = inl e
  old_at_give q reply.StillLost b e = inl e

  pub old_or_new : (e : Event) → Begun f s (record { caller = c; event = e } ∷ h) → numbered (given_to t (record { caller = c; event = e } ∷ h)) i ≡ Some g
      → (numbered (given_to t h) i ≡ Some g) ⊎ IsNew t g (record { caller = c; event = e } ∷ h) h
  old_or_new (event.Give q told) b e = old_at_give q told b e
  old_or_new (event.Begin session txn) b e =
      let a = begin_allowed f s c h session txn (call_allowed f s record { caller = c; event = event.Begin session txn } h b refl) in
      inl (ap (λ l. numbered l i) (sym (given_at_begin h k.numbers txn a.0 t)) ∙ e)
  old_or_new _ b e = inl e

-- the log is as it was, or one more is decided, by the same primary
log_step : (c : ℕ) (e : Event) (h : History) → (log (record { caller = c; event = e } ∷ h) ≡ log h) ⊎ ((u : ℕ) × (e ≡ event.Decide u))
log_step c (event.Decide u) h = inr (u, refl)
log_step c _ h = inl refl

some_given : {X : Type 0} (xs : List X) (i : ℕ) (x : X) → numbered xs i ≡ Some x → 0 < length xs
some_given xs i x e = let born = numbered_born xs i x e in omega (arith, born.0, born.1)

le_or_last : (m n : ℕ) → m ≤ n + 1 → (m ≤ n) ⊎ (m ≡ n + 1)
le_or_last zero n le = inl (omega arith)
le_or_last (suc m) zero le = inr (omega (arith, le))
le_or_last (suc m) (suc n) le = ⊎_elim (λ (d : m ≤ n). inl (omega (arith, d))) (λ (d : m ≡ n + 1). inr (omega (arith, d))) (le_or_last m n (omega (arith, le)))

-- each given answer is the transaction's alone, on every database from its stamp to the transaction's span
abbrev pub GivenOn : Database → ℕ → History → Type 0
GivenOn db t h = (i m : ℕ) (g : Given) → numbered (given_to t h) i ≡ Some g → g.stamp ≤ m → m ≤ span t h → IsAnswerAsPlayed db m t i g.answer h

module _ (f s t : ℕ) (db : Database) (e : Entry) (h : History) (b : Begun f s (e ∷ h)) (k : Kept h) (before : GivenOn db t h) where
  -- an answer of before, on a database of before
  of_before : (i m : ℕ) (g : Given) → numbered (given_to t h) i ≡ Some g → g.stamp ≤ m → m ≤ span t h → IsAnswerAsPlayed db m t i g.answer (e ∷ h)
  of_before i m g at low high = stands f s m e h k b (omega (arith, high, span_within t h)) db t i g.answer (before i m g at low high)

  open_on : is_open (phase_of t (e ∷ h)) ≡ true → is_open (phase_of t h) ≡ true → ((r : ℕ) → primary_of (e ∷ h) ≡ Some r → 0 < length (given_to t (e ∷ h)) → Correct db (e ∷ h) r)
      → (i m : ℕ) (g : Given) → numbered (given_to t (e ∷ h)) i ≡ Some g → g.stamp ≤ m → m ≤ length (log (e ∷ h)) → IsAnswerAsPlayed db m t i g.answer (e ∷ h)
  open_on now was correct i m g at low high = by_primary (primary_of (e ∷ h)) refl (log_step e.caller e.event h) (old_or_new f s e.caller t i g h k e.event b at)
    where
      at_last : (r : ℕ) → primary_of (e ∷ h) ≡ Some r → m ≡ length (log (e ∷ h)) → IsAnswerAsPlayed db m t i g.answer (e ∷ h)
      at_last r is last =
          subst (λ n. IsAnswerAsPlayed db n t i g.answer (e ∷ h)) (sym last)
          (given_now f s t r i db g (e ∷ h) b is now (correct r is (some_given (given_to t (e ∷ h)) i g at)) at)

      lower : m ≤ length (log h) → numbered (given_to t h) i ≡ Some g → IsAnswerAsPlayed db m t i g.answer (e ∷ h)
      lower le old = of_before i m g old low (omega (arith, le, span_open t h was))

      by_primary : (p : Option ℕ) → primary_of (e ∷ h) ≡ p → (log (e ∷ h) ≡ log h) ⊎ ((u : ℕ) × (e.event ≡ event.Decide u)) → (numbered (given_to t h) i ≡ Some g) ⊎ IsNew t g (e ∷ h) h → IsAnswerAsPlayed db m t i g.answer (e ∷ h)
      by_primary p is (inl same) (inl old) = lower (omega (arith, high, ap (λ l. length l) same)) old
      by_primary p is same (inr new) = at_last new.giver new.primary (omega (arith, low, high, new.stamp, ap (λ l. length l) new.same_log))
      by_primary None is (inr decided) (inl old) =
          absurd (primary_at_decide f s e.caller decided.0 t h (subst (λ x. Begun f s (record { caller = e.caller; event = x } ∷ h)) decided.1 b) k was (some_given (given_to t h) i g old)
          (ap (λ x. primary_of (record { caller = e.caller; event = x } ∷ h)) (sym decided.1) ∙ is))
      by_primary (Some r) is (inr decided) (inl old) =
          let longer : length (log (e ∷ h)) ≡ length (log h) + 1 = ap (λ x. length (log (record { caller = e.caller; event = x } ∷ h))) decided.1 ∙ length-append (log h) (decided.0 ∷ []) in
          ⊎_elim (λ (le : m ≤ length (log h)). lower le old) (λ (last : m ≡ length (log h) + 1). at_last r is (omega (arith, last, longer))) (le_or_last m (length (log h)) (omega (arith, high, longer)))

  on_next : IsServed db t (e ∷ h) → GivenOn db t (e ∷ h)
  on_next served = by_before (is_open (phase_of t h)) refl
    where
      by_now : (now : Bool) → is_open (phase_of t (e ∷ h)) ≡ now → is_open (phase_of t h) ≡ true → GivenOn db t (e ∷ h)
      by_now true now was i m g at low high = open_on now was (λ r is some. served.1 now some r is) i m g at low (omega (arith, high, span_open t (e ∷ h) now))
      by_now false now was i m g at low high =
          ⊎_elim (λ (old : numbered (given_to t h) i ≡ Some g). of_before i m g old low (omega (arith, high, span_closed t e h true was now, span_open t h was)))
          (λ (new : IsNew t g (e ∷ h) h). absurd (not_both (is_open (phase_of t (e ∷ h))) new.open_now now))
          (old_or_new f s e.caller t i g h k e.event b at)

      by_before : (was : Bool) → is_open (phase_of t h) ≡ was → GivenOn db t (e ∷ h)
      by_before true was = by_now (is_open (phase_of t (e ∷ h))) refl was
      by_before false was = λ i m g at low high.
          let stay = ap is_open (phase_stands f s e h k b t was) ∙ was in
          of_before i m g (ap (λ l. numbered l i) (sym (frozen f s e h k b t was).1) ∙ at) low (omega (arith, high, span_closed t e h false was stay))

pub given_on : (f s t : ℕ) (db : Database) (h : History) → Begun f s h → IsServed db t h → GivenOn db t h
given_on f s t db [] b served = λ i m g at low high. absurd (nobody g i at)
  where
    nobody : (g : Given) (i : ℕ) → numbered [] i ≡ Some g → ⊥
    nobody g zero e = some_none g (sym e)
    nobody g (suc i) e = some_none g (sym e)
given_on f s t db (e ∷ h) b served = on_next f s t db e h b (kept f s h (begun_before f s e h b)) (given_on f s t db h (begun_before f s e h b) served.0) served
