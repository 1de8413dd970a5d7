-- All answers that are told are canonical, so those that are the same are equal.
use Rattle.std.proofs.Common.{◌≡◌, ℕ, Bool, true, false, ◌&&◌, ◌==◌, if◌then◌else◌, Option, Some, None, List, [], ◌∷◌, ◌++◌, length, refl, ap, sym, ◌∙◌, subst}
use Rattle.std.specs.List.{AllZip}
use Rattle.std.proofs.lemmas.Bool.{eqb-true}
use Rattle.std.proofs.lemmas.List.Sorted.{IsPermutation-sym, IsPermutation-trans}
use Rattle.hr_rel.specs.declared.answer.Answer.{Answer}
use Rattle.hr_rel.specs.declared.answer.Answer.TheVariants as answer
use Rattle.hr_meaning.specs.SameAnswer.{SameAnswer}
use Rattle.hr_engine.specs.Journal.{Call, Ran, Committed, RolledBack, Restarted, Journal}
use Rattle.hr_engine.specs.Attempts.{RanStmt, attempt, answers}
use Rattle.hr_engine.specs.declared.reply.RunReply.TheVariants as run
use Rattle.hr_engine.specs.declared.reply.EndReply.TheVariants as end
use Rattle.hr_history.specs.declared.entry.Event.{Event}
use Rattle.hr_history.specs.declared.entry.Event.TheVariants as event
use Rattle.hr_history.specs.declared.job.Job.{Job}
use Rattle.hr_history.specs.declared.job.Job.TheVariants as job
use Rattle.hr_history.specs.declared.job.JobReply.{JobReply}
use Rattle.hr_history.specs.declared.job.JobReply.TheVariants as reply
use Rattle.hr_history.specs.History.{History}
use Rattle.hr_history.specs.Transactions.{log}
use Rattle.hr_history.specs.SameAnswers.{is_canonical, same_answers}
use Rattle.hr_history.specs.Replicas.{out_at, journal_of, stmt_at, call_if, call_of, restart_if, restart_of, next_journal}
use Rattle.hr_history.specs.Given.{Given, given_to, answers_given}
use Rattle.hr_history.specs.Faithful.{Begun, fits_job}
use Rattle.hr_history.proofs.StepLemmas.{call_allowed}
use Rattle.hr_history.proofs.CanonicalLemmas.{canonical_exact, same_answer_exact}
use Rattle.hr_records.specs.Kept.{Kept}
use Rattle.hr_records.proofs.Allowed.{begin_allowed, give_allowed}
use Rattle.hr_records.proofs.NumberLemmas.{given_at_begin}
use Rattle.hr_records.proofs.RuleLemmas.{begun_before}
use Rattle.hr_records.proofs.GiveLemmas.{is_given}
use Rattle.hr_records.proofs.KeptLemmas.{kept}

abbrev pub AreCanonical : List Answer → Type 0
AreCanonical [] = Unit {0}
AreCanonical (a ∷ xs) = (is_canonical a ≡ true) × AreCanonical xs

-- OF ATTEMPTS
one_more : (steps : List RanStmt) (s : RanStmt) → AreCanonical (answers steps) → is_canonical s.answer ≡ true → AreCanonical (answers (steps ++ s ∷ []))
one_more [] s are is = (is, tt)
one_more (x ∷ steps) s are is = (are.0, one_more steps s are.1 is)

if_more : (b : Bool) (steps : List RanStmt) (s : RanStmt) → AreCanonical (answers steps) → is_canonical s.answer ≡ true → AreCanonical (answers (if b then steps ++ s ∷ [] else steps))
if_more true steps s are is = one_more steps s are is
if_more false steps s are is = are

if_none : (b : Bool) (steps : List RanStmt) → AreCanonical (answers steps) → AreCanonical (answers (if b then [] else steps))
if_none true steps are = tt
if_none false steps are = are

abbrev Tells : Call → Type 0
Tells (Ran t s (run.Done a)) = is_canonical a ≡ true
Tells _ = Unit {0}

abbrev TellsIf : Option Call → Type 0
TellsIf None = Unit {0}
TellsIf (Some call) = Tells call

after_call : (t : ℕ) (call : Call) (j : Journal) → Tells call → AreCanonical (answers (attempt t j)) → AreCanonical (answers (attempt t (call ∷ j)))
after_call t (Ran u s (run.Done a)) j is are = if_more (t == u) (attempt t j) record { stmt = s; answer = a } are is
after_call t (Ran u s (run.Blocked named)) j is are = are
after_call t (Ran u s (run.Deadlock cycle)) j is are = are
after_call t (Ran u s run.Lost) j is are = tt
after_call t (Ran u s run.NoMemory) j is are = are
after_call t (Committed u end.Done) j is are = if_none (t == u) (attempt t j) are
after_call t (Committed u end.Lost) j is are = tt
after_call t (RolledBack u end.Done) j is are = if_none (t == u) (attempt t j) are
after_call t (RolledBack u end.Lost) j is are = tt
after_call t (Restarted told) j is are = tt

after_if : (t : ℕ) (o : Option Call) (j : Journal) → TellsIf o → AreCanonical (answers (attempt t j)) → AreCanonical (answers (attempt t (next_journal o j)))
after_if t None j is are = are
after_if t (Some call) j is are = after_call t call j is are

fits_told : (told : JobReply) (j : Option Job) (stmt : ℕ → ℕ → _) → fits_job told j ≡ true → TellsIf (call_of j told stmt)
fits_told (reply.Ran (run.Done a)) (Some (job.Run u i)) stmt fits = fits
fits_told (reply.Ran (run.Blocked named)) (Some (job.Run u i)) stmt fits = tt
fits_told (reply.Ran (run.Deadlock cycle)) (Some (job.Run u i)) stmt fits = tt
fits_told (reply.Ran run.Lost) (Some (job.Run u i)) stmt fits = tt
fits_told (reply.Ran run.NoMemory) (Some (job.Run u i)) stmt fits = tt
fits_told (reply.Ended x) (Some (job.Commit u)) stmt fits = tt
fits_told (reply.Ended x) (Some (job.Rollback u)) stmt fits = tt
fits_told reply.StillLost (Some job.Restart) stmt fits = tt
fits_told _ _ stmt fits = cc fits

restart_tells : (o : Option Job) (n : ℕ) → TellsIf (restart_of o n)
restart_tells None n = tt
restart_tells (Some job.Restart) n = tt
restart_tells (Some (job.Run u i)) n = tt
restart_tells (Some (job.Commit u)) n = tt
restart_tells (Some (job.Rollback u)) n = tt

restart_if_tells : (b : Bool) (r n : ℕ) (out : ℕ → Option Job) → TellsIf (restart_if b r n out)
restart_if_tells true r n out = restart_tells (out r) n
restart_if_tells false r n out = tt

module _ (f s c r t : ℕ) (h : History) (are : AreCanonical (answers (attempt t (journal_of r h)))) where
  told_here : (q : ℕ) (told : JobReply) (b : Bool) → (q == r) ≡ b → fits_job told (out_at q h) ≡ true → TellsIf (call_if b r told (λ p. out_at p h) (stmt_at h))
  told_here q told true e fits = fits_told told (out_at r h) (stmt_at h) (ap (λ x. fits_job told (out_at x h)) (sym (eqb-true q r e)) ∙ fits)
  told_here q told false e fits = tt

  attempt_by : (e : Event) → Begun f s (record { caller = c; event = e } ∷ h) → AreCanonical (answers (attempt t (journal_of r (record { caller = c; event = e } ∷ h))))
  attempt_by (event.Give q told) b =
      after_if t (call_if (q == r) r told (λ p. out_at p h) (stmt_at h)) (journal_of r h)
      (told_here q told (q == r) refl (give_allowed f s c h q told (call_allowed f s record { caller = c; event = event.Give q told } h b refl)).1) are
  attempt_by (event.Restarted q n) b = after_if t (restart_if (q == r) r n (λ p. out_at p h)) (journal_of r h) (restart_if_tells (q == r) r n (λ p. out_at p h)) are
  attempt_by _ b = are

pub attempt_canonical : (f s r t : ℕ) (h : History) → Begun f s h → AreCanonical (answers (attempt t (journal_of r h)))
attempt_canonical f s r t [] b = tt
attempt_canonical f s r t (e ∷ h) b = attempt_by f s e.caller r t h (attempt_canonical f s r t h (begun_before f s e h b)) e.event b

-- OF GIVEN ANSWERS
given_more : (xs : List Given) (g : Given) → AreCanonical (answers_given xs) → is_canonical g.answer ≡ true → AreCanonical (answers_given (xs ++ g ∷ []))
given_more [] g are is = (is, tt)
given_more (x ∷ xs) g are is = (are.0, given_more xs g are.1 is)

given_if : (b : Bool) (xs : List Given) (g : Given) → AreCanonical (answers_given xs) → is_canonical g.answer ≡ true → AreCanonical (answers_given (if b then xs ++ g ∷ [] else xs))
given_if true xs g are is = given_more xs g are is
given_if false xs g are is = are

pub fits_canonical : (a : Answer) (o : Option Job) → fits_job (reply.Ran (run.Done a)) o ≡ true → is_canonical a ≡ true
fits_canonical a (Some (job.Run u i)) fits = fits
fits_canonical a _ fits = cc fits

module _ (f s c t : ℕ) (h : History) (k : Kept h) (are : AreCanonical (answers_given (given_to t h))) where
  given_by_reply : (q : ℕ) (told : JobReply) → fits_job told (out_at q h) ≡ true → AreCanonical (answers_given (given_to t (record { caller = c; event = event.Give q told } ∷ h)))
  given_by_reply q (reply.Ran (run.Done a)) fits = given_if (is_given t q h) (given_to t h) record { answer = a; stamp = length (log h) } are (fits_canonical a (out_at q h) fits)
  given_by_reply q (reply.Ran (run.Blocked named)) fits = are
  given_by_reply q (reply.Ran (run.Deadlock cycle)) fits = are
  given_by_reply q (reply.Ran run.Lost) fits = are
  given_by_reply q (reply.Ran run.NoMemory) fits = are
  given_by_reply q (reply.Ended x) fits = are
  given_by_reply q reply.StillLost fits = are

  given_by : (e : Event) → Begun f s (record { caller = c; event = e } ∷ h) → AreCanonical (answers_given (given_to t (record { caller = c; event = e } ∷ h)))
  given_by (event.Give q told) b = given_by_reply q told (give_allowed f s c h q told (call_allowed f s record { caller = c; event = event.Give q told } h b refl)).1
  given_by (event.Begin session txn) b =
      let a = begin_allowed f s c h session txn (call_allowed f s record { caller = c; event = event.Begin session txn } h b refl) in
      subst (λ xs. AreCanonical (answers_given xs)) (sym (given_at_begin h k.numbers txn a.0 t)) are
  given_by _ b = are

pub given_canonical : (f s t : ℕ) (h : History) → Begun f s h → AreCanonical (answers_given (given_to t h))
given_canonical f s t [] b = tt
given_canonical f s t (e ∷ h) b = given_by f s e.caller t h (kept f s h (begun_before f s e h b)) (given_canonical f s t h (begun_before f s e h b)) e.event b

-- EQUAL
-- two answers that are each the same as a third are the same
pub both_same : (a x y : Answer) → SameAnswer a x → SameAnswer a y → SameAnswer x y
both_same (answer.Rows as') (answer.Rows xs) (answer.Rows ys) e d = IsPermutation-trans xs as' ys (IsPermutation-sym as' xs e) d
both_same (answer.Count n) (answer.Count x) (answer.Count y) e d = sym e ∙ d
both_same (answer.Failed n) (answer.Failed x) (answer.Failed y) e d = sym e ∙ d
both_same (answer.Rows as') (answer.Count x) y e d = absurd e
both_same (answer.Rows as') (answer.Failed x) y e d = absurd e
both_same (answer.Rows as') (answer.Rows xs) (answer.Count y) e d = absurd d
both_same (answer.Rows as') (answer.Rows xs) (answer.Failed y) e d = absurd d
both_same (answer.Count n) (answer.Rows x) y e d = absurd e
both_same (answer.Count n) (answer.Failed x) y e d = absurd e
both_same (answer.Count n) (answer.Count x) (answer.Rows y) e d = absurd d
both_same (answer.Count n) (answer.Count x) (answer.Failed y) e d = absurd d
both_same (answer.Failed n) (answer.Rows x) y e d = absurd e
both_same (answer.Failed n) (answer.Count x) y e d = absurd e
both_same (answer.Failed n) (answer.Failed x) (answer.Rows y) e d = absurd d
both_same (answer.Failed n) (answer.Failed x) (answer.Count y) e d = absurd d

pub equal_by : (zs xs ys : List Answer) → AllZip SameAnswer zs xs → AllZip SameAnswer zs ys → AreCanonical xs → AreCanonical ys → same_answers xs ys ≡ true
equal_by [] [] [] e d a b = refl
equal_by (z ∷ zs) (x ∷ xs) (y ∷ ys) e d a b =
    let one = (same_answer_exact x y ((canonical_exact x).0 a.0) ((canonical_exact y).0 b.0)).1 (both_same z x y e.0 d.0) in
    λ i. one i && equal_by zs xs ys e.1 d.1 a.1 b.1 i
equal_by [] (x ∷ xs) ys e d a b = absurd e
equal_by [] [] (y ∷ ys) e d a b = absurd d
equal_by (z ∷ zs) [] ys e d a b = absurd e
equal_by (z ∷ zs) (x ∷ xs) [] e d a b = absurd d
