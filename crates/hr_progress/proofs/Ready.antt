-- What a reply may add has its place already.
use Rattle.std.proofs.Common.{◌≡◌, ℕ, zero, suc, ◌+◌, ◌<◌, ◌≤◌, Bool, true, false, ◌==◌, nat_eq, cond, if◌then◌else◌, Option, Some, None, unwrap_or, List, [], ◌∷◌, map, length, replicate, slice_get, slice_set, slice_index_or, Result, Ok, Err, OnOk, refl, ap, sym, ◌∙◌, subst, arith}
use Rattle.std.specs.Map.{lookup}
use Rattle.std.proofs.lemmas.Bool.{eqb-true, eq-eqb, ne_eqb}
use Rattle.indexmap.specs.IndexMap.{set_value_at}
use Rattle.hr_history.specs.declared.job.Job.{Job}
use Rattle.hr_history.specs.declared.job.Job.TheVariants as job
use Rattle.hr_moves.specs.Changes.{map_from, change_at}
use Rattle.hr_progress.specs.declared.attempt.Attempt.{Attempt}
use Rattle.hr_progress.specs.declared.progress.Progress.{Progress}
use Rattle.hr_progress.specs.Plain.{PlainProgress, plain_progress, idle_progress}
use Rattle.hr_progress.specs.Kept.{is_run, is_run_of, runs_out, IsRoomy, HasAnswerRoom, IsReady, IsReadyFor, AreReady}
use Rattle.hr_progress.proofs.Entries.{IsFirstOf}

no : {b : Bool} → b ≡ true → b ≡ false → ⊥
no e d = cc

pub ready_at : (xs : List Progress) (i : ℕ) (x : Progress) → i < length xs → x ≡ slice_index_or xs i x → AreReady xs → IsReady x
ready_at [] i x h at ready = absurd (omega (arith, h))
ready_at (z ∷ xs) zero x h at ready = subst IsReady (sym at) ready.0
ready_at (z ∷ xs) (suc i) x h at ready = ready_at xs i x (omega (arith, h)) at ready.1

pub ready_set : (xs : List Progress) (i : ℕ) (y : Progress) → IsReady y → AreReady xs → AreReady (slice_set xs i y)
ready_set [] i y h ready = ready
ready_set (z ∷ xs) zero y h ready = (h, ready.1)
ready_set (z ∷ xs) (suc i) y h ready = (ready.0, ready_set xs i y h ready.1)

-- where no job is out nothing needs its place
pub ready_free : (o : Option Job) (touched room : ℕ) (es : List (ℕ × Attempt)) → o ≡ None → IsReadyFor o touched room es
ready_free None touched room es e = tt
ready_free (Some j) touched room es e = absurd (some_none e)
  where
    some_none : {k : Job} → Some k ≡ None → ⊥
    some_none d = cc

-- where the room of each stays, so does it for the job
pub ready_same : (o : Option Job) (touched room : ℕ) (old new : List (ℕ × Attempt)) → ((t : ℕ) → HasAnswerRoom t old → HasAnswerRoom t new) → IsReadyFor o touched room old → IsReadyFor o touched room new
ready_same None touched room old new more h = tt
ready_same (Some (job.Run t i)) touched room old new more h = (h.0, more t h.1)
ready_same (Some (job.Commit t)) touched room old new more h = tt
ready_same (Some (job.Rollback t)) touched room old new more h = tt
ready_same (Some job.Restart) touched room old new more h = tt

-- ---- how many runs are out

more_by : (a b : Bool) (m n : ℕ) → (a ≡ true → b ≡ true) → m ≤ n → (if a then 1 else 0) + m ≤ (if b then 1 else 0) + n
more_by true true m n h le = omega (arith, le)
more_by true false m n h le = absurd (no (h refl) refl)
more_by false true m n h le = omega (arith, le)
more_by false false m n h le = omega (arith, le)

changed_run : (r m : ℕ) (g : PlainProgress → PlainProgress) (q : PlainProgress) → (is_run (g q).out ≡ true → is_run q.out ≡ true) → is_run (change_at r g m q).out ≡ true → is_run q.out ≡ true
changed_run r m g q h = by (m == r)
  where
    by : (b : Bool) → is_run (if b then g q else q).out ≡ true → is_run q.out ≡ true
    by true e = h e
    by false e = e

-- a change that sends no run leaves no more of them out
pub runs_no_more : (r m : ℕ) (g : PlainProgress → PlainProgress) (qs : List PlainProgress) → ((q : PlainProgress) → is_run (g q).out ≡ true → is_run q.out ≡ true) → runs_out (map_from (change_at r g) m qs) ≤ runs_out qs
runs_no_more r m g [] h = omega arith
runs_no_more r m g (q ∷ qs) h = more_by (is_run (change_at r g m q).out) (is_run q.out) _ _ (changed_run r m g q (h q)) (runs_no_more r (m + 1) g qs h)

pub runs_map : (g : PlainProgress → PlainProgress) (qs : List PlainProgress) → ((q : PlainProgress) → (g q).out ≡ q.out) → runs_out (map g qs) ≡ runs_out qs
runs_map g [] same = refl
runs_map g (q ∷ qs) same = λ i. (if is_run (same q i) then 1 else 0) + runs_map g qs same i

at_most_one : (b : Bool) (m n : ℕ) → m ≤ n → (if b then 1 else 0) + m ≤ suc n
at_most_one true m n h = omega (arith, h)
at_most_one false m n h = omega (arith, h)

pub runs_few : (qs : List PlainProgress) → runs_out qs ≤ length qs
runs_few [] = omega arith
runs_few (q ∷ qs) = at_most_one (is_run q.out) (runs_out qs) (length qs) (runs_few qs)

-- a run that was out at replica r is out no longer
one_by : (b c : Bool) (m n : ℕ) → b ≡ false → c ≡ true → m ≤ n → (if b then 1 else 0) + m + 1 ≤ (if c then 1 else 0) + n
one_by true c m n e d h = absurd (no refl e)
one_by false true m n e d h = omega (arith, h)
one_by false false m n e d h = absurd (no d refl)

later_by : (a b : Bool) (m n : ℕ) → a ≡ b → m + 1 ≤ n → (if a then 1 else 0) + m + 1 ≤ (if b then 1 else 0) + n
later_by true true m n e h = omega (arith, h)
later_by true false m n e h = absurd (no refl e)
later_by false true m n e h = absurd (no e refl)
later_by false false m n e h = omega (arith, h)

pub runs_less : (r m i : ℕ) (g : PlainProgress → PlainProgress) (qs : List PlainProgress) → r ≡ m + i → i < length qs → ((q : PlainProgress) → (g q).out ≡ None) → is_run (unwrap_or (slice_get qs i) idle_progress).out ≡ true
    → runs_out (map_from (change_at r g) m qs) + 1 ≤ runs_out qs
runs_less r m i g [] e h free was = absurd (omega (arith, h))
runs_less r m zero g (q ∷ qs) e h free was =
    one_by (is_run (change_at r g m q).out) (is_run q.out) _ _ (ap (λ b. is_run (if b then g q else q).out) (eq-eqb m r (omega (arith, e))) ∙ ap is_run (free q)) was
    (runs_no_more r (m + 1) g qs (λ x run. absurd (no run (ap is_run (free x)))))
runs_less r m (suc i) g (q ∷ qs) e h free was =
    later_by (is_run (change_at r g m q).out) (is_run q.out) _ _ (ap (λ b. is_run (if b then g q else q).out) (ne_eqb m r (λ same. omega (arith, e, same))))
    (runs_less r (m + 1) i g qs (omega (arith, e)) (omega (arith, h)) free was)

-- ---- the room of an entry

other_key : (t u k : ℕ) → nat_eq t k ≡ true → (u ≡ t → ⊥) → nat_eq u k ≡ false
other_key t u k here differ = by (nat_eq u k) refl
  where
    by : (b : Bool) → nat_eq u k ≡ b → b ≡ false
    by true e = absurd (differ (eqb-true u k e ∙ sym (eqb-true t k here)))
    by false e = refl

pub lookup_set_here : (t i : ℕ) (es : List (ℕ × Attempt)) (y : Attempt) → IsFirstOf t es i → lookup (nat_eq t) (set_value_at es i y) ≡ Some y
lookup_set_here t i [] y first = absurd first
lookup_set_here t zero (e ∷ es) y first = ap (λ b. cond b (Some y) (lookup (nat_eq t) es)) first
lookup_set_here t (suc i) (e ∷ es) y first = ap (λ b. cond b (Some e.1) (lookup (nat_eq t) (set_value_at es i y))) first.0 ∙ lookup_set_here t i es y first.1

pub lookup_set_else : (t u i : ℕ) (es : List (ℕ × Attempt)) (y : Attempt) → (u ≡ t → ⊥) → IsFirstOf t es i → lookup (nat_eq u) (set_value_at es i y) ≡ lookup (nat_eq u) es
lookup_set_else t u i [] y differ first = absurd first
lookup_set_else t u zero (e ∷ es) y differ first =
    let other : nat_eq u e.0 ≡ false = other_key t u e.0 first differ in
    ap (λ b. cond b (Some y) (lookup (nat_eq u) es)) other ∙ sym (ap (λ b. cond b (Some e.1) (lookup (nat_eq u) es)) other)
lookup_set_else t u (suc i) (e ∷ es) y differ first = ap (λ o. cond (nat_eq u e.0) (Some e.1) o) (lookup_set_else t u i es y differ first.1)

-- the attempt of t is set anew, with its room kept
pub room_kept : (t i : ℕ) (es : List (ℕ × Attempt)) (x y : Attempt) → IsFirstOf t es i → lookup (nat_eq t) es ≡ Some x → (IsRoomy (Some x) → IsRoomy (Some y)) → (u : ℕ) → HasAnswerRoom u es → HasAnswerRoom u (set_value_at es i y)
room_kept t i es x y first at keeps u h = by (nat_eq u t) refl
  where
    by : (b : Bool) → nat_eq u t ≡ b → HasAnswerRoom u (set_value_at es i y)
    by true e =
        let same : u ≡ t = eqb-true u t e in
        subst IsRoomy (sym (ap (λ k. lookup (nat_eq k) (set_value_at es i y)) same ∙ lookup_set_here t i es y first)) (keeps (subst IsRoomy (ap (λ k. lookup (nat_eq k) es) same ∙ at) h))
    by false e = subst IsRoomy (sym (lookup_set_else t u i es y (λ same. no (eq-eqb u t same) e) first)) h

-- ---- at first

pub runs_idle : (n : ℕ) → runs_out (replicate n idle_progress) ≡ 0
runs_idle zero = refl
runs_idle (suc n) =
    let here : runs_out (replicate (suc n) idle_progress) ≡ 0 + runs_out (replicate n idle_progress) = refl in
    omega (arith, here, runs_idle n)

abbrev first_out : List PlainProgress → Option Job
first_out [] = None
first_out (q ∷ qs) = q.out

abbrev others : List PlainProgress → List PlainProgress
others [] = []
others (q ∷ qs) = qs

pub ready_idle : (qs : List Progress) (n : ℕ) → map plain_progress qs ≡ replicate n idle_progress → AreReady qs
ready_idle [] n e = tt
ready_idle (q ∷ qs) zero e = absurd (no_first (ap length e))
  where
    no_first : suc (length (map plain_progress qs)) ≡ 0 → ⊥
    no_first d = omega (arith, d)
ready_idle (q ∷ qs) (suc n) e = (ready_free q.out _ _ _ (ap first_out e), ready_idle qs n (ap others e))

pub ok_more : {T E P Q : Type 0} (r : Result T E) → (P → Q) → OnOk r P → OnOk r Q
ok_more (Ok x) more p = more p
ok_more (Err e) more p = tt

-- a job that is no run needs no place
pub ready_other : (j : Job) (touched room : ℕ) (es : List (ℕ × Attempt)) → is_run (Some j) ≡ false → IsReadyFor (Some j) touched room es
ready_other (job.Run t i) touched room es e = absurd (no refl e)
ready_other (job.Commit t) touched room es e = tt
ready_other (job.Rollback t) touched room es e = tt
ready_other job.Restart touched room es e = tt

-- where a run of t is out, its answer and its transaction have their places
pub run_ready : (t : ℕ) (o : Option Job) (touched room : ℕ) (es : List (ℕ × Attempt)) → is_run_of t o ≡ true → IsReadyFor o touched room es → (touched < room) × HasAnswerRoom t es
run_ready t (Some (job.Run u i)) touched room es e ready = (ready.0, subst (λ k. HasAnswerRoom k es) (eqb-true u t e) ready.1)
run_ready t None touched room es e ready = absurd (no e refl)
run_ready t (Some (job.Commit u)) touched room es e ready = absurd (no e refl)
run_ready t (Some (job.Rollback u)) touched room es e ready = absurd (no e refl)
run_ready t (Some job.Restart) touched room es e ready = absurd (no e refl)
