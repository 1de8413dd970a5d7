-- What a reply changes of the attempts at a replica.
use Rattle.std.proofs.Common.{◌≡◌, ℕ, ◌+◌, ◌<◌, ◌≤◌, Bool, true, false, not, ◌&&◌, ◌||◌, ◌==◌, nat_eq, nat_lt, cond, if◌then◌else◌, Option, Some, None, unwrap_or, List, [], ◌∷◌, ◌++◌, filter, map, length, slice_get, refl, ap, sym, ◌∙◌, arith}
use Rattle.std.specs.Map.{lookup}
use Rattle.std.specs.Option.{option_map}
use Rattle.std.proofs.lemmas.Bool.{eqb-true, eq-eqb, ne_eqb, le-ltb}
use Rattle.hr_base.specs.Lists.{is_empty, has, is_distinct, one_to}
use Rattle.hr_base.proofs.Tests.{or_false}
use Rattle.std.proofs.lemmas.Bool.{and_parts}
use Rattle.hr_rel.specs.declared.answer.Answer.{Answer}
use Rattle.hr_engine.specs.declared.reply.RunReply.{RunReply}
use Rattle.hr_history.specs.declared.phase.Fresh.{Fresh}
use Rattle.hr_history.specs.View.{Attempt, is_fresh}
use Rattle.hr_history.specs.Processed.{no_attempt}
use Rattle.hr_moves.specs.Changes.{change_at, with_attempt, with_attempts}
use Rattle.hr_moves.specs.Kept.{and_in_order, without}
use Rattle.hr_moves.specs.Sane.{cut_to}
use Rattle.hr_moves.specs.Moves.{free, with_answer, with_waits, ended_among, lose}
use Rattle.hr_sane.proofs.KeptLists.{one_more_in}
use Rattle.hr_progress.specs.declared.attempt.Told.{Told}
use Rattle.hr_progress.specs.Plain.{PlainAttempt, PlainProgress, idle_attempt, plain_attempt_in, with_entry, to_answered, to_waiting, to_idle, to_idle_entry, with_answered, with_waiting, with_ended, with_loss}
use Rattle.hr_progress.specs.Seen.{answer_at, waits_in, waits_at, began_before, runs_since, seen_last, seen_attempt, seen_entry, seen_replica}
use Rattle.hr_progress.specs.Kept.{is_answer, is_wait, AreAnswers, told_places, IsTold, AreTold, touched_of}
use Rattle.hr_progress.proofs.Attempts.{entries_changed, lookup_entry, attempt_kept, told_entry, not_has}
use Rattle.hr_progress.proofs.Rests.{idle_told}
use Rattle.hr_progress.proofs.Changed.{got_here, got_else}
use Rattle.hr_progress.proofs.Cuts.{cut_both}
use Rattle.hr_progress.proofs.Numbers.{filter_same_test, filter_both}
use Rattle.hr_progress.proofs.Parts.{lookup_map}
use Rattle.hr_progress.proofs.Preempts.{seen_entry_changed}
use Rattle.hr_progress.proofs.Replied.{wait_below, newest_is, newest_count}

no : {b : Bool} → b ≡ true → b ≡ false → ⊥
no e d = cc

pub mapped_end : {X Y : Type 0} (f : X → Y) (xs : List X) (x : X) → map f (xs ++ x ∷ []) ≡ map f xs ++ f x ∷ []
mapped_end f [] x = refl
mapped_end f (y ∷ xs) x = ap (λ ys. f y ∷ ys) (mapped_end f xs x)

never_empty : {X : Type 0} (xs : List X) (x : X) → is_empty (xs ++ x ∷ []) ≡ false
never_empty [] x = refl
never_empty (y ∷ xs) x = refl

filter_nothing : (xs : List ℕ) → filter (λ u. false) xs ≡ []
filter_nothing [] = refl
filter_nothing (x ∷ xs) = filter_nothing xs

-- ---- last replies stand at earlier places

abbrev pub LastsBelow : ℕ → List (ℕ × PlainAttempt) → Type 0
LastsBelow n [] = Unit {0}
LastsBelow n (e ∷ es) = ((place : ℕ) → e.1.last ≡ Some place → place < n) × LastsBelow n es

pub told_below : (replies : List RunReply) (es : List (ℕ × PlainAttempt)) → AreTold replies es → LastsBelow (length replies) es
told_below replies [] told = tt
told_below replies (e ∷ es) told = (λ place at. wait_below replies place (told.0.last place at), told_below replies es told.1)

below_by : (n : ℕ) (h : PlainAttempt → PlainAttempt) (b : Bool) (e : ℕ × PlainAttempt) (es rest : List (ℕ × PlainAttempt)) → ((a : PlainAttempt) (place : ℕ) → (h a).last ≡ Some place → place < n)
    → LastsBelow n (e ∷ es) → LastsBelow n rest → LastsBelow n (cond b ((e.0, h e.1) ∷ es) (e ∷ rest))
below_by n h true e es rest new old below = (new e.1, old.1)
below_by n h false e es rest new old below = (old.0, below)

pub below_entry : (n t : ℕ) (h : PlainAttempt → PlainAttempt) → ((a : PlainAttempt) (place : ℕ) → (h a).last ≡ Some place → place < n) → (es : List (ℕ × PlainAttempt)) → LastsBelow n es → LastsBelow n (with_entry t h es)
below_entry n t h new [] below = tt
below_entry n t h new (e ∷ es) below = below_by n h (nat_eq t e.0) e es (with_entry t h es) new below (below_entry n t h new es below.1)

last_below : (n : ℕ) (replies : List RunReply) (fresh : Bool) (es fs : List (ℕ × PlainAttempt)) → ((place u : ℕ) → place < n → runs_since es place u ≡ runs_since fs place u)
    → (last : Option ℕ) → ((place : ℕ) → last ≡ Some place → place < n) → seen_last replies fresh es last ≡ seen_last replies fresh fs last
last_below n replies fresh es fs same None below = refl
last_below n replies fresh es fs same (Some place) below = λ i. if fresh && (place + 1 == length replies) then waits_at replies place else cut_to (λ u. same place u (below place refl) i) (waits_at replies place)

pub seen_below : (n : ℕ) (replies : List RunReply) (fresh : Option Fresh) (r : ℕ) (es fs : List (ℕ × PlainAttempt)) → ((place u : ℕ) → place < n → runs_since es place u ≡ runs_since fs place u)
    → (gs : List (ℕ × PlainAttempt)) → LastsBelow n gs → map (seen_entry replies fresh r es) gs ≡ map (seen_entry replies fresh r fs) gs
seen_below n replies fresh r es fs same [] below = refl
seen_below n replies fresh r es fs same (g ∷ gs) below =
    λ i. (g.0, record (seen_attempt replies (is_fresh fresh r g.0) fs g.1) { last = last_below n replies (is_fresh fresh r g.0) es fs same g.1.last below.0 i }) ∷ seen_below n replies fresh r es fs same gs below.1 i

-- ---- an answer

began_same : (told : Told) (n place : ℕ) (a : PlainAttempt) → place < n → began_before place (to_answered told n a) ≡ began_before place a
began_same told n place a below = ap (λ b. not b && nat_lt (if is_empty a.answers then n else a.began) place) (never_empty a.answers told) ∙ by (is_empty a.answers)
  where
    by : (b : Bool) → nat_lt (if b then n else a.began) place ≡ (not b && nat_lt a.began place)
    by true = le-ltb n place (omega (arith, below))
    by false = refl

fresh_itself : (r t : ℕ) → is_fresh (Some record { replica = r; txn = t }) r t ≡ true
fresh_itself r t = λ i. eq-eqb r r refl i && eq-eqb t t refl i

module _ (t r : ℕ) (replies : List RunReply) (reply : RunReply) (q : PlainProgress) (apart : is_distinct (map (λ (e : ℕ × PlainAttempt). e.0) q.attempts) ≡ true) where
  abbrev more : List RunReply
  more = replies ++ reply ∷ []

  abbrev fresh : Option Fresh
  fresh = Some record { replica = r; txn = t }

  pub seen_answered : (told : Told) (answer : Answer) → AreTold replies q.attempts → answer_at more told.reply ≡ answer
      → seen_replica more fresh r (with_answered t told (length replies) q) ≡ with_attempt t (with_answer answer told.at) (free (seen_replica more fresh r q))
  seen_answered told answer are at =
      let n = length replies in
      let es = with_entry t (to_answered told n) q.attempts in
      λ i. record (free (seen_replica more fresh r q)) {
        attempts = (seen_below n more fresh r es q.attempts (λ place u below. attempt_kept t (to_answered told n) (began_before place) (λ a. began_same told n place a below) u q.attempts)
            es (below_entry n t (to_answered told n) (λ a place e. absurd (none_some e)) q.attempts (told_below replies q.attempts are))
            ∙ entries_changed t (to_answered told n) (with_answer answer told.at) (λ u a. seen_attempt more (is_fresh fresh r u) q.attempts a) q.attempts apart (λ a. one_answer a)) i;
      }
    where
      none_some : {place : ℕ} → None ≡ Some place → ⊥
      none_some e = cc

      one_answer : (a : PlainAttempt) → seen_attempt more (is_fresh fresh r t) q.attempts (to_answered told (length replies) a) ≡ with_answer answer told.at (seen_attempt more (is_fresh fresh r t) q.attempts a)
      one_answer a = λ i. record (with_answer answer told.at (seen_attempt more (is_fresh fresh r t) q.attempts a)) {
        answers = (mapped_end (λ (x : Told). answer_at more x.reply) a.answers told ∙ ap (λ x. map (λ (y : Told). answer_at more y.reply) a.answers ++ x ∷ []) at) i;
        places = mapped_end (λ (x : Told). x.at) a.answers told i;
      }

  pub told_answered : (told : Told) → AreTold more q.attempts → is_answer (slice_get more told.reply) ≡ true → is_answer (slice_get more (length replies)) ≡ true → AreTold more (with_answered t told (length replies) q).attempts
  told_answered told are first second = told_entry t (to_answered told (length replies)) more (λ a h. record {
    answers = answers_more a.answers h.answers;
    began = λ runs. began_by (is_empty a.answers) a refl h;
    last = λ place e. absurd (none_some e);
  }) q.attempts are
    where
      none_some : {place : ℕ} → None ≡ Some place → ⊥
      none_some e = cc

      answers_more : (ts : List Told) → AreAnswers more (told_places more ts) → AreAnswers more (told_places more (ts ++ told ∷ []))
      answers_more [] h = (first, tt)
      answers_more (x ∷ ts) h = (h.0, answers_more ts h.1)

      began_by : (b : Bool) (a : PlainAttempt) → is_empty a.answers ≡ b → IsTold more a → is_answer (slice_get more (if b then length replies else a.began)) ≡ true
      began_by true a e h = second
      began_by false a e h = h.began e

  -- ---- waits

  pub seen_waiting : seen_replica more fresh r (with_waiting t (length replies) q) ≡ with_attempt t (with_waits (waits_in (Some reply))) (free (seen_replica more fresh r q))
  seen_waiting = λ i. record (free (seen_replica more fresh r q)) {
    attempts = seen_entry_changed t (to_waiting (length replies)) (with_waits (waits_in (Some reply))) more fresh r q.attempts apart (λ place a. refl) (λ a. one_wait a) i;
  }
    where
      one_wait : (a : PlainAttempt) → seen_attempt more (is_fresh fresh r t) q.attempts (to_waiting (length replies) a) ≡ with_waits (waits_in (Some reply)) (seen_attempt more (is_fresh fresh r t) q.attempts a)
      one_wait a = λ i. record (with_waits (waits_in (Some reply)) (seen_attempt more (is_fresh fresh r t) q.attempts a)) {
        last = (ap (λ b. if b then waits_at more (length replies) else cut_to (runs_since q.attempts (length replies)) (waits_at more (length replies)))
            (λ k. fresh_itself r t k && eq-eqb (length replies + 1) (length more) (newest_count replies reply) k)
            ∙ ap waits_in (newest_is replies reply)) i;
      }

  pub told_waiting : AreTold more q.attempts → is_wait (Some reply) ≡ true → AreTold more (with_waiting t (length replies) q).attempts
  told_waiting are waits = told_entry t (to_waiting (length replies)) more (λ a h. record {
    answers = h.answers;
    began = h.began;
    last = λ place e. ap (λ k. is_wait (slice_get more k)) (sym (inner e)) ∙ ap is_wait (newest_is replies reply) ∙ waits;
  }) q.attempts are
    where
      inner : {a b : ℕ} → Some a ≡ Some b → a ≡ b
      inner {a} e = ap (λ o. unwrap_or o a) e

-- ---- an end

module _ (t r : ℕ) (replies : List RunReply) (q : PlainProgress) (apart : is_distinct (map (λ (e : ℕ × PlainAttempt). e.0) q.attempts) ≡ true) where
  abbrev left : List (ℕ × PlainAttempt)
  left = with_entry t to_idle q.attempts

  idle_here : plain_attempt_in left t ≡ idle_attempt
  idle_here = ap (λ o. unwrap_or o idle_attempt) (lookup_entry t to_idle t q.attempts) ∙ by (lookup (nat_eq t) q.attempts)
    where
      by : (o : Option PlainAttempt) → unwrap_or (option_map (change_at t to_idle t) o) idle_attempt ≡ idle_attempt
      by None = refl
      by (Some a) = ap (λ b. if b then idle_attempt else a) (eq-eqb t t refl)

  as_before : (u : ℕ) → (u ≡ t → ⊥) → plain_attempt_in left u ≡ plain_attempt_in q.attempts u
  as_before u differ = ap (λ o. unwrap_or o idle_attempt) (lookup_entry t to_idle u q.attempts) ∙ got_else to_idle t u (lookup (nat_eq u) q.attempts) idle_attempt differ

  runs_left : (runs : ℕ → Bool) → ((place u : ℕ) → runs_since q.attempts place u ≡ true → runs u ≡ true) → (place u : ℕ) → (not (u == t) && runs u && runs_since q.attempts place u) ≡ runs_since left place u
  runs_left runs more place u = by (u == t) refl
    where
      both : (a b : Bool) → (b ≡ true → a ≡ true) → (a && b) ≡ b
      both true b h = refl
      both false true h = h refl
      both false false h = refl

      by : (b : Bool) → (u == t) ≡ b → (not b && runs u && runs_since q.attempts place u) ≡ runs_since left place u
      by true e = sym (ap (began_before place) (ap (plain_attempt_in left) (eqb-true u t e) ∙ idle_here))
      by false e = both (runs u) (runs_since q.attempts place u) (more place u) ∙ sym (ap (began_before place) (as_before u (λ same. no (eq-eqb u t same) e)))

  last_left : (runs : ℕ → Bool) → ((place u : ℕ) → runs_since q.attempts place u ≡ true → runs u ≡ true) → (last : Option ℕ) → seen_last replies false left last ≡ cut_to (λ w. not (w == t) && runs w) (seen_last replies false q.attempts last)
  last_left runs more None = refl
  last_left runs more (Some place) = sym (cut_both (λ w. not (w == t) && runs w) (runs_since q.attempts place) (waits_at replies place) ∙ (λ i. cut_to (λ u. runs_left runs more place u i) (waits_at replies place)))

  other_left : (runs : ℕ → Bool) → ((place u : ℕ) → runs_since q.attempts place u ≡ true → runs u ≡ true) → (e : ℕ × PlainAttempt) → (e.0 == t) ≡ false
      → seen_attempt replies false left e.1 ≡ ended_among t runs e.0 (seen_attempt replies false q.attempts e.1)
  other_left runs more e other =
      (λ i. record (seen_attempt replies false q.attempts e.1) { last = last_left runs more e.1.last i })
      ∙ sym (ap (λ b. if b then no_attempt else record (seen_attempt replies false q.attempts e.1) { last = cut_to (λ w. not (w == t) && runs w) (seen_last replies false q.attempts e.1.last) }) other)

  -- those that don't have it
  rest_left : (runs : ℕ → Bool) → ((place u : ℕ) → runs_since q.attempts place u ≡ true → runs u ≡ true) → (es : List (ℕ × PlainAttempt)) → has (map (λ (e : ℕ × PlainAttempt). e.0) es) t ≡ false
      → map (seen_entry replies None r left) es ≡ map (λ (e : ℕ × Attempt). (e.0, ended_among t runs e.0 e.1)) (map (seen_entry replies None r q.attempts) es)
  rest_left runs more [] none = refl
  rest_left runs more (e ∷ es) none =
      let both = or_false (e.0 == t) (has (map (λ (x : ℕ × PlainAttempt). x.0) es) t) none in
      λ i. (e.0, other_left runs more e both.0 i) ∷ rest_left runs more es both.1 i

  all_by : (runs : ℕ → Bool) (b : Bool) (e : ℕ × PlainAttempt) (es : List (ℕ × PlainAttempt)) → nat_eq t e.0 ≡ b → ((place u : ℕ) → runs_since q.attempts place u ≡ true → runs u ≡ true) → has (map (λ (x : ℕ × PlainAttempt). x.0) es) e.0 ≡ false
      → map (seen_entry replies None r left) (with_entry t to_idle es) ≡ map (λ (x : ℕ × Attempt). (x.0, ended_among t runs x.0 x.1)) (map (seen_entry replies None r q.attempts) es)
      → map (seen_entry replies None r left) (cond b ((e.0, idle_attempt) ∷ es) (e ∷ with_entry t to_idle es)) ≡ map (λ (x : ℕ × Attempt). (x.0, ended_among t runs x.0 x.1)) (map (seen_entry replies None r q.attempts) (e ∷ es))
  all_by runs true e es same more none ih =
      let key : t ≡ e.0 = eqb-true t e.0 same in
      λ i. (e.0, sym (ap (λ b. if b then no_attempt else record (seen_attempt replies false q.attempts e.1) { last = cut_to (λ w. not (w == t) && runs w) (seen_last replies false q.attempts e.1.last) }) (eq-eqb e.0 t (sym key))) i)
      ∷ rest_left runs more es (ap (has (map (λ (x : ℕ × PlainAttempt). x.0) es)) key ∙ none) i
  all_by runs false e es same more none ih =
      λ i. (e.0, other_left runs more e (ne_eqb e.0 t (λ key. no (eq-eqb t e.0 (sym key)) same)) i) ∷ ih i

  all_left : (runs : ℕ → Bool) → ((place u : ℕ) → runs_since q.attempts place u ≡ true → runs u ≡ true) → (es : List (ℕ × PlainAttempt)) → is_distinct (map (λ (e : ℕ × PlainAttempt). e.0) es) ≡ true
      → map (seen_entry replies None r left) (with_entry t to_idle es) ≡ map (λ (e : ℕ × Attempt). (e.0, ended_among t runs e.0 e.1)) (map (seen_entry replies None r q.attempts) es)
  all_left runs more [] distinct = refl
  all_left runs more (e ∷ es) distinct =
      let both = and_parts (not (has (map (λ (x : ℕ × PlainAttempt). x.0) es) e.0)) (is_distinct (map (λ (x : ℕ × PlainAttempt). x.0) es)) distinct in
      all_by runs (nat_eq t e.0) e es refl more (not_has (map (λ (x : ℕ × PlainAttempt). x.0) es) e.0 both.0) (all_left runs more es both.1)

  pub seen_ended : (runs : ℕ → Bool) → ((place u : ℕ) → runs_since q.attempts place u ≡ true → runs u ≡ true) → seen_replica replies None r (with_ended t q) ≡ with_attempts (ended_among t runs) (free (seen_replica replies None r q))
  seen_ended runs more = λ i. record (free (seen_replica replies None r q)) { attempts = all_left runs more q.attempts apart i }

pub told_ended : (t : ℕ) (replies : List RunReply) (es : List (ℕ × PlainAttempt)) → AreTold replies es → AreTold replies (with_entry t to_idle es)
told_ended t replies es are = told_entry t to_idle replies (λ a h. idle_told replies) es are

-- ---- a loss

module _ (replies : List RunReply) (fresh : Option Fresh) (r : ℕ) where
  lost_left : (all es now : List (ℕ × PlainAttempt)) → map (seen_entry replies fresh r all) (map to_idle_entry es) ≡ map (λ (e : ℕ × Attempt). (e.0, no_attempt)) (map (seen_entry replies fresh r now) es)
  lost_left all [] now = refl
  lost_left all (e ∷ es) now = ap (λ xs. (e.0, no_attempt) ∷ xs) (lost_left all es now)

  pub seen_loss : (in_doubt : Bool) (q : PlainProgress) → seen_replica replies fresh r (with_loss in_doubt q) ≡ lose in_doubt (seen_replica replies fresh r q)
  seen_loss in_doubt q = λ i. record (lose in_doubt (seen_replica replies fresh r q)) { attempts = lost_left (with_loss in_doubt q).attempts q.attempts q.attempts i }

pub told_lost : (replies : List RunReply) (es : List (ℕ × PlainAttempt)) → AreTold replies (map to_idle_entry es)
told_lost replies [] = tt
told_lost replies (e ∷ es) = (idle_told replies, told_lost replies es)

-- ---- those that have something to roll back

module _ (t n : ℕ) (h : PlainAttempt → PlainAttempt) (es : List (ℕ × PlainAttempt)) where
  marked_by : (a : PlainAttempt) → lookup (nat_eq t) es ≡ Some a → ((x : PlainAttempt) → (h x).touched ≡ true) → (b : Bool) (u : ℕ) → (u == t) ≡ b → (b || (plain_attempt_in es u).touched) ≡ (plain_attempt_in (with_entry t h es) u).touched
  marked_by a found marks true u e = sym (ap (λ k. (plain_attempt_in (with_entry t h es) k).touched) (eqb-true u t e)
      ∙ ap (λ o. (unwrap_or o idle_attempt).touched) (lookup_entry t h t es) ∙ ap (λ (x : PlainAttempt). x.touched) (got_here h t (lookup (nat_eq t) es) idle_attempt a found) ∙ marks (plain_attempt_in es t))
  marked_by a found marks false u e = sym (ap (λ o. (unwrap_or o idle_attempt).touched) (lookup_entry t h u es) ∙ ap (λ (x : PlainAttempt). x.touched) (got_else h t u (lookup (nat_eq u) es) idle_attempt (λ same. no (eq-eqb u t same) e)))

  pub touched_more : (a : PlainAttempt) → lookup (nat_eq t) es ≡ Some a → ((x : PlainAttempt) → (h x).touched ≡ true) → 1 ≤ t → t ≤ n → and_in_order t (touched_of n es) ≡ touched_of n (with_entry t h es)
  touched_more a found marks low high =
      sym (one_more_in (λ u. (plain_attempt_in es u).touched) t 1 n low (omega (arith, high)))
      ∙ filter_same_test _ _ (one_to n) (λ u. marked_by a found marks (u == t) u refl)

pub touched_less : (t n : ℕ) (es : List (ℕ × PlainAttempt)) → without t (touched_of n es) ≡ touched_of n (with_entry t to_idle es)
touched_less t n es = filter_both (λ u. not (u == t)) (λ u. (plain_attempt_in es u).touched) (one_to n) ∙ filter_same_test _ _ (one_to n) (λ u. by (u == t) u refl)
  where
    idle : (o : Option PlainAttempt) → (unwrap_or (option_map (change_at t to_idle t) o) idle_attempt).touched ≡ false
    idle None = refl
    idle (Some a) = ap (λ b. (if b then idle_attempt else a).touched) (eq-eqb t t refl)

    by : (b : Bool) (u : ℕ) → (u == t) ≡ b → (not b && (plain_attempt_in es u).touched) ≡ (plain_attempt_in (with_entry t to_idle es) u).touched
    by true u e = sym (ap (λ k. (plain_attempt_in (with_entry t to_idle es) k).touched) (eqb-true u t e) ∙ ap (λ o. (unwrap_or o idle_attempt).touched) (lookup_entry t to_idle t es) ∙ idle (lookup (nat_eq t) es))
    by false u e = sym (ap (λ o. (unwrap_or o idle_attempt).touched) (lookup_entry t to_idle u es) ∙ ap (λ (x : PlainAttempt). x.touched) (got_else to_idle t u (lookup (nat_eq u) es) idle_attempt (λ same. no (eq-eqb u t same) e)))

pub touched_gone : (n : ℕ) (es : List (ℕ × PlainAttempt)) → [] ≡ touched_of n (map to_idle_entry es)
touched_gone n es = sym (none (one_to n))
  where
    idle : (u : ℕ) (o : Option PlainAttempt) → (unwrap_or (option_map (λ (a : PlainAttempt). idle_attempt) o) idle_attempt).touched ≡ false
    idle u None = refl
    idle u (Some a) = refl

    each : (u : ℕ) → (plain_attempt_in (map to_idle_entry es) u).touched ≡ false
    each u = ap (λ o. (unwrap_or o idle_attempt).touched) (lookup_map (λ k a. idle_attempt) u es) ∙ idle u (lookup (nat_eq u) es)

    none : (xs : List ℕ) → filter (λ u. (plain_attempt_in (map to_idle_entry es) u).touched) xs ≡ []
    none xs = filter_same_test _ (λ u. false) xs each ∙ filter_nothing xs
