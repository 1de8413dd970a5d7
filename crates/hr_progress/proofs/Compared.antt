-- Answers of attempts, and given ones, by their places among the replies.
use Rattle.std.proofs.Common.{◌≡◌, ℕ, zero, suc, ◌+◌, ◌<◌, ◌≤◌, Bool, true, false, ◌&&◌, ◌==◌, nat_lt, if◌then◌else◌, Option, Some, None, unwrap_or, List, [], ◌∷◌, map, length, drop, slice_get, slice_index_or, refl, ap, sym, ◌∙◌, arith}
use Rattle.std.proofs.lemmas.Bool.{ne_eqb, eq-eqb, eqb-true, ltb-true, lt-ltb, le-ltb}
use Rattle.std.proofs.lemmas.List.{length-map}
use Rattle.hr_base.proofs.Tests.{and_false}
use Rattle.hr_rel.specs.declared.answer.Answer.{Answer}
use Rattle.hr_engine.specs.declared.reply.RunReply.{RunReply}
use Rattle.hr_engine.specs.declared.reply.RunReply.TheVariants as run
use Rattle.hr_history.specs.Given as history
use Rattle.hr_history.specs.SameAnswers.{same_answer, same_answers, first_difference}
use Rattle.hr_history.specs.View.{TxnState, Attempt}
use Rattle.hr_history.specs.Processed.{txn_in, given_in, answers_in}
use Rattle.hr_history.proofs.SameAnswersLemmas.{same_answer_decides}
use Rattle.hr_base.specs.declared.limits.TheConstants.{MAX_STATEMENTS}
use Rattle.hr_moves.specs.Sane.{IsSane}
use Rattle.hr_progress.specs.declared.txn.Given.{Given}
use Rattle.hr_progress.specs.declared.attempt.Told.{Told}
use Rattle.hr_progress.specs.Plain.{PlainView, plain_txn_in, plain_attempt_in, plain_replica_in}
use Rattle.hr_progress.specs.Seen.{done_in, answer_in, answer_at, seen_given, seen_plain}
use Rattle.hr_progress.specs.Kept.{is_answer, AreAnswers, told_places, given_places}
use Rattle.hr_progress.proofs.Parts.{txn_seen, attempt_seen}
use Rattle.hr_progress.proofs.Waiting.{same_bool}

-- an answer equals itself
pub same_itself : (a : Answer) → same_answer a a ≡ true
same_itself a = (same_answer_decides a a).1 refl

pub answer_found : (replies : List RunReply) (place : ℕ) (answer : Answer) → slice_get replies place ≡ Some (run.Done answer) → answer_at replies place ≡ answer
answer_found replies place answer at = ap answer_in at

-- what stands at a place
pub answer_of : (o : Option RunReply) (answer : Answer) → Some answer ≡ done_in o → answer ≡ answer_in o
answer_of (Some (run.Done other)) answer e = ap (λ p. unwrap_or p other) e
answer_of None answer e = cc
answer_of (Some (run.Blocked named)) answer e = cc
answer_of (Some (run.Deadlock cycle)) answer e = cc
answer_of (Some run.Lost) answer e = cc
answer_of (Some run.NoMemory) answer e = cc

pub stands_there : (o : Option RunReply) (other answer : Answer) → done_in o ≡ Some other → other ≡ answer → o ≡ Some (run.Done answer)
stands_there (Some (run.Done x)) other answer e same = ap (λ y. Some (run.Done y)) (ap (λ p. unwrap_or p x) e ∙ same)
stands_there None other answer e same = cc
stands_there (Some (run.Blocked named)) other answer e same = cc
stands_there (Some (run.Deadlock cycle)) other answer e same = cc
stands_there (Some run.Lost) other answer e same = cc
stands_there (Some run.NoMemory) other answer e same = cc

pub no_answer : (o : Option RunReply) → None ≡ done_in o → is_answer o ≡ true → ⊥
no_answer (Some (run.Done other)) e h = cc
no_answer None e h = cc
no_answer (Some (run.Blocked named)) e h = cc
no_answer (Some (run.Deadlock cycle)) e h = cc
no_answer (Some run.Lost) e h = cc
no_answer (Some run.NoMemory) e h = cc

module _ (replies : List RunReply) where
  abbrev pub told_answers : List Told → List Answer
  told_answers ts = map (λ (t : Told). answer_at replies t.reply) ts

  abbrev pub given_answers : List Given → List Answer
  given_answers gs = map (λ (g : Given). answer_at replies g.reply) gs

  given_map : (gs : List Given) → map (λ (g : history.Given). g.answer) (map (seen_given replies) gs) ≡ given_answers gs
  given_map [] = refl
  given_map (g ∷ gs) = ap (λ xs. answer_at replies g.reply ∷ xs) (given_map gs)

module _ (p : PlainView) where
  pub answers_are : (r t : ℕ) → answers_in (seen_plain p) r t ≡ told_answers p.replies (plain_attempt_in (plain_replica_in p.replicas r).attempts t).answers
  answers_are r t = ap (λ (x : Attempt). x.answers) (attempt_seen p r t)

  pub given_are : (t : ℕ) → given_in (seen_plain p) t ≡ given_answers p.replies (plain_txn_in p.txns t).given
  given_are t = ap (λ (x : TxnState). history.answers_given x.given) (txn_seen p t) ∙ given_map p.replies (plain_txn_in p.txns t).given

  pub given_count : (t : ℕ) → length (txn_in (seen_plain p) t).given ≡ length (plain_txn_in p.txns t).given
  given_count t = ap (λ (x : TxnState). length x.given) (txn_seen p t) ∙ length-map (plain_txn_in p.txns t).given (seen_given p.replies)

  -- no more answers are given than a transaction may have statements
  pub given_few : (t : ℕ) → IsSane (seen_plain p) → (plain_txn_in p.txns t).statements ≤ MAX_STATEMENTS → length (plain_txn_in p.txns t).given ≤ MAX_STATEMENTS
  given_few t sane few = omega (arith, given_count t, sane.given t, ap (λ (x : TxnState). x.statements) (txn_seen p t), few)

-- ---- how far they are the same

module _ (replies : List RunReply) where
  pub told_is : (ts : List Told) (i : ℕ) (d : Told) → AreAnswers replies (told_places replies ts) → i < length ts → is_answer (slice_get replies (slice_index_or ts i d).reply) ≡ true
  told_is [] i d are h = absurd (omega (arith, h))
  told_is (x ∷ ts) zero d are h = are.0
  told_is (x ∷ ts) (suc i) d are h = told_is ts i d are.1 (omega (arith, h))

  pub given_is : (gs : List Given) (i : ℕ) (d : Given) → AreAnswers replies (given_places replies gs) → i < length gs → is_answer (slice_get replies (slice_index_or gs i d).reply) ≡ true
  given_is [] i d are h = absurd (omega (arith, h))
  given_is (x ∷ gs) zero d are h = are.0
  given_is (x ∷ gs) (suc i) d are h = given_is gs i d are.1 (omega (arith, h))

  abbrev rest_differs : List Told → List Given → ℕ → ℕ
  rest_differs ts gs i = first_difference (told_answers replies (drop i ts)) (given_answers replies (drop i gs))

  pub differs_on : (ts : List Told) (gs : List Given) (i : ℕ) (d : Told) (e : Given) → i < length ts → i < length gs
      → same_answer (answer_at replies (slice_index_or ts i d).reply) (answer_at replies (slice_index_or gs i e).reply) ≡ true → rest_differs ts gs i ≡ suc (rest_differs ts gs (i + 1))
  differs_on [] gs i d e h k same = absurd (omega (arith, h))
  differs_on (x ∷ ts) [] i d e h k same = absurd (omega (arith, k))
  differs_on (x ∷ ts) (y ∷ gs) zero d e h k same = ap (λ b. if b then suc (first_difference (told_answers replies ts) (given_answers replies gs)) else 1) same
  differs_on (x ∷ ts) (y ∷ gs) (suc i) d e h k same =
      let next : suc i + 1 ≡ suc (i + 1) = omega arith in
      differs_on ts gs i d e (omega (arith, h)) (omega (arith, k)) same ∙ ap (λ j. suc (rest_differs (x ∷ ts) (y ∷ gs) j)) (sym next)

  pub differs_here : (ts : List Told) (gs : List Given) (i : ℕ) (d : Told) (e : Given) → i < length ts → i < length gs
      → same_answer (answer_at replies (slice_index_or ts i d).reply) (answer_at replies (slice_index_or gs i e).reply) ≡ false → rest_differs ts gs i ≡ 1
  differs_here [] gs i d e h k same = absurd (omega (arith, h))
  differs_here (x ∷ ts) [] i d e h k same = absurd (omega (arith, k))
  differs_here (x ∷ ts) (y ∷ gs) zero d e h k same = ap (λ b. if b then suc (first_difference (told_answers replies ts) (given_answers replies gs)) else 1) same
  differs_here (x ∷ ts) (y ∷ gs) (suc i) d e h k same = differs_here ts gs i d e (omega (arith, h)) (omega (arith, k)) same

  none_left : (xs : List Answer) → first_difference xs [] ≡ 1
  none_left [] = refl
  none_left (x ∷ xs) = refl

  pub differs_past_told : (ts : List Told) (gs : List Given) (i : ℕ) → length ts ≤ i → rest_differs ts gs i ≡ 1
  differs_past_told [] gs zero h = refl
  differs_past_told [] gs (suc i) h = refl
  differs_past_told (x ∷ ts) gs zero h = absurd (omega (arith, h))
  differs_past_told (x ∷ ts) [] (suc i) h = none_left (told_answers replies (drop i ts))
  differs_past_told (x ∷ ts) (y ∷ gs) (suc i) h = differs_past_told ts gs i (omega (arith, h))

  pub differs_past_given : (ts : List Told) (gs : List Given) (i : ℕ) → length gs ≤ i → rest_differs ts gs i ≡ 1
  differs_past_given ts (y ∷ gs) zero h = absurd (omega (arith, h))
  differs_past_given [] gs i h = differs_past_told [] gs i (omega arith)
  differs_past_given (x ∷ ts) [] zero h = refl
  differs_past_given (x ∷ ts) [] (suc i) h = none_left (told_answers replies (drop i ts))
  differs_past_given (x ∷ ts) (y ∷ gs) (suc i) h = differs_past_given ts gs i (omega (arith, h))

-- ---- two attempts

module _ (replies : List RunReply) where
  abbrev rest_same : List Told → List Told → ℕ → Bool
  rest_same ts us i = same_answers (told_answers replies (drop i ts)) (told_answers replies (drop i us))

  pub same_on : (ts us : List Told) (i : ℕ) (d : Told) → i < length ts → i < length us
      → same_answer (answer_at replies (slice_index_or ts i d).reply) (answer_at replies (slice_index_or us i d).reply) ≡ true → rest_same ts us i ≡ rest_same ts us (i + 1)
  same_on [] us i d h k same = absurd (omega (arith, h))
  same_on (x ∷ ts) [] i d h k same = absurd (omega (arith, k))
  same_on (x ∷ ts) (y ∷ us) zero d h k same = ap (λ b. b && same_answers (told_answers replies ts) (told_answers replies us)) same
  same_on (x ∷ ts) (y ∷ us) (suc i) d h k same =
      let next : suc i + 1 ≡ suc (i + 1) = omega arith in
      same_on ts us i d (omega (arith, h)) (omega (arith, k)) same ∙ ap (λ j. rest_same (x ∷ ts) (y ∷ us) j) (sym next)

  pub same_here : (ts us : List Told) (i : ℕ) (d : Told) → i < length ts → i < length us
      → same_answer (answer_at replies (slice_index_or ts i d).reply) (answer_at replies (slice_index_or us i d).reply) ≡ false → rest_same ts us i ≡ false
  same_here [] us i d h k same = absurd (omega (arith, h))
  same_here (x ∷ ts) [] i d h k same = absurd (omega (arith, k))
  same_here (x ∷ ts) (y ∷ us) zero d h k same = ap (λ b. b && same_answers (told_answers replies ts) (told_answers replies us)) same
  same_here (x ∷ ts) (y ∷ us) (suc i) d h k same = same_here ts us i d (omega (arith, h)) (omega (arith, k)) same

  gone : (i : ℕ) (ts : List Told) → length ts ≤ i → drop i ts ≡ []
  gone zero [] h = refl
  gone (suc i) [] h = refl
  gone zero (x ∷ ts) h = absurd (omega (arith, h))
  gone (suc i) (x ∷ ts) h = gone i ts (omega (arith, h))

  pub same_past : (ts us : List Told) (i : ℕ) → length ts ≤ i → length us ≤ i → rest_same ts us i ≡ true
  same_past ts us i h k = λ j. same_answers (told_answers replies (gone i ts h j)) (told_answers replies (gone i us k j))

  pub differ_long : (ts us : List Told) → (length ts ≡ length us → ⊥) → same_answers (told_answers replies ts) (told_answers replies us) ≡ false
  differ_long [] [] differ = absurd (differ refl)
  differ_long [] (y ∷ us) differ = refl
  differ_long (x ∷ ts) [] differ = refl
  differ_long (x ∷ ts) (y ∷ us) differ = last_false (same_answer (answer_at replies x.reply) (answer_at replies y.reply)) (differ_long ts us (λ e. differ (ap (λ n. suc n) e)))
    where
      last_false : {b : Bool} (a : Bool) → b ≡ false → (a && b) ≡ false
      last_false true e = e
      last_false false e = refl

eq_suc : (m n : ℕ) → (suc m == suc n) ≡ (m == n)
eq_suc m n = same_bool _ _ (λ h. eq-eqb m n (omega (arith, eqb-true (suc m) (suc n) h))) (λ h. eq-eqb (suc m) (suc n) (omega (arith, eqb-true m n h)))

lt_suc : (m n : ℕ) → nat_lt (suc m) (suc n) ≡ nat_lt m n
lt_suc m n = same_bool _ _ (λ h. lt-ltb m n (omega (arith, ltb-true (suc m) (suc n) h))) (λ h. lt-ltb (suc m) (suc n) (omega (arith, ltb-true m n h)))

-- two lists are the same where they are equally long and none differs before their end
pub same_by_difference : (xs ys : List Answer) → ((length xs == length ys) && nat_lt (length xs) (first_difference xs ys)) ≡ same_answers xs ys
same_by_difference [] [] = refl
same_by_difference [] (y ∷ ys) = ap (λ b. b && nat_lt 0 1) (ne_eqb 0 (suc (length ys)) (λ e. omega (arith, e)))
same_by_difference (x ∷ xs) [] = ap (λ b. b && nat_lt (suc (length xs)) 1) (ne_eqb (suc (length xs)) 0 (λ e. omega (arith, e)))
same_by_difference (x ∷ xs) (y ∷ ys) = ap (λ b. b && nat_lt (suc (length xs)) (first_difference (x ∷ xs) (y ∷ ys))) (eq_suc (length xs) (length ys)) ∙ by (same_answer x y) (same_by_difference xs ys)
  where
    by : (b : Bool) → ((length xs == length ys) && nat_lt (length xs) (first_difference xs ys)) ≡ same_answers xs ys → ((length xs == length ys) && nat_lt (suc (length xs)) (if b then suc (first_difference xs ys) else 1)) ≡ (b && same_answers xs ys)
    by true rest = ap (λ b. (length xs == length ys) && b) (lt_suc (length xs) (first_difference xs ys)) ∙ rest
    by false rest = and_false (length xs == length ys) (nat_lt (suc (length xs)) 1) (le-ltb (suc (length xs)) 1 (omega arith))
