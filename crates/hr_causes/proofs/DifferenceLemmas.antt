-- A refusal for the votes: the answers differ first where the cause says, and its place is that of the other answer's Give.
use Rattle.std.proofs.Common.{◌≡◌, ℕ, zero, suc, ◌+◌, ◌*◌, ◌<◌, ◌≤◌, Bool, true, false, not, ◌&&◌, ◌==◌, nat_le, if◌then◌else◌, Some, is_some, unwrap_or, List, [], ◌∷◌, ◌++◌, length, count_by, refl, ap, sym, ◌∙◌, subst, arith, IsTrue}
use Rattle.std.proofs.lemmas.Bool.{and_parts, eqb-true, not-true}
use Rattle.std.proofs.lemmas.List.{length-map}
use Rattle.hr_base.specs.Lists.{has, numbered}
use Rattle.hr_rel.specs.declared.answer.Answer.{Answer}
use Rattle.hr_engine.specs.declared.reply.RunReply.TheVariants as run
use Rattle.hr_history.specs.declared.cause.CauseAt.{CauseAt}
use Rattle.hr_history.specs.declared.cause.CauseAt.TheVariants as cause
use Rattle.hr_history.specs.declared.entry.Entry.{Entry}
use Rattle.hr_history.specs.declared.entry.Event.{Event}
use Rattle.hr_history.specs.declared.entry.Event.TheVariants as event
use Rattle.hr_history.specs.declared.job.Job.TheVariants as job
use Rattle.hr_history.specs.declared.job.JobReply.TheVariants as reply
use Rattle.hr_history.specs.History.{History}
use Rattle.hr_history.specs.ReplicaNumbers.{replica_numbers}
use Rattle.hr_history.specs.SameAnswers.{same_answer, same_answers, first_difference}
use Rattle.hr_history.specs.Transactions.{begun, log, submits, phase_of, is_open, is_asked}
use Rattle.hr_history.specs.Given.{Given, given_to, answers_given}
use Rattle.hr_history.specs.Attempts.{places_told}
use Rattle.hr_history.specs.Turn.{Turn, turn_of}
use Rattle.hr_history.specs.View.{View, Attempt, view_of}
use Rattle.hr_history.specs.Processed.{txn_in, phase_in, answers_in, given_in, live_in, is_whole, processed_in}
use Rattle.hr_history.specs.Votes.{is_ready, agree_on, contradicts, contradicted_by, is_contradicted, difference_at}
use Rattle.hr_history.specs.Rules.{answer_place, due_in, due}
use Rattle.hr_history.specs.Replies.{is_waiting, reply_to}
use Rattle.hr_history.specs.Faithful.{Begun}
use Rattle.hr_history.proofs.SameAnswersLemmas.{same_answer_decides}
use Rattle.hr_history.proofs.AttemptSteps.{attempt_lookup}
use Rattle.hr_records.specs.Numbers.{IsBorn}
use Rattle.hr_records.specs.Kept.{Kept}
use Rattle.hr_records.proofs.Options.{On, on_some, find_has, has_range, same_some}
use Rattle.hr_records.proofs.Places.{numbered_born, numbered_some}
use Rattle.hr_records.proofs.NumberSteps.{not_both, asked_balance}
use Rattle.hr_records.proofs.RuleLemmas.{begun_before, begun_until, by_rule, was_due}
use Rattle.hr_records.proofs.ViewWords.{open_seen, phase_seen, given_seen, statements_seen, answers_seen}
use Rattle.hr_records.proofs.KeptLemmas.{kept}
use Rattle.hr_causes.specs.Places.{StandsAt}
use Rattle.hr_causes.specs.Causes.{answers_at, IsShownDifference}
use Rattle.hr_causes.proofs.PlaceLemmas.{AnswerAt, told}
use Rattle.hr_causes.proofs.DueLemmas.{due_on}

-- WHERE TWO LISTS DIFFER FIRST
pub record FirstDifference (xs ys : List Answer) (i : ℕ) : Type 0 where
  pub one : Answer
  pub other : Answer
  pub in_one : numbered xs i ≡ Some one
  pub in_other : numbered ys i ≡ Some other
  pub apart : same_answer one other ≡ false
  pub first : (k : ℕ) → k < i → numbered xs k ≡ numbered ys k

module _ (equal : (a b : Answer) → same_answer a b ≡ true → a ≡ b) where
  positive : (xs ys : List Answer) → 1 ≤ first_difference xs ys
  positive [] [] = omega arith
  positive [] (y ∷ ys) = omega arith
  positive (x ∷ xs) [] = omega arith
  positive (x ∷ xs) (y ∷ ys) = by_test (same_answer x y)
    where
      by_test : (b : Bool) → 1 ≤ (if b then suc (first_difference xs ys) else 1)
      by_test true = omega arith
      by_test false = omega arith

  later : (x y : Answer) (xs ys : List Answer) (i : ℕ) → 1 ≤ i → x ≡ y → FirstDifference xs ys i → FirstDifference (x ∷ xs) (y ∷ ys) (suc i)
  later x y xs ys zero low same d = absurd (omega (arith, low))
  later x y xs ys (suc n) low same d = record {
    one = d.one;
    other = d.other;
    in_one = d.in_one;
    in_other = d.in_other;
    apart = d.apart;
    first = before;
  }
    where
      before : (k : ℕ) → k < suc (suc n) → numbered (x ∷ xs) k ≡ numbered (y ∷ ys) k
      before zero lt = refl
      before (suc zero) lt = ap Some same
      before (suc (suc k)) lt = d.first (suc k) (omega (arith, lt))

  here : (x y : Answer) (xs ys : List Answer) → same_answer x y ≡ false → FirstDifference (x ∷ xs) (y ∷ ys) 1
  here x y xs ys apart = record { one = x; other = y; in_one = refl; in_other = refl; apart = apart; first = before }
    where
      before : (k : ℕ) → k < 1 → numbered (x ∷ xs) k ≡ numbered (y ∷ ys) k
      before zero lt = refl
      before (suc k) lt = absurd (omega (arith, lt))

  by_head : (x y : Answer) (xs ys : List Answer) (b : Bool) → same_answer x y ≡ b → (b && same_answers xs ys) ≡ false
      → (same_answers xs ys ≡ false → FirstDifference xs ys (first_difference xs ys)) → FirstDifference (x ∷ xs) (y ∷ ys) (if b then suc (first_difference xs ys) else 1)
  by_head x y xs ys true e apart rest = later x y xs ys (first_difference xs ys) (positive xs ys) (equal x y e) (rest apart)
  by_head x y xs ys false e apart rest = here x y xs ys e

  -- lists as long as each other that aren't the same differ within them
  pub first_of : (xs ys : List Answer) → length xs ≡ length ys → same_answers xs ys ≡ false → FirstDifference xs ys (first_difference xs ys)
  first_of [] [] same apart = cc apart
  first_of [] (y ∷ ys) same apart = absurd (omega (arith, same))
  first_of (x ∷ xs) [] same apart = absurd (omega (arith, same))
  first_of (x ∷ xs) (y ∷ ys) same apart = by_head x y xs ys (same_answer x y) refl apart (λ rest. first_of xs ys (omega (arith, same)) rest)

-- WHERE THE PLACE COMES FROM
-- the cause of a refusal for the votes names the place of that replica's answer
abbrev CauseIsPlaced : View → Turn → ℕ → CauseAt → Type 0
CauseIsPlaced v turn t (cause.Differ index by at) = at ≡ answer_place v turn by t index
CauseIsPlaced v turn t (cause.Deadlock at) = Unit {0}
CauseIsPlaced v turn t (cause.PrimaryMemory at) = Unit {0}
CauseIsPlaced v turn t (cause.PrimaryChanged from because at) = Unit {0}

abbrev IsPlaced : View → Turn → Event → Type 0
IsPlaced v turn (event.Refuse t c) = CauseIsPlaced v turn t c
IsPlaced v turn _ = Unit {0}

due_placed : (v : View) (turn : Turn) → On (IsPlaced v turn) (due_in v turn)
due_placed v turn =
    due_on v turn (IsPlaced v turn) record {
      convicts = λ r x. tt;
      gone = λ t from because at. tt;
      deadlock = λ t at. tt;
      memory = λ t at. tt;
      decides = λ none t first. tt;
      differs = λ none t by first. refl;
      elects = λ r. tt;
      preempts = λ none r t. tt;
    }

-- THE DIFFERENCE
module _ (f s c t index by at : ℕ) (h : History) (b : Begun f s (record { caller = c; event = event.Refuse t (cause.Differ index by at) } ∷ h)) where
  abbrev e : Entry
  e = record { caller = c; event = event.Refuse t (cause.Differ index by at) }

  k : Kept h
  k = kept f s h (begun_before f s e h b)

  rule : IsTrue (is_open (phase_in (view_of f h) t)) × (IsTrue (is_contradicted (view_of f h) t) × (contradicted_by (view_of f h) t ≡ Some by) × (index ≡ difference_at (view_of f h) by t))
  rule = by_rule f s e h b refl

  its : IsBorn (length (begun h)) t × (is_open (phase_of t h) ≡ true)
  its = open_seen f t h rule.0

  found : (has (replica_numbers f) by ≡ true) × (contradicts (view_of f h) t by ≡ true)
  found = find_has (contradicts (view_of f h) t) (replica_numbers f) by (rule.1).1

  lt : by < 2 * f + 1
  lt = omega (arith, (has_range 0 (2 * f + 1) by found.0).1)

  votes : (is_ready (view_of f h) t by ≡ true) × (same_answers (answers_in (view_of f h) by t) (given_in (view_of f h) t) ≡ false)
  votes =
      let all = and_parts (is_ready (view_of f h) t by && not (same_answers (answers_in (view_of f h) by t) (given_in (view_of f h) t))) (nat_le (f + 1) (count_by (agree_on (view_of f h) t by) (replica_numbers f))) found.1 in
      let two = and_parts (is_ready (view_of f h) t by) (not (same_answers (answers_in (view_of f h) by t) (given_in (view_of f h) t))) all.0 in
      (two.0, not-true (same_answers (answers_in (view_of f h) by t) (given_in (view_of f h) t)) two.1)

  whole : length (answers_in (view_of f h) by t) ≡ (txn_in (view_of f h) t).statements
  whole = eqb-true (length (answers_in (view_of f h) by t)) (txn_in (view_of f h) t).statements
      (and_parts (live_in (view_of f h) by && (processed_in (view_of f h) by == length (log h))) (is_whole (view_of f h) by t) votes.0).1

  asked : is_asked (phase_of t h) ≡ true
  asked = ap is_asked (sym (phase_seen f t h its.0)) ∙ (and_parts (is_asked (phase_in (view_of f h) t)) (is_some (contradicted_by (view_of f h) t)) (rule.1).0).0

  as_many : length (submits t h) ≡ length (given_to t h)
  as_many =
      let session = numbered_some (begun h) t its.0 in
      asked_balance (phase_of t h) (length (submits t h)) (length (given_to t h)) (is_waiting (reply_to session.0 h)) asked ((k.numbers).balance t session.0 session.1)

  given_here : given_in (view_of f h) t ≡ answers_given (given_to t h)
  given_here = ap answers_given (given_seen f t h its.0)

  told_here : answers_in (view_of f h) by t ≡ answers_at by t h
  told_here = answers_seen f by h lt t

  as_long : length (answers_at by t h) ≡ length (answers_given (given_to t h))
  as_long =
      ap (λ l. length l) (sym told_here) ∙ whole ∙ statements_seen f t h its.0 ∙ as_many ∙ sym (length-map (given_to t h) (λ (g : Given). g.answer))

  apart : same_answers (answers_at by t h) (answers_given (given_to t h)) ≡ false
  apart = (λ i. same_answers (sym told_here i) (sym given_here i)) ∙ votes.1

  first_at : first_difference (answers_at by t h) (answers_given (given_to t h)) ≡ index
  first_at = (λ i. first_difference (sym told_here i) (sym given_here i)) ∙ sym (rule.1).2

  first : FirstDifference (answers_at by t h) (answers_given (given_to t h)) index
  first =
      subst (FirstDifference (answers_at by t h) (answers_given (given_to t h))) first_at
      (first_of (λ a b. (same_answer_decides a b).0) (answers_at by t h) (answers_given (given_to t h)) as_long apart)

  place : (p : ℕ) × (numbered (places_told by t h) index ≡ Some p)
  place =
      let born = numbered_born (answers_at by t h) index first.one first.in_one in
      numbered_some (places_told by t h) index (born.0, omega (arith, born.1, (told by t h).many))

  at_place : place.0 ≡ at
  at_place =
      sym (on_some (IsPlaced (view_of f h) (turn_of h)) (due f h) e.event (was_due f s e h b refl) (due_placed (view_of f h) (turn_of h))
      ∙ ap (λ (a : Attempt). unwrap_or (numbered a.places index) 0) (attempt_lookup f by t h lt)
      ∙ ap (λ o. unwrap_or o 0) place.1)

  answer_at : AnswerAt by t index place.0 (answers_at by t h) h
  answer_at = (told by t h).placed index place.0 place.1

  same_told : answer_at.answer ≡ first.one
  same_told = same_some answer_at.answer first.one (sym answer_at.it ∙ first.in_one)

  -- the statement that was out there is the one with this number
  is_next : answer_at.index ≡ index
  is_next =
      let place = answer_at.stands in
      let call : Entry = record { caller = place.caller; event = event.Give by (reply.Ran (run.Done answer_at.answer)) } in
      let whole : Begun f s (place.more ++ call ∷ answer_at.older) = subst (Begun f s) (sym place.whole) (begun_before f s e h b) in
      let k_older = kept f s answer_at.older (begun_before f s call answer_at.older (begun_until f s place.more (call ∷ answer_at.older) whole)) in
      omega (arith, (k_older.replicas by).runs t answer_at.index answer_at.out, answer_at.next)

  pub difference_shown : IsShownDifference t index by at h
  difference_shown = record {
    given = first.other;
    told = first.one;
    was_given = first.in_other;
    was_told = first.in_one;
    differ = λ same. not_both (same_answer first.one first.other) ((same_answer_decides first.one first.other).1 same) first.apart;
    first = first.first;
    older = answer_at.older;
    stands = subst (λ p. StandsAt p (event.Give by (reply.Ran (run.Done first.one))) answer_at.older h) at_place
        (subst (λ a. StandsAt place.0 (event.Give by (reply.Ran (run.Done a))) answer_at.older h) same_told answer_at.stands);
    out = answer_at.out ∙ ap (λ n. Some (job.Run t n)) is_next;
  }
