-- One reply more: what stood at a place among the replies stands there still.
use Rattle.std.proofs.Common.{◌≡◌, ℕ, suc, ◌+◌, ◌<◌, Bool, true, false, ◌&&◌, ◌==◌, if◌then◌else◌, Option, Some, None, unwrap_or, List, [], ◌∷◌, ◌++◌, map, length, slice_get, refl, ap, sym, ◌∙◌, subst, arith}
use Rattle.std.proofs.lemmas.Bool.{ne_eqb}
use Rattle.std.proofs.lemmas.List.{length-append}
use Rattle.std.proofs.lemmas.Option.{slice_get_past}
use Rattle.hr_engine.specs.declared.reply.RunReply.{RunReply}
use Rattle.hr_history.specs.declared.phase.Fresh.{Fresh}
use Rattle.hr_history.specs.View.{is_fresh}
use Rattle.hr_moves.specs.Sane.{cut_to}
use Rattle.hr_moves.specs.Moves.{with_reply}
use Rattle.hr_records.proofs.Places.{got_front, got_end}
use Rattle.hr_progress.specs.declared.txn.Given.{Given}
use Rattle.hr_progress.specs.declared.attempt.Told.{Told}
use Rattle.hr_progress.specs.Plain.{PlainTxn, PlainAttempt, PlainProgress, PlainView, idle_progress, no_txn, plain_txn_in, plain_replica_in}
use Rattle.hr_progress.specs.Seen.{answer_in, answer_at, waits_in, waits_at, runs_since, seen_given, seen_txn, seen_last, seen_attempt, seen_entry, seen_replica, seen_replicas, seen_plain}
use Rattle.hr_progress.specs.Kept.{is_answer, is_wait, AreAnswers, told_places, given_places, IsTold, AreTold, ArePlaces, IsKept}
use Rattle.hr_progress.proofs.Rests.{le_or, rest}

no : {b : Bool} → b ≡ true → b ≡ false → ⊥
no e d = cc

place_of_answer : (o : Option RunReply) → is_answer o ≡ true → (x : RunReply) × (o ≡ Some x)
place_of_answer None h = absurd (no h refl)
place_of_answer (Some x) h = (x, refl)

place_of_wait : (o : Option RunReply) → is_wait o ≡ true → (x : RunReply) × (o ≡ Some x)
place_of_wait None h = absurd (no h refl)
place_of_wait (Some x) h = (x, refl)

pub wait_below : (replies : List RunReply) (place : ℕ) → is_wait (slice_get replies place) ≡ true → place < length replies
wait_below replies place h = le_or place (length replies) (λ past. no h (ap is_wait (slice_get_past replies place past)))

-- the first of these numbered n
pub same_each : {X Y : Type 0} (f g : X → Y) (xs : List X) → ((i : ℕ) (x : X) → slice_get xs i ≡ Some x → f x ≡ g x) → map f xs ≡ map g xs
same_each f g [] same = refl
same_each f g (x ∷ xs) same = λ i. same 0 x refl i ∷ same_each f g xs (λ j y at. same (suc j) y at) i

module _ (replies : List RunReply) (told : RunReply) where
  abbrev more : List RunReply
  more = replies ++ told ∷ []

  pub answer_stays : (place : ℕ) → is_answer (slice_get replies place) ≡ true → slice_get more place ≡ slice_get replies place
  answer_stays place h = let is = place_of_answer (slice_get replies place) h in got_front replies (told ∷ []) place is.0 is.1 ∙ sym is.1

  pub wait_stays : (place : ℕ) → is_wait (slice_get replies place) ≡ true → slice_get more place ≡ slice_get replies place
  wait_stays place h = let is = place_of_wait (slice_get replies place) h in got_front replies (told ∷ []) place is.0 is.1 ∙ sym is.1

  pub newest_is : slice_get more (length replies) ≡ Some told
  newest_is = got_end replies told (length replies) refl

  pub newest_count : length replies + 1 ≡ length more
  newest_count = sym (length-append replies (told ∷ []))

  answers_told : (ts : List Told) → AreAnswers replies (told_places replies ts) → map (λ (t : Told). answer_at more t.reply) ts ≡ map (λ (t : Told). answer_at replies t.reply) ts
  answers_told [] h = refl
  answers_told (t ∷ ts) h = λ i. answer_in (answer_stays t.reply h.0 i) ∷ answers_told ts h.1 i

  answers_given : (gs : List Given) → AreAnswers replies (given_places replies gs) → map (seen_given more) gs ≡ map (seen_given replies) gs
  answers_given [] h = refl
  answers_given (g ∷ gs) h = λ i. record { answer = answer_in (answer_stays g.reply h.0 i); stamp = g.stamp } ∷ answers_given gs h.1 i

  pub answers_stay : (places : List ℕ) → AreAnswers replies places → AreAnswers more places
  answers_stay [] h = tt
  answers_stay (place ∷ places) h = (ap is_answer (answer_stays place h.0) ∙ h.0, answers_stay places h.1)

  told_more : (ts : List Told) → told_places replies ts ≡ told_places more ts
  told_more [] = refl
  told_more (t ∷ ts) = ap (λ ps. t.reply ∷ ps) (told_more ts)

  given_more : (gs : List Given) → given_places replies gs ≡ given_places more gs
  given_more [] = refl
  given_more (g ∷ gs) = ap (λ ps. g.reply ∷ ps) (given_more gs)

  pub still_told_at : (a : PlainAttempt) → IsTold replies a → IsTold more a
  still_told_at a h = record {
    answers = subst (AreAnswers more) (told_more a.answers) (answers_stay (told_places replies a.answers) h.answers);
    began = λ runs. ap is_answer (answer_stays a.began (h.began runs)) ∙ h.began runs;
    last = λ place at. ap is_wait (wait_stays place (h.last place at)) ∙ h.last place at;
  }

  pub still_told_all : (es : List (ℕ × PlainAttempt)) → AreTold replies es → AreTold more es
  still_told_all [] h = tt
  still_told_all (e ∷ es) h = (still_told_at e.1 h.0, still_told_all es h.1)

  -- an older reply isn't the newest
  last_stays : (fresh : Bool) (all : List (ℕ × PlainAttempt)) (a : PlainAttempt) (last : Option ℕ) → a.last ≡ last → IsTold replies a → seen_last more fresh all last ≡ seen_last replies false all last
  last_stays fresh all a None e h = refl
  last_stays fresh all a (Some place) e h =
      let waits = h.last place e in
      let older : (place + 1 == length more) ≡ false = ne_eqb (place + 1) (length more) (λ same. omega (arith, same, newest_count, wait_below replies place waits)) in
      ap (λ b. if b then waits_at more place else cut_to (runs_since all place) (waits_at more place)) (and_no fresh (place + 1 == length more) older)
      ∙ ap (λ o. cut_to (runs_since all place) (waits_in o)) (wait_stays place waits)
    where
      and_no : (a b : Bool) → b ≡ false → (a && b) ≡ false
      and_no true b h = h
      and_no false b h = refl

  attempt_stays : (fresh : Bool) (all : List (ℕ × PlainAttempt)) (a : PlainAttempt) → IsTold replies a → seen_attempt more fresh all a ≡ seen_attempt replies false all a
  attempt_stays fresh all a h = λ i. record (seen_attempt replies false all a) { answers = answers_told a.answers h.answers i; last = last_stays fresh all a a.last refl h i }

  entries_stay : (fresh : Option Fresh) (r : ℕ) (all es : List (ℕ × PlainAttempt)) → AreTold replies es → map (seen_entry more fresh r all) es ≡ map (seen_entry replies None r all) es
  entries_stay fresh r all [] h = refl
  entries_stay fresh r all (e ∷ es) h = λ i. (e.0, attempt_stays (is_fresh fresh r e.0) all e.1 h.0 i) ∷ entries_stay fresh r all es h.1 i

  replicas_stay : (fresh : Option Fresh) (n : ℕ) (qs : List PlainProgress) → ((i : ℕ) (q : PlainProgress) → slice_get qs i ≡ Some q → AreTold replies q.attempts) → seen_replicas more fresh n qs ≡ seen_replicas replies None n qs
  replicas_stay fresh n [] h = refl
  replicas_stay fresh n (q ∷ qs) h = λ i. record (seen_replica replies None n q) { attempts = entries_stay fresh n q.attempts q.attempts (h 0 q refl) i } ∷ replicas_stay fresh (n + 1) qs (λ j x at. h (suc j) x at) i

module _ (p : PlainView) (r t : ℕ) (told : RunReply) (places : ArePlaces p) where
  -- the turn before is over, and this is the next one's reply
  abbrev pub with_told : PlainView
  with_told = record p { replies = p.replies ++ told ∷ []; fresh = Some record { replica = r; txn = t } }

  pub seen_told : seen_plain with_told ≡ with_reply r t told (seen_plain (rest p places))
  seen_told = λ i. record (seen_plain with_told) {
    txns = same_each (seen_txn (p.replies ++ told ∷ [])) (seen_txn p.replies) p.txns (λ j x at. λ k. record (seen_txn p.replies x) {
      given = answers_given p.replies told x.given (subst (λ (y : PlainTxn). AreAnswers p.replies (given_places p.replies y.given)) (ap (λ o. unwrap_or o no_txn) at) (places.given (suc j))) k;
    }) i;
    replicas = replicas_stay p.replies told (Some record { replica = r; txn = t }) 0 p.replicas (λ j q at. subst (λ (x : PlainProgress). AreTold p.replies x.attempts) (ap (λ o. unwrap_or o idle_progress) at) (places.told j)) i;
  }

  pub kept_told : IsKept p → IsKept with_told
  kept_told kept = record { opened = kept.opened; counted = kept.counted }

  pub places_told : ArePlaces with_told
  places_told = record {
    told = λ s. still_told_all p.replies told (plain_replica_in p.replicas s).attempts (places.told s);
    given = λ u. subst (AreAnswers (p.replies ++ told ∷ [])) (given_more p.replies told (plain_txn_in p.txns u).given) (answers_stay p.replies told (given_places p.replies (plain_txn_in p.txns u).given) (places.given u));
  }
