-- A run is answered, and its answer is given or not.
use Rattle.std.proofs.Common.{◌≡◌, ◌⊎◌, inl, inr, ℕ, ◌+◌, Bool, true, false, ◌&&◌, ◌==◌, if◌then◌else◌, Option, Some, unwrap_or, List, [], ◌∷◌, ◌++◌, map, length, slice_get, refl, ap, sym, ◌∙◌, subst}
use Rattle.hr_base.specs.Lists.{numbered}
use Rattle.hr_rel.specs.declared.answer.Answer.{Answer}
use Rattle.hr_engine.specs.declared.reply.RunReply.{RunReply}
use Rattle.hr_engine.specs.declared.reply.RunReply.TheVariants as run
use Rattle.hr_history.specs.declared.job.Job.TheVariants as job
use Rattle.hr_history.specs.Transactions.{is_open}
use Rattle.hr_history.specs.Primary.{is_some_of}
use Rattle.hr_history.specs.View.{TxnState, Progress}
use Rattle.hr_moves.specs.Changes.{map_from, change_at, with_txn, with_replica, with_attempt}
use Rattle.hr_moves.specs.Sane.{IsSane}
use Rattle.hr_moves.specs.Moves.{free, with_answer, with_given, with_reply, rested, answered, is_given}
use Rattle.hr_records.proofs.Places.{got_front}
use Rattle.hr_progress.specs.declared.txn.Given.{Given}
use Rattle.hr_progress.specs.declared.attempt.Told.{Told}
use Rattle.hr_progress.specs.Plain.{PlainTxn, PlainProgress, PlainView, no_txn, plain_txn_in, plain_replica_in, to_given, to_answered, with_answered}
use Rattle.hr_progress.specs.Seen.{answer_in, seen_given, seen_txn, seen_plain}
use Rattle.hr_progress.specs.Kept.{is_answer, AreAnswers, given_places, IsCounted, IsKept, ArePlaces, recounted}
use Rattle.hr_progress.proofs.Attempted.{mapped_end, seen_answered, told_answered}
use Rattle.hr_progress.proofs.Attempts.{keys_apart}
use Rattle.hr_progress.proofs.Changed.{numbered_from}
use Rattle.hr_progress.proofs.Compared.{given_count}
use Rattle.hr_progress.proofs.Gives.{marked}
use Rattle.hr_progress.proofs.Parts.{txn_seen}
use Rattle.hr_progress.proofs.Replicas.{held, with_change, kept_change, places_change, seen_change}
use Rattle.hr_progress.proofs.Replied.{with_told, seen_told, kept_told, places_told, newest_is}
use Rattle.hr_progress.proofs.Rests.{seen_rest}
use Rattle.hr_progress.proofs.Txns.{closed, kept_open, seen_open}

-- the answer stands at its place, also among one reply more
pub stored : (replies : List RunReply) (answer : Answer) (place : ℕ) → (place ≡ length replies) ⊎ (slice_get replies place ≡ Some (run.Done answer)) → slice_get (replies ++ run.Done answer ∷ []) place ≡ Some (run.Done answer)
stored replies answer place (inl e) = ap (slice_get (replies ++ run.Done answer ∷ [])) e ∙ newest_is replies (run.Done answer)
stored replies answer place (inr at) = got_front replies (run.Done answer ∷ []) place (run.Done answer) at

and_first : (a b : Bool) → (a && b) ≡ true → a ≡ true
and_first true b e = refl
and_first false b e = e

and_second : (a b : Bool) → (a && b) ≡ true → b ≡ true
and_second true b e = e
and_second false b e = cc

-- whether an answer is given, as the code finds it
pub given_seen : (p : PlainView) (r t i : ℕ) → (is_some_of r p.primary && is_open (plain_txn_in p.txns t).phase && (i == length (plain_txn_in p.txns t).given + 1)) ≡ is_given (seen_plain p) r t i
given_seen p r t i = sym (λ k. is_some_of r p.primary && is_open (txn_seen p t k).phase && (i == given_count p t k + 1))

pub given_parts : (a b c : Bool) → (a && b && c) ≡ true → (b ≡ true) × (c ≡ true)
given_parts true true c e = (refl, e)
given_parts true false c e = cc
given_parts false b c e = cc

module _ (p : PlainView) (sane : IsSane (seen_plain p)) (places : ArePlaces p) (r t i : ℕ) (answer : Answer) (told : Told) where
  abbrev reply : RunReply
  reply = run.Done answer

  abbrev n : ℕ
  n = length p.replies

  abbrev more : List RunReply
  more = p.replies ++ reply ∷ []

  abbrev its : PlainProgress
  its = plain_replica_in p.replicas r

  abbrev pub with_done : PlainProgress → PlainProgress
  with_done q = recounted p.txns p.log (with_answered t told n q)

  abbrev pub changed : PlainView
  changed = with_change (with_told p r t reply places) r with_done

  abbrev g : Given
  g = record { reply = n; stamp = length p.log }

  abbrev pub txns_after : Bool → List PlainTxn
  txns_after b = if b then map_from (change_at t (to_given g)) 1 p.txns else p.txns

  -- the view then, where the answer is given or not
  abbrev pub done_after : Bool → PlainView
  done_after b = record changed { txns = txns_after b }

  abbrev k : Progress → Progress
  k x = with_attempt t (with_answer answer told.at) (free x)

  abbrev given_more : TxnState → TxnState
  given_more x = record x { given = x.given ++ record { answer = answer; stamp = length p.log } ∷ [] }

  module _ (at : slice_get more told.reply ≡ Some reply) where
    seen_changed : seen_plain changed ≡ with_replica r k (with_reply r t reply (rested (seen_plain p)))
    seen_changed =
        seen_change (with_told p r t reply places) r with_done k (seen_answered t r p.replies reply its (keys_apart p r sane) told answer (places.told r) (ap answer_in at))
        ∙ ap (with_replica r k) (seen_told p r t reply places ∙ ap (with_reply r t reply) (seen_rest p places))

    given_same : (x : PlainTxn) → seen_txn more (to_given g x) ≡ given_more (seen_txn more x)
    given_same x = λ j. record (seen_txn more x) {
      given = (mapped_end (seen_given more) x.given g ∙ ap (λ o. map (seen_given more) x.given ++ record { answer = answer_in o; stamp = length p.log } ∷ []) (newest_is p.replies reply)) j;
    }

    pub seen_done : (b : Bool) → seen_plain (done_after b)
        ≡ with_reply r t reply (if b then with_given t answer (answered (seen_plain p) told.at r t answer) else answered (seen_plain p) told.at r t answer)
    seen_done true = seen_open changed t (to_given g) given_more given_same ∙ ap (with_txn t given_more) seen_changed
    seen_done false = seen_changed

    answer_there : is_answer (slice_get more told.reply) ≡ true
    answer_there = ap is_answer at

    newest_there : is_answer (slice_get more n) ≡ true
    newest_there = ap is_answer (newest_is p.replies reply)

    places_changed : ArePlaces changed
    places_changed = places_change (with_told p r t reply places) r with_done (places_told p r t reply places) (λ are. told_answered t r p.replies reply its (keys_apart p r sane) told are answer_there newest_there)

    answers_end : (gs : List Given) → AreAnswers more (given_places more gs) → AreAnswers more (given_places more (gs ++ g ∷ []))
    answers_end [] are = (newest_there, tt)
    answers_end (x ∷ gs) are = (are.0, answers_end gs are.1)

    pub places_done : (b : Bool) → ArePlaces (done_after b)
    places_done true = record {
      told = places_changed.told;
      given = λ u. subst (λ (o : Option PlainTxn). AreAnswers more (given_places more (unwrap_or o no_txn).given)) (sym (numbered_from (change_at t (to_given g)) u p.txns))
          (held (λ (x : PlainTxn). AreAnswers more (given_places more x.given)) (to_given g) t u (numbered p.txns u) no_txn (λ same are. answers_end (unwrap_or (numbered p.txns u) no_txn).given are) (places_changed.given u));
    }
    places_done false = record { told = places_changed.told; given = places_changed.given }

  module _ (kept : IsKept p) (out : its.out ≡ Some (job.Run t i)) where
    counted_done : IsCounted p.txns p.log its → IsCounted p.txns p.log (with_done its)
    counted_done counted = record { touched = marked p sane r t i out (to_answered told n) (λ a. refl) counted; processed = refl }

    kept_changed : IsKept changed
    kept_changed = kept_change (with_told p r t reply places) r with_done (kept_told p r t reply places kept) counted_done

    pub kept_done : (b : Bool) → (b ≡ true → is_open (plain_txn_in p.txns t).phase ≡ true) → IsKept (done_after b)
    kept_done true opened = kept_open changed t (to_given g) (opened refl) (closed p sane) kept_changed (opened refl)
    kept_done false opened = record { opened = kept_changed.opened; counted = kept_changed.counted }
