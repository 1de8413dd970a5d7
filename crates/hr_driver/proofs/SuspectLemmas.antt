-- Takes and suspicions leave journals; the suspicions that are due come to an end.
use Rattle.std.proofs.Common.{◌≡◌, ℕ, suc, ◌-◌, ◌<◌, Bool, true, false, Option, Some, None, List, length, refl, ap, ◌∙◌, sym, subst, arith}
use Rattle.std.specs.Prelude.{slice_get}
use Rattle.hr_history.specs.declared.entry.Event.TheVariants as event
use Rattle.hr_history.specs.declared.job.Job.{Job}
use Rattle.hr_history.specs.History.{History}
use Rattle.hr_history.specs.Replicas.{journal_of}
use Rattle.hr_history.specs.Transactions.{log}
use Rattle.hr_ledger.specs.Chronicle.{Chronicle, history_in}
use Rattle.hr_records.proofs.Places.{got_within}
use Rattle.hr_moves.specs.Callers.{IsTurn}
use Rattle.hr_core.specs.Suspects.{suspects}
use Rattle.hr_core.specs.Turns.{HasTurn, IsSameSize}
use Rattle.hr_shepherd.specs.Taken.{IsTaken}
use Rattle.hr_said.specs.declared.scenario.Scenario.{Scenario}
use Rattle.hr_schedule.specs.Tries.{tries_of}
use Rattle.hr_schedule.specs.Choices.{AllSuspects, is_suspect_due, is_reached}
use Rattle.hr_driver.specs.Made.{Made, AreSameJournals, AreSameTries, HasSuspected}
use Rattle.hr_driver.proofs.CallLemmas.{tries_over}
use Rattle.hr_driver.proofs.TurnParts.{grown, suspects_over}

pub taken_same : (caller r : ℕ) (taken : Option Job) (c d : Chronicle) → IsTaken caller r taken c d → AreSameJournals c d
taken_same caller r None c d same = λ q. ap (λ (s : Chronicle). journal_of q (history_in s)) same
taken_same caller r (Some j) c d turn = λ q. grown c d caller (event.Take r j) turn q

pub taken_tries : (caller r : ℕ) (taken : Option Job) (c d : Chronicle) → IsTaken caller r taken c d → AreSameTries c d
taken_tries caller r None c d same = λ n q. ap (λ (s : Chronicle). tries_of n q (history_in s)) same
taken_tries caller r (Some j) c d turn = λ n q. tries_over c.f caller (event.Take r j) (history_in c) (history_in d) turn.turn n q

pub none_yet : (sc : Scenario) (c : Chronicle) → HasSuspected sc c c
none_yet sc c = record { size = record { f = refl; sessions = refl }; times = (0, refl); journals = λ q. refl; tries = λ r q. refl }

within : (xs : List ℕ) (n commits : ℕ) → is_reached (slice_get xs n) commits ≡ true → n < length xs
within xs n commits due = by_threshold (slice_get xs n) refl due
  where
    by_threshold : (o : Option ℕ) → slice_get xs n ≡ o → is_reached o commits ≡ true → n < length xs
    by_threshold None e reached = cc
    by_threshold (Some threshold) e reached = got_within xs n threshold e

module _ (sc : Scenario) (a c d : Chronicle) (same : a.f ≡ sc.f) (so_far : HasSuspected sc a c) (due : is_suspect_due sc (history_in c) ≡ true) (turn : HasTurn 0 event.Suspect c d) where
  pub one_more : HasSuspected sc a d
  one_more = record {
    size = record { f = turn.size.f ∙ so_far.size.f; sessions = turn.size.sessions ∙ so_far.size.sessions };
    times = (suc so_far.times.0, (history_in c, so_far.times.1, (due, subst (λ n. IsTurn n 0 event.Suspect (history_in c) (history_in d)) (so_far.size.f ∙ same) turn.turn)));
    journals = λ q. grown c d 0 event.Suspect turn q ∙ so_far.journals q;
    tries = λ r q. tries_over c.f 0 event.Suspect (history_in c) (history_in d) turn.turn r q ∙ so_far.tries r q;
  }

  pub falls : length sc.suspects - suspects (history_in d) < length sc.suspects - suspects (history_in c)
  falls = omega (arith, suspects_over c d 0 event.Suspect turn, within sc.suspects (suspects (history_in c)) (length (log (history_in c))) due)

pub all_came : (sc : Scenario) (a d : Chronicle) → HasSuspected sc a d → is_suspect_due sc (history_in d) ≡ false → Made (AllSuspects sc) a d
all_came sc a d so_far over = record { size = so_far.size; made = (so_far.times.0, so_far.times.1, over) }

-- what the code has looked at
pub is_due : (sc : Scenario) (h : History) (lent : List ℕ) (told b : Bool) → lent ≡ sc.suspects → told ≡ is_reached (slice_get lent (suspects h)) (length (log h)) → told ≡ b → is_suspect_due sc h ≡ b
is_due sc h lent told b same is_told is = ap (λ (xs : List ℕ). is_reached (slice_get xs (suspects h)) (length (log h))) (sym same) ∙ sym is_told ∙ is

pub taken_size : (caller r : ℕ) (taken : Option Job) (c d : Chronicle) → IsTaken caller r taken c d → IsSameSize c d
taken_size caller r None c d same = record { f = ap (λ (s : Chronicle). s.f) same; sessions = ap (λ (s : Chronicle). s.sessions) same }
taken_size caller r (Some j) c d turn = turn.size

pub unchanged_size : (c d : Chronicle) → d ≡ c → IsSameSize c d
unchanged_size c d same = record { f = ap (λ (s : Chronicle). s.f) same; sessions = ap (λ (s : Chronicle). s.sessions) same }
