-- The view before anything happened.
use Rattle.std.proofs.Common.{◌≡◌, ℕ, zero, suc, ◌+◌, ◌*◌, Some, None, [], ◌∷◌, map, replicate, refl, ap, sym, subst}
use Rattle.std.specs.List.{range_with_len}
use Rattle.hr_history.specs.View.{view_of, progress_in}
use Rattle.hr_progress.specs.Plain.{PlainProgress, PlainView, idle_progress, plain_txn_in, plain_replica_in}
use Rattle.hr_progress.specs.Seen.{seen_replicas, seen_plain}
use Rattle.hr_progress.specs.Kept.{IsCounted, IsKept, ArePlaces, AreTold, AreAnswers, given_places}

abbrev pub at_first : ℕ → PlainView
at_first f = record { f = f; log = []; txns = []; replicas = replicate (2 * f + 1) idle_progress; primary = Some 0; search_after = 0; replies = []; fresh = None; opened = [] }

idle_seen : (a n : ℕ) → seen_replicas [] None a (replicate n idle_progress) ≡ map (progress_in []) (range_with_len a n)
idle_seen a zero = refl
idle_seen a (suc n) = ap (λ ps. progress_in [] a ∷ ps) (idle_seen (a + 1) n)

pub seen_first : (f : ℕ) → seen_plain (at_first f) ≡ view_of f []
seen_first f = λ i. record { f = f; log = []; txns = []; replicas = idle_seen 0 (2 * f + 1) i; primary = Some 0; search_after = 0; replies = []; fresh = None }

idle_at : (n r : ℕ) → plain_replica_in (replicate n idle_progress) r ≡ idle_progress
idle_at zero r = refl
idle_at (suc n) zero = refl
idle_at (suc n) (suc r) = idle_at n r

given_first : (t : ℕ) → AreAnswers [] (given_places [] (plain_txn_in [] t).given)
given_first zero = tt
given_first (suc n) = tt

pub kept_first : (f : ℕ) → IsKept (at_first f)
kept_first f = record { opened = refl; counted = λ r h. subst (IsCounted [] []) (sym (idle_at (2 * f + 1) r)) record { touched = refl; processed = refl } }

pub places_first : (f : ℕ) → ArePlaces (at_first f)
places_first f = record { told = λ r. subst (λ (p : PlainProgress). AreTold [] p.attempts) (sym (idle_at (2 * f + 1) r)) tt; given = given_first }
