-- A replica is restarted.
use Rattle.std.proofs.Common.{◌≡◌, ℕ, ◌+◌, ◌<◌, ◌≤◌, Bool, true, false, ◌&&◌, ◌||◌, ◌==◌, if◌then◌else◌, List, [], length, take_while, append-nil, refl, ap, ◌∙◌, subst, arith}
use Rattle.std.proofs.lemmas.Bool.{leb-true, le-leb}
use Rattle.hr_base.specs.Counters.{shown}
use Rattle.hr_history.specs.declared.phase.Phase.{Phase}
use Rattle.hr_history.specs.declared.phase.Phase.TheVariants as phase
use Rattle.hr_history.specs.View.{Progress}
use Rattle.hr_history.specs.Processed.{is_logged_by}
use Rattle.hr_moves.specs.Sane.{IsSane}
use Rattle.hr_progress.specs.Plain.{PlainTxn, PlainProgress, PlainView, plain_txn_in, plain_replica_in, with_restart}
use Rattle.hr_progress.specs.Seen.{seen_plain}
use Rattle.hr_progress.specs.Kept.{IsCounted, IsLeast, restarted, is_processed_at}
use Rattle.hr_progress.proofs.Parts.{replica_seen}
use Rattle.hr_progress.proofs.Recounts.{take_while_longer}

-- a replica in doubt has committed less than the log
pub in_doubt : (p : PlainView) (r : ℕ) → IsSane (seen_plain p) → (plain_replica_in p.replicas r).doubt ≡ true → (plain_replica_in p.replicas r).position < length p.log
in_doubt p r sane doubt =
    let found = sane.doubt r (ap (λ (x : Progress). x.doubt) (replica_seen p r) ∙ doubt) in
    omega (arith, found.1, ap (λ (x : Progress). x.position) (replica_seen p r))

later : (place n m : ℕ) → n ≤ m → (ph : Phase) → is_logged_by n ph ≡ true → is_logged_by m ph ≡ true
later place n m le (phase.Logged k) h = le-leb k m (omega (arith, le, leb-true k n h))
later place n m le phase.Active h = h
later place n m le (phase.Asked k) h = h
later place n m le phase.RolledBack h = h
later place n m le phase.Refused h = h

or_more : (a b c : Bool) → (a ≡ true → b ≡ true) → (a || c) ≡ true → (b || c) ≡ true
or_more true true c more h = refl
or_more true false c more h = absurd (wrong (more refl))
  where
    wrong : false ≡ true → ⊥
    wrong d = cc
or_more false true c more h = refl
or_more false false c more h = h

no_less : (b : Bool) (n : ℕ) → n ≤ (if b then n + 1 else n)
no_less true n = omega arith
no_less false n = omega arith

pub least_restarted : (txns : List PlainTxn) (log : List ℕ) (count : ℕ) (q : PlainProgress) → IsCounted txns log q → IsLeast txns log (with_restart count q)
least_restarted txns log count q counted =
    let position = if q.doubt && (count == shown (q.position + 1)) then q.position + 1 else q.position in
    omega (
      arith,
      counted.processed,
      subst (λ ns. length (take_while (is_processed_at txns q.position q.attempts) log) ≤ length (take_while (is_processed_at txns position q.attempts) ns)) (append-nil log)
          (take_while_longer (is_processed_at txns q.position q.attempts) (is_processed_at txns position q.attempts) log []
          (λ u. or_more _ _ _ (later 0 q.position position (no_less (q.doubt && (count == shown (q.position + 1))) q.position) (plain_txn_in txns u).phase))),
    )

pub counted_restarted : (txns : List PlainTxn) (log : List ℕ) (count : ℕ) (q : PlainProgress) → IsCounted txns log q → IsCounted txns log (restarted txns log count q)
counted_restarted txns log count q counted = record { touched = counted.touched; processed = refl }
