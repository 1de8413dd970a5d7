-- How much of the log is processed at least at a replica, after a reply.
use Rattle.std.proofs.Common.{◌≡◌, ℕ, zero, suc, ◌+◌, ◌<◌, ◌≤◌, Bool, true, false, ◌||◌, ◌==◌, nat_eq, nat_le, if◌then◌else◌, Some, unwrap_or, List, [], ◌∷◌, length, take_while, slice_get, refl, ap, sym, ◌∙◌, subst, arith}
use Rattle.std.specs.Map.{lookup}
use Rattle.std.proofs.lemmas.Bool.{eqb-true, eq-eqb, le-leb, leb-true, leb-false}
use Rattle.hr_history.specs.declared.phase.Phase.{Phase}
use Rattle.hr_history.specs.declared.phase.Phase.TheVariants as phase
use Rattle.hr_history.specs.View.{TxnState}
use Rattle.hr_history.specs.Processed.{is_logged_by}
use Rattle.hr_moves.specs.Kept.{before_it}
use Rattle.hr_moves.specs.Sane.{IsSane}
use Rattle.hr_progress.specs.Plain.{PlainAttempt, PlainProgress, PlainView, idle_attempt, plain_txn_in, plain_attempt_in, with_entry}
use Rattle.hr_progress.specs.Seen.{seen_plain}
use Rattle.hr_progress.specs.Kept.{IsCounted, is_processed_at}
use Rattle.hr_progress.proofs.Attempts.{lookup_entry}
use Rattle.hr_progress.proofs.Changed.{got_else}
use Rattle.hr_progress.proofs.Lookups.{rest_of, passing}
use Rattle.hr_progress.proofs.Parts.{txn_seen}

no : {b : Bool} → b ≡ true → b ≡ false → ⊥
no e d = cc

-- the first n pass still
front_stays : (p q : ℕ → Bool) (xs : List ℕ) (n : ℕ) → n ≤ length (take_while p xs) → ((i u : ℕ) → i < n → slice_get xs i ≡ Some u → p u ≡ true → q u ≡ true) → n ≤ length (take_while q xs)
front_stays p q xs zero h keeps = omega arith
front_stays p q [] (suc n) h keeps = absurd (omega (arith, h))
front_stays p q (x ∷ xs) (suc n) h keeps =
    let r = rest_of p x xs n h in
    let rest = front_stays p q xs n r.1 (λ i u lt at pass. keeps (suc i) u (omega (arith, lt)) at pass) in
    omega (arith, rest, passing q x xs (keeps 0 x (omega arith) refl r.0))

all_pass : (xs : List ℕ) → length (take_while (λ u. true) xs) ≡ length xs
all_pass [] = refl
all_pass (x ∷ xs) = let here = passing (λ u. true) x xs refl in let rest = all_pass xs in omega (arith, here, rest)

inner : {X : Type 0} {a b : X} → Some a ≡ Some b → a ≡ b
inner {X} {a} e = ap (λ o. unwrap_or o a) e

abbrev place_of : Phase → ℕ
place_of (phase.Logged k) = k
place_of _ = 0

before_least : (i n : ℕ) (ph : Phase) → i < before_it ph n → (i < n) × (ph ≡ phase.Logged (suc i) → ⊥)
before_least i n phase.Active h = (h, λ e. cc)
before_least i n (phase.Asked k) h = (h, λ e. cc)
before_least i n phase.RolledBack h = (h, λ e. cc)
before_least i n phase.Refused h = (h, λ e. cc)
before_least i n (phase.Logged zero) h = (h, λ e. absurd (none (at_place e)))
  where
    at_place : phase.Logged zero ≡ phase.Logged (suc i) → zero ≡ suc i
    at_place e = ap place_of e

    none : zero ≡ suc i → ⊥
    none e = omega (arith, e)
before_least i n (phase.Logged (suc place)) h = by (nat_le n place) refl h
  where
    by : (b : Bool) → nat_le n place ≡ b → i < (if b then n else place) → (i < n) × (phase.Logged (suc place) ≡ phase.Logged (suc i) → ⊥)
    by true e l = let le : n ≤ place = leb-true n place e in (l, λ same. let at : suc place ≡ suc i = ap place_of same in omega (arith, l, le, at))
    by false e l = let gt : place < n = leb-false n place e in (omega (arith, l, gt), λ same. let at : suc place ≡ suc i = ap place_of same in omega (arith, l, at))

module _ (p : PlainView) (sane : IsSane (seen_plain p)) where
  -- what stands at a place of the log is logged there
  pub logged_at : (i u : ℕ) → slice_get p.log i ≡ Some u → (plain_txn_in p.txns u).phase ≡ phase.Logged (suc i)
  logged_at i u at = sym (ap (λ (x : TxnState). x.phase) (txn_seen p u)) ∙ (sane.logged u (suc i)).1 at

  -- the attempt of t alone is changed
  module _ (t : ℕ) (h : PlainAttempt → PlainAttempt) (q : PlainProgress) where
    pub least_but_one : IsCounted p.txns p.log q → before_it (plain_txn_in p.txns t).phase q.processed ≤ length (take_while (is_processed_at p.txns q.position (with_entry t h q.attempts)) p.log)
    least_but_one counted =
        front_stays (is_processed_at p.txns q.position q.attempts) (is_processed_at p.txns q.position (with_entry t h q.attempts)) p.log (before_it (plain_txn_in p.txns t).phase q.processed)
        (no_more (plain_txn_in p.txns t).phase q.processed (length (take_while (is_processed_at p.txns q.position q.attempts) p.log)) (at_most counted.processed))
        (λ i u lt at pass. same_test u (λ same. (before_least i q.processed (plain_txn_in p.txns t).phase lt).1 (ap (λ k. (plain_txn_in p.txns k).phase) (sym same) ∙ logged_at i u at)) ∙ pass)
      where
        at_most : {m n : ℕ} → m ≡ n → m ≤ n
        at_most e = omega (arith, e)

        same_test : (u : ℕ) → (u ≡ t → ⊥) → is_processed_at p.txns q.position (with_entry t h q.attempts) u ≡ is_processed_at p.txns q.position q.attempts u
        same_test u differ = ap (λ (a : PlainAttempt). is_logged_by q.position (plain_txn_in p.txns u).phase || (length a.answers == (plain_txn_in p.txns u).statements))
            (ap (λ o. unwrap_or o idle_attempt) (lookup_entry t h u q.attempts) ∙ got_else h t u (lookup (nat_eq u) q.attempts) idle_attempt differ)

        no_more : (ph : Phase) (m n : ℕ) → m ≤ n → before_it ph m ≤ n
        no_more ph m n le = by (before_it ph m) refl
          where
            by : (k : ℕ) → before_it ph m ≡ k → k ≤ n
            by zero e = omega arith
            by (suc k) e = let below = (before_least k m ph (subst (λ x. k < x) (sym e) (omega arith))).0 in omega (arith, below, le)

  -- those that are committed are processed
  pub least_committed : (position : ℕ) (es : List (ℕ × PlainAttempt)) → position ≤ length p.log → position ≤ length (take_while (is_processed_at p.txns position es) p.log)
  least_committed position es h =
      let all = all_pass p.log in
      front_stays (λ u. true) (is_processed_at p.txns position es) p.log position (omega (arith, h, all))
      (λ i u lt at pass. ap (λ ph. is_logged_by position ph || (length (plain_attempt_in es u).answers == (plain_txn_in p.txns u).statements)) (logged_at i u at)
      ∙ ap (λ b. b || (length (plain_attempt_in es u).answers == (plain_txn_in p.txns u).statements)) (le-leb (suc i) position (omega (arith, lt))))

  -- the next of the log is committed, and its attempt ends
  pub least_next : (t : ℕ) (h : PlainAttempt → PlainAttempt) (q : PlainProgress) → slice_get p.log q.position ≡ Some t → IsCounted p.txns p.log q
      → q.processed ≤ length (take_while (is_processed_at p.txns (q.position + 1) (with_entry t h q.attempts)) p.log)
  least_next t h q next counted =
      front_stays (is_processed_at p.txns q.position q.attempts) (is_processed_at p.txns (q.position + 1) (with_entry t h q.attempts)) p.log q.processed (at_most counted.processed)
      (λ i u lt at pass. by (nat_eq u t) u refl pass)
    where
      at_most : {m n : ℕ} → m ≡ n → m ≤ n
      at_most e = omega (arith, e)

      later : (ph : Phase) → is_logged_by q.position ph ≡ true → is_logged_by (q.position + 1) ph ≡ true
      later (phase.Logged k) e = le-leb k (q.position + 1) (omega (arith, leb-true k q.position e))
      later phase.Active e = e
      later (phase.Asked k) e = e
      later phase.RolledBack e = e
      later phase.Refused e = e

      or_more : (a b c : Bool) → (a ≡ true → b ≡ true) → (a || c) ≡ true → (b || c) ≡ true
      or_more true true c more e = refl
      or_more true false c more e = absurd (no (more refl) refl)
      or_more false true c more e = refl
      or_more false false c more e = e

      by : (b : Bool) (u : ℕ) → nat_eq u t ≡ b → is_processed_at p.txns q.position q.attempts u ≡ true → is_processed_at p.txns (q.position + 1) (with_entry t h q.attempts) u ≡ true
      by true u e pass =
          let same : u ≡ t = eqb-true u t e in
          let here : suc q.position ≤ q.position + 1 = omega arith in
          ap (λ ph. is_logged_by (q.position + 1) ph || (length (plain_attempt_in (with_entry t h q.attempts) u).answers == (plain_txn_in p.txns u).statements)) (ap (λ k. (plain_txn_in p.txns k).phase) same ∙ logged_at q.position t next)
          ∙ ap (λ b. b || (length (plain_attempt_in (with_entry t h q.attempts) u).answers == (plain_txn_in p.txns u).statements)) (le-leb (suc q.position) (q.position + 1) here)
      by false u e pass =
          let same = ap (λ o. unwrap_or o idle_attempt) (lookup_entry t h u q.attempts) ∙ got_else h t u (lookup (nat_eq u) q.attempts) idle_attempt (λ s. no (eq-eqb u t s) e) in
          ap (λ (a : PlainAttempt). is_logged_by (q.position + 1) (plain_txn_in p.txns u).phase || (length a.answers == (plain_txn_in p.txns u).statements)) same
          ∙ or_more (is_logged_by q.position (plain_txn_in p.txns u).phase) (is_logged_by (q.position + 1) (plain_txn_in p.txns u).phase) (length (plain_attempt_in q.attempts u).answers == (plain_txn_in p.txns u).statements) (later (plain_txn_in p.txns u).phase) pass
