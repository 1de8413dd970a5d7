-- What one more entry makes of numbers and phases, on plain words.
use Rattle.std.proofs.Common.{◌≡◌, ◌⊎◌, ◌↔◌, inl, inr, ℕ, ◌+◌, ◌≤◌, Bool, true, false, Option, Some, List, [], ◌∷◌, ◌++◌, length, refl, ap, sym, ◌∙◌, subst, arith, length-append}
use Rattle.hr_base.specs.Lists.{numbered}
use Rattle.hr_history.specs.declared.job.Job.{Job}
use Rattle.hr_history.specs.declared.job.Job.TheVariants as job
use Rattle.hr_history.specs.declared.phase.Phase.{Phase}
use Rattle.hr_history.specs.declared.phase.Phase.TheVariants as phase
use Rattle.hr_history.specs.Transactions.{is_open, is_asked}
use Rattle.hr_records.specs.Numbers.{IsBorn, IsBalanced, Numbers}
use Rattle.hr_records.proofs.Options.{same_some}
use Rattle.hr_records.proofs.Places.{same_or_not, numbered_born, numbered_front, numbered_more, numbered_end}

abbrev place_of : Phase → ℕ
place_of (phase.Logged p) = p
place_of _ = 0

pub same_place : (p q : ℕ) → phase.Logged p ≡ phase.Logged q → p ≡ q
same_place p q e = ap place_of e

-- an open phase isn't a place in the log
pub open_unlogged : (p : Phase) (place : ℕ) → is_open p ≡ true → p ≡ phase.Logged place → ⊥
open_unlogged p place o e = wrong (is_open p) o (ap is_open e)
  where
    wrong : (b : Bool) → b ≡ true → b ≡ false → ⊥
    wrong b e d = cc

pub not_both : (b : Bool) → b ≡ true → b ≡ false → ⊥
not_both b e d = cc

-- where a transaction isn't open, it doesn't matter whether its session waits
rewait : (p : Phase) (s g : ℕ) (w z : Bool) → is_open p ≡ false → IsBalanced p s g w → IsBalanced p s g z
rewait phase.Active s g w z h b = cc
rewait (phase.Asked n) s g w z h b = cc
rewait (phase.Logged place) s g w z h b = b
rewait phase.RolledBack s g w z h b = b
rewait phase.Refused s g w z h b = b

-- a new transaction
new_balance : (p : Phase) (s g : ℕ) (w : Bool) → p ≡ phase.Active → s ≡ 0 → g ≡ 0 → IsBalanced p s g w
new_balance p s g w e d c = subst (λ q. IsBalanced q s g w) (sym e) (omega (arith, d, c), omega (arith, d, c), λ x. d ∙ sym c)

-- what it was balanced to, where nothing is waited for: an active transaction with an answer to each statement
pub settled_balance : (p : Phase) (s g : ℕ) → is_open p ≡ true → IsBalanced p s g false → s ≡ g
settled_balance phase.Active s g h b = b.2 refl
settled_balance (phase.Asked n) s g h b = absurd (not_both false b.1 refl)
settled_balance (phase.Logged place) s g h b = cc
settled_balance phase.RolledBack s g h b = cc
settled_balance phase.Refused s g h b = cc

-- and that it isn't asked for
pub active_balance : (p : Phase) (s g : ℕ) → is_open p ≡ true → IsBalanced p s g false → p ≡ phase.Active
active_balance phase.Active s g h b = refl
active_balance (phase.Asked n) s g h b = absurd (not_both false b.1 refl)
active_balance (phase.Logged place) s g h b = cc
active_balance phase.RolledBack s g h b = cc
active_balance phase.Refused s g h b = cc

-- one whose commit was asked for has an answer to each statement
pub asked_balance : (p : Phase) (s g : ℕ) (w : Bool) → is_asked p ≡ true → IsBalanced p s g w → s ≡ g
asked_balance phase.Active s g w e b = cc e
asked_balance (phase.Asked n) s g w e b = b.0
asked_balance (phase.Logged n) s g w e b = cc e
asked_balance phase.RolledBack s g w e b = cc e
asked_balance phase.Refused s g w e b = cc e

pub given_le : (p : Phase) (s g : ℕ) (w : Bool) → IsBalanced p s g w → g ≤ s
given_le phase.Active s g w b = b.0
given_le (phase.Asked n) s g w b = omega (arith, b.0)
given_le (phase.Logged place) s g w b = omega (arith, b)
given_le phase.RolledBack s g w b = b
given_le phase.Refused s g w b = b

-- the answer that comes is that of the one statement without
pub answered : (p : Phase) (s g : ℕ) (w z : Bool) → is_open p ≡ true → g + 1 ≤ s → IsBalanced p s g w → IsBalanced p s (g + 1) z
answered phase.Active s g w z h le b = (le, omega (arith, b.1), λ x. omega (arith, b.1, le))
answered (phase.Asked n) s g w z h le b = absurd (omega (arith, le, b.0))
answered (phase.Logged place) s g w z h le b = cc
answered phase.RolledBack s g w z h le b = cc
answered phase.Refused s g w z h le b = cc

module _ {sessions : List ℕ} {phases : ℕ → Phase} {decided : List ℕ} {sub giv : ℕ → ℕ} {waits : ℕ → Bool} {out : ℕ → Option Job} (g : Numbers sessions phases decided sub giv waits out) where
  -- an unborn number isn't a born one
  apart : (t u : ℕ) → (IsBorn (length sessions) t → ⊥) → IsBorn (length sessions) u → t ≡ u → ⊥
  apart t u unborn born e = unborn (subst (IsBorn (length sessions)) (sym e) born)

  pub begins : (s : ℕ) → ((t : ℕ) → numbered sessions t ≡ Some s → is_open (phases t) ≡ true → ⊥) → Numbers (sessions ++ s ∷ []) phases decided sub giv waits out
  begins s none = record {
    unborn = λ t unborn. g.unborn t (λ born. unborn (born.0, omega (arith, born.1, more)));
    alone = λ t u q at_t at_u open_t open_u. by_both t u q (numbered_more sessions s t q at_t) (numbered_more sessions s u q at_u) open_t open_u;
    logged = g.logged;
    runs = λ r t i e. let run = g.runs r t i e in ((run.0.0, omega (arith, run.0.1, more)), run.1);
    balance = λ t q at. elim (numbered_more sessions s t q at) [
      | inl old ↦ g.balance t q old
      | inr new ↦ (let u = g.unborn t (λ born. past t new.0 born.1) in new_balance (phases t) (sub t) (giv t) (waits q) u.0 u.1 u.2)
    ];
  }
    where
      more : length (sessions ++ s ∷ []) ≡ length sessions + 1
      more = length-append sessions (s ∷ [])

      past : (t : ℕ) → t ≡ length sessions + 1 → t ≤ length sessions → ⊥
      past t e le = omega (arith, e, le)

      by_both : (t u q : ℕ) → (numbered sessions t ≡ Some q) ⊎ ((t ≡ length sessions + 1) × (s ≡ q)) → (numbered sessions u ≡ Some q) ⊎ ((u ≡ length sessions + 1) × (s ≡ q))
          → is_open (phases t) ≡ true → is_open (phases u) ≡ true → t ≡ u
      by_both t u q (inl a) (inl b) open_t open_u = g.alone t u q a b open_t open_u
      by_both t u q (inl a) (inr b) open_t open_u = absurd (none t (a ∙ ap Some (sym b.1)) open_t)
      by_both t u q (inr a) (inl b) open_t open_u = absurd (none u (b ∙ ap Some (sym a.1)) open_u)
      by_both t u q (inr a) (inr b) open_t open_u = a.0 ∙ sym b.0

  -- another job is out, or none
  pub redirected : (out_now : ℕ → Option Job) → ((r t i : ℕ) → out_now r ≡ Some (job.Run t i) → IsBorn (length sessions) t × (i ≤ sub t)) → Numbers sessions phases decided sub giv waits out_now
  redirected out_now runs = record { unborn = g.unborn; alone = g.alone; logged = g.logged; runs = runs; balance = g.balance }

  -- One open transaction goes on, and its session begins or ends to wait. All else stays.
  module _ (txn s : ℕ) (its : numbered sessions txn ≡ Some s) (was_open : is_open (phases txn) ≡ true)
      (phases_now : ℕ → Phase) (sub_now giv_now : ℕ → ℕ) (waits_now : ℕ → Bool)
      (other_phase : (t : ℕ) → (txn ≡ t → ⊥) → phases_now t ≡ phases t) (other_sub : (t : ℕ) → (txn ≡ t → ⊥) → sub_now t ≡ sub t)
      (other_giv : (t : ℕ) → (txn ≡ t → ⊥) → giv_now t ≡ giv t) (other_waits : (q : ℕ) → (q ≡ s → ⊥) → waits_now q ≡ waits q) where
    born : IsBorn (length sessions) txn
    born = numbered_born sessions txn s its

    not_it : (t : ℕ) → (IsBorn (length sessions) t → ⊥) → txn ≡ t → ⊥
    not_it t unborn e = apart t txn unborn born (sym e)

    was_open_too : (t : ℕ) → is_open (phases_now t) ≡ true → is_open (phases t) ≡ true
    was_open_too t now = elim (same_or_not txn t) [ inl same ↦ (ap (λ u. is_open (phases u)) (sym same) ∙ was_open) | inr other ↦ (ap is_open (sym (other_phase t other)) ∙ now) ]

    -- the log stays, where it isn't decided
    not_decided : ((place : ℕ) → phases_now txn ≡ phase.Logged place → ⊥) → (t place : ℕ) → (phases_now t ≡ phase.Logged place) ↔ (numbered decided place ≡ Some t)
    not_decided never t place = (there, back)
      where
        there : phases_now t ≡ phase.Logged place → numbered decided place ≡ Some t
        there e = elim (same_or_not txn t) [
          | inl same ↦ absurd (never place (ap phases_now same ∙ e))
          | inr other ↦ (g.logged t place).0 (sym (other_phase t other) ∙ e)
        ]

        back : numbered decided place ≡ Some t → phases_now t ≡ phase.Logged place
        back at =
            let before = (g.logged t place).1 at in
            elim (same_or_not txn t) [
              | inl same ↦ absurd (open_unlogged (phases txn) place was_open (ap phases same ∙ before))
              | inr other ↦ (other_phase t other ∙ before)
            ]

    is_decided : phases_now txn ≡ phase.Logged (length decided + 1) → (t place : ℕ) → (phases_now t ≡ phase.Logged place) ↔ (numbered (decided ++ txn ∷ []) place ≡ Some t)
    is_decided now t place = (there, back)
      where
        there : phases_now t ≡ phase.Logged place → numbered (decided ++ txn ∷ []) place ≡ Some t
        there e = elim (same_or_not txn t) [
          | inl same ↦ (let p : length decided + 1 ≡ place = same_place _ place (sym now ∙ ap phases_now same ∙ e) in numbered_end decided txn place (sym p) ∙ ap Some same)
          | inr other ↦ numbered_front decided (txn ∷ []) place t ((g.logged t place).0 (sym (other_phase t other) ∙ e))
        ]

        old : numbered decided place ≡ Some t → phases_now t ≡ phase.Logged place
        old at =
            let before = (g.logged t place).1 at in
            elim (same_or_not txn t) [
              | inl same ↦ absurd (open_unlogged (phases txn) place was_open (ap phases same ∙ before))
              | inr other ↦ (other_phase t other ∙ before)
            ]

        back : numbered (decided ++ txn ∷ []) place ≡ Some t → phases_now t ≡ phase.Logged place
        back at = elim (numbered_more decided txn place t at) [ inl before ↦ old before | inr new ↦ (ap phases_now (sym new.1) ∙ now ∙ ap phase.Logged (sym new.0)) ]

    -- its numbers are balanced again
    goes_on : (decided_now : List ℕ) → ((t place : ℕ) → (phases_now t ≡ phase.Logged place) ↔ (numbered decided_now place ≡ Some t)) → sub txn ≤ sub_now txn → IsBalanced (phases_now txn) (sub_now txn) (giv_now txn) (waits_now s)
        → Numbers sessions phases_now decided_now sub_now giv_now waits_now out
    goes_on decided_now logged more balanced = record {
      unborn = λ t unborn. (let u = g.unborn t unborn in let n = not_it t unborn in (other_phase t n ∙ u.0, other_sub t n ∙ u.1, other_giv t n ∙ u.2));
      alone = λ t u q at_t at_u open_t open_u. g.alone t u q at_t at_u (was_open_too t open_t) (was_open_too u open_u);
      logged = logged;
      runs = λ r t i e. (let run = g.runs r t i e in (run.0, reached t i run.1));
      balance = λ t q at. balance_of t q at (same_or_not txn t) (same_or_not q s);
    }
      where
        reached : (t i : ℕ) → i ≤ sub t → i ≤ sub_now t
        reached t i le = elim (same_or_not txn t) [
          | inl same ↦ subst (λ u. i ≤ sub_now u) same (omega (arith, le, more, ap sub same))
          | inr other ↦ omega (arith, le, other_sub t other)
        ]

        of_other : (t q : ℕ) → (txn ≡ t → ⊥) → (w : Bool) → IsBalanced (phases t) (sub t) (giv t) w → IsBalanced (phases_now t) (sub_now t) (giv_now t) w
        of_other t q other w b =
            subst (λ p. IsBalanced p (sub_now t) (giv_now t) w) (sym (other_phase t other))
            (subst (λ n. IsBalanced (phases t) n (giv_now t) w) (sym (other_sub t other)) (subst (λ n. IsBalanced (phases t) (sub t) n w) (sym (other_giv t other)) b))

        closed : (t q : ℕ) → (txn ≡ t → ⊥) → numbered sessions t ≡ Some q → q ≡ s → (b : Bool) → is_open (phases t) ≡ b → is_open (phases t) ≡ false
        closed t q other at same true o = absurd (other (g.alone txn t s its (at ∙ ap Some same) was_open o))
        closed t q other at same false o = o

        balance_of : (t q : ℕ) → numbered sessions t ≡ Some q → (txn ≡ t) ⊎ (txn ≡ t → ⊥) → (q ≡ s) ⊎ (q ≡ s → ⊥) → IsBalanced (phases_now t) (sub_now t) (giv_now t) (waits_now q)
        balance_of t q at (inl same) w =
            let here : s ≡ q = same_some s q (sym its ∙ ap (numbered sessions) same ∙ at) in
            subst (λ u. IsBalanced (phases_now u) (sub_now u) (giv_now u) (waits_now q)) same (subst (λ p. IsBalanced (phases_now txn) (sub_now txn) (giv_now txn) (waits_now p)) here balanced)
        balance_of t q at (inr other) (inl same) =
            of_other t q other (waits_now q) (rewait (phases t) (sub t) (giv t) (waits q) (waits_now q) (closed t q other at same (is_open (phases t)) refl) (g.balance t q at))
        balance_of t q at (inr other) (inr elsewhere) =
            subst (λ w. IsBalanced (phases_now t) (sub_now t) (giv_now t) w) (sym (other_waits q elsewhere)) (of_other t q other (waits q) (g.balance t q at))

    -- its phase is no place in the log
    pub stays_out : ((place : ℕ) → phases_now txn ≡ phase.Logged place → ⊥) → sub txn ≤ sub_now txn → IsBalanced (phases_now txn) (sub_now txn) (giv_now txn) (waits_now s)
        → Numbers sessions phases_now decided sub_now giv_now waits_now out
    stays_out never more balanced = goes_on decided (not_decided never) more balanced

    -- it is decided
    pub is_logged : phases_now txn ≡ phase.Logged (length decided + 1) → sub txn ≤ sub_now txn → IsBalanced (phases_now txn) (sub_now txn) (giv_now txn) (waits_now s)
        → Numbers sessions phases_now (decided ++ txn ∷ []) sub_now giv_now waits_now out
    is_logged now more balanced = goes_on (decided ++ txn ∷ []) (is_decided now) more balanced
