-- How much a search has still to read.
use Rattle.std.proofs.Common.{◌≡◌, ◌≤◌, ◌+◌, ℕ, Bool, true, false, ◌||◌, ◌==◌, if◌then◌else◌, List, [], ◌∷◌, ◌++◌, Option, length, refl, ap, sym, subst, ◌∙◌, arith}
use Rattle.std.proofs.lemmas.Bool.{eq-eqb, eqb-true}
use Rattle.hr_base.specs.Lists.{has}
use Rattle.hr_base.proofs.Tests.{has_end}
use Rattle.hr_locks.specs.declared.wait.Wait.{Wait}
use Rattle.hr_locks.specs.Waits.{wait_in, wait_seen, next_in, is_the_one}

-- the names of the waits of transactions that weren't read
abbrev pub unread_waits : List Wait → List ℕ → ℕ
unread_waits [] read = 0
unread_waits (wait ∷ waits) read = (if has read wait.txn then 0 else length wait.names.items) + unread_waits waits read

abbrev pub unread : ℕ → List ℕ → List Wait → List ℕ → ℕ
unread asker holders waits read = (if has read asker then 0 else length holders) + unread_waits waits read

-- one wait, where t is read too
fewer : (n : ℕ) (old now : Bool) (same : Bool) → now ≡ (old || same) → (if now then 0 else n) ≤ (if old then 0 else n)
fewer n true now same e = subst (λ b. (if b then 0 else n) ≤ 0) (sym e) (omega arith)
fewer n false now true e = subst (λ b. (if b then 0 else n) ≤ n) (sym e) (omega arith)
fewer n false now false e = subst (λ b. (if b then 0 else n) ≤ n) (sym e) (omega arith)

taken : (n : ℕ) (old now : Bool) → now ≡ (old || true) → old ≡ false → (if now then 0 else n) + n ≤ (if old then 0 else n)
taken n true now e f = cc
taken n false now e f = subst (λ b. (if b then 0 else n) + n ≤ n) (sym e) (omega arith)

waits_fewer : (waits : List Wait) (read : List ℕ) (t : ℕ) → unread_waits waits (read ++ t ∷ []) ≤ unread_waits waits read
waits_fewer [] read t = omega arith
waits_fewer (wait ∷ waits) read t =
    let here = fewer (length wait.names.items) (has read wait.txn) (has (read ++ t ∷ []) wait.txn) (t == wait.txn) (has_end read t wait.txn) in
    let rest = waits_fewer waits read t in
    omega (arith, here, rest)

-- reading a wait leaves its names fewer
waits_taken : (waits : List Wait) (read : List ℕ) (t : ℕ) → has read t ≡ false → unread_waits waits (read ++ t ∷ []) + length (wait_in waits t) ≤ unread_waits waits read
waits_taken [] read t new = omega arith
waits_taken (wait ∷ waits) read t new = by (waits_taken waits read t new) (wait.txn == t) refl
  where
    by : unread_waits waits (read ++ t ∷ []) + length (wait_in waits t) ≤ unread_waits waits read
        → (b : Bool) → (wait.txn == t) ≡ b → unread_waits (wait ∷ waits) (read ++ t ∷ []) + length (if b then wait.names.items else wait_in waits t) ≤ unread_waits (wait ∷ waits) read
    by taken_later true e =
        let same : wait.txn ≡ t = eqb-true wait.txn t e in
        let now : has (read ++ t ∷ []) wait.txn ≡ (has read wait.txn || true) = has_end read t wait.txn ∙ ap (λ b. has read wait.txn || b) (eq-eqb t wait.txn (sym same)) in
        let old : has read wait.txn ≡ false = ap (λ v. has read v) same ∙ new in
        let here = taken (length wait.names.items) (has read wait.txn) (has (read ++ t ∷ []) wait.txn) now old in
        let rest = waits_fewer waits read t in
        omega (arith, here, rest)
    by taken_later false e =
        let here = fewer (length wait.names.items) (has read wait.txn) (has (read ++ t ∷ []) wait.txn) (t == wait.txn) (has_end read t wait.txn) in
        omega (arith, here, taken_later)

-- of the wait that is seen
seen_taken : (granted : Option ℕ) (waits : List Wait) (read : List ℕ) (t : ℕ) → has read t ≡ false → unread_waits waits (read ++ t ∷ []) + length (wait_seen granted waits t) ≤ unread_waits waits read
seen_taken granted waits read t new = by (is_the_one granted t)
  where
    by : (b : Bool) → unread_waits waits (read ++ t ∷ []) + length (if b then [] else wait_in waits t) ≤ unread_waits waits read
    by true = let less = waits_fewer waits read t in omega (arith, less)
    by false = waits_taken waits read t new

pub unread_taken : (granted : Option ℕ) (asker : ℕ) (holders : List ℕ) (waits : List Wait) (read : List ℕ) (t : ℕ) → has read t ≡ false
    → unread asker holders waits (read ++ t ∷ []) + length (next_in (wait_seen granted waits) asker holders t) ≤ unread asker holders waits read
unread_taken granted asker holders waits read t new = by (t == asker) refl
  where
    by : (b : Bool) → (t == asker) ≡ b → unread asker holders waits (read ++ t ∷ []) + length (if b then holders else wait_seen granted waits t) ≤ unread asker holders waits read
    by true e =
        let same : t ≡ asker = eqb-true t asker e in
        let now : has (read ++ t ∷ []) asker ≡ (has read asker || true) = has_end read t asker ∙ ap (λ b. has read asker || b) e in
        let old : has read asker ≡ false = ap (λ v. has read v) (sym same) ∙ new in
        let here = taken (length holders) (has read asker) (has (read ++ t ∷ []) asker) now old in
        let rest = waits_fewer waits read t in
        omega (arith, here, rest)
    by false e =
        let here = fewer (length holders) (has read asker) (has (read ++ t ∷ []) asker) (t == asker) (has_end read t asker) in
        let rest = seen_taken granted waits read t new in
        omega (arith, here, rest)
