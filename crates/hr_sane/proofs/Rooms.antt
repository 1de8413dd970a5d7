-- What each event makes of the measure, and of the room that is to be kept.
use Rattle.std.proofs.Common.{◌≡◌, ℕ, ◌+◌, ◌*◌, ◌≤◌, Bool, true, false, ◌==◌, nat_eq, cond, if◌then◌else◌, Option, Some, is_some, is_none, [], ◌∷◌, ◌++◌, length, map, count_by, ap, arith}
use Rattle.std.specs.Map.{lookup}
use Rattle.hr_base.specs.Lists.{has, is_distinct, one_to}
use Rattle.hr_history.specs.ReplicaNumbers.{replica_numbers}
use Rattle.hr_history.specs.Transactions.{is_open}
use Rattle.hr_history.specs.View.{View, Attempt, Progress, is_fresh}
use Rattle.hr_history.specs.Processed.{phase_in, replica_in, runs_in, no_attempt}
use Rattle.hr_history.specs.Jobs.{txn_numbers}
use Rattle.hr_moves.specs.Changes.{change_at, with_attempts}
use Rattle.hr_moves.specs.Kept.{open_in}
use Rattle.hr_moves.specs.Sane.{IsReplica, cut_to}
use Rattle.hr_moves.specs.Moves.{and_entry, rest_attempt}
use Rattle.hr_moves.specs.Measure.{may_be_preempted, todo_at, todo_in, room_in}
use Rattle.hr_sane.proofs.Totals.{total, count_total, total_le, total_end, total_twice, one_le, sum_total, filter_total, range_at, counted, count_le, count_more, count_less}

-- ---- the measure and the room, as totals

abbrev pub todo_of : Progress → ℕ
todo_of p = (if p.convicted then 0 else 2) + count_by may_be_preempted p.attempts

abbrev pub out_of : Progress → ℕ
out_of p = cond (is_some p.out) 1 0

abbrev pub weight : Progress → ℕ
weight p = todo_of p + 2 * out_of p

abbrev pub vacancy : Option ℕ → ℕ
vacancy o = if is_none o then 1 else 0

abbrev pub opens : View → ℕ
opens v = total (λ t. cond (is_open (phase_in v t)) 1 0) (txn_numbers v)

abbrev pub todos : View → ℕ
todos v = total (λ r. todo_of (replica_in v r)) (replica_numbers v.f)

abbrev pub weights : View → ℕ
weights v = total (λ r. weight (replica_in v r)) (replica_numbers v.f)

open_count : (v : View) → length (open_in v) ≡ opens v
open_count v = filter_total (λ t. is_open (phase_in v t)) (txn_numbers v)

pub todo_total : (v : View) → todo_in v ≡ opens v + vacancy v.primary + todos v
todo_total v = λ i. open_count v i + vacancy v.primary + sum_total (todo_at v) (replica_numbers v.f) i

pub room_total : (v : View) → room_in v ≡ opens v + vacancy v.primary + weights v
room_total v = omega (arith, todo_total v, count_total (λ r. is_some (replica_in v r).out) (replica_numbers v.f), total_twice (λ r. todo_of (replica_in v r)) (λ r. out_of (replica_in v r)) (replica_numbers v.f))

-- ---- what one replica weighs

attempt_count : (p : Progress) → count_by may_be_preempted p.attempts ≡ counted p.attempts
attempt_count p = count_total may_be_preempted p.attempts

pub rest_may : (v : View) (r t : ℕ) (a : Attempt) → may_be_preempted (t, rest_attempt v r t a) ≡ true → may_be_preempted (t, a) ≡ true
rest_may v r t a h = by_test (is_fresh v.fresh r t) h
  where
    by_test : (b : Bool) → may_be_preempted (t, if b then record a { last = cut_to (runs_in v r) a.last } else a) ≡ true → may_be_preempted (t, a) ≡ true
    by_test true h = h
    by_test false h = h

pub change_may : (t u : ℕ) (change : Attempt → Attempt) (a : Attempt) → (may_be_preempted (u, change a) ≡ true → may_be_preempted (u, a) ≡ true) → may_be_preempted (u, change_at t change u a) ≡ true → may_be_preempted (u, a) ≡ true
change_may t u change a each h = by_test (u == t) h
  where
    by_test : (b : Bool) → may_be_preempted (u, if b then change a else a) ≡ true → may_be_preempted (u, a) ≡ true
    by_test true h = each h
    by_test false h = h

none_may : (t : ℕ) → may_be_preempted (t, no_attempt) ≡ true → ⊥
none_may t h = cc h

module _ (p : Progress) where
  pub todo_fewer : (k : ℕ → Attempt → Attempt) → ((t : ℕ) (a : Attempt) → may_be_preempted (t, k t a) ≡ true → may_be_preempted (t, a) ≡ true) → todo_of (with_attempts k p) ≤ todo_of p
  todo_fewer k each = omega (arith, attempt_count p, attempt_count (with_attempts k p), count_le k p.attempts each)

  pub todo_one_more : (k : ℕ → Attempt → Attempt) (t : ℕ) → is_distinct (map (λ (x : ℕ × Attempt). x.0) p.attempts) ≡ true
      → ((u : ℕ) (a : Attempt) → (u == t) ≡ false → may_be_preempted (u, k u a) ≡ true → may_be_preempted (u, a) ≡ true) → todo_of (with_attempts k p) ≤ todo_of p + 1
  todo_one_more k t d each = omega (arith, attempt_count p, attempt_count (with_attempts k p), count_more k t p.attempts d each)

  pub todo_one_less : (k : ℕ → Attempt → Attempt) (t : ℕ) (a : Attempt) → lookup (nat_eq t) p.attempts ≡ Some a → may_be_preempted (t, a) ≡ true → may_be_preempted (t, k t a) ≡ false
      → ((u : ℕ) (c : Attempt) → may_be_preempted (u, k u c) ≡ true → may_be_preempted (u, c) ≡ true) → todo_of (with_attempts k p) + 1 ≤ todo_of p
  todo_one_less k t a got was gone each = omega (arith, attempt_count p, attempt_count (with_attempts k p), count_less k t a p.attempts got was gone each)

  entry_by : (b : Bool) (t : ℕ) → counted (if b then p.attempts else p.attempts ++ (t, no_attempt) ∷ []) ≤ counted p.attempts
  entry_by true t = omega arith
  entry_by false t = omega (arith, total_end (λ (x : ℕ × Attempt). cond (may_be_preempted x) 1 0) p.attempts (t, no_attempt))

  pub todo_entry : (t : ℕ) → todo_of (record p { attempts = and_entry t p.attempts }) ≤ todo_of p
  todo_entry t = omega (arith, attempt_count p, attempt_count (record p { attempts = and_entry t p.attempts }), entry_by (has (map (λ (x : ℕ × Attempt). x.0) p.attempts) t) t)

-- ---- what stays, and what a change at one replica makes

module _ (v w : View) (sizes : w.f ≡ v.f) where
  pub todos_le : ((q : ℕ) → todo_of (replica_in w q) ≤ todo_of (replica_in v q)) → todos w ≤ todos v
  todos_le each = omega (arith, ap (λ n. total (λ r. todo_of (replica_in w r)) (replica_numbers n)) sizes, total_le (λ r. todo_of (replica_in w r)) (λ r. todo_of (replica_in v r)) (replica_numbers v.f) each)

  pub todos_at : (r c d : ℕ) → IsReplica v r → todo_of (replica_in w r) + c ≤ todo_of (replica_in v r) + d → ((q : ℕ) → (q == r) ≡ false → todo_of (replica_in w q) ≤ todo_of (replica_in v q)) → todos w + c ≤ todos v + d
  todos_at r c d near here other =
      omega (arith, ap (λ n. total (λ q. todo_of (replica_in w q)) (replica_numbers n)) sizes, range_at (λ q. todo_of (replica_in w q)) (λ q. todo_of (replica_in v q)) r c d other here 0 (2 * v.f + 1) (omega arith) (omega (arith, near)))

  pub weights_le : ((q : ℕ) → weight (replica_in w q) ≤ weight (replica_in v q)) → weights w ≤ weights v
  weights_le each = omega (arith, ap (λ n. total (λ r. weight (replica_in w r)) (replica_numbers n)) sizes, total_le (λ r. weight (replica_in w r)) (λ r. weight (replica_in v r)) (replica_numbers v.f) each)

  pub weights_at : (r c d : ℕ) → IsReplica v r → weight (replica_in w r) + c ≤ weight (replica_in v r) + d → ((q : ℕ) → (q == r) ≡ false → weight (replica_in w q) ≤ weight (replica_in v q)) → weights w + c ≤ weights v + d
  weights_at r c d near here other =
      omega (arith, ap (λ n. total (λ q. weight (replica_in w q)) (replica_numbers n)) sizes, range_at (λ q. weight (replica_in w q)) (λ q. weight (replica_in v q)) r c d other here 0 (2 * v.f + 1) (omega arith) (omega (arith, near)))

  -- the same transactions, none of which is open but was
  pub opens_le : length w.txns ≡ length v.txns → ((t : ℕ) → is_open (phase_in w t) ≡ true → is_open (phase_in v t) ≡ true) → opens w ≤ opens v
  opens_le count each =
      omega (
        arith,
        ap (λ n. total (λ t. cond (is_open (phase_in w t)) 1 0) (one_to n)) count,
        total_le (λ t. cond (is_open (phase_in w t)) 1 0) (λ t. cond (is_open (phase_in v t)) 1 0) (one_to (length v.txns)) (λ t. one_le (is_open (phase_in w t)) (is_open (phase_in v t)) (each t)),
      )

  -- and one isn't any more
  pub opens_less : (u : ℕ) → length w.txns ≡ length v.txns → (1 ≤ u) × (u ≤ length v.txns) → is_open (phase_in v u) ≡ true → is_open (phase_in w u) ≡ false
      → ((t : ℕ) → is_open (phase_in w t) ≡ true → is_open (phase_in v t) ≡ true) → opens w + 1 ≤ opens v
  opens_less u count known was gone each =
      let here : cond (is_open (phase_in w u)) 1 0 + 1 ≤ cond (is_open (phase_in v u)) 1 0 + 0 = omega (arith, ap {B = ℕ} (λ b. cond b 1 0) was, ap {B = ℕ} (λ b. cond b 1 0) gone) in
      omega (
        arith,
        ap (λ n. total (λ t. cond (is_open (phase_in w t)) 1 0) (one_to n)) count,
        range_at (λ t. cond (is_open (phase_in w t)) 1 0) (λ t. cond (is_open (phase_in v t)) 1 0) u 1 0 (λ t other. one_le (is_open (phase_in w t)) (is_open (phase_in v t)) (each t)) here 1 (length v.txns) known.0 (omega (arith, known.1)),
      )
