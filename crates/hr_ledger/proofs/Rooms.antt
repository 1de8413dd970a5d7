-- How much room a view needs at most.
use Rattle.std.proofs.Common.{◌≡◌, ℕ, ◌+◌, ◌*◌, ◌≤◌, Bool, true, false, cond, if◌then◌else◌, Option, Some, None, is_some, is_none, List, length, map, sum, count_by, refl, ap, sym, ◌∙◌, arith}
use Rattle.std.proofs.lemmas.List.{length-map}
use Rattle.std.proofs.lemmas.List.Sums.{count_by-le-length}
use Rattle.hr_history.specs.ReplicaNumbers.{replica_numbers}
use Rattle.hr_history.specs.View.{View, Attempt, Progress}
use Rattle.hr_history.specs.Processed.{replica_in}
use Rattle.hr_moves.specs.Kept.{open_in, entries_in}
use Rattle.hr_moves.specs.Measure.{may_be_preempted, todo_at, todo_in, jobs_out_in, room_in}
use Rattle.hr_sane.proofs.Totals.{total, count_total, total_le, total_twice, sum_total}

module _ (v : View) where
  -- what one replica needs at most
  abbrev pub share : ℕ → ℕ
  share r = 4 + length (entries_in v r)

  -- and all of these
  abbrev pub shares : List ℕ → ℕ
  shares rs = total share rs

  convicted_most : (b : Bool) → (if b then 0 else 2) ≤ 2
  convicted_most true = omega arith
  convicted_most false = omega arith

  out_most : (b : Bool) → cond b 1 0 ≤ 1
  out_most true = omega arith
  out_most false = omega arith

  one_share : (r : ℕ) → todo_at v r + 2 * cond (is_some (replica_in v r).out) 1 0 ≤ share r
  one_share r = omega (
    arith,
    convicted_most (replica_in v r).convicted,
    out_most (is_some (replica_in v r).out),
    count_by-le-length may_be_preempted (replica_in v r).attempts,
    length-map (replica_in v r).attempts (λ (entry : ℕ × Attempt). entry.0),
  )

  pub enough : sum (map (todo_at v) (replica_numbers v.f)) + 2 * jobs_out_in v ≤ shares (replica_numbers v.f)
  enough = omega (
    arith,
    sum_total (todo_at v) (replica_numbers v.f),
    count_total (λ r. is_some (replica_in v r).out) (replica_numbers v.f),
    total_twice (todo_at v) (λ r. cond (is_some (replica_in v r).out) 1 0) (replica_numbers v.f),
    total_le (λ r. todo_at v r + 2 * cond (is_some (replica_in v r).out) 1 0) share (replica_numbers v.f) one_share,
  )

  vacant_most : (o : Option ℕ) → (if is_none o then 1 else 0) ≤ 1
  vacant_most None = omega arith
  vacant_most (Some p) = omega arith

  pub room_most : (n m : ℕ) → n ≡ length (open_in v) → sum (map (todo_at v) (replica_numbers v.f)) + 2 * jobs_out_in v ≤ m → room_in v ≤ n + 1 + m
  room_most n m opened part = omega (arith, opened, part, vacant_most v.primary)
