-- No block is committed twice, and the committed ones stand in the log in their order.
use Rattle.std.proofs.Common.{◌≡◌, ◌⊎◌, inl, inr, ℕ, zero, suc, ◌+◌, ◌-◌, ◌<◌, Bool, true, false, ◌||◌, nat_lt, Some, length, refl, ap, sym, ◌∙◌, arith}
use Rattle.std.proofs.lemmas.Bool.{and_parts, ltb-true, ltb-false}
use Rattle.std.specs.Prelude.{is_none}
use Rattle.hr_base.specs.Lists.{numbered}
use Rattle.hr_said.specs.declared.scenario.Scenario.{Scenario}
use Rattle.hr_said.specs.declared.scenario.Block.{Block}
use Rattle.hr_history.specs.declared.phase.Phase.{Phase}
use Rattle.hr_history.specs.declared.phase.Phase.TheVariants as phase
use Rattle.hr_history.specs.History.{History}
use Rattle.hr_history.specs.Transactions.{phase_of, is_asked, is_logged}
use Rattle.hr_history.specs.Rules.{due}
use Rattle.hr_history.specs.Faithful.{Begun, Faithful, is_begun}
use Rattle.hr_records.proofs.Options.{same_some}
use Rattle.hr_records.proofs.Places.{numbered_born, numbered_some}
use Rattle.hr_decisions.specs.Order.{WasDecided}
use Rattle.hr_decisions.proofs.OrderLemmas as decisions
use Rattle.hr_schedule.specs.declared.attempt.Try.{Try}
use Rattle.hr_schedule.specs.Tries.{tries_of}
use Rattle.hr_schedule.specs.Scripts.{script}
use Rattle.hr_schedule.specs.Choices.{Chosen}
use Rattle.hr_scripted.specs.Scripted.{FollowsBlock, IsAgain, IsOfNext, IsTry, TriesStand, CallsStand}
use Rattle.hr_scripted.proofs.CallLemmas.{all_right, each_right}
use Rattle.hr_scripted.proofs.TryLemmas.{SoFar, so_far}
use Rattle.hr_scripted.proofs.FrontLemmas.{was_ended}
use Rattle.hr_scripted.proofs.OrderLemmas.{InOrder, in_order}

logged_not_refused : (p : ℕ) → phase.Logged p ≡ phase.Refused → ⊥
logged_not_refused p e = cc

ended_then : (p : Phase) → (is_asked p || is_logged p) ≡ true → was_ended p ≡ true
ended_then phase.Active e = cc
ended_then (phase.Asked n) e = refl
ended_then (phase.Logged place) e = refl
ended_then phase.RolledBack e = cc
ended_then phase.Refused e = cc

module _ (sc : Scenario) (s : ℕ) (h : History) (begins : Begun sc.f (length sc.scripts) h) (so : SoFar sc s h) (io : InOrder sc s h) where
  follows : (i : ℕ) (x : Try) → IsTry sc s h i x → (block : Block) × (numbered (script sc s) x.block ≡ Some block) × FollowsBlock s x.txn block h
  follows i x at =
      let its = so.blocks i x at in
      let called = io.called i x at its.0 its.1 in (
        its.0,
        its.1,
        record {
          calls = called.front;
          front = (its.2).front;
          commits = λ asked. let all = (its.2).commits asked in (called.whole (ended_then (phase_of x.txn h) asked), all.0, all.1);
          rolls_back = λ is. let all = (its.2).rolls_back is in (called.whole (ap was_ended is), all.0, all.1);
        },
      )

  -- a later try is of a later block, or of the same, if this one was refused
  abbrev IsBehind : Try → Try → Type 0
  IsBehind x y = (x.block < y.block) ⊎ ((x.block ≡ y.block) × (phase_of x.txn h ≡ phase.Refused))

  one_behind : (x y : Try) → IsAgain sc.retries (phase_of x.txn h) x y ⊎ IsOfNext sc.retries (phase_of x.txn h) x y → IsBehind x y
  one_behind x y (inl again) = inr (sym again.2, again.0)
  one_behind x y (inr fresh) = inl (omega (arith, fresh.1))

  chain : (x y z : Try) → IsBehind x y → IsBehind y z → IsBehind x z
  chain x y z (inl a) (inl b) = inl (omega (arith, a, b))
  chain x y z (inl a) (inr b) = inl (omega (arith, a, b.0))
  chain x y z (inr a) (inl b) = inl (omega (arith, a.0, b))
  chain x y z (inr a) (inr b) = inr (a.0 ∙ b.0, a.1)

  at_place : (i k : ℕ) (x : Try) → i ≡ k → IsTry sc s h k x → IsTry sc s h i x
  at_place i k x e at = ap (λ n. numbered (tries_of sc.retries s h) n) e ∙ at

  so_many_behind : (d i k : ℕ) (x y : Try) → k ≡ i + suc d → IsTry sc s h i x → IsTry sc s h k y → IsBehind x y
  so_many_behind zero i k x y e at_i at_k = one_behind x y (so.next i x y at_i (at_place (i + 1) k y (omega (arith, e)) at_k))
  so_many_behind (suc d) i k x y e at_i at_k =
      let tries = tries_of sc.retries s h in
      let z = numbered_some tries (i + suc d) (omega arith, omega (arith, e, (numbered_born tries k y at_k).1)) in
      chain x z.0 y (so_many_behind d i (i + suc d) x z.0 refl at_i z.1) (one_behind z.0 y (so.next (i + suc d) z.0 y z.1 (at_place (i + suc d + 1) k y (omega (arith, e)) at_k)))

  behind : (i k : ℕ) (x y : Try) → i < k → IsTry sc s h i x → IsTry sc s h k y → IsBehind x y
  behind i k x y lt at_i at_k = so_many_behind (k - i - 1) i k x y (omega (arith, lt)) at_i at_k

  -- behind a committed one only later blocks come
  later_block : (i k p : ℕ) (x y : Try) → i < k → IsTry sc s h i x → IsTry sc s h k y → WasDecided x.txn p h → x.block < y.block
  later_block i k p x y lt at_i at_k decided = elim (behind i k x y lt at_i at_k) [ inl less ↦ less | inr again ↦ absurd (logged_not_refused p (sym decided ∙ again.1)) ]

  one_of_three : (i k : ℕ) → (i < k) ⊎ ((i ≡ k) ⊎ (k < i))
  one_of_three i k = by_test (nat_lt i k) refl (nat_lt k i) refl
    where
      by_test : (b : Bool) → nat_lt i k ≡ b → (d : Bool) → nat_lt k i ≡ d → (i < k) ⊎ ((i ≡ k) ⊎ (k < i))
      by_test true less d e = inl (ltb-true i k less)
      by_test false e true more = inr (inr (ltb-true k i more))
      by_test false e false d = inr (inl (omega (arith, ltb-false i k e, ltb-false k i d)))

  pub once : (i k p q : ℕ) (x y : Try) → IsTry sc s h i x → IsTry sc s h k y → WasDecided x.txn p h → WasDecided y.txn q h → x.block ≡ y.block → i ≡ k
  once i k p q x y at_i at_k dx dy same = by_order (one_of_three i k)
    where
      by_order : (i < k) ⊎ ((i ≡ k) ⊎ (k < i)) → i ≡ k
      by_order (inl lt) = absurd (omega (arith, same, later_block i k p x y lt at_i at_k dx))
      by_order (inr (inl e)) = e
      by_order (inr (inr lt)) = absurd (omega (arith, same, later_block k i q y x lt at_k at_i dy))

  pub in_log : (i k p q : ℕ) (x y : Try) → IsTry sc s h i x → IsTry sc s h k y → WasDecided x.txn p h → WasDecided y.txn q h → x.block < y.block → p < q
  in_log i k p q x y at_i at_k dx dy less = by_order (one_of_three i k)
    where
      by_order : (i < k) ⊎ ((i ≡ k) ⊎ (k < i)) → p < q
      by_order (inl lt) =
          decisions.in_order sc.f (length sc.scripts) s x.txn y.txn p h begins (so.its i x at_i, so.its k y at_k) (so.rise i k x y at_i at_k lt) dx q dy
      by_order (inr (inl e)) = absurd (omega (arith, less, ap (λ (z : Try). z.block) (same_some x y (sym at_i ∙ at_place i k y e at_k))))
      by_order (inr (inr lt)) = absurd (omega (arith, less, later_block k i q y x lt at_k at_i dy))

  pub tries_stand : TriesStand sc s h
  tries_stand = record { its = so.its; all = so.all; in_turn = io.in_turn; blocks = follows; first = so.first; over = so.over; next = so.next; once = once; in_log = in_log }

pub calls_stand : (sc : Scenario) (h : History) → Faithful sc.f (length sc.scripts) h → Chosen sc h → CallsStand sc h
calls_stand sc h faithful chosen =
    let begins = (and_parts (is_begun sc.f (length sc.scripts) h) (is_none (due sc.f h)) faithful).0 in
    let right = all_right sc h chosen in
    record { calls = each_right sc h right; tries = λ s. tries_stand sc s h begins (so_far sc s h begins right) (in_order sc s h begins right) }
