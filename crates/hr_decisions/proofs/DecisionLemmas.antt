-- Decisions are exact.
use Rattle.std.proofs.Common.{◌≡◌, ℕ, ◌+◌, Bool, true, not, ◌&&◌, nat_le, Option, Some, None, is_none, is_some, option_map, option_and_then, filter, count_by, length, refl, ap, sym, ◌∙◌, subst, arith}
use Rattle.std.proofs.lemmas.Bool.{and_parts, leb-true}
use Rattle.hr_base.specs.Lists.{has}
use Rattle.hr_history.specs.declared.entry.Event.{Event}
use Rattle.hr_history.specs.declared.entry.Event.TheVariants as event
use Rattle.hr_history.specs.declared.cause.CauseAt.TheVariants as cause
use Rattle.hr_history.specs.History.{History}
use Rattle.hr_history.specs.ReplicaNumbers.{replica_numbers}
use Rattle.hr_history.specs.SameAnswers.{same_answers}
use Rattle.hr_history.specs.Transactions.{is_asked}
use Rattle.hr_history.specs.Turn.{Turn, turn_of}
use Rattle.hr_history.specs.View.{View, view_of}
use Rattle.hr_history.specs.Processed.{phase_in, answers_in, given_in}
use Rattle.hr_history.specs.Votes.{is_ready, agrees, agree_on, contradicts, contradicted_by, is_decidable, is_contradicted, difference_at}
use Rattle.hr_history.specs.Ranks.{ranks_before, first_in_rank}
use Rattle.hr_history.specs.Jobs.{txn_numbers}
use Rattle.hr_history.specs.Rules.{owed_conviction, convict, primary_gone, primary_reply, decide, refuse_as_differ, differ, answer_place, due_in, due}
use Rattle.hr_history.specs.Faithful.{Faithful, is_begun}
use Rattle.hr_records.proofs.Options.{some_none, first_none, none_mapped, first_by_has, first_by_none, in_range}
use Rattle.hr_records.proofs.NumberSteps.{not_both}
use Rattle.hr_records.proofs.SameLists.{same_lists, themselves}
use Rattle.hr_records.proofs.Counts.{shared}
use Rattle.hr_records.proofs.RuleLemmas.{asked_is_open}
use Rattle.hr_records.proofs.ViewWords.{open_txn}
use Rattle.hr_base.proofs.ListLaws.{has-filter}
use Rattle.hr_base.proofs.Tests.{kept}
use Rattle.hr_decisions.specs.Groups.{IsGroup}

-- where none ranks first, none passes
pub none_passes : (v : View) (p : ℕ → Bool) (t : ℕ) → first_in_rank v (filter p (txn_numbers v)) ≡ None → has (txn_numbers v) t ≡ true → p t ≡ true → ⊥
none_passes v p t none there passes =
    let nobody = first_by_none (ranks_before v) (filter p (txn_numbers v)) none in
    not_both (has (filter p (txn_numbers v)) t) (kept p t (txn_numbers v) passes there) (ap (λ xs. has xs t) nobody)

module _ (v : View) (turn : Turn) (nothing : due_in v turn ≡ None) where
  no_decision : decide v turn ≡ None
  no_decision =
      let a = first_none (owed_conviction v turn) _ nothing in
      let b = first_none (convict v turn) _ a.1 in
      let c = first_none (primary_gone v turn) _ b.1 in
      let d = first_none (primary_reply v turn) _ c.1 in
      (first_none (decide v turn) _ d.1).0

  no_difference : differ v turn ≡ None
  no_difference =
      let a = first_none (owed_conviction v turn) _ nothing in
      let b = first_none (convict v turn) _ a.1 in
      let c = first_none (primary_gone v turn) _ b.1 in
      let d = first_none (primary_reply v turn) _ c.1 in
      let e = first_none (decide v turn) _ d.1 in
      (first_none (differ v turn) _ e.1).0

  asked_has : (t : ℕ) → is_asked (phase_in v t) ≡ true → has (txn_numbers v) t ≡ true
  asked_has t asked = let is = open_txn v t (asked_is_open (phase_in v t) asked) in in_range 1 (length v.txns) t is.0 (omega (arith, is.1))

  pub none_decidable : (t : ℕ) → is_decidable v t ≡ true → ⊥
  none_decidable t is =
      let asked = (and_parts (is_asked (phase_in v t)) (nat_le (v.f + 1) (count_by (agrees v t) (replica_numbers v.f))) is).0 in
      none_passes v (is_decidable v) t (none_mapped (λ t. event.Decide t) (first_in_rank v (filter (is_decidable v) (txn_numbers v))) no_decision) (asked_has t asked) is

  -- one that is contradicted is refused
  refused_by : (o : Option ℕ) → option_and_then (refuse_as_differ v turn) o ≡ None → ((t : ℕ) → o ≡ Some t → is_some (contradicted_by v t) ≡ true) → o ≡ None
  refused_by None e by = refl
  refused_by (Some t) e by = absurd (of_by (contradicted_by v t) (by t refl) e)
    where
      of_by : (b : Option ℕ) → is_some b ≡ true → option_map (λ r. event.Refuse t (cause.Differ (difference_at v r t) r (answer_place v turn r t (difference_at v r t)))) b ≡ None → ⊥
      of_by None some e = cc
      of_by (Some r) some e = some_none _ e

  pub none_contradicted : (t : ℕ) → is_contradicted v t ≡ true → ⊥
  none_contradicted t is =
      let asked = (and_parts (is_asked (phase_in v t)) (is_some (contradicted_by v t)) is).0 in
      let first = first_in_rank v (filter (is_contradicted v) (txn_numbers v)) in
      let by : (u : ℕ) → first ≡ Some u → is_some (contradicted_by v u) ≡ true =
      λ u e. (let kept = has-filter (is_contradicted v) (txn_numbers v) u (first_by_has (ranks_before v) (filter (is_contradicted v) (txn_numbers v)) u e) in (and_parts (is_asked (phase_in v u)) (is_some (contradicted_by v u)) kept.0).1) in
      none_passes v (is_contradicted v) t (refused_by first no_difference by) (asked_has t asked) is

none_of : (o : Option Event) → is_none o ≡ true → o ≡ None
none_of None e = refl
none_of (Some x) e = cc

pub nothing_after : (f s : ℕ) (h : History) → Faithful f s h → due_in (view_of f h) (turn_of h) ≡ None
nothing_after f s h faithful = none_of (due f h) (and_parts (is_begun f s h) (is_none (due f h)) faithful).1

module _ (v : View) (t : ℕ) where
  -- the parts of a contradiction
  group_of : (r : ℕ) → contradicts v t r ≡ true → (not (same_answers (answers_in v r t) (given_in v t)) ≡ true) × IsGroup v.f (agree_on v t r)
  group_of r is =
      let all = and_parts (is_ready v t r && not (same_answers (answers_in v r t) (given_in v t))) (nat_le (v.f + 1) (count_by (agree_on v t r) (replica_numbers v.f))) is in
      ((and_parts (is_ready v t r) (not (same_answers (answers_in v r t) (given_in v t))) all.0).1, leb-true (v.f + 1) (count_by (agree_on v t r) (replica_numbers v.f)) all.1)

  agreed : (r s : ℕ) → agree_on v t r s ≡ true → answers_in v s t ≡ answers_in v r t
  agreed r s is = same_lists (answers_in v s t) (answers_in v r t) (and_parts (is_ready v t s) (same_answers (answers_in v s t) (answers_in v r t)) is).1

  wrong : (b : Bool) → not b ≡ true → b ≡ true → ⊥
  wrong b e d = cc

  pub excludes : (r : ℕ) → contradicts v t r ≡ true → IsGroup v.f (agrees v t) → ⊥
  excludes r is group =
      let its = group_of r is in
      let both = shared v.f (agrees v t) (agree_on v t r) group its.1 in
      let s = both.0 in
      let given = same_lists (answers_in v s t) (given_in v t) (and_parts (is_ready v t s) (same_answers (answers_in v s t) (given_in v t)) both.2).1 in
      let same : answers_in v r t ≡ given_in v t = sym (agreed r s both.3) ∙ given in
      wrong (same_answers (answers_in v r t) (given_in v t)) its.0 (subst (λ xs. same_answers (answers_in v r t) xs ≡ true) same (themselves (answers_in v r t)))

  pub one_answer : (r s : ℕ) → contradicts v t r ≡ true → contradicts v t s ≡ true → answers_in v r t ≡ answers_in v s t
  one_answer r s first second =
      let both = shared v.f (agree_on v t r) (agree_on v t s) (group_of r first).1 (group_of s second).1 in
      sym (agreed r both.0 both.2) ∙ agreed s both.0 both.3
