use Rattle.std.proofs.Common.{◌≡◌, suc, ◌+◌, length, take, get_or, unwrap_or, refl, ap, subst, arith}
use Rattle.std.proofs.lemmas.List.{length-take-le}
use Rattle.hr_base.specs.Lists.{has}
use Rattle.hr_history.specs.Processed.{wait_in, named_in, replica_in, no_attempt}
use Rattle.hr_moves.specs.Kept.{entries_in}
use Rattle.hr_sane.proofs.Lists.{lookup_absent}
use Rattle.hr_votes.specs.Walked.{found_of, GrowsBy}
use Rattle.hr_votes.proofs.Marks.{most_found, got_taken}
use Rattle.hr_votes.proofs.Chained.{IsSearch, starts, follows, goes_on, ends}
use Rattle.hr_votes.proofs.walk.leads_to.Goals as goal

pub offset_bounds-walk-next : goal.offset_bounds-walk-next
offset_bounds-walk-next c = omega (arith, most_found (entries_in c.args.view.now c.args.replica) c.walk.walk c.walk.invariant.walk, c.walk-test.true)

pub bounds-walk-next : goal.bounds-walk-next
bounds-walk-next c = omega (arith, most_found (entries_in c.args.view.now c.args.replica) c.walk.walk c.walk.invariant.walk, c.walk-test.true)

pub overflow_add-next : goal.overflow_add-next
overflow_add-next c = omega (arith, most_found (entries_in c.args.view.now c.args.replica) c.walk.walk c.walk.invariant.walk, c.walk-test.true)

pub walk-smaller : goal.walk-smaller
walk-smaller c = omega (arith, most_found (entries_in c.args.view.now c.args.replica) c.walk.walk c.walk.invariant.walk, c.walk-test.true)

pub find_all-requires : goal.find_all-requires
find_all-requires c = c.new-walk.ensures.walk (entries_in c.args.view.now c.args.replica)

pub walk-init : goal.walk-init
walk-init c =
    let v = c.args.view.now in
    let r = c.args.replica in
    record {
      walk = c.find_all.ensures.walk;
      searched = starts (wait_in v r) (entries_in v r) c.args.named.now c.args.asker (found_of c.find_all.new.self)
          (subst (λ xs. GrowsBy (has c.args.named.now) xs (found_of c.find_all.new.self)) c.new-walk.ensures.empty c.find_all.ensures.grows) c.find_all.ensures.known;
    }

pub returns-then-follow : goal.returns-then-follow
returns-then-follow c =
    let v = c.args.view.now in
    let r = c.args.replica in
    let w = c.walk.walk in
    let most = most_found (entries_in v r) w c.walk.invariant.walk in
    let at = got_taken w.queue w.found c.walk.next c.walk-test.true (omega (arith, most, c.walk.invariant.walk.queue)) in
    (λ _. follows (wait_in v r) (entries_in v r) c.args.named.now c.args.asker (found_of w) (found_of c.follow.new.self) c.walk.next (get_or w.queue c.walk.next 0) c.walk.invariant.searched at c.args.asker (c.follow.ensures.asker c.if-follow.true), λ _. refl)

pub walk-preserved : goal.walk-preserved
walk-preserved c =
    let v = c.args.view.now in
    let r = c.args.replica in
    let w = c.walk.walk in
    let most = most_found (entries_in v r) w c.walk.invariant.walk in
    let at = got_taken w.queue w.found c.walk.next c.walk-test.true (omega (arith, most, c.walk.invariant.walk.queue)) in
    let next : suc c.walk.next ≡ c.walk.next + 1 = omega arith in
    record {
      walk = c.follow.ensures.walk;
      searched = subst (IsSearch (wait_in v r) (entries_in v r) c.args.named.now c.args.asker (found_of c.follow.new.self)) next
          (goes_on (wait_in v r) (entries_in v r) c.args.named.now c.args.asker (found_of w) (found_of c.follow.new.self) c.walk.next (get_or w.queue c.walk.next 0) c.walk.invariant.searched at c.follow.ensures.grows (c.follow.ensures.known c.if-follow.false));
    }

pub returns : goal.returns
returns c =
    let v = c.args.view.now in
    let r = c.args.replica in
    let w = c.walk.walk in
    let most = most_found (entries_in v r) w c.walk.invariant.walk in
    let long : length (take w.found w.queue) ≡ w.found = length-take-le w.found w.queue (omega (arith, most, c.walk.invariant.walk.queue)) in
    (λ h. cc h, λ leads. absurd (ends (wait_in v r) (entries_in v r) c.args.named.now c.args.asker (found_of w) c.walk.next (λ t none. ap (λ o. named_in (unwrap_or o no_attempt).last) (lookup_absent t (replica_in v r).attempts none)) c.walk.invariant.searched (omega (arith, long, c.walk-test.false)) leads))
