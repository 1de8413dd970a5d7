use Rattle.std.proofs.Common.{◌≡◌, ◌≤◌, ◌<◌, ◌+◌, ◌-◌, ◌∙◌, None, [], ◌∷◌, ◌++◌, true, length, get_or, map, take, reverse, refl, sym, ap, subst, arith}
use Rattle.hr_base.specs.Lists.{has}
use Rattle.hr_locks.specs.declared.search.Link.{Link}
use Rattle.hr_locks.specs.Waits.{wait_seen, next_in}
use Rattle.hr_locks.specs.Searches.{routes, AreFound}
use Rattle.hr_locks.proofs.Links.{Searched, searched_first}
use Rattle.hr_locks.proofs.Unread.{unread}
use Rattle.hr_locks.proofs.Steps.{txn_of, next_step, less_left, head_here, here_is_route, here_is_closest, none_back}
use Rattle.hr_locks.proofs.Routes.{head_of}
use Rattle.hr_locks.proofs.Closing as closing
use Rattle.hr_locks.proofs.search.told_cycle.Goals as goal

pub queue-init : goal.queue-init
queue-init c =
    let next = next_in (wait_seen c.args.granted c.args.waits.now) c.args.asker c.args.holders.now in
    let root : Link = record { txn = c.args.asker; by = None } in
    let queue : root ∷ [] ≡ c.push.new.self.items = sym (c.in_ok-push.ensures.items ∙ ap (λ v. v ++ root ∷ []) c.new-queue.ensures.items) in
    let found : c.args.asker ∷ [] ≡ c.push-2.new.self.items = sym (c.in_ok-push-2.ensures.items ∙ ap (λ v. v ++ c.args.asker ∷ []) c.new-found.ensures.items) in
    record {
      searched = subst (λ v. Searched next c.args.asker v 0) queue (searched_first next c.args.asker);
      found = subst (λ v. AreFound v c.push.new.self.items) found (subst (λ v. AreFound (c.args.asker ∷ []) v) queue (record { ascending = refl; all = λ t. refl }));
    }

pub queue-preserved : goal.queue-preserved
queue-preserved c =
    let next = next_in (wait_seen c.args.granted c.args.waits.now) c.args.asker c.args.holders.now in
    let links = c.queue.queue.items in
    let link = c.link_at-link.result in
    let same = ap length c.deref.ensures.value in
    let within : c.queue.at < length links = omega (arith, same, c.deref.ensures.len, c.len.ensures, c.queue-test.true) in
    let is : link ≡ get_or links c.queue.at link = c.link_at-link.ensures ∙ ap (λ v. get_or v c.queue.at link) c.deref.ensures.value in
    let to : link.txn ≡ head_of (get_or (routes links) c.queue.at []) =
    ap txn_of is ∙ sym (head_here next c.args.asker links c.queue.at c.queue.invariant.searched within link) in
    record {
      searched = subst (λ v. Searched next c.args.asker v (c.queue.at + 1)) (sym c.in_ok-lead_on.ensures.queue)
          (next_step next c.args.asker links c.queue.at c.queue.invariant.searched within c.next_of-names.result.now
          (c.next_of-names.ensures.names ∙ ap next to) c.next_of-names.ensures.ascending (sym c.if-waits_for.ensures));
      found = c.in_ok-lead_on.ensures.found;
    }

pub queue-smaller : goal.queue-smaller
queue-smaller c =
    let next = next_in (wait_seen c.args.granted c.args.waits.now) c.args.asker c.args.holders.now in
    let links = c.queue.queue.items in
    let link = c.link_at-link.result in
    let at = c.queue.at in
    let same = ap length c.deref.ensures.value in
    let within : at < length links = omega (arith, same, c.deref.ensures.len, c.len.ensures, c.queue-test.true) in
    let is : link ≡ get_or links at link = c.link_at-link.ensures ∙ ap (λ v. get_or v at link) c.deref.ensures.value in
    let unread_by = unread c.args.asker c.args.holders.now c.args.waits.now in
    subst (λ v. unread_by (map txn_of (take (at + 1) v)) + (length v - (at + 1)) < unread_by (map txn_of (take at links)) + (length links - at))
    (sym c.in_ok-lead_on.ensures.queue)
    (less_left c.args.granted c.args.asker c.args.holders.now c.args.waits.now links at link c.queue.invariant.searched within c.next_of-names.result.now
    (c.next_of-names.ensures.names ∙ ap next (ap txn_of is)))

pub returns-then-waits_for : goal.returns-then-waits_for
returns-then-waits_for c =
    let waits = wait_seen c.args.granted c.args.waits.now in
    let next = next_in waits c.args.asker c.args.holders.now in
    let links = c.queue.queue.items in
    let link = c.link_at-link.result in
    let at = c.queue.at in
    let same = ap length c.deref.ensures.value in
    let within : at < length links = omega (arith, same, c.deref.ensures.len, c.len.ensures, c.queue-test.true) in
    let is : link ≡ get_or links at link = c.link_at-link.ensures ∙ ap (λ v. get_or v at link) c.deref.ensures.value in
    let route = get_or (routes links) at [] in
    let to : link.txn ≡ head_of route = ap txn_of is ∙ sym (head_here next c.args.asker links at c.queue.invariant.searched within link) in
    let back : has (next (head_of route)) c.args.asker ≡ true =
    ap (λ v. has v c.args.asker) (sym (c.next_of-names.ensures.names ∙ ap next to)) ∙ sym c.if-waits_for.ensures in
    let told = closing.told_cycle waits c.args.asker c.args.holders.now route c.requires.others
    (here_is_route next c.args.asker links at c.queue.invariant.searched within) back
    (here_is_closest next c.args.asker links at c.queue.invariant.searched within back) in (
      told.0,
      c.in_ok-cycle_to.ensures ∙ ap (λ v. reverse (get_or (routes v) at [])) c.deref-then-waits_for.ensures.value ∙ told.1,
      told.2,
    )

pub returns : goal.returns
returns c =
    let waits = wait_seen c.args.granted c.args.waits.now in
    let next = next_in waits c.args.asker c.args.holders.now in
    let links = c.queue.queue.items in
    let past : length links ≤ c.queue.at = omega (arith, c.len.ensures, c.queue-test.false, c.queue.queue.ok) in
    closing.no_cycle waits c.args.asker c.args.holders.now (none_back next c.args.asker links c.queue.at c.queue.invariant.searched past)
