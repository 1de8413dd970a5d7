use Rattle.std.proofs.Common.{◌≡◌, ◌<◌, ◌∙◌, [], ◌++◌, length, get_or, IfSome, ap, sym, subst}
use Rattle.hr_locks.specs.Searches.{rest_by, routes}
use Rattle.hr_locks.proofs.Links.{left, way_less, way_within, way_on}
use Rattle.hr_locks.proofs.search.way_back.Goals as goal

pub way-preserved : goal.way-preserved
way-preserved c =
    let queue = c.args.queue.now in
    let here = c.in-Some.here in
    let link = c.link_at-link.result in
    let whole = get_or (routes queue) c.args.at [] in
    let within : here < length queue = subst (λ v. IfSome v (λ j. j < length queue)) c.in-Some.is c.way.invariant.within in
    let so_far : c.way.way.items ++ get_or (routes queue) here [] ≡ whole = subst (λ v. c.way.way.items ++ rest_by (routes queue) v ≡ whole) c.in-Some.is c.way.invariant.route in
    record {
      route = ap (λ v. v ++ rest_by (routes queue) link.by) c.in_ok-push.ensures.items
          ∙ way_on queue c.requires.linked here link within c.link_at-link.ensures c.way.way.items whole so_far;
      within = way_within queue c.requires.linked here link within c.link_at-link.ensures;
    }

pub way-smaller : goal.way-smaller
way-smaller c =
    let queue = c.args.queue.now in
    let link = c.link_at-link.result in
    let within : c.in-Some.here < length queue = subst (λ v. IfSome v (λ j. j < length queue)) c.in-Some.is c.way.invariant.within in
    subst (λ v. left link.by < left v) (sym c.in-Some.is) (way_less queue c.requires.linked c.in-Some.here link within c.link_at-link.ensures)
