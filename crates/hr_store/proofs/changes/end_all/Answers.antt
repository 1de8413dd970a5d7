use Rattle.std.proofs.Common.{rules, ◌≡◌, ◌+◌, true, pos, drop, get_or, subst, ◌∙◌}
use Rattle.std.specs.BTreeMap.{is_at}
use Rattle.std.proofs.lemmas.List.{drop_more}
use Rattle.hr_store.specs.Places.{place_cmp, place_of}
use Rattle.hr_store.specs.Cells.{held_at, is_listed}
use Rattle.hr_store.proofs.EndLaws.{step_same, step_listed}
use Rattle.hr_store.proofs.changes.end_all.Goals as goal

pub places-preserved : goal.places-preserved
places-preserved c =
    let d = place_of 0 (pos 0) in
    let i = c.places.place-index in
    let all = c.args.places.now in
    let new = c.end_at.new.cells in
    let cur = c.places.cells in
    record {
      same = λ q. step_same c.args.ending c.args.txn (is_at (place_cmp (get_or all i d)) q) (held_at new q) (held_at cur q) (c.end_at.ensures q) ∙ c.places.invariant.same q;
      listed = λ q. step_listed c.args.ending c.args.txn (is_at (place_cmp (get_or all i d)) q) (is_listed q (drop (i + 1) all)) (held_at new q) (held_at cur q) (c.end_at.ensures q)
          (λ pending. subst (λ ps. is_listed q ps ≡ true) (drop_more all i d (search rules)) (c.places.invariant.listed q pending));
    }
