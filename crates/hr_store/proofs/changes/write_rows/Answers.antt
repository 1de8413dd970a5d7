use Rattle.std.proofs.Common.{rules, ◌≡◌, ◌++◌, [], ◌∷◌, if◌then◌else◌, Some, None, ◌∙◌, ap, sym}
use Rattle.hr_store.specs.Places.{is_place, row_place}
use Rattle.hr_store.specs.Cells.{with_pending, held_at}
use Rattle.hr_store.proofs.PutLaws.{any_first, any_last, last_put}
use Rattle.hr_store.proofs.changes.write_rows.Goals as goal

pub write_at-requires : goal.write_at-requires
write_at-requires c = c.rows.invariant.rooms _ (any_last c.args.txn c.args.table c.rows.rows.items c.pop.new.self.items c.in-Some.row (search rules) _ (search rules))

pub rows-preserved-in-Some-of : goal.rows-preserved-in-Some-of
rows-preserved-in-Some-of c =
    let all = c.rows.rows.items in
    let init = c.pop.new.self.items in
    let row = c.in-Some.row in
    let split : all ≡ init ++ row ∷ [] = search rules in
    let belongs : row_place c.args.table row ≡ Some c.in-Some-of.place = sym c.of.ensures ∙ c.in-Some-of.is in
    let cur = c.rows.cells in
    record {
      rooms = λ q h. c.write_at.ensures.stays q (c.rows.invariant.rooms q (any_first c.args.txn c.args.table all init row split q h));
      left = λ q. last_put c.args.txn c.args.table all init row split q (held_at c.write_at.new.cells q) (held_at cur q)
          (c.write_at.ensures.written q ∙ sym (ap (λ o. if is_place o q then with_pending c.args.txn (Some row) (held_at cur q) else held_at cur q) belongs))
          ∙ c.rows.invariant.left q;
    }

pub rows-preserved : goal.rows-preserved
rows-preserved c =
    let all = c.rows.rows.items in
    let init = c.pop.new.self.items in
    let row = c.in-Some.row in
    let split : all ≡ init ++ row ∷ [] = search rules in
    let belongs : row_place c.args.table row ≡ None = sym c.of.ensures ∙ c.in_default-of.is in
    let cur = c.rows.cells in
    record {
      rooms = λ q h. c.rows.invariant.rooms q (any_first c.args.txn c.args.table all init row split q h);
      left = λ q. last_put c.args.txn c.args.table all init row split q (held_at cur q) (held_at cur q)
          (sym (ap (λ o. if is_place o q then with_pending c.args.txn (Some row) (held_at cur q) else held_at cur q) belongs))
          ∙ c.rows.invariant.left q;
    }
