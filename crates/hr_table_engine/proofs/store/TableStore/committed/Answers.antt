use Rattle.std.proofs.Common.{◌≡◌, ◌<◌, [], List, length, get_or, ap, ◌∙◌, arith}
use Rattle.hr_rel.specs.declared.value.Value.{Value}
use Rattle.hr_table_engine.proofs.Ends.{slot_is}
use Rattle.hr_table_engine.proofs.Loops.{item_is, kept_rows, plain_rows}
use Rattle.hr_table_engine.proofs.store.TableStore.committed.Goals as goal

pub returns-in-Some : goal.returns-in-Some
returns-in-Some c =
    kept_rows c.args.self.now.slots.items c.args.self.now.machine.tables c.args.at c.args.self.now.sized c.in-Some.before
    (slot_is c.args.self.now.slots.items c.args.at c.index.result.now c.requires c.index.ensures ∙ c.in-Some.is)

pub returns-in-None : goal.returns-in-None
returns-in-None c =
    let tables = c.args.self.now.machine.tables in
    let at = c.args.at in
    let row = c.index-as_slice-at.result in
    let within : at < length tables = omega (arith, c.requires, c.args.self.now.sized) in
    let there : row ≡ get_or tables at row = c.index-as_slice-at.is ∙ ap (λ (l : List (List (List Value))). get_or l at row) (c.as_slice.ensures ∙ c.rows.ensures) in
    plain_rows c.args.self.now.slots.items tables at c.args.self.now.sized row
    (slot_is c.args.self.now.slots.items at c.index.result.now c.requires c.index.ensures ∙ c.in-None.is) (item_is tables at row [] within there)
