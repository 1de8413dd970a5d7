use Rattle.std.proofs.Common.{rules, ◌≡◌, ◌<◌, [], ◌∷◌, ◌++◌, List, length, get_or, ap, sym, ◌∙◌, arith}
use Rattle.std.proofs.lemmas.List.{take_more, take_all}
use Rattle.hr_rel.specs.declared.value.Value.{Value}
use Rattle.hr_table_engine.specs.Undo.{everyone, undone}
use Rattle.hr_table_engine.proofs.Slots.{undone_size}
use Rattle.hr_table_engine.proofs.store.TableStoreTxnStoreTableName.dump.Goals as goal

pub tables-preserved : goal.tables-preserved
tables-preserved c =
    let xs = undone everyone c.args.self.now.slots.items c.args.self.now.machine.tables in
    let at = c.tables.at in
    let pushed : c.push.new.self ≡ c.tables.tables ++ get_or xs at [] ∷ [] = search rules in
    let size = undone_size everyone c.args.self.now.slots.items c.args.self.now.machine.tables c.args.self.now.sized in
    let within : at < length xs = omega (arith, size, c.args.self.now.sized, c.tables-test.true) in
    pushed ∙ ap (λ (l : List (List (List Value))). l ++ get_or xs at [] ∷ []) c.tables.invariant ∙ sym (take_more xs at [] within)

pub returns : goal.returns
returns c =
    let xs = undone everyone c.args.self.now.slots.items c.args.self.now.machine.tables in
    let size = undone_size everyone c.args.self.now.slots.items c.args.self.now.machine.tables c.args.self.now.sized in
    c.tables.invariant ∙ take_all c.tables.at xs (omega (arith, size, c.args.self.now.sized, c.tables-test.false))
