use Rattle.std.proofs.Common.{rules, ◌≡◌, ◌++◌, pos, get_or, take, to_z, of_z, w64, ap, sym, ◌∙◌}
use Rattle.std.specs.Option.{option_map, option_to_list}
use Rattle.hr_range_engine.specs.Shown.{seen_by, rows_by}
use Rattle.hr_range_engine.proofs.Looks.{rows_more}
use Rattle.hr_range_engine.proofs.look.rows_at.Goals as goal

pub keys-preserved : goal.keys-preserved
keys-preserved c =
    let i = c.keys.key-index in
    let keys = c.args.keys.now in
    let same : to_z w64 (of_z w64 (get_or keys i (pos 0))) ≡ get_or keys i (pos 0) = search rules in
    let pushed : c.push_if.new.rows ≡ c.keys.rows ++ option_to_list (option_map (λ row. row.now) c.get.result) = search rules in
    pushed ∙ (λ j. c.keys.invariant j ++ option_to_list (c.get.ensures j))
    ∙ ap (λ k. rows_by (seen_by c.args.store.now c.args.txn c.args.table) (take i keys) ++ option_to_list (seen_by c.args.store.now c.args.txn c.args.table k)) same
    ∙ sym (rows_more (seen_by c.args.store.now c.args.txn c.args.table) keys i c.keys-test.true)
