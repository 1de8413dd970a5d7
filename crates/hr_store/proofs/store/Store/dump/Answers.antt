use Rattle.std.proofs.Common.{rules, arith, ◌≡◌, ◌++◌, [], ◌∷◌, ap, sym, ◌∙◌}
use Rattle.std.proofs.lemmas.List.FromFn.{map-range_with_len_more}
use Rattle.hr_store.specs.Scans.{committed_rows}
use Rattle.hr_store.proofs.store.Store.dump.Goals as goal

pub tables-preserved : goal.tables-preserved
tables-preserved c =
    let cells = c.args.self.now.cells.entries in
    let table = c.tables.table in
    let pushed : c.push.new.self ≡ c.tables.tables ++ committed_rows table cells ∷ [] = search rules in
    pushed ∙ ap (λ tables. tables ++ committed_rows table cells ∷ []) c.tables.invariant
    ∙ sym (map-range_with_len_more (λ t. committed_rows t cells) 0 table table (omega arith))
