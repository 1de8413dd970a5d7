use Rattle.std.proofs.Common.{ap, arith, length, not, refl, [], ◌∷◌, List}
use Rattle.std.proofs.lemmas.List.Filters.{length-filter_both}
use Rattle.hr_rel.specs.declared.value.Value.{Value}
use Rattle.hr_meaning.specs.Truth.{is_kept}
use Rattle.hr_machine.proofs.update.delete_all.Goals as goal

pub overflow_sub-result : goal.overflow_sub-result
overflow_sub-result c =
    let condition = c.args.filter.now in
    let both = length-filter_both (λ (row : List Value). is_kept condition (row ∷ [])) (λ row. not (is_kept condition (row ∷ []))) (λ row. refl) c.args.table.now.items in
    let left = ap length c.retain.ensures in
    omega (arith, both, left, c.len-before.ensures, c.len.ensures, c.args.table.now.ok, c.retain.new.table.ok)

pub returns-clause-count : goal.returns-clause-count
returns-clause-count c =
    let condition = c.args.filter.now in
    let both = length-filter_both (λ (row : List Value). is_kept condition (row ∷ [])) (λ row. not (is_kept condition (row ∷ []))) (λ row. refl) c.args.table.now.items in
    let left = ap length c.retain.ensures in
    omega (arith, both, left, c.len-before.ensures, c.len.ensures, c.args.table.now.ok, c.retain.new.table.ok)
