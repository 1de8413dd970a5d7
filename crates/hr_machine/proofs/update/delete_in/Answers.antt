use Rattle.std.proofs.Common.{◌≡◌, suc, false, true, List, [], ◌∷◌, drop, get_or, ap, sym, subst, ◌∙◌, arith}
use Rattle.std.specs.List.{list_any}
use Rattle.hr_rel.specs.declared.value.Value.{Value}
use Rattle.hr_meaning.specs.Truth.{is_kept}
use Rattle.hr_machine.proofs.Spans.{one_taken, one_counted, all_left, none_counted, none_beside_one, none_on_both_sides}
use Rattle.hr_machine.proofs.update.delete_in.Goals as goal
use Rattle.hr_machine.proofs.update.delete_in.Goals.{else-span-via-then-span+else-is_kept, else-span-via-else-span}

pub returns-then-is_kept-clause-rows : goal.returns-then-is_kept-clause-rows
returns-then-is_kept-clause-rows c =
    let p = λ (row : List Value). is_kept c.args.filter.now (row ∷ []) in
    let rows = c.args.table.now.items in
    let from = c.args.span.from in
    let one : c.args.span.to ≡ suc from = omega (arith, c.if-span.true, c.requires.within.1) in
    let kept = ap p (sym (c.as_slice.ensures ∙ c.index.ensures)) ∙ sym c.is_kept.ensures ∙ c.if-is_kept.true in
    c.remove.ensures.items
    ∙ sym (one_taken p rows from c.index.result.now (omega (arith, c.if-span.true, c.requires.within.2)) kept c.requires.clear.0 (subst (λ n. list_any p (drop n rows) ≡ false) one c.requires.clear.1))

pub returns-then-is_kept-clause-count : goal.returns-then-is_kept-clause-count
returns-then-is_kept-clause-count c =
    let p = λ (row : List Value). is_kept c.args.filter.now (row ∷ []) in
    let rows = c.args.table.now.items in
    let from = c.args.span.from in
    let one : c.args.span.to ≡ suc from = omega (arith, c.if-span.true, c.requires.within.1) in
    let kept = ap p (sym (c.as_slice.ensures ∙ c.index.ensures)) ∙ sym c.is_kept.ensures ∙ c.if-is_kept.true in
    sym (one_counted p rows from c.index.result.now (omega (arith, c.if-span.true, c.requires.within.2)) kept c.requires.clear.0 (subst (λ n. list_any p (drop n rows) ≡ false) one c.requires.clear.1))

pub returns-else-span-clause-rows : goal.returns-else-span-clause-rows
returns-else-span-clause-rows c =
    let p = λ (row : List Value). is_kept c.args.filter.now (row ∷ []) in
    let rows = c.args.table.now.items in
    let from = c.args.span.from in
    let none : list_any p rows ≡ false =
    elim c.else-span.branch [
      | else-span-via-then-span+else-is_kept w ↦
          (let one : c.args.span.to ≡ suc from = omega (arith, w.if-span.true, c.requires.within.1) in
          none_beside_one p rows from w.index.result.now (omega (arith, w.if-span.true, c.requires.within.2)) (ap p (sym (w.as_slice.ensures ∙ w.index.ensures)) ∙ sym w.is_kept.ensures ∙ w.if-is_kept.false)
          c.requires.clear.0 (subst (λ n. list_any p (drop n rows) ≡ false) one c.requires.clear.1))
      | else-span-via-else-span w ↦
          (let same : c.args.span.to ≡ from = omega (arith, w.if-span.false, c.requires.within.0) in
          none_on_both_sides p rows from c.requires.clear.0 (subst (λ n. list_any p (drop n rows) ≡ false) same c.requires.clear.1))
    ] in
    sym (all_left p rows none)

pub returns-else-span-clause-count : goal.returns-else-span-clause-count
returns-else-span-clause-count c =
    let p = λ (row : List Value). is_kept c.args.filter.now (row ∷ []) in
    let rows = c.args.table.now.items in
    let from = c.args.span.from in
    let none : list_any p rows ≡ false =
    elim c.else-span.branch [
      | else-span-via-then-span+else-is_kept w ↦
          (let one : c.args.span.to ≡ suc from = omega (arith, w.if-span.true, c.requires.within.1) in
          none_beside_one p rows from w.index.result.now (omega (arith, w.if-span.true, c.requires.within.2)) (ap p (sym (w.as_slice.ensures ∙ w.index.ensures)) ∙ sym w.is_kept.ensures ∙ w.if-is_kept.false)
          c.requires.clear.0 (subst (λ n. list_any p (drop n rows) ≡ false) one c.requires.clear.1))
      | else-span-via-else-span w ↦
          (let same : c.args.span.to ≡ from = omega (arith, w.if-span.false, c.requires.within.0) in
          none_on_both_sides p rows from c.requires.clear.0 (subst (λ n. list_any p (drop n rows) ≡ false) same c.requires.clear.1))
    ] in
    sym (none_counted p rows none)
