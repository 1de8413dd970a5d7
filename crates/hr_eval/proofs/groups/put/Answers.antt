use Rattle.std.proofs.Common.{ap, sym, ◌∙◌}
use Rattle.std.specs.Prelude.{insert, slice_set}
use Rattle.std.proofs.lemmas.Result.{on_ok_weaker}
use Rattle.hr_meaning.specs.Select.{group_of}
use Rattle.hr_eval.specs.Tuples.{rows_in}
use Rattle.hr_eval.specs.Groups.{new_group}
use Rattle.hr_eval.proofs.GroupLaws.{put_in_group, put_before_others}
use Rattle.hr_eval.proofs.groups.put.Goals as goal

pub returns-then-is_at : goal.returns-then-is_at
returns-then-is_at c =
    let t = rows_in c.args.tuple in
    let key = group_of c.args.columns.now t in
    let gs = c.args.groups.now.items in
    on_ok_weaker c.add.result
    (λ e. ap (λ g. slice_set gs c.place-at.result g) e
    ∙ put_in_group c.args.items.now t key gs c.deref.result.now c.deref-2.result.now c.place-at.result c.deref.ensures.value c.deref-2.ensures.value c.place-at.ensures.before (sym c.if-is_at.ensures) c.index_mut.result.now c.index_mut.ensures.value)
    c.add.ensures

pub returns-in_ok-insert : goal.returns-in_ok-insert
returns-in_ok-insert c =
    let t = rows_in c.args.tuple in
    let key = group_of c.args.columns.now t in
    let gs = c.args.groups.now.items in
    c.in_ok-insert.ensures.items
    ∙ ap (λ g. insert gs c.place-at.result g) (c.in_ok-group.ensures ∙ ap (λ k. new_group c.args.items.now t k) c.in_ok-group_of.ensures)
    ∙ put_before_others c.args.items.now t key gs c.deref.result.now c.deref-2.result.now c.place-at.result c.deref.ensures.value c.deref-2.ensures.value c.place-at.ensures.within c.place-at.ensures.before c.place-at.ensures.behind (sym c.if-is_at.ensures)
