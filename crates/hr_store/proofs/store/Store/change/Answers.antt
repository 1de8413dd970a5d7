use Rattle.std.proofs.Common.{rules, ◌≡◌, ⊎_elim, true, List, ap, sym, subst, ◌∙◌}
use Rattle.hr_rel.specs.declared.value.Value.{Value}
use Rattle.hr_store.specs.declared.cell.Cell.{Cell}
use Rattle.hr_store.specs.Places.{place_of}
use Rattle.hr_store.specs.Cells.{is_pending_of, is_listed, held_at, written_by}
use Rattle.hr_store.specs.Changes.{is_any_at, after_put, after_remove}
use Rattle.hr_store.proofs.StoreLaws.{put_pending, remove_pending}
use Rattle.hr_store.proofs.store.Store.change.Goals as goal

pub write_rows-requires : goal.write_rows-requires
write_rows-requires c q belongs =
    let same : c.args.rows.items ≡ c.deref.result.now = search rules in
    c.write_keys.ensures.stays q (c.in_ok-prepare_keys.ensures.rooms q (c.in_ok-prepare_rows.ensures.ready q (subst (λ (rows : List (List Value)). is_any_at c.args.table rows q ≡ true) same belongs)).0)

pub invariant_of-self-2 : goal.invariant_of-self-2
invariant_of-self-2 c =
    let made = c.in_ok-prepare_rows.ensures in
    let more = c.in_ok-prepare_keys.ensures in
    let same : c.args.rows.items ≡ c.deref.result.now = search rules in
    record {
      sorted = c.write_rows.ensures.sorted;
      listed = λ u q pending. ⊎_elim
          (λ kept. ⊎_elim
          (λ old. more.lists u q (made.lists u q (c.args.self.now.listed u q (subst (λ (cell : Cell). is_pending_of u cell ≡ true) (more.same q ∙ made.same q) old))))
          (λ gone. subst (λ v. is_listed q (written_by c.prepare_keys.new.written v) ≡ true) gone.1 (more.ready q gone.0).1)
          (remove_pending c.args.txn c.args.table q (held_at c.prepare_keys.new.cells q) u c.args.gone.now (sym (ap (is_pending_of u) (c.write_keys.ensures.removed q)) ∙ kept)))
          (λ own. subst (λ v. is_listed q (written_by c.prepare_keys.new.written v) ≡ true) own.1
          (more.lists c.args.txn q (made.ready q (subst (λ (rows : List (List Value)). is_any_at c.args.table rows q ≡ true) same own.0)).1))
          (put_pending c.args.txn c.args.table q (held_at c.write_keys.new.cells q) u c.args.rows.items (sym (ap (is_pending_of u) (c.write_rows.ensures.put q)) ∙ pending));
    }

pub returns-clause-changed : goal.returns-clause-changed
returns-clause-changed c t k =
    let a = c.args in
    let q = place_of t k in
    c.write_rows.ensures.put q
    ∙ ap (after_put a.txn a.table a.rows.items q) (c.write_keys.ensures.removed q ∙ ap (after_remove a.txn a.table a.gone.now q) (c.in_ok-prepare_keys.ensures.same q ∙ c.in_ok-prepare_rows.ensures.same q))
