use Rattle.std.proofs.Common.{rules, ◌≡◌, ⊎_elim, true, ap, sym, subst, ◌∙◌}
use Rattle.hr_store.specs.Cells.{is_pending_of, is_listed, held_at, written_by}
use Rattle.hr_store.specs.Changes.{is_any_at}
use Rattle.hr_store.proofs.StoreLaws.{put_pending}
use Rattle.hr_store.proofs.store.Store.put.Goals as goal

pub invariant_of-self-2 : goal.invariant_of-self-2
invariant_of-self-2 c =
    let ready = c.in_ok-prepare_rows.ensures in
    let same : c.args.rows.items ≡ c.deref.result.now = search rules in
    record {
      sorted = c.write_rows.ensures.sorted;
      listed = λ u q pending. ⊎_elim
          (λ old. ready.lists u q (c.args.self.now.listed u q (subst (λ cell. is_pending_of u cell ≡ true) (ready.same q) old)))
          (λ own. subst (λ v. is_listed q (written_by c.prepare_rows.new.written v) ≡ true) own.1 (ready.ready q (subst (λ rows. is_any_at c.args.table rows q ≡ true) same own.0)).1)
          (put_pending c.args.txn c.args.table q (held_at c.prepare_rows.new.cells q) u c.args.rows.items (sym (ap (is_pending_of u) (c.write_rows.ensures.put q)) ∙ pending));
    }
