use Rattle.std.proofs.Common.{◌≡◌, ⊎_elim, true, ap, sym, subst, ◌∙◌}
use Rattle.hr_store.specs.Cells.{is_pending_of, is_listed, held_at, written_by}
use Rattle.hr_store.proofs.StoreLaws.{remove_pending}
use Rattle.hr_store.proofs.store.Store.remove.Goals as goal

pub invariant_of-self-2 : goal.invariant_of-self-2
invariant_of-self-2 c =
    let ready = c.in_ok-prepare_keys.ensures in
    record {
      sorted = c.write_keys.ensures.sorted;
      listed = λ u q pending. ⊎_elim
          (λ old. ready.lists u q (c.args.self.now.listed u q (subst (λ cell. is_pending_of u cell ≡ true) (ready.same q) old)))
          (λ own. subst (λ v. is_listed q (written_by c.prepare_keys.new.written v) ≡ true) own.1 (ready.ready q own.0).1)
          (remove_pending c.args.txn c.args.table q (held_at c.prepare_keys.new.cells q) u c.args.keys.now (sym (ap (is_pending_of u) (c.write_keys.ensures.removed q)) ∙ pending));
    }
