use Rattle.std.proofs.Common.{rules, ◌≡◌, ⊎_elim, get_or, pos, subst, ◌∙◌}
use Rattle.hr_store.specs.Places.{place_of}
use Rattle.hr_store.specs.Changes.{IsReady}
use Rattle.hr_store.proofs.PutLaws.{keys_more}
use Rattle.hr_store.proofs.changes.prepare_keys.Goals as goal

pub keys-preserved : goal.keys-preserved
keys-preserved c =
    let at : c.new.result ≡ place_of c.args.table (get_or c.args.keys.now c.keys.key-index (pos 0)) = search rules in
    let made = c.in_ok-prepare.ensures in
    record {
      ready = λ q h. ⊎_elim
          (λ before. let r = c.keys.invariant.ready q before in (made.rooms q r.0, made.lists c.args.txn q r.1))
          (λ next. subst (λ p. IsReady c.prepare.new.cells c.prepare.new.written c.args.txn p) (at ∙ next) made.ready)
          (keys_more c.args.table c.args.keys.now c.keys.key-index q (search rules) h);
      rooms = λ q there. made.rooms q (c.keys.invariant.rooms q there);
      lists = λ u q h. made.lists u q (c.keys.invariant.lists u q h);
      same = λ q. made.same q ∙ c.keys.invariant.same q;
    }
