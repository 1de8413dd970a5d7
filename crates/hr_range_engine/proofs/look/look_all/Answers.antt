use Rattle.std.proofs.Common.{ap, sym, subst, ◌∙◌}
use Rattle.hr_rel.specs.declared.catalog.Catalog.{Catalog}
use Rattle.hr_store.specs.declared.cell.Cell.{Cell}
use Rattle.hr_store.specs.Cells.{seen_in}
use Rattle.hr_range_engine.specs.Shown.{IsOf, seen_by}
use Rattle.hr_range_engine.proofs.Ends.{whole_same}
use Rattle.hr_range_engine.proofs.Looks.{look_more}
use Rattle.hr_range_engine.proofs.look.look_all.Goals as goal

pub look-requires-clause-whole : goal.look-requires-clause-whole
look-requires-clause-whole c =
    let inv = c.needs.invariant in
    subst (λ (catalog : Catalog). IsOf catalog c.needs.store) (sym inv.catalog) (whole_same c.args.machine.now.catalog c.args.store.now c.needs.store c.requires.whole inv.tables inv.same)

pub needs-preserved : goal.needs-preserved
needs-preserved c =
    let inv = c.needs.invariant in
    let made = c.in_ok-look.ensures in
    let a = c.args in
    record {
      ordered = made.ordered;
      catalog = made.catalog ∙ inv.catalog;
      same = λ t k. made.same t k ∙ inv.same t k;
      tables = made.tables ∙ inv.tables;
      looked = look_more a.needs.now c.needs.need-index _ c.needs-test.true (seen_by a.store.now a.txn) (seen_by c.needs.store a.txn)
          (λ t k. ap (λ (cell : Cell). seen_in a.txn cell) (inv.same t k)) c.needs.machine c.look.new.machine c.wide-span.result c.wide-span.ensures.table c.wide-span.ensures.wide
          made.rows made.others inv.looked;
    }
