use Rattle.std.proofs.Common.{◌≡◌, [], replicate, ap, sym, subst, ◌∙◌}
use Rattle.hr_rel.specs.Database.{Database}
use Rattle.hr_rel.specs.Holds.{IsOrdered}
use Rattle.hr_statement_laws.proofs.StillHolds.{fitting_is_ordered}
use Rattle.hr_range_engine.specs.Shown.{IsOf, committed_base}
use Rattle.hr_range_engine.proofs.Starts.{start_whole, start_base, start_idle, nothing_ordered}
use Rattle.hr_range_engine.proofs.store.RangeStore.new.Goals as goal

pub invariant_of-result : goal.invariant_of-result
invariant_of-result c =
    let catalog = c.args.catalog.now in
    let db : Database = record { catalog = catalog; tables = c.args.rows.now } in
    let nothing = c.in_ok-nothing.nothing in
    let is : c.new-machine.result ≡ record { catalog = catalog; tables = nothing } = c.new-machine.ensures ∙ (λ i. record { catalog = c.in_ok-try_copy.ensures i; tables = nothing }) in
    record {
      ordered = subst IsOrdered (sym is) (nothing_ordered catalog nothing c.requires.sound (c.in_ok-nothing.ensures ∙ ap (λ n. replicate n []) c.len.ensures));
      whole = subst (λ (m : Database). IsOf m.catalog c.in_ok-store.store) (sym is)
          (start_whole db (fitting_is_ordered db c.requires.sound c.requires.holds) c.in_ok-store.store c.in_ok-store.ensures.cells c.in_ok-store.ensures.tables);
    }

pub returns-clause-base : goal.returns-clause-base
returns-clause-base c =
    let catalog = c.args.catalog.now in
    let db : Database = record { catalog = catalog; tables = c.args.rows.now } in
    let nothing = c.in_ok-nothing.nothing in
    let is : c.new-machine.result ≡ record { catalog = catalog; tables = nothing } = c.new-machine.ensures ∙ (λ i. record { catalog = c.in_ok-try_copy.ensures i; tables = nothing }) in
    ap (λ (m : Database). committed_base m.catalog c.in_ok-store.store) is
    ∙ start_base db (fitting_is_ordered db c.requires.sound c.requires.holds) c.in_ok-store.store c.in_ok-store.ensures.cells c.in_ok-store.ensures.tables

pub returns-clause-idle : goal.returns-clause-idle
returns-clause-idle c =
    let db : Database = record { catalog = c.args.catalog.now; tables = c.args.rows.now } in
    start_idle db (fitting_is_ordered db c.requires.sound c.requires.holds) c.in_ok-store.store c.in_ok-store.ensures.cells c.in_ok-store.ensures.tables
