use Rattle.std.proofs.Common.{rules, ◌≡◌, [], true, sym, subst, ◌∙◌}
use Rattle.std.specs.Prelude.{unwrap_or}
use Rattle.std.specs.Map.{lookup}
use Rattle.std.specs.Ordering.{nat_cmp}
use Rattle.std.specs.BTreeMap.{is_at}
use Rattle.hr_store.specs.Places.{place_of}
use Rattle.hr_store.specs.Cells.{is_listed}
use Rattle.hr_store.specs.Store.{cell_at}
use Rattle.hr_store.proofs.EndLaws.{nothing_pending}
use Rattle.hr_store.proofs.store.Store.forget.Goals as goal

pub returns-clause-cells : goal.returns-clause-cells
returns-clause-cells c = λ t k.
    let empty : c.txns.self.written.entries ≡ [] = search rules in
    sym (nothing_pending (cell_at c.txns.self t k)
    (λ u p. subst (λ es. is_listed (place_of t k) (unwrap_or (lookup (is_at (nat_cmp u)) es) []) ≡ true) empty (c.txns.self.listed u (place_of t k) p)))
    ∙ c.txns.invariant.cells t k
