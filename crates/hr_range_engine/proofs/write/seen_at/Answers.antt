use Rattle.std.proofs.Common.{rules, ◌≡◌, ℤ, to_z, of_z, w64, ap, sym, ◌∙◌}
use Rattle.hr_range_engine.specs.Shown.{seen_by}
use Rattle.hr_range_engine.specs.Changed.{seen_at}
use Rattle.hr_range_engine.proofs.write.seen_at.Goals as goal

pub returns-in-Some : goal.returns-in-Some
returns-in-Some c =
    let a = c.args in
    let same : to_z w64 (of_z w64 c.in-Some.key) ≡ c.in-Some.key = search rules in
    c.get.ensures ∙ ap (λ (k : ℤ). seen_by a.store.now a.txn a.table k) same ∙ ap (seen_at (seen_by a.store.now a.txn a.table)) (sym c.in-Some.is)
