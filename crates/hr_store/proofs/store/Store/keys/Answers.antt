use Rattle.std.proofs.Common.{◌≡◌, ◌&&◌, ℤ, List, sym, subst, ◌∙◌, w64}
use Rattle.std.specs.Prelude.{int_le, is_some}
use Rattle.std.proofs.lemmas.Int.{to_z-of_z}
use mir.Val.{SFits}
use Rattle.hr_store.specs.Cells.{seen_in}
use Rattle.hr_store.specs.Scans.{Rising}
use Rattle.hr_store.specs.Store.{cell_at, is_key_in}
use Rattle.hr_store.proofs.Walks.{are_sorted, between, keys_are, keys_rise}
use Rattle.hr_store.proofs.store.Store.keys.Goals as goal

pub returns-clause-keys : goal.returns-clause-keys
returns-clause-keys c k =
    let a = c.args in
    let fits_low : SFits w64 c.args.low = c.ranges.low in
    let fits_high : SFits w64 c.args.high = c.ranges.high in
    let es = a.self.now.cells.entries in
    subst (λ (keys : List ℤ). is_key_in a.table keys k ≡ (int_le a.low k && int_le k a.high && is_some (seen_in a.txn (cell_at a.self.now a.table k)))) (sym (simp to_z-of_z at c.in_ok-keys.ensures))
    (keys_are a.txn a.table a.low a.high k es (are_sorted es a.self.now.sorted) ∙ (λ i. between a.txn a.table a.low a.high k i && is_some (seen_in a.txn (cell_at a.self.now a.table k))))

pub returns-clause-rising : goal.returns-clause-rising
returns-clause-rising c =
    let a = c.args in
    let fits_low : SFits w64 c.args.low = c.ranges.low in
    let fits_high : SFits w64 c.args.high = c.ranges.high in
    let es = a.self.now.cells.entries in
    subst Rising (sym (simp to_z-of_z at c.in_ok-keys.ensures)) (keys_rise a.txn a.table a.low a.high es (are_sorted es a.self.now.sorted))
