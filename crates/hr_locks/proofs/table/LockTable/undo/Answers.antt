use Rattle.std.proofs.Common.{◌≡◌, IfSome, None, ap, subst}
use Rattle.hr_locks.specs.Seen.{seen_table}
use Rattle.hr_locks.proofs.Due.{undo_gives}
use Rattle.hr_locks.proofs.Apart.{apart_undo}
use Rattle.hr_locks.proofs.table.LockTable.undo.Goals as goal

pub returns : goal.returns
returns g c =
    let new = c.take_back.new.locks.items in
    let ws = c.self.inside.waits.items in
    subst (λ u. IfSome u (λ before. seen_table new ws None ≡ record { held = before.1; undo = None })) (ap (λ v. v.undo) c.self.view_is)
    (undo_gives c.self.inside.locks.items new ws c.self.inside.last c.take_back.ensures)

pub invariant_of-self : goal.invariant_of-self
invariant_of-self g c = apart_undo g.N.LockName.meets c.self.inside.last c.self.inside.locks.items c.take_back.new.locks.items c.take_back.ensures c.self.invariant
