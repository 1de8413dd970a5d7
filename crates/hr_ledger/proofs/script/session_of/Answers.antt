use Rattle.std.proofs.Common.{◌-◌, length, refl}
use Rattle.std.proofs.lemmas.Option.{slice_get_read, slice_get_past}
use Rattle.hr_ledger.proofs.Scripts.{session_found, session_missing}
use Rattle.hr_ledger.proofs.script.session_of.Goals as goal

pub returns-in-Some : goal.returns-in-Some
returns-in-Some c =
    let xs = c.args.scripts.now in
    session_found xs c.args.txn c.in-Some.script.now c.if-txn-eq0.false (slice_get_read xs (length xs) (c.args.txn - 1) c.in-Some.script.now refl c.in-Some.ensures.lookup.3.0 c.in-Some.ensures.lookup.1)

pub returns-in-None : goal.returns-in-None
returns-in-None c =
    let xs = c.args.scripts.now in
    session_missing xs c.args.txn c.if-txn-eq0.false (slice_get_past xs (c.args.txn - 1) c.in-None.ensures.lookup.3)
