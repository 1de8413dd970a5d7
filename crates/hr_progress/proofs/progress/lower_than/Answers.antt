use Rattle.std.proofs.Common.{get_or, nat_lt}
use Rattle.std.proofs.lemmas.Bool.{lt-ltb, le-ltb}
use Rattle.std.proofs.lemmas.Option.{slice_get-get_or}
use Rattle.hr_progress.proofs.Lookups.{front_more, front_end}
use Rattle.hr_progress.proofs.progress.lower_than.Goals as goal

pub txns-preserved : goal.txns-preserved
txns-preserved c =
    let x = get_or c.args.txns.now c.txns.place 0 in
    front_more (λ u. nat_lt u c.args.txn) c.args.txns.now c.txns.place x c.txns.invariant (slice_get-get_or c.args.txns.now c.txns.place 0 c.txns-test.true) (lt-ltb x c.args.txn c.if-txns-place.false)

pub returns-then-txns-place : goal.returns-then-txns-place
returns-then-txns-place c =
    let x = get_or c.args.txns.now c.txns.place 0 in
    front_end (λ u. nat_lt u c.args.txn) c.args.txns.now c.txns.place x c.txns.invariant (slice_get-get_or c.args.txns.now c.txns.place 0 c.txns-test.true) (le-ltb x c.args.txn c.if-txns-place.true)
