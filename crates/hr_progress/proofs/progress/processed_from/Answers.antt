use Rattle.std.proofs.Common.{map, get_or, sym, ◌∙◌}
use Rattle.std.proofs.lemmas.Option.{slice_get-get_or}
use Rattle.hr_progress.specs.Plain.{plain_txn, plain_entry}
use Rattle.hr_progress.specs.Kept.{is_processed_at}
use Rattle.hr_progress.proofs.Lookups.{front_more, front_end}
use Rattle.hr_progress.proofs.progress.processed_from.Goals as goal

pub log-preserved : goal.log-preserved
log-preserved c =
    front_more (is_processed_at (map plain_txn c.args.txns.now) c.args.position (map plain_entry c.args.attempts.now.entries)) c.args.log.now c.log.count (get_or c.args.log.now c.log.count 0) c.log.invariant
    (slice_get-get_or c.args.log.now c.log.count 0 c.log-test.true) (sym c.is_processed.ensures ∙ c.if-not-is_processed.false)

pub returns-then-not-is_processed : goal.returns-then-not-is_processed
returns-then-not-is_processed c =
    front_end (is_processed_at (map plain_txn c.args.txns.now) c.args.position (map plain_entry c.args.attempts.now.entries)) c.args.log.now c.log.count (get_or c.args.log.now c.log.count 0) c.log.invariant
    (slice_get-get_or c.args.log.now c.log.count 0 c.log-test.true) (sym c.is_processed.ensures ∙ c.if-not-is_processed.true)
