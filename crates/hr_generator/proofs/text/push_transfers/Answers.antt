use Rattle.hr_generator.proofs.Steps.{transfer_more, state_more}
use Rattle.hr_generator.proofs.text.push_transfers.Goals as goal

pub transfers-preserved : goal.transfers-preserved
transfers-preserved c = (
  transfer_more c.args.draws.now.state c.transfers.before _ _ _ _ _ c.transfers.invariant.0 c.transfers.invariant.1 c.transfer-transfer.ensures.drawn c.in_ok-push_transfer.ensures,
  state_more c.args.draws.now.state c.transfers.before _ _ c.transfers.invariant.1 c.transfer-transfer.ensures.state,
)
