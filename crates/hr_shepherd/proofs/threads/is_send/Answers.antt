use denote.Param.Send.{sendable}
use Rattle.hr_shepherd.proofs.Crossing.{shepherd_send}
use Rattle.hr_shepherd.proofs.threads.is_send.Goals as goal

pub may_cross-requires-send-T : goal.may_cross-requires-send-T
may_cross-requires-send-T c κs = search (sendable, shepherd_send)
