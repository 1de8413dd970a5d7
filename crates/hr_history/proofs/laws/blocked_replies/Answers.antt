use Rattle.hr_history.proofs.BlockedReplies.{blocked_exact}
use Rattle.hr_history.proofs.laws.blocked_replies.Goals as goal

pub returns : goal.returns
returns c = blocked_exact
