use Rattle.hr_generator.proofs.Steps.{session_more, session_state}
use Rattle.hr_generator.proofs.text.push_sessions.Goals as goal

pub sessions-preserved : goal.sessions-preserved
sessions-preserved c = (
  session_more c.args.order.now c.sessions.before _ _ _ _ c.sessions.invariant.0 c.sessions.invariant.1 c.in_ok-push_session.ensures.text,
  session_state c.args.order.now.seed c.sessions.before c.args.order.now.transactions _ _ c.sessions.invariant.1 c.in_ok-push_session.ensures.state,
)
