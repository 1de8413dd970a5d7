use Rattle.std.proofs.Common.{◌+◌, ◌∙◌, arith}
use Rattle.hr_schedule.specs.Choices.{OfSession}
use Rattle.hr_driver.proofs.RoundLemmas.{made_more}
use Rattle.hr_driver.proofs.round.each_session.Goals as goal

pub sessions-preserved : goal.sessions-preserved
sessions-preserved c = record {
  made = made_more (OfSession c.args.scenario.now) 1 c.sessions.place (c.sessions.place + 1) c.args.shepherd.now c.sessions.shepherd c.session_at.new.shepherd (omega arith) c.sessions.invariant.made c.in_ok-session_at.ensures.ok;
  under = c.session_at.ensures.under;
  journals = λ q. c.session_at.ensures.journals q ∙ c.sessions.invariant.journals q;
}
