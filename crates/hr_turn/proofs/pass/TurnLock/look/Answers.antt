use Rattle.std.proofs.Common.{rules}
use Rattle.hr_turn.proofs.WordSteps.{looks}
use Rattle.hr_turn.proofs.pass.TurnLock.look.Goals as goal

pub load-requires : goal.load-requires
load-requires g c = let w = c.requires.waiting in (c.requires.lock, search rules, looks g.S.Kept.entries g.S.Kept.caller g.S.Kept.fixed _ _ _ _ w.1.0 w.1.1 w.2 w.3)
