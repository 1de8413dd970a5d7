use Rattle.std.proofs.Common.{rules}
use Rattle.hr_turn.proofs.WordSteps.{draws}
use Rattle.hr_turn.proofs.pass.TurnLock.draw.Goals as goal

pub fetch_add-requires : goal.fetch_add-requires
fetch_add-requires g c = let f = c.requires.free in (c.requires.lock, search rules, draws g.S.Kept.entries g.S.Kept.caller g.S.Kept.fixed _ _ _ _ f.1 f.2 f.3)
