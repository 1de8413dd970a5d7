use Rattle.std.proofs.Common.{rules}
use Rattle.hr_turn.proofs.Splitting.{splits}
use Rattle.hr_turn.proofs.pass.TurnLock.split.Goals as goal

pub split_seat-seat-requires : goal.split_seat-seat-requires
split_seat-seat-requires g c = (c.requires.lock, search rules, splits g.S.Kept.entries g.S.Kept.caller g.S.Kept.fixed _ _ _ c.requires.root c.requires.free.3 c.requires.room)
