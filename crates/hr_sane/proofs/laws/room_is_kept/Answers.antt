use Rattle.hr_sane.proofs.RoomLaws.{call_fits}
use Rattle.hr_sane.proofs.RoomFollows.{room_falls}
use Rattle.hr_sane.proofs.laws.room_is_kept.Goals as goal

pub returns-clause-calls : goal.returns-clause-calls
returns-clause-calls c v place asks e sane fits call = call_fits v place asks sane e fits call

pub returns-clause-due : goal.returns-clause-due
returns-clause-due c v turn place asks e sane due = room_falls v place asks sane turn e due
