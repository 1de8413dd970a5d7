use Rattle.std.proofs.Common.{refl, arith}
use Rattle.hr_progress.specs.Plain.{plain_progress, with_out}
use Rattle.hr_progress.proofs.Changed.{set_changed}
use Rattle.hr_progress.proofs.Ready.{ready_set, ready_other}
use Rattle.hr_progress.proofs.progress.send.Goals as goal

pub returns-clause-value : goal.returns-clause-value
returns-clause-value c = set_changed plain_progress (with_out c.args.job) c.args.replicas.now.items c.args.replica 0 c.args.replica c.index_mut-progress.result.now _ (omega arith) c.requires.known c.index_mut-progress.ensures.value refl

pub returns-clause-room : goal.returns-clause-room
returns-clause-room c = ready_set c.args.replicas.now.items c.args.replica _ (ready_other c.args.job _ _ _ c.requires.plain) c.requires.room
