use Rattle.std.proofs.Common.{refl, arith}
use Rattle.hr_progress.specs.Plain.{plain_progress, to_convicted}
use Rattle.hr_progress.proofs.Changed.{set_changed}
use Rattle.hr_progress.proofs.Ready.{ready_at, ready_set}
use Rattle.hr_progress.proofs.progress.convict.Goals as goal

pub returns-clause-value : goal.returns-clause-value
returns-clause-value c = set_changed plain_progress to_convicted c.args.replicas.now.items c.args.replica 0 c.args.replica c.index_mut-progress.result.now _ (omega arith) c.requires c.index_mut-progress.ensures.value refl

pub returns-clause-room : goal.returns-clause-room
returns-clause-room c = λ ready. ready_set c.args.replicas.now.items c.args.replica _ (ready_at c.args.replicas.now.items c.args.replica c.index_mut-progress.result.now c.requires c.index_mut-progress.ensures.value ready) ready
