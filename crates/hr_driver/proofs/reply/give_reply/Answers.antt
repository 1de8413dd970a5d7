use Rattle.std.proofs.Common.{Some, ap, ◌∙◌}
use Rattle.hr_driver.proofs.ReplyLemmas.{made_by, unmade, out_seen}
use Rattle.hr_driver.proofs.reply.give_reply.Goals as goal

pub run_out-requires-clause-out : goal.run_out-requires-clause-out
run_out-requires-clause-out g c = out_seen c.args.shepherd.now c.args.replica _ _ _ c.requires.known c.view.ensures c.out.ensures (c.in-Some-Run.is ∙ ap Some c.in-Some-Run.field-0-is)

pub returns-in-Some-Run-clause-made : goal.returns-in-Some-Run-clause-made
returns-in-Some-Run-clause-made g c = made_by _ _ c.args.replica c.args.shepherd.now _ _ (out_seen c.args.shepherd.now c.args.replica _ _ _ c.requires.known c.view.ensures c.out.ensures (c.in-Some-Run.is ∙ ap Some c.in-Some-Run.field-0-is)) c.run_out.ensures.replied

pub commit_out-requires-clause-out : goal.commit_out-requires-clause-out
commit_out-requires-clause-out g c = out_seen c.args.shepherd.now c.args.replica _ _ _ c.requires.known c.view.ensures c.out.ensures (c.in-Some-Commit.is ∙ ap Some c.in-Some-Commit.field-0-is)

pub returns-in-Some-Commit-clause-made : goal.returns-in-Some-Commit-clause-made
returns-in-Some-Commit-clause-made g c = made_by _ _ c.args.replica c.args.shepherd.now _ _ (out_seen c.args.shepherd.now c.args.replica _ _ _ c.requires.known c.view.ensures c.out.ensures (c.in-Some-Commit.is ∙ ap Some c.in-Some-Commit.field-0-is)) c.commit_out.ensures.replied

pub roll_back_out-requires-clause-out : goal.roll_back_out-requires-clause-out
roll_back_out-requires-clause-out g c = out_seen c.args.shepherd.now c.args.replica _ _ _ c.requires.known c.view.ensures c.out.ensures (c.in-Some-Rollback.is ∙ ap Some c.in-Some-Rollback.field-0-is)

pub returns-in-Some-Rollback-clause-made : goal.returns-in-Some-Rollback-clause-made
returns-in-Some-Rollback-clause-made g c = made_by _ _ c.args.replica c.args.shepherd.now _ _ (out_seen c.args.shepherd.now c.args.replica _ _ _ c.requires.known c.view.ensures c.out.ensures (c.in-Some-Rollback.is ∙ ap Some c.in-Some-Rollback.field-0-is)) c.roll_back_out.ensures.replied

pub restart_out-requires-clause-out : goal.restart_out-requires-clause-out
restart_out-requires-clause-out g c = out_seen c.args.shepherd.now c.args.replica _ _ _ c.requires.known c.view.ensures c.out.ensures (c.in-Some-Restart.is ∙ ap Some c.in-Some-Restart.field-0-is)

pub returns-in-Some-Restart-clause-made : goal.returns-in-Some-Restart-clause-made
returns-in-Some-Restart-clause-made g c = made_by _ _ c.args.replica c.args.shepherd.now _ _ (out_seen c.args.shepherd.now c.args.replica _ _ _ c.requires.known c.view.ensures c.out.ensures (c.in-Some-Restart.is ∙ ap Some c.in-Some-Restart.field-0-is)) c.restart_out.ensures.replied

pub returns-in-None-clause-made : goal.returns-in-None-clause-made
returns-in-None-clause-made g c = unmade c.args.replica c.args.shepherd.now (out_seen c.args.shepherd.now c.args.replica _ _ _ c.requires.known c.view.ensures c.out.ensures c.in-None.is)
