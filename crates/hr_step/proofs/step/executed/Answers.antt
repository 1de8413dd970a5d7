use Rattle.hr_step.specs.Run.{locking}
use Rattle.hr_step.proofs.ReportLemmas.{executes}
use Rattle.hr_step.proofs.step.executed.Goals as goal

pub returns : goal.returns
returns c =
    executes c.run.result c.args.scenario.now (λ ran. ran.driver.shepherd) (λ ran. ran.dumps.items)
    c.run.ensures.size c.run.ensures.sessions c.run.ensures.all c.run.ensures.run
    (λ h rows run. c.claims.ensures locking c.args.scenario.now h rows run)
    (λ h rows run. c.scripted.ensures c.args.scenario.now h run.faithful run.chosen)
    (λ h rows run quiet. c.runs.ensures.smooth locking c.args.scenario.now h rows quiet run)
