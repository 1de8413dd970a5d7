use Rattle.hr_step.proofs.KeptLemmas.{rows_shown}
use Rattle.hr_step.proofs.engines.rows_of.Goals as goal

pub returns : goal.returns
returns g c =
    rows_shown g.T.Backend.make g.R.Backend.make g.T.Backend.stands g.R.Backend.stands g.T.Backend.base g.R.Backend.base c.requires.table c.requires.range
    c.args.backend.now.inner c.args.backend.now.script c.args.backend.now.calls c.args.backend.now.lost c.dump.result (c.dump.ensures.within (c.requires.honest c.args.backend.now.inner))
