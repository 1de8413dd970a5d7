use Rattle.std.proofs.Common.{add-one, ap, ◌∙◌, sym, arith}
use Rattle.hr_eval.specs.Tuples.{rows_in}
use Rattle.hr_eval.specs.Tallies.{tally_step}
use Rattle.hr_eval.proofs.GroupLaws.{steps_more, steps_end}
use Rattle.hr_eval.proofs.tallies.step_all.Goals as goal

pub tallies-preserved : goal.tallies-preserved
tallies-preserved c =
    rw add-one
    (steps_more (rows_in c.args.tuple) c.args.items.now c.tallies.tallies c.tallies.at c.index-items-at.result c.index-tallies-at.result c.in_ok-next.next
    (omega arith) (omega arith) c.index-items-at.is c.index-tallies-at.is (c.in_ok-next.ensures ∙ ap (tally_step (rows_in c.args.tuple) c.index-items-at.result) (sym c.index-tallies-at.is))
    ∙ c.tallies.invariant)

pub returns-after-tallies : goal.returns-after-tallies
returns-after-tallies c = sym (steps_end (rows_in c.args.tuple) c.args.items.now c.tallies.tallies c.tallies.at (omega arith)) ∙ c.tallies.invariant
