use Rattle.std.proofs.Common.{[], ◌∷◌, refl}
use Rattle.hr_rel.specs.declared.answer.Answer.TheVariants.{Count}
use Rattle.hr_engine.specs.declared.reply.RunReply.TheVariants.{Done}
use Rattle.hr_history.specs.declared.job.JobReply.TheVariants.{Ran}
use Rattle.hr_history.specs.declared.entry.Event.TheVariants as event
use Rattle.hr_schedule_worked.specs.Scenarios.{after, alone_for_a_round}
use Rattle.hr_schedule_worked.proofs.choices.one_round.Goals as goal

-- nothing follows from any of the three calls, and nobody is to be suspected
pub returns : goal.returns
returns c =
    let submitted = after 2 alone_for_a_round in
    let taken = after 3 alone_for_a_round in
    let given = after 4 alone_for_a_round in (
      submitted,
      (submitted, (submitted, record { more = []; is = refl; follows = tt; ends = refl }, (0, refl, refl)), refl),
      (
        given,
        (
          given,
          (
            taken,
            record { more = []; is = refl; follows = tt; ends = refl },
            (event.Give 0 (Ran (Done (Count 1))), refl, record { more = []; is = refl; follows = tt; ends = refl }),
          ),
          (0, refl, refl),
        ),
        refl,
      ),
    )
