use Rattle.std.proofs.Common.{◌<◌, length, map, ap, sym, ◌∙◌, arith}
use Rattle.std.proofs.lemmas.List.{length-map}
use Rattle.hr_moves.specs.Changes.{map_from, change_at}
use Rattle.hr_progress.specs.Plain.{plain_entry, to_idle_entry}
use Rattle.hr_progress.proofs.Entries.{idle_set, as_many}
use Rattle.hr_progress.proofs.Recounts.{up_to, up_to_none, up_to_all, up_to_more}
use Rattle.hr_progress.proofs.attempt.end_all.Goals as goal

pub attempts-init : goal.attempts-init
attempts-init c = sym (up_to_none to_idle_entry 0 (map plain_entry c.args.attempts.now.entries))

pub index_mut-requires : goal.index_mut-requires
index_mut-requires c = omega (arith, c.attempts-test.true, c.len-place-end.ensures.len, as_many c.attempts.attempts.entries c.args.attempts.now.entries (up_to c.attempts.place to_idle_entry) c.attempts.invariant)

pub attempts-preserved : goal.attempts-preserved
attempts-preserved c =
    let now = c.attempts.attempts.entries in
    let within : c.attempts.place < length now = omega (arith, c.attempts-test.true, c.len-place-end.ensures.len, as_many now c.args.attempts.now.entries (up_to c.attempts.place to_idle_entry) c.attempts.invariant) in
    idle_set now c.attempts.place 0 c.attempts.place c.reset.new.attempt (omega arith) within c.reset.ensures
    ∙ ap (map_from (change_at c.attempts.place to_idle_entry) 0) c.attempts.invariant ∙ up_to_more to_idle_entry c.attempts.place 0 (map plain_entry c.args.attempts.now.entries)

pub returns : goal.returns
returns c = c.attempts.invariant ∙ up_to_all to_idle_entry c.attempts.place 0 (map plain_entry c.args.attempts.now.entries) (omega (arith, c.attempts-test.false, c.len-place-end.ensures.len, length-map c.args.attempts.now.entries plain_entry))
