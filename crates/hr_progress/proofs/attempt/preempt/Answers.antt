use Rattle.std.proofs.Common.{nat_eq, refl, ap, sym, ◌∙◌}
use Rattle.std.specs.Option.{option_map}
use Rattle.indexmap.proofs.MapLemmas.{Found-position}
use Rattle.hr_progress.specs.Plain.{plain_attempt, to_preempted}
use Rattle.hr_progress.proofs.Entries.{entry_set, entry_none, is_first_of, is_none, lookup_plain}
use Rattle.hr_progress.proofs.Ready.{room_kept}
use Rattle.hr_progress.proofs.attempt.preempt.Goals as goal

pub returns-in-Some-clause-value : goal.returns-in-Some-clause-value
returns-in-Some-clause-value c =
    let es = c.args.attempts.now.entries in
    let at = Found-position (nat_eq c.args.txn) es c.in-Some.place (sym c.in-Some.ensures.index) in
    entry_set c.args.txn to_preempted es c.in-Some.place c.index_mut-attempt.result.now _ (is_first_of c.args.txn es c.in-Some.place at.or_len at.within) c.index_mut-attempt.ensures.value refl

pub returns-in_default-clause-value : goal.returns-in_default-clause-value
returns-in_default-clause-value c = sym (entry_none c.args.txn to_preempted _ (lookup_plain c.args.txn c.args.attempts.now.entries ∙ ap (option_map plain_attempt) (is_none _ (sym c.in_default.ensures.found))))

pub returns-in-Some-clause-room : goal.returns-in-Some-clause-room
returns-in-Some-clause-room c = λ t ready.
    let es = c.args.attempts.now.entries in
    let at = Found-position (nat_eq c.args.txn) es c.in-Some.place (sym c.in-Some.ensures.index) in
    room_kept c.args.txn c.in-Some.place es c.index_mut-attempt.result.now _ (is_first_of c.args.txn es c.in-Some.place at.or_len at.within) (sym c.in-Some.ensures.value ∙ c.index_mut-attempt.ensures.value) (λ h. h) t ready
