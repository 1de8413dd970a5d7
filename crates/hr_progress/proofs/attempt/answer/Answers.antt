use Rattle.std.proofs.Common.{nat_eq, ap, sym, subst, ◌∙◌}
use Rattle.std.specs.Option.{option_map}
use Rattle.indexmap.proofs.MapLemmas.{Found-position}
use Rattle.hr_progress.specs.Plain.{plain_attempt, to_answered}
use Rattle.hr_progress.specs.Kept.{IsRoomy}
use Rattle.hr_progress.proofs.Entries.{entry_set, entry_none, is_first_of, is_none, lookup_plain}
use Rattle.hr_progress.proofs.attempt.answer.Goals as goal

pub add-requires : goal.add-requires
add-requires c = subst IsRoomy (sym c.in-Some.ensures.value ∙ c.index_mut.ensures.value) c.requires

pub returns-in-Some : goal.returns-in-Some
returns-in-Some c =
    let es = c.args.attempts.now.entries in
    let at = Found-position (nat_eq c.args.txn) es c.in-Some.place (sym c.in-Some.ensures.index) in
    let first = is_first_of c.args.txn es c.in-Some.place at.or_len at.within in
    entry_set c.args.txn (to_answered c.args.told c.args.newest) es c.in-Some.place c.index_mut.result.now c.add.new.attempt first c.index_mut.ensures.value c.add.ensures

pub returns-in_default : goal.returns-in_default
returns-in_default c = sym (entry_none c.args.txn (to_answered c.args.told c.args.newest) _ (lookup_plain c.args.txn c.args.attempts.now.entries ∙ ap (option_map plain_attempt) (is_none _ (sym c.in_default.ensures.found))))
