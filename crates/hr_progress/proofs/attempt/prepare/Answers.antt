use Rattle.std.proofs.Common.{nat_eq, map, length, ap, sym, ◌∙◌, subst, arith}
use Rattle.std.proofs.lemmas.List.{length-map}
use Rattle.indexmap.specs.IndexMap.{set_value_at}
use Rattle.indexmap.proofs.MapLemmas.{Found-position}
use Rattle.hr_progress.specs.Plain.{PlainAttempt, plain_entry}
use Rattle.hr_progress.specs.Kept.{IsRoomy}
use Rattle.hr_progress.proofs.Entries.{entry_set, entry_same, is_first_of, is_none, has_found, has_missing, entry_there, entry_new}
use Rattle.hr_progress.proofs.Lookups.{on_ok, on_err}
use Rattle.hr_progress.proofs.Ready.{lookup_set_here, ok_more}
use Rattle.hr_progress.proofs.attempt.prepare.Goals as goal

pub returns-in-Some : goal.returns-in-Some
returns-in-Some c =
    let es = c.args.attempts.now.entries in
    let at = Found-position (nat_eq c.args.txn) es c.in-Some.place (sym c.in-Some.ensures.index) in
    let first = is_first_of c.args.txn es c.in-Some.place at.or_len at.within in
    let same = entry_set c.args.txn (λ (a : PlainAttempt). a) es c.in-Some.place c.index_mut.result.now c.reserve.new.attempt first c.index_mut.ensures.value c.reserve.ensures.same ∙ entry_same c.args.txn (map plain_entry es) in
    let found = sym c.in-Some.ensures.value ∙ c.index_mut.ensures.value in
    record {
      ok = on_ok c.reserve.result (same ∙ entry_there c.args.txn (map plain_entry es) (has_found c.args.txn es c.index_mut.result.now found));
      few = on_ok c.reserve.result (omega (arith, c.requires, ap length same, length-map es plain_entry, length-map (set_value_at es c.in-Some.place c.reserve.new.attempt) plain_entry));
      room = ok_more c.reserve.result (λ roomy. subst IsRoomy (sym (lookup_set_here c.args.txn c.in-Some.place es c.reserve.new.attempt first)) roomy) c.reserve.ensures.room;
      err = on_err c.reserve.result same;
    }

pub returns-in-None-2-clause-ok : goal.returns-in-None-2-clause-ok
returns-in-None-2-clause-ok c =
    let es = c.args.attempts.now.entries in
    ok_more c.insert.result (λ made. made ∙ entry_new c.args.txn (map plain_entry es) (has_missing c.args.txn es (is_none _ (sym c.in-None-2.ensures.found)))) c.insert.ensures.ok
