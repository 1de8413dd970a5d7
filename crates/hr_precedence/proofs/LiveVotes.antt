-- Whose votes count.
use Rattle.std.proofs.Common.{◌≡◌, ℕ, ◌+◌, ◌*◌, ◌<◌, Bool, true, not, ◌&&◌, ◌==◌, nat_le, is_some, count_by, ◌∷◌, length, refl, ap, sym, ◌∙◌, arith}
use Rattle.std.proofs.lemmas.Bool.{and_parts, leb-true}
use Rattle.hr_base.specs.Lists.{has}
use Rattle.hr_history.specs.declared.cause.CauseAt.TheVariants as cause
use Rattle.hr_history.specs.declared.entry.Entry.{Entry}
use Rattle.hr_history.specs.declared.entry.Event.TheVariants as event
use Rattle.hr_history.specs.History.{History}
use Rattle.hr_history.specs.ReplicaNumbers.{replica_numbers}
use Rattle.hr_history.specs.SameAnswers.{same_answers}
use Rattle.hr_history.specs.Transactions.{phase_of, is_asked}
use Rattle.hr_history.specs.Primary.{is_live}
use Rattle.hr_history.specs.View.{Progress, view_of}
use Rattle.hr_history.specs.Processed.{phase_in, answers_in, given_in, live_in, is_whole, processed_in}
use Rattle.hr_history.specs.Votes.{is_ready, agrees, agree_on, contradicts, contradicted_by}
use Rattle.hr_history.specs.Faithful.{Begun}
use Rattle.hr_history.proofs.StepLemmas.{replica_lookup}
use Rattle.hr_records.proofs.Counts.{more_pass}
use Rattle.hr_records.proofs.Options.{find_has, has_range}
use Rattle.hr_records.proofs.RuleLemmas.{by_rule}
use Rattle.hr_records.proofs.ViewWords.{open_seen, phase_seen}
use Rattle.hr_decisions.specs.Groups.{IsGroup}

module _ (f t : ℕ) (h : History) where
  -- who is ready is live
  ready_live : (r : ℕ) → has (replica_numbers f) r ≡ true → is_ready (view_of f h) t r ≡ true → is_live r h ≡ true
  ready_live r there ready =
      let v = view_of f h in
      let within = has_range 0 (2 * f + 1) r there in
      let lt : r < 2 * f + 1 = omega (arith, within.1) in
      let two = and_parts (live_in v r && (processed_in v r == length v.log)) (is_whole v r t) ready in
      ap (λ (p : Progress). not p.lost && not p.convicted) (sym (replica_lookup f r h lt)) ∙ (and_parts (live_in v r) (processed_in v r == length v.log) two.0).0

  live_group : (p : ℕ → Bool) → ((r : ℕ) → p r ≡ true → is_ready (view_of f h) t r ≡ true) → nat_le (f + 1) (count_by p (replica_numbers f)) ≡ true → IsGroup f (λ r. is_live r h)
  live_group p ready many =
      omega (arith, leb-true (f + 1) (count_by p (replica_numbers f)) many, more_pass p (λ r. is_live r h) (replica_numbers f) (λ r there passes. ready_live r there (ready r passes)))

pub decided_by_live : (f s c t : ℕ) (h : History) → Begun f s (record { caller = c; event = event.Decide t } ∷ h) → IsGroup f (λ r. is_live r h)
decided_by_live f s c t h b =
    let v = view_of f h in
    let e : Entry = record { caller = c; event = event.Decide t } in
    let rule = by_rule f s e h b refl in
    live_group f t h (agrees v t) (λ r passes. (and_parts (is_ready v t r) (same_answers (answers_in v r t) (given_in v t)) passes).0)
    (and_parts (is_asked (phase_in v t)) (nat_le (f + 1) (count_by (agrees v t) (replica_numbers f))) rule.1).1

pub refused_by_live : (f s c t index by at : ℕ) (h : History) → Begun f s (record { caller = c; event = event.Refuse t (cause.Differ index by at) } ∷ h) → IsGroup f (λ r. is_live r h)
refused_by_live f s c t index by at h b =
    let v = view_of f h in
    let e : Entry = record { caller = c; event = event.Refuse t (cause.Differ index by at) } in
    let rule = by_rule f s e h b refl in
    let found = (find_has (contradicts v t) (replica_numbers f) by (rule.1).1).1 in
    live_group f t h (agree_on v t by) (λ r passes. (and_parts (is_ready v t r) (same_answers (answers_in v r t) (answers_in v by t)) passes).0)
    (and_parts (is_ready v t by && not (same_answers (answers_in v by t) (given_in v t))) (nat_le (f + 1) (count_by (agree_on v t by) (replica_numbers f))) found).1

pub refused_asked : (f s c t index by at : ℕ) (h : History) → Begun f s (record { caller = c; event = event.Refuse t (cause.Differ index by at) } ∷ h) → is_asked (phase_of t h) ≡ true
refused_asked f s c t index by at h b =
    let v = view_of f h in
    let e : Entry = record { caller = c; event = event.Refuse t (cause.Differ index by at) } in
    let rule = by_rule f s e h b refl in
    ap is_asked (sym (phase_seen f t h (open_seen f t h rule.0).0)) ∙ (and_parts (is_asked (phase_in v t)) (is_some (contradicted_by v t)) (rule.1).0).0
