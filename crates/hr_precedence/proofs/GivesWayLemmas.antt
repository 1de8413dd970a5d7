-- Who is preempted, and why.
use Rattle.std.proofs.Common.{◌≡◌, ◌⊎◌, inl, inr, ℕ, ◌+◌, ◌*◌, ◌<◌, Bool, true, false, not, ◌&&◌, ◌||◌, Option, Some, None, List, [], ◌∷◌, length, refl, ap, sym, ◌∙◌}
use Rattle.std.specs.List.{list_any, list_all}
use Rattle.std.proofs.lemmas.Bool.{and_parts, or_cases, eq-eqb, not-true}
use Rattle.hr_base.specs.Lists.{has}
use Rattle.hr_base.proofs.ListLaws.{has_head, has_tail, all_has}
use Rattle.hr_engine.specs.Attempts.{is_running}
use Rattle.hr_engine.specs.Waits.{standing}
use Rattle.hr_history.specs.declared.entry.Entry.{Entry}
use Rattle.hr_history.specs.declared.entry.Event.TheVariants as event
use Rattle.hr_history.specs.declared.phase.Phase.{Phase}
use Rattle.hr_history.specs.declared.phase.Phase.TheVariants as phase
use Rattle.hr_history.specs.History.{History}
use Rattle.hr_history.specs.Transactions.{begun, phase_of, is_logged, is_asked, is_ended}
use Rattle.hr_history.specs.Replicas.{journal_of}
use Rattle.hr_history.specs.Primary.{primary_of, is_some_of}
use Rattle.hr_history.specs.View.{view_of}
use Rattle.hr_history.specs.Processed.{phase_in, attempt_in, runs_in, wait_in, is_primary}
use Rattle.hr_history.specs.Ranks.{ranks_before}
use Rattle.hr_history.specs.Jobs.{txn_numbers}
use Rattle.hr_history.specs.Preemption.{stays, is_held_up, is_last_in_rank, gives_way_in, is_last_of_cycle}
use Rattle.hr_history.specs.Faithful.{Begun}
use Rattle.hr_records.specs.Numbers.{IsBorn}
use Rattle.hr_records.specs.Kept.{Kept}
use Rattle.hr_records.proofs.Born.{born_or_not}
use Rattle.hr_records.proofs.NumberSteps.{not_both}
use Rattle.hr_records.proofs.KeptLemmas.{kept}
use Rattle.hr_records.proofs.RuleLemmas.{txn_has, begun_before, by_rule}
use Rattle.hr_records.proofs.ViewWords.{txn_born, phase_seen, preempted_seen}
use Rattle.hr_convictions.proofs.ReplyWords.{runs_seen}
use Rattle.hr_precedence.specs.Ends.{HasToEnd}
use Rattle.hr_precedence.specs.GivesWay.{IsInTheWay, IsLastOfCycle}
use Rattle.hr_precedence.proofs.WaitsKept.{standing_seen, waited_for}

any_by : (p : ℕ → Bool) (x : ℕ) (xs : List ℕ) → (p x ≡ true) ⊎ (list_any p xs ≡ true) → (list_any p xs ≡ true → (y : ℕ) × (has xs y ≡ true) × (p y ≡ true)) → (y : ℕ) × (has (x ∷ xs) y ≡ true) × (p y ≡ true)
any_by p x xs (inl here) rest = (x, has_head x xs, here)
any_by p x xs (inr later) rest = let it = rest later in (it.0, has_tail it.0 x xs it.1, it.2)

any_one : (p : ℕ → Bool) (xs : List ℕ) → list_any p xs ≡ true → (y : ℕ) × (has xs y ≡ true) × (p y ≡ true)
any_one p [] e = cc e
any_one p (x ∷ xs) e = any_by p x xs (or_cases (p x) (list_any p xs) e) (any_one p xs)

-- one that isn't there yet is active
active_no_end : (p : Phase) → p ≡ phase.Active → is_ended p ≡ true → ⊥
active_no_end p e is = never (sym (ap is_ended e) ∙ is)
  where
    never : is_ended phase.Active ≡ true → ⊥
    never d = cc d

module _ (f r : ℕ) (h : History) (k : Kept h) (lt : r < 2 * f + 1) where
  ended_seen : (u : ℕ) → is_ended (phase_in (view_of f h) u) ≡ false → is_ended (phase_of u h) ≡ true → ⊥
  ended_seen u no_end is = by_born (born_or_not (length (begun h)) u)
    where
      by_born : IsBorn (length (begun h)) u ⊎ (IsBorn (length (begun h)) u → ⊥) → ⊥
      by_born (inl born) = not_both (is_ended (phase_of u h)) is (ap is_ended (sym (phase_seen f u h born)) ∙ no_end)
      by_born (inr unborn) = active_no_end (phase_of u h) (k.numbers.unborn u unborn).0 is

  stays_on : (u : ℕ) → stays (view_of f h) r u ≡ true → HasToEnd r u h → ⊥
  stays_on u is ends =
      let two = and_parts (not (is_ended (phase_in (view_of f h) u))) (not (attempt_in (view_of f h) r u).preempted) is in
      let open_there = not-true (is_ended (phase_in (view_of f h) u)) two.0 in
      let not_told = not-true (attempt_in (view_of f h) r u).preempted two.1 in
      by_case open_there not_told ends
    where
      by_case : is_ended (phase_in (view_of f h) u) ≡ false → (attempt_in (view_of f h) r u).preempted ≡ false → HasToEnd r u h → ⊥
      by_case a b (inl refused) = ended_seen u a (ap is_ended refused)
      by_case a b (inr (inl rolled_back)) = ended_seen u a (ap is_ended rolled_back)
      by_case a b (inr (inr preempted)) = not_both (attempt_in (view_of f h) r u).preempted (preempted_seen f r h lt u ∙ preempted) b

  in_the_way : (t u : ℕ) → is_running t (journal_of r h) ≡ true → has (txn_numbers (view_of f h)) u ≡ true → is_held_up (view_of f h) r t u ≡ true → IsInTheWay f r t h
  in_the_way t u running there is =
      let v = view_of f h in
      let all = and_parts ((is_logged (phase_in v u) || is_asked (phase_in v u)) && ranks_before v u t) (has (wait_in v r u) t) is in
      let first = and_parts (is_logged (phase_in v u) || is_asked (phase_in v u)) (ranks_before v u t) all.0 in
      let born = txn_born f u h (txn_has v u there) in
      record {
        of = u;
        comes = ap (λ p. is_logged p || is_asked p) (sym (phase_seen f u h born)) ∙ first.0;
        ranks = first.1;
        waits = waited_for f r u h lt t running all.1;
      }

  cycle_of : (t u : ℕ) (o : Option (List ℕ)) → standing u (journal_of r h) ≡ o → gives_way_in (view_of f h) r t o ≡ true → IsLastOfCycle f r t h
  cycle_of t u None e is = cc is
  cycle_of t u (Some cycle) e is =
      let v = view_of f h in
      let two = and_parts (list_all (stays v r) cycle) (is_last_in_rank v r t cycle) is in
      let last = and_parts (has cycle t) (list_all (λ w. not (ranks_before v t w)) cycle) two.1 in
      record {
        told_to = u;
        cycle = cycle;
        stands = e;
        member = last.0;
        stay = λ w there. stays_on w (all_has (stays v r) cycle two.0 w there);
        last = λ w there. not-true (ranks_before v t w) (all_has (λ x. not (ranks_before v t x)) cycle last.1 w there);
      }

  last_of : (t u : ℕ) → is_last_of_cycle (view_of f h) r t u ≡ true → IsLastOfCycle f r t h
  last_of t u is = cycle_of t u (standing u (journal_of r h)) refl (ap (gives_way_in (view_of f h) r t) (sym (standing_seen f r u h lt)) ∙ is)

  pub why : (t : ℕ) → is_running t (journal_of r h) ≡ true → (list_any (is_held_up (view_of f h) r t) (txn_numbers (view_of f h)) || list_any (is_last_of_cycle (view_of f h) r t) (txn_numbers (view_of f h))) ≡ true
      → IsInTheWay f r t h ⊎ IsLastOfCycle f r t h
  why t running is = elim (or_cases (list_any (is_held_up (view_of f h) r t) (txn_numbers (view_of f h))) (list_any (is_last_of_cycle (view_of f h) r t) (txn_numbers (view_of f h))) is) [
    | inl held ↦ (let it = any_one (is_held_up (view_of f h) r t) (txn_numbers (view_of f h)) held in inl (in_the_way t it.0 running it.1 it.2))
    | inr cycle ↦ (let it = any_one (is_last_of_cycle (view_of f h) r t) (txn_numbers (view_of f h)) cycle in inr (last_of t it.0 it.2))
  ]

-- What a preemption shows.
pub record Preempted (f r t : ℕ) (h : History) : Type 0 where
  pub runs : is_running t (journal_of r h) ≡ true
  pub stays_on : HasToEnd r t h → ⊥
  pub secondary : primary_of h ≡ Some r → ⊥
  pub why : IsInTheWay f r t h ⊎ IsLastOfCycle f r t h

primary_shown : (r : ℕ) (o : Option ℕ) → o ≡ Some r → is_some_of r o ≡ true
primary_shown r o e = ap (is_some_of r) e ∙ eq-eqb r r refl

pub preempted : (f s c r t : ℕ) (h : History) → Begun f s (record { caller = c; event = event.Preempt r t } ∷ h) → Preempted f r t h
preempted f s c r t h b =
    let e : Entry = record { caller = c; event = event.Preempt r t } in
    let v = view_of f h in
    let rule = by_rule f s e h b refl in
    let k = kept f s h (begun_before f s e h b) in
    let either = list_any (is_held_up v r t) (txn_numbers v) || list_any (is_last_of_cycle v r t) (txn_numbers v) in
    let all = and_parts (runs_in v r t && stays v r t) either rule.gives_way in
    let first = and_parts (runs_in v r t) (stays v r t) all.0 in
    let running = sym (runs_seen f r t h rule.replica) ∙ first.0 in
    record {
      runs = running;
      stays_on = stays_on f r h k rule.replica t first.1;
      secondary = λ lead. not_both (is_primary v r) (primary_shown r (primary_of h) lead) rule.secondary;
      why = why f r h k rule.replica t running all.1;
    }
