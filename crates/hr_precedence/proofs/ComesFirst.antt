-- What follows comes first of its kind, and none of what comes before its kind is due.
use Rattle.std.proofs.Common.{◌≡◌, ℕ, ◌+◌, ◌≤◌, Bool, true, false, ◌&&◌, nat_lt, nat_le, Option, Some, None, is_none, is_some, option_and_then, filter, count_by, ◌∷◌, length, refl, ap, sym, ◌∙◌, arith}
use Rattle.std.proofs.lemmas.Bool.{and_parts, ltb-false}
use Rattle.hr_base.specs.Lists.{has, when}
use Rattle.hr_base.proofs.Tests as tests
use Rattle.hr_history.specs.declared.cause.CauseAt.TheVariants as cause
use Rattle.hr_history.specs.declared.entry.Entry.{Entry}
use Rattle.hr_history.specs.declared.entry.Event.{Event}
use Rattle.hr_history.specs.declared.entry.Event.TheVariants as event
use Rattle.hr_history.specs.declared.phase.Phase.{Phase}
use Rattle.hr_history.specs.declared.phase.Phase.TheVariants as phase
use Rattle.hr_history.specs.History.{History, is_call}
use Rattle.hr_history.specs.Primary.{primary_of}
use Rattle.hr_history.specs.ReplicaNumbers.{replica_numbers}
use Rattle.hr_history.specs.Transactions.{phase_of, is_asked}
use Rattle.hr_history.specs.Turn.{Turn, Gone, turn_of, went}
use Rattle.hr_history.specs.View.{View, view_of}
use Rattle.hr_history.specs.Processed.{phase_in, candidate_in, is_caught_up}
use Rattle.hr_history.specs.Ranks.{rank_of, rank_by, is_before, first_in_rank}
use Rattle.hr_history.specs.Votes.{agrees, is_decidable, is_contradicted, contradicted_by}
use Rattle.hr_history.specs.Jobs.{txn_numbers}
use Rattle.hr_history.specs.Rules.{primary_gone, decide, new_primary, due_in, due}
use Rattle.hr_history.specs.Words.{IsDecidable, IsContradicted}
use Rattle.hr_history.specs.Faithful.{Begun}
use Rattle.hr_records.specs.Kept.{Kept}
use Rattle.hr_records.proofs.Options.{On, on_some, in_range, some_none, none_mapped}
use Rattle.hr_records.proofs.KeptLemmas.{kept, asked_born, decided_asked}
use Rattle.hr_records.proofs.RuleLemmas.{begun_before, was_due, by_rule, asked_is_open}
use Rattle.hr_records.proofs.LeadLemmas.{refused_all}
use Rattle.hr_records.proofs.ViewWords.{open_txn, txn_born, phase_seen}
use Rattle.hr_decisions.proofs.DecisionLemmas.{none_passes}
use Rattle.hr_causes.proofs.DueLemmas.{due_on}
use Rattle.hr_precedence.proofs.FirstInRank.{first_is}

-- WHAT COMES BEFORE
-- A decision is of the one that ranks first of those that may be decided, and a refusal for the votes of the one that ranks first
-- of the contradicted. Nothing is decided while the primary's going is due, nothing refused for the votes while something may
-- be decided, and nobody preempted while a new primary is due.
abbrev ComesFirst : View → Turn → Event → Type 0
ComesFirst v turn (event.Decide t) = (primary_gone v turn ≡ None) × (first_in_rank v (filter (is_decidable v) (txn_numbers v)) ≡ Some t)
ComesFirst v turn (event.Refuse t (cause.Differ index by at)) = (decide v turn ≡ None) × (first_in_rank v (filter (is_contradicted v) (txn_numbers v)) ≡ Some t)
ComesFirst v turn (event.Preempt r t) = new_primary v turn ≡ None
ComesFirst v turn _ = Unit {0}

due_first : (v : View) (turn : Turn) → On (ComesFirst v turn) (due_in v turn)
due_first v turn =
    due_on v turn (ComesFirst v turn) record {
      convicts = λ r x. tt;
      gone = λ t from because at. tt;
      deadlock = λ t at. tt;
      memory = λ t at. tt;
      decides = λ none t first. (none, first);
      differs = λ none t by first. (none, first);
      elects = λ r. tt;
      preempts = λ none r t. none;
    }

follows_first : (f s : ℕ) (e : Entry) (h : History) → Begun f s (e ∷ h) → is_call e.event ≡ false → ComesFirst (view_of f h) (turn_of h) e.event
follows_first f s e h b n = on_some (ComesFirst (view_of f h) (turn_of h)) (due f h) e.event (was_due f s e h b n) (due_first (view_of f h) (turn_of h))

-- IN THE ORDER OF ASKING
asked_later : (p q : Phase) (t u n m : ℕ) → p ≡ phase.Asked n → q ≡ phase.Asked m → (is_before (rank_by q u) (rank_by p t) ≡ true → ⊥) → n ≤ m
asked_later p q t u n m e d never = by_test (nat_lt m n) refl
  where
    first : is_before (rank_by (phase.Asked m) u) (rank_by (phase.Asked n) t) ≡ true → ⊥
    first is = never ((λ i. is_before (rank_by (d i) u) (rank_by (e i) t)) ∙ is)

    by_test : (b : Bool) → nat_lt m n ≡ b → n ≤ m
    by_test true lt = absurd (first lt)
    by_test false le = ltb-false m n le

module _ (f : ℕ) (h : History) (k : Kept h) where
  seen : (w n : ℕ) → phase_of w h ≡ phase.Asked n → phase_in (view_of f h) w ≡ phase.Asked n
  seen w n is = phase_seen f w h (asked_born w h k (ap is_asked is)) ∙ is

  -- who is asked is listed
  listed : (w : ℕ) → is_asked (phase_in (view_of f h) w) ≡ true → has (txn_numbers (view_of f h)) w ≡ true
  listed w asked =
      let is = open_txn (view_of f h) w (asked_is_open (phase_in (view_of f h) w) asked) in
      in_range 1 (length (view_of f h).txns) w is.0 (omega (arith, is.1))

  -- the one that ranks first of those that pass was asked first
  first_asked : (p : ℕ → Bool) (t u n m : ℕ) → first_in_rank (view_of f h) (filter p (txn_numbers (view_of f h))) ≡ Some t → is_asked (phase_in (view_of f h) u) ≡ true → p u ≡ true → phase_of t h ≡ phase.Asked n
      → phase_of u h ≡ phase.Asked m → n ≤ m
  first_asked p t u n m first asked passes e d =
      asked_later (phase_in (view_of f h) t) (phase_in (view_of f h) u) t u n m (seen t n e) (seen u m d)
      (first_is (rank_of (view_of f h)) (filter p (txn_numbers (view_of f h))) t first u (tests.kept p u (txn_numbers (view_of f h)) passes (listed u asked)))

  -- where none is decided none may be
  none_may : (turn : Turn) (u : ℕ) → decide (view_of f h) turn ≡ None → IsDecidable f h u → ⊥
  none_may turn u none may =
      let v = view_of f h in
      let asked = (and_parts (is_asked (phase_in v u)) (nat_le (f + 1) (count_by (agrees v u) (replica_numbers f))) may).0 in
      none_passes v (is_decidable v) u (none_mapped (λ t. event.Decide t) (first_in_rank v (filter (is_decidable v) (txn_numbers v))) none) (listed u asked) may

pub decided_first : (f s c t u n m : ℕ) (h : History) → Begun f s (record { caller = c; event = event.Decide t } ∷ h) → IsDecidable f h u → phase_of t h ≡ phase.Asked n → phase_of u h ≡ phase.Asked m → n ≤ m
decided_first f s c t u n m h b may e d =
    let v = view_of f h in
    let it : Entry = record { caller = c; event = event.Decide t } in
    let asked = (and_parts (is_asked (phase_in v u)) (nat_le (f + 1) (count_by (agrees v u) (replica_numbers f))) may).0 in
    first_asked f h (kept f s h (begun_before f s it h b)) (is_decidable v) t u n m (follows_first f s it h b refl).1 asked may e d

pub contradicted_first : (f s c t index by at u n m : ℕ) (h : History) → Begun f s (record { caller = c; event = event.Refuse t (cause.Differ index by at) } ∷ h) → IsContradicted f h u → phase_of t h ≡ phase.Asked n → phase_of u h ≡ phase.Asked m
    → n ≤ m
contradicted_first f s c t index by at u n m h b is e d =
    let v = view_of f h in
    let it : Entry = record { caller = c; event = event.Refuse t (cause.Differ index by at) } in
    let asked = (and_parts (is_asked (phase_in v u)) (is_some (contradicted_by v u)) is).0 in
    first_asked f h (kept f s h (begun_before f s it h b)) (is_contradicted v) t u n m (follows_first f s it h b refl).1 asked is e d

-- ONE KIND BEFORE ANOTHER
pub decided_before : (f s c t index by at u : ℕ) (h : History) → Begun f s (record { caller = c; event = event.Refuse t (cause.Differ index by at) } ∷ h) → IsDecidable f h u → ⊥
decided_before f s c t index by at u h b may =
    let it : Entry = record { caller = c; event = event.Refuse t (cause.Differ index by at) } in
    none_may f h (kept f s h (begun_before f s it h b)) (turn_of h) u (follows_first f s it h b refl).0 may

no_gone : (o : Option Gone) → (is_some o ≡ true → ⊥) → o ≡ None
no_gone None n = refl
no_gone (Some g) n = absurd (n refl)

pub none_went : (f s c t : ℕ) (h : History) → Begun f s (record { caller = c; event = event.Decide t } ∷ h) → went h ≡ None
none_went f s c t h b =
    let it : Entry = record { caller = c; event = event.Decide t } in
    let rule = by_rule f s it h b refl in
    let born = txn_born f t h rule.0 in
    no_gone (went h) (λ gone. refused_all f h (follows_first f s it h b refl).0 gone t born (asked_is_open (phase_of t h) (decided_asked f t h born rule.1)))

pub elected_before : (f s c r t q : ℕ) (h : History) → Begun f s (record { caller = c; event = event.Preempt r t } ∷ h) → primary_of h ≡ None → candidate_in (view_of f h) ≡ Some q → is_caught_up (view_of f h) q ≡ true → ⊥
elected_before f s c r t q h b vacant candidate caught_up =
    let it : Entry = record { caller = c; event = event.Preempt r t } in
    some_none (event.NewPrimary q) (sym due_now ∙ follows_first f s it h b refl)
  where
    due_now : new_primary (view_of f h) (turn_of h) ≡ Some (event.NewPrimary q)
    due_now =
        ap (option_and_then (λ x. when (is_none (primary_of h) && is_caught_up (view_of f h) x) (event.NewPrimary x))) candidate
        ∙ (λ i. when (is_none (vacant i) && caught_up i) (event.NewPrimary q))
