-- The attempt of a transaction is changed.
use Rattle.std.proofs.Common.{◌≡◌, ℕ, Bool, true, false, not, ◌||◌, ◌==◌, nat_eq, cond, Option, Some, None, unwrap_or, List, [], ◌∷◌, map, length, refl, ap, sym, ◌∙◌, subst}
use Rattle.std.specs.Map.{lookup}
use Rattle.std.specs.Option.{option_map}
use Rattle.std.proofs.lemmas.Bool.{eqb-true, eq-eqb}
use Rattle.std.proofs.lemmas.Bool.{and_parts}
use Rattle.hr_base.specs.Lists.{has, is_distinct, one_to}
use Rattle.hr_base.proofs.Tests.{or_false}
use Rattle.hr_engine.specs.declared.reply.RunReply.{RunReply}
use Rattle.hr_history.specs.declared.phase.Fresh.{Fresh}
use Rattle.hr_history.specs.View.{Progress, Attempt}
use Rattle.hr_history.specs.Processed.{is_logged_by}
use Rattle.hr_moves.specs.Changes.{change_at}
use Rattle.hr_moves.specs.Sane.{IsSane}
use Rattle.hr_progress.specs.Plain.{PlainTxn, PlainAttempt, PlainView, idle_attempt, plain_txn_in, plain_attempt_in, plain_replica_in, with_entry}
use Rattle.hr_progress.specs.Seen.{began_before, runs_since, seen_entry, seen_plain}
use Rattle.hr_progress.specs.Kept.{IsTold, AreTold, touched_of, processed_of}
use Rattle.hr_progress.proofs.Changed.{changed_here, unchanged_else, got_kept}
use Rattle.hr_progress.proofs.Numbers.{filter_same_test, take_while_agree}
use Rattle.hr_progress.proofs.Parts.{replica_seen}

pub keys_seen : (replies : List RunReply) (fresh : Option Fresh) (r : ℕ) (all es : List (ℕ × PlainAttempt)) → map (λ (e : ℕ × Attempt). e.0) (map (seen_entry replies fresh r all) es) ≡ map (λ (e : ℕ × PlainAttempt). e.0) es
keys_seen replies fresh r all [] = refl
keys_seen replies fresh r all (e ∷ es) = ap (λ ks. e.0 ∷ ks) (keys_seen replies fresh r all es)

-- no transaction has two entries
pub keys_apart : (p : PlainView) (r : ℕ) → IsSane (seen_plain p) → is_distinct (map (λ (e : ℕ × PlainAttempt). e.0) (plain_replica_in p.replicas r).attempts) ≡ true
keys_apart p r sane =
    let q = plain_replica_in p.replicas r in
    ap is_distinct (sym (ap (λ (x : Progress). map (λ (e : ℕ × Attempt). e.0) x.attempts) (replica_seen p r) ∙ keys_seen p.replies p.fresh r q.attempts q.attempts)) ∙ sane.apart r

pub not_has : (ts : List ℕ) (t : ℕ) → not (has ts t) ≡ true → has ts t ≡ false
not_has ts t h = by (has ts t) h
  where
    by : (b : Bool) → not b ≡ true → b ≡ false
    by true e = cc
    by false e = refl

-- a change of the first entry of t, where that is its only one
module _ {Y : Type 0} (t : ℕ) (h : PlainAttempt → PlainAttempt) (k : Y → Y) (s : ℕ → PlainAttempt → Y) where
  abbrev changed_all : List (ℕ × Y) → List (ℕ × Y)
  changed_all ys = map (λ (e : ℕ × Y). (e.0, change_at t k e.0 e.1)) ys

  abbrev shown : List (ℕ × PlainAttempt) → List (ℕ × Y)
  shown es = map (λ (e : ℕ × PlainAttempt). (e.0, s e.0 e.1)) es

  none_changed : (es : List (ℕ × PlainAttempt)) → has (map (λ (e : ℕ × PlainAttempt). e.0) es) t ≡ false → changed_all (shown es) ≡ shown es
  none_changed [] none = refl
  none_changed (e ∷ es) none =
      let both = or_false (e.0 == t) (has (map (λ (x : ℕ × PlainAttempt). x.0) es) t) none in
      λ i. (e.0, unchanged_else t e.0 k (s e.0 e.1) (λ same. wrong (eq-eqb e.0 t same) both.0) i) ∷ none_changed es both.1 i
    where
      wrong : {b : Bool} → b ≡ true → b ≡ false → ⊥
      wrong x y = cc

  entry_by : (b : Bool) (e : ℕ × PlainAttempt) (es : List (ℕ × PlainAttempt)) → nat_eq t e.0 ≡ b → ((a : PlainAttempt) → s t (h a) ≡ k (s t a)) → has (map (λ (x : ℕ × PlainAttempt). x.0) es) e.0 ≡ false
      → shown (with_entry t h es) ≡ changed_all (shown es)
      → shown (cond b ((e.0, h e.1) ∷ es) (e ∷ with_entry t h es)) ≡ changed_all (shown (e ∷ es))
  entry_by true e es same change none ih =
      let key : t ≡ e.0 = eqb-true t e.0 same in
      λ i. (e.0, (subst (λ u. s u (h e.1) ≡ k (s u e.1)) key (change e.1) ∙ sym (changed_here t e.0 k (s e.0 e.1) (sym key))) i)
      ∷ sym (none_changed es (ap (has (map (λ (x : ℕ × PlainAttempt). x.0) es)) key ∙ none)) i
  entry_by false e es same change none ih =
      λ i. (e.0, sym (unchanged_else t e.0 k (s e.0 e.1) (λ key. wrong (eq-eqb t e.0 (sym key)) same)) i) ∷ ih i
    where
      wrong : {b : Bool} → b ≡ true → b ≡ false → ⊥
      wrong x y = cc

  pub entries_changed : (es : List (ℕ × PlainAttempt)) → is_distinct (map (λ (e : ℕ × PlainAttempt). e.0) es) ≡ true → ((a : PlainAttempt) → s t (h a) ≡ k (s t a)) → shown (with_entry t h es) ≡ changed_all (shown es)
  entries_changed [] apart change = refl
  entries_changed (e ∷ es) apart change =
      let both = and_parts (not (has (map (λ (x : ℕ × PlainAttempt). x.0) es) e.0)) (is_distinct (map (λ (x : ℕ × PlainAttempt). x.0) es)) apart in
      entry_by (nat_eq t e.0) e es refl change (not_has (map (λ (x : ℕ × PlainAttempt). x.0) es) e.0 both.0) (entries_changed es both.1 change)

-- ---- look-ups after it

module _ (t : ℕ) (h : PlainAttempt → PlainAttempt) where
  looked_by : (b c : Bool) (u : ℕ) (e : ℕ × PlainAttempt) (es : List (ℕ × PlainAttempt)) → nat_eq t e.0 ≡ b → nat_eq u e.0 ≡ c → lookup (nat_eq u) (with_entry t h es) ≡ option_map (change_at t h u) (lookup (nat_eq u) es)
      → lookup (nat_eq u) (cond b ((e.0, h e.1) ∷ es) (e ∷ with_entry t h es)) ≡ option_map (change_at t h u) (cond c (Some e.1) (lookup (nat_eq u) es))
  looked_by true true u e es at same ih =
      let key : u ≡ t = eqb-true u e.0 same ∙ sym (eqb-true t e.0 at) in
      ap (λ d. cond d (Some (h e.1)) (lookup (nat_eq u) es)) same ∙ ap (λ a. Some a) (sym (changed_here t u h e.1 key))
  looked_by true false u e es at same ih = ap (λ d. cond d (Some (h e.1)) (lookup (nat_eq u) es)) same ∙ sym (away (lookup (nat_eq u) es))
    where
      wrong : {b : Bool} → b ≡ true → b ≡ false → ⊥
      wrong x y = cc

      away : (o : Option PlainAttempt) → option_map (change_at t h u) o ≡ o
      away None = refl
      away (Some a) = ap (λ x. Some x) (unchanged_else t u h a (λ key. wrong (ap (λ m. nat_eq m e.0) key ∙ at) same))
  looked_by false true u e es at same ih =
      ap (λ d. cond d (Some e.1) (lookup (nat_eq u) (with_entry t h es))) same ∙ ap (λ a. Some a) (sym (unchanged_else t u h e.1 (λ key. wrong (ap (λ m. nat_eq m e.0) (sym key) ∙ same) at)))
    where
      wrong : {b : Bool} → b ≡ true → b ≡ false → ⊥
      wrong x y = cc
  looked_by false false u e es at same ih = ap (λ d. cond d (Some e.1) (lookup (nat_eq u) (with_entry t h es))) same ∙ ih

  pub lookup_entry : (u : ℕ) (es : List (ℕ × PlainAttempt)) → lookup (nat_eq u) (with_entry t h es) ≡ option_map (change_at t h u) (lookup (nat_eq u) es)
  lookup_entry u [] = refl
  lookup_entry u (e ∷ es) = looked_by (nat_eq t e.0) (nat_eq u e.0) u e es refl refl (lookup_entry u es)

  -- what the change keeps is kept of each
  pub attempt_kept : {Y : Type 0} (f : PlainAttempt → Y) → ((a : PlainAttempt) → f (h a) ≡ f a) → (u : ℕ) (es : List (ℕ × PlainAttempt)) → f (plain_attempt_in (with_entry t h es) u) ≡ f (plain_attempt_in es u)
  attempt_kept f keeps u es = ap (λ o. f (unwrap_or o idle_attempt)) (lookup_entry u es) ∙ got_kept f h t u (lookup (nat_eq u) es) idle_attempt keeps

  told_by : (replies : List RunReply) (b : Bool) (e : ℕ × PlainAttempt) (es : List (ℕ × PlainAttempt)) → AreTold replies (with_entry t h es) → IsTold replies (h e.1) → IsTold replies e.1 → AreTold replies es → AreTold replies (cond b ((e.0, h e.1) ∷ es) (e ∷ with_entry t h es))
  told_by replies true e es ih new old rest = (new, rest)
  told_by replies false e es ih new old rest = (old, ih)

  pub told_entry : (replies : List RunReply) → ((a : PlainAttempt) → IsTold replies a → IsTold replies (h a)) → (es : List (ℕ × PlainAttempt)) → AreTold replies es → AreTold replies (with_entry t h es)
  told_entry replies more [] told = tt
  told_entry replies more (e ∷ es) told = told_by replies (nat_eq t e.0) e es (told_entry replies more es told.1) (more e.1 told.0) told.0 told.1

  -- a change that keeps answers and touches nothing
  pub touched_entry : ((a : PlainAttempt) → (h a).touched ≡ a.touched) → (n : ℕ) (es : List (ℕ × PlainAttempt)) → touched_of n es ≡ touched_of n (with_entry t h es)
  touched_entry keeps n es = filter_same_test _ _ (one_to n) (λ u. sym (attempt_kept (λ a. a.touched) keeps u es))

  pub processed_entry : ((a : PlainAttempt) → length (h a).answers ≡ length a.answers) → (txns : List PlainTxn) (log : List ℕ) (position : ℕ) (es : List (ℕ × PlainAttempt)) → processed_of txns log position es ≡ processed_of txns log position (with_entry t h es)
  processed_entry keeps txns log position es = ap length (take_while_agree _ _ log (λ u m.
      ap (λ n. is_logged_by position (plain_txn_in txns u).phase || (n == (plain_txn_in txns u).statements)) (sym (attempt_kept (λ a. length a.answers) keeps u es))))

  pub runs_entry : ((place : ℕ) (a : PlainAttempt) → began_before place (h a) ≡ began_before place a) → (es : List (ℕ × PlainAttempt)) → (place u : ℕ) → runs_since (with_entry t h es) place u ≡ runs_since es place u
  runs_entry keeps es place u = attempt_kept (began_before place) (keeps place) u es
