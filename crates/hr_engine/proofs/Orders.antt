-- Which orders are enough where few transactions run.
use Rattle.std.proofs.Common.{◌≡◌, ℕ, true, false, not, ◌||◌, ◌==◌, ◌⊎◌, inl, inr, IsTrue, List, [], ◌∷◌, subst, ◌∙◌, sym}
use Rattle.std.proofs.lemmas.Bool.{and_parts, or_left, or_right, eq-eqb}
use Rattle.hr_rel.specs.Database.{Database}
use Rattle.hr_engine.specs.Journal.{Journal}
use Rattle.hr_engine.specs.Attempts.{IsRunning, is_running}
use Rattle.hr_engine.specs.Rigorous.{InOrder, AnyOrder}
use Rattle.hr_base.specs.Lists.{has, is_distinct}

-- no transaction stands twice in a list of different ones
pub not_next : (t u : ℕ) (ts : List ℕ) → t ≡ u → IsTrue (is_distinct (t ∷ u ∷ ts)) → ⊥
not_next t u ts e distinct =
    let here : (u == t) ≡ true = eq-eqb u t (sym e) in
    let none : not (has (u ∷ ts) t) ≡ true = (and_parts _ _ distinct).0 in
    let there : not (true || has ts t) ≡ true = subst (λ b. not (b || has ts t) ≡ true) here none in
    cc

pub not_later : (t u v : ℕ) (ts : List ℕ) → t ≡ v → IsTrue (is_distinct (t ∷ u ∷ v ∷ ts)) → ⊥
not_later t u v ts e distinct =
    let here : (v == t) ≡ true = eq-eqb v t (sym e) in
    let found : has (u ∷ v ∷ ts) t ≡ true = or_right (u == t) _ (or_left (v == t) (has ts t) here) in
    let none : not (has (u ∷ v ∷ ts) t) ≡ true = (and_parts _ _ distinct).0 in
    let there : not true ≡ true = subst (λ b. not b ≡ true) found none in
    cc

module _ (db : Database) (journal : Journal) where
  -- nobody runs
  pub none_run : ((u : ℕ) → is_running u journal ≡ false) → AnyOrder db journal
  none_run stopped [] distinct running = tt
  none_run stopped (t ∷ ts) distinct running = let h : is_running t journal ≡ true = (and_parts _ _ running).0 in cc (stopped t)

  -- at most one runs, and on the base alone it answers what it was answered
  pub one_runs : (t : ℕ) → ((u : ℕ) → IsRunning u journal → u ≡ t) → InOrder db journal (t ∷ []) → AnyOrder db journal
  one_runs t only alone [] distinct running = tt
  one_runs t only alone (u ∷ []) distinct running =
      subst (λ v. InOrder db journal (v ∷ [])) (sym (only u (and_parts _ _ running).0)) alone
  one_runs t only alone (u ∷ v ∷ ts) distinct running =
      let first = and_parts (is_running u journal) _ running in
      let second = and_parts (is_running v journal) _ first.1 in
      absurd (not_next u v ts (only u first.0 ∙ sym (only v second.0)) distinct)

  -- At most two run, and played in either order they answer what they were answered. What is told of three at once
  -- can't be: two of them are one.
  two_of_three : (t u x y z : ℕ) (ts : List ℕ) → (x ≡ t) ⊎ (x ≡ u) → (y ≡ t) ⊎ (y ≡ u) → (z ≡ t) ⊎ (z ≡ u) → IsTrue (is_distinct (x ∷ y ∷ z ∷ ts)) → ⊥
  two_of_three t u x y z ts (inl a) (inl b) c distinct = not_next x y (z ∷ ts) (a ∙ sym b) distinct
  two_of_three t u x y z ts (inr a) (inr b) c distinct = not_next x y (z ∷ ts) (a ∙ sym b) distinct
  two_of_three t u x y z ts (inl a) (inr b) (inl c) distinct = not_later x y z ts (a ∙ sym c) distinct
  two_of_three t u x y z ts (inl a) (inr b) (inr c) distinct = not_next y z ts (b ∙ sym c) (and_parts _ _ distinct).1
  two_of_three t u x y z ts (inr a) (inl b) (inr c) distinct = not_later x y z ts (a ∙ sym c) distinct
  two_of_three t u x y z ts (inr a) (inl b) (inl c) distinct = not_next y z ts (b ∙ sym c) (and_parts _ _ distinct).1

  one_of_two : (t u x : ℕ) → InOrder db journal (t ∷ u ∷ []) → InOrder db journal (u ∷ t ∷ []) → (x ≡ t) ⊎ (x ≡ u) → InOrder db journal (x ∷ [])
  one_of_two t u x there back (inl a) = subst (λ v. InOrder db journal (v ∷ [])) (sym a) (there.0, tt)
  one_of_two t u x there back (inr a) = subst (λ v. InOrder db journal (v ∷ [])) (sym a) (back.0, tt)

  both_of_two : (t u x y : ℕ) → InOrder db journal (t ∷ u ∷ []) → InOrder db journal (u ∷ t ∷ []) → (x ≡ t) ⊎ (x ≡ u) → (y ≡ t) ⊎ (y ≡ u)
      → IsTrue (is_distinct (x ∷ y ∷ [])) → InOrder db journal (x ∷ y ∷ [])
  both_of_two t u x y there back (inl a) (inl b) distinct = absurd (not_next x y [] (a ∙ sym b) distinct)
  both_of_two t u x y there back (inr a) (inr b) distinct = absurd (not_next x y [] (a ∙ sym b) distinct)
  both_of_two t u x y there back (inl a) (inr b) distinct =
      subst (λ v. InOrder db journal (v ∷ y ∷ [])) (sym a) (subst (λ w. InOrder db journal (t ∷ w ∷ [])) (sym b) there)
  both_of_two t u x y there back (inr a) (inl b) distinct =
      subst (λ v. InOrder db journal (v ∷ y ∷ [])) (sym a) (subst (λ w. InOrder db journal (u ∷ w ∷ [])) (sym b) back)

  pub two_run : (t u : ℕ) → ((x : ℕ) → IsRunning x journal → (x ≡ t) ⊎ (x ≡ u)) → InOrder db journal (t ∷ u ∷ []) → InOrder db journal (u ∷ t ∷ []) → AnyOrder db journal
  two_run t u only there back [] distinct running = tt
  two_run t u only there back (x ∷ []) distinct running = one_of_two t u x there back (only x (and_parts _ _ running).0)
  two_run t u only there back (x ∷ y ∷ []) distinct running =
      let first = and_parts (is_running x journal) _ running in
      let second = and_parts (is_running y journal) _ first.1 in
      both_of_two t u x y there back (only x first.0) (only y second.0) distinct
  two_run t u only there back (x ∷ y ∷ z ∷ ts) distinct running =
      let first = and_parts (is_running x journal) _ running in
      let second = and_parts (is_running y journal) _ first.1 in
      let third = and_parts (is_running z journal) _ second.1 in
      absurd (two_of_three t u x y z ts (only x first.0) (only y second.0) (only z third.0) distinct)
