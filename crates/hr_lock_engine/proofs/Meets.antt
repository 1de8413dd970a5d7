-- When rows meet, what transactions hold, and who is in the way of a request.
use Rattle.std.proofs.Common.{◌≡◌, ℕ, ℤ, Bool, true, false, cond, not, ◌&&◌, ◌||◌, ◌==◌, List, [], ◌∷◌, ◌++◌, map, refl, ap, ◌∙◌, sym}
use Rattle.std.specs.Prelude.{◌≢◌}
use Rattle.std.specs.List.{filter, list_any, flat_map}
use Rattle.std.proofs.lemmas.Bool.{and_from, eq-eqb, ne_eqb, eqb-true}
use Rattle.std.proofs.lemmas.List.{append-nil, append_assoc, map-append}
use Rattle.std.proofs.lemmas.List.Elements.{filter-append}
use Rattle.std.proofs.lemmas.List.Folds.{list_any-append}
use Rattle.hr_base.proofs.Tests.{or_false}
use Rattle.hr_rel.specs.declared.stmt.Stmt.{Stmt}
use Rattle.hr_engine.specs.Attempts.{RanStmt, statements}
use Rattle.hr_locks.specs.declared.need.Need.{Need}
use Rattle.hr_locks.specs.declared.need.Lock.{Lock}
use Rattle.hr_locks.specs.Locks.{is_conflict, is_in_the_way, locks_on}
use Rattle.hr_parts.specs.Parts.{Part, is_in, covers, written, conflict, Apart, are_apart}
use Rattle.hr_parts.proofs.Cover.{apart_by_test}
use Rattle.hr_lock_engine.specs.Conflicts.{meet, held_by}

-- ---- parts

apart_unless : (parts others : List Part) → meet parts others ≡ false → are_apart parts others ≡ true
apart_unless [] others h = refl
apart_unless (part ∷ parts) others h =
    let none = or_false (list_any (conflict part) others) (meet parts others) h in
    and_from (not (list_any (conflict part) others)) (are_apart parts others) (ap not none.0) (apart_unless parts others none.1)

-- parts that don't meet are apart
pub unmet_apart : (parts others : List Part) → meet parts others ≡ false → Apart parts others
unmet_apart parts others h = apart_by_test parts others (apart_unless parts others h)

pub apart_turn : (parts others : List Part) → Apart parts others → Apart others parts
apart_turn parts others h = record { left = h.right; right = h.left }

-- nothing is apart from all
pub none_apart : (parts : List Part) → Apart [] parts
none_apart parts = record { left = λ t k w. refl; right = λ t k w. cc }

-- what is apart from two is apart from both together
pub apart_both : (parts some more : List Part) → Apart parts some → Apart parts more → Apart parts (some ++ more)
apart_both parts some more one two = record {
  left = λ t k w. from_written t k (covers (written some) t k) refl (sym (written_both t k) ∙ w);
  right = λ t k w. list_any-append (is_in t k) some more ∙ (λ i. one.right t k w i || two.right t k w i);
}
  where
    written_both : (t : ℕ) (k : ℤ) → covers (written (some ++ more)) t k ≡ (covers (written some) t k || covers (written more) t k)
    written_both t k = ap (λ (l : List Part). covers l t k) (filter-append (λ (part : Part). part.written) some more) ∙ list_any-append (is_in t k) (written some) (written more)

    from_written : (t : ℕ) (k : ℤ) (b : Bool) → covers (written some) t k ≡ b → (b || covers (written more) t k) ≡ true → covers parts t k ≡ false
    from_written t k true e h = one.left t k e
    from_written t k false e h = two.left t k h

-- ---- statements

module _ (parts : Stmt → List Part) where
  -- what some statements need meets where what one of them needs does
  pub meet_all : (steps : List RanStmt) (others : List Part) → meet (flat_map parts (statements steps)) others ≡ list_any (λ (s : RanStmt). meet (parts s.stmt) others) steps
  meet_all [] others = refl
  meet_all (s ∷ steps) others =
      list_any-append (λ (part : Part). list_any (conflict part) others) (parts s.stmt) (flat_map parts (statements steps)) ∙ ap (λ (b : Bool). meet (parts s.stmt) others || b) (meet_all steps others)

  -- one more statement needs its rows too
  pub needed_more : (steps : List RanStmt) (s : RanStmt) → flat_map parts (statements (steps ++ s ∷ [])) ≡ flat_map parts (statements steps) ++ parts s.stmt
  needed_more [] s = append-nil (parts s.stmt)
  needed_more (r ∷ steps) s =
      ap (λ (l : List Part). parts r.stmt ++ l) (needed_more steps s) ∙ sym (append_assoc (parts r.stmt) (flat_map parts (statements steps)) (parts s.stmt))

-- ---- locks

module _ {N : Type 0} where
  abbrev is_of : ℕ → Lock N → Bool
  is_of t lock = lock.txn == t

  abbrev is_other : ℕ → Lock N → Bool
  is_other t lock = not (lock.txn == t)

  none_left : (t : ℕ) (locks : List (Lock N)) → filter (is_of t) (filter (is_other t) locks) ≡ []
  none_left t [] = refl
  none_left t (lock ∷ locks) = by_case (none_left t locks) (lock.txn == t) refl
    where
      by_case : filter (is_of t) (filter (is_other t) locks) ≡ [] → (b : Bool) → (lock.txn == t) ≡ b
          → filter (is_of t) (cond (not b) (lock ∷ filter (is_other t) locks) (filter (is_other t) locks)) ≡ []
      by_case rest true e = rest
      by_case rest false e = ap (λ (c : Bool). cond c (lock ∷ filter (is_of t) (filter (is_other t) locks)) (filter (is_of t) (filter (is_other t) locks))) e ∙ rest

  others_left : (t u : ℕ) → u ≢ t → (locks : List (Lock N)) → filter (is_of u) (filter (is_other t) locks) ≡ filter (is_of u) locks
  others_left t u differ [] = refl
  others_left t u differ (lock ∷ locks) = by_case (others_left t u differ locks) (lock.txn == t) refl
    where
      by_case : filter (is_of u) (filter (is_other t) locks) ≡ filter (is_of u) locks → (b : Bool) → (lock.txn == t) ≡ b
          → filter (is_of u) (cond (not b) (lock ∷ filter (is_other t) locks) (filter (is_other t) locks)) ≡ cond (lock.txn == u) (lock ∷ filter (is_of u) locks) (filter (is_of u) locks)
      by_case rest true e =
          rest ∙ sym (ap (λ (c : Bool). cond c (lock ∷ filter (is_of u) locks) (filter (is_of u) locks)) (ne_eqb lock.txn u (λ same. differ (sym same ∙ eqb-true lock.txn t e))))
      by_case rest false e = ap (λ (l : List (Lock N)). cond (lock.txn == u) (lock ∷ l) l) rest

  module _ (covered : Need N → Part) where
    -- who releases holds nothing, and the others what they held
    pub held_by_none : (t : ℕ) (locks : List (Lock N)) → held_by covered t (filter (is_other t) locks) ≡ []
    held_by_none t locks = ap (map (λ (lock : Lock N). covered lock.need)) (none_left t locks)

    pub held_by_others : (t u : ℕ) → u ≢ t → (locks : List (Lock N)) → held_by covered u (filter (is_other t) locks) ≡ held_by covered u locks
    held_by_others t u differ locks = ap (map (λ (lock : Lock N). covered lock.need)) (others_left t u differ locks)

    own_locks : (t : ℕ) (needs : List (Need N)) → filter (is_of t) (locks_on t needs) ≡ locks_on t needs
    own_locks t [] = refl
    own_locks t (need ∷ needs) =
        let lock : Lock N = record { txn = t; need = need } in
        ap (λ (c : Bool). cond c (lock ∷ filter (is_of t) (locks_on t needs)) (filter (is_of t) (locks_on t needs))) (eq-eqb t t refl) ∙ ap (λ (l : List (Lock N)). lock ∷ l) (own_locks t needs)

    other_locks : (t u : ℕ) → u ≢ t → (needs : List (Need N)) → filter (is_of u) (locks_on t needs) ≡ []
    other_locks t u differ [] = refl
    other_locks t u differ (need ∷ needs) =
        let lock : Lock N = record { txn = t; need = need } in
        ap (λ (c : Bool). cond c (lock ∷ filter (is_of u) (locks_on t needs)) (filter (is_of u) (locks_on t needs))) (ne_eqb t u (λ same. differ (sym same))) ∙ other_locks t u differ needs

    covered_on : (t : ℕ) (needs : List (Need N)) → map (λ (lock : Lock N). covered lock.need) (locks_on t needs) ≡ map covered needs
    covered_on t [] = refl
    covered_on t (need ∷ needs) = ap (λ (l : List Part). covered need ∷ l) (covered_on t needs)

    pub held_append : (t : ℕ) (locks more : List (Lock N)) → held_by covered t (locks ++ more) ≡ held_by covered t locks ++ held_by covered t more
    held_append t locks more =
        ap (map (λ (lock : Lock N). covered lock.need)) (filter-append (is_of t) locks more) ∙ map-append (λ (lock : Lock N). covered lock.need) (filter (is_of t) locks) (filter (is_of t) more)

    -- who is granted needs holds these too
    pub held_granted : (t : ℕ) (needs : List (Need N)) (locks : List (Lock N)) → held_by covered t (locks ++ locks_on t needs) ≡ held_by covered t locks ++ map covered needs
    held_granted t needs locks =
        held_append t locks (locks_on t needs)
        ∙ ap (λ (l : List Part). held_by covered t locks ++ l) (ap (map (λ (lock : Lock N). covered lock.need)) (own_locks t needs) ∙ covered_on t needs)

    pub held_beside : (t u : ℕ) → u ≢ t → (needs : List (Need N)) (locks : List (Lock N)) → held_by covered u (locks ++ locks_on t needs) ≡ held_by covered u locks
    held_beside t u differ needs locks =
        held_append u locks (locks_on t needs)
        ∙ ap (λ (l : List Part). held_by covered u locks ++ l) (ap (map (λ (lock : Lock N). covered lock.need)) (other_locks t u differ needs))
        ∙ append-nil (held_by covered u locks)

    module _ (meets : N → N → Bool) (meeting : (a b : Need N) → is_conflict meets a b ≡ conflict (covered a) (covered b)) where
      against : (need : Need N) (needs : List (Need N)) → list_any (λ (n : Need N). is_conflict meets need n) needs ≡ list_any (conflict (covered need)) (map covered needs)
      against need [] = refl
      against need (n ∷ needs) = λ i. meeting need n i || against need needs i

      in_way_step : (b x r : Bool) (lock : Lock N) (rest : List (Lock N)) (others : List Part) → x ≡ list_any (conflict (covered lock.need)) others
          → r ≡ meet (map (λ (l : Lock N). covered l.need) rest) others → (b && x || r) ≡ meet (map (λ (l : Lock N). covered l.need) (cond b (lock ∷ rest) rest)) others
      in_way_step true x r lock rest others e f = λ i. e i || f i
      in_way_step false x r lock rest others e f = f

      -- who is in the way of needs holds rows that they meet
      pub in_way : (locks : List (Lock N)) (needs : List (Need N)) (t : ℕ) → is_in_the_way meets locks needs t ≡ meet (held_by covered t locks) (map covered needs)
      in_way [] needs t = refl
      in_way (lock ∷ locks) needs t = in_way_step (lock.txn == t) _ _ lock (filter (is_of t) locks) (map covered needs) (against lock.need needs) (in_way locks needs t)
