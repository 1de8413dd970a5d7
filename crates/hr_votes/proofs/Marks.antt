-- Marks that are set, and those that were found.
use Rattle.std.proofs.Common.{◌≡◌, ◌⊎◌, inl, inr, ℕ, zero, suc, ◌+◌, ◌<◌, ◌≤◌, Bool, true, false, cond, ◌==◌, Some, List, [], ◌∷◌, ◌++◌, length, take, get_or, set, slice_get, replicate, refl, ap, sym, ◌∙◌, subst, append_assoc, arith}
use Rattle.std.proofs.lemmas.List.{length-replicate, get_or-set_other}
use Rattle.std.proofs.lemmas.List.Folds.{list_any-append}
use Rattle.hr_base.specs.Lists.{has}
use Rattle.hr_base.specs.declared.limits.TheConstants.{MAX_SUBMITS}
use Rattle.hr_base.proofs.Tests.{or_first, or_second, or_split}
use Rattle.hr_base.proofs.ListLaws.{has_head, has_one}
use Rattle.hr_records.proofs.Places.{same_or_not}
use Rattle.hr_records.proofs.Options.{same_some}
use Rattle.hr_votes.specs.Walked.{set_marks, IsWalk, IsKnown, GrowsBy}
use Rattle.hr_votes.specs.declared.walk.Walk.{Walk}

most_step : (b : Bool) (n m : ℕ) → n ≤ m → cond b (suc n) n ≤ suc m
most_step true n m h = omega (arith, h)
most_step false n m h = omega (arith, h)

pub set_most : (bs : List Bool) → set_marks bs ≤ length bs
set_most [] = omega arith
set_most (b ∷ bs) = most_step b (set_marks bs) (length bs) (set_most bs)

clear_head : (b : Bool) (n m : ℕ) → b ≡ false → n ≤ m → cond b (suc n) n < suc m
clear_head true n m e h = cc
clear_head false n m e h = omega (arith, h)

clear_tail : (b : Bool) (n m : ℕ) → n < m → cond b (suc n) n < suc m
clear_tail true n m h = omega (arith, h)
clear_tail false n m h = omega (arith, h)

-- a clear mark leaves one less than all
pub clear_left : (bs : List Bool) (p : ℕ) → p < length bs → get_or bs p false ≡ false → set_marks bs < length bs
clear_left [] p h e = absurd (omega (arith, h))
clear_left (b ∷ bs) zero h e = clear_head b (set_marks bs) (length bs) e (set_most bs)
clear_left (b ∷ bs) (suc p) h e = clear_tail b (set_marks bs) (length bs) (clear_left bs p (omega (arith, h)) e)

set_head : (b : Bool) (n : ℕ) → b ≡ false → suc n ≡ cond b (suc n) n + 1
set_head true n e = cc
set_head false n e = omega arith

set_tail : (b : Bool) (n m : ℕ) → n ≡ m + 1 → cond b (suc n) n ≡ cond b (suc m) m + 1
set_tail true n m h = omega (arith, h)
set_tail false n m h = h

-- one mark more is set
pub set_more : (bs : List Bool) (p : ℕ) → p < length bs → get_or bs p false ≡ false → set_marks (set bs p true) ≡ set_marks bs + 1
set_more [] p h e = absurd (omega (arith, h))
set_more (b ∷ bs) zero h e = set_head b (set_marks bs) e
set_more (b ∷ bs) (suc p) h e = set_tail b (set_marks (set bs p true)) (set_marks bs) (set_more bs p (omega (arith, h)) e)

pub set_none : (n : ℕ) → set_marks (replicate n false) ≡ 0
set_none zero = refl
set_none (suc n) = set_none n

pub none_set : (n p : ℕ) → get_or (replicate n false) p false ≡ false
none_set zero p = refl
none_set (suc n) zero = refl
none_set (suc n) (suc p) = none_set n p

-- who was found stays found
pub has_front : (xs more : List ℕ) (t : ℕ) → has xs t ≡ true → has (xs ++ more) t ≡ true
has_front xs more t h = list_any-append (λ u. u == t) xs more ∙ or_first (has xs t) (has more t) h

pub has_back : (xs more : List ℕ) (t : ℕ) → has more t ≡ true → has (xs ++ more) t ≡ true
has_back xs more t h = list_any-append (λ u. u == t) xs more ∙ or_second (has xs t) (has more t) h

pub known_still : (entries xs more : List ℕ) (t : ℕ) → IsKnown entries xs t → IsKnown entries (xs ++ more) t
known_still entries xs more t (inl found) = inl (has_front xs more t found)
known_still entries xs more t (inr none) = inr none

-- a mark that is set then is the new one, or was set
pub set_or_was : (bs : List Bool) (p q : ℕ) → get_or (set bs p true) q false ≡ true → (q ≡ p) ⊎ (get_or bs q false ≡ true)
set_or_was bs p q e = by (same_or_not q p)
  where
    by : (q ≡ p) ⊎ (q ≡ p → ⊥) → (q ≡ p) ⊎ (get_or bs q false ≡ true)
    by (inl same) = inl same
    by (inr other) = inr (sym (get_or-set_other bs p q true false other) ∙ e)

-- what is told of marks, with one more
pub told_more : (entries : List ℕ) (bs : List Bool) (found : List ℕ) (place txn : ℕ)
    → ((p t : ℕ) → get_or bs p false ≡ true → slice_get entries p ≡ Some t → has found t ≡ true)
    → slice_get entries place ≡ Some txn
    → (p t : ℕ) → get_or (set bs place true) p false ≡ true → slice_get entries p ≡ Some t → has (found ++ txn ∷ []) t ≡ true
told_more entries bs found place txn told at p t marked it = by (set_or_was bs place p marked)
  where
    same_one : p ≡ place → txn ≡ t
    same_one same = same_some txn t (sym at ∙ ap (slice_get entries) (sym same) ∙ it)

    by : (p ≡ place) ⊎ (get_or bs p false ≡ true) → has (found ++ txn ∷ []) t ≡ true
    by (inl same) = has_back found (txn ∷ []) t (ap (has (txn ∷ [])) (sym (same_one same)) ∙ has_head txn [])
    by (inr was) = has_front found (txn ∷ []) t (told p t was it)

-- ---- growing

abbrev pub Grown : List ℕ → List ℕ → ℕ → Type 0
Grown before now t = (now ≡ before) ⊎ (now ≡ before ++ t ∷ [])

-- one more of these was found
pub grown : (these : ℕ → Bool) (before mid now : List ℕ) (t : ℕ) → these t ≡ true → GrowsBy these before mid → Grown mid now t → GrowsBy these before now
grown these before mid now t it g (inl same) = (g.0, same ∙ g.1, g.2)
grown these before mid now t it g (inr more) = (g.0 ++ t ∷ [], more ∙ ap (λ xs. xs ++ t ∷ []) g.1 ∙ append_assoc before g.0 (t ∷ []), either)
  where
    only : (u : ℕ) → has (t ∷ []) u ≡ true → these u ≡ true
    only u h = ap these (sym (has_one t u h)) ∙ it

    either : (u : ℕ) → has (g.0 ++ t ∷ []) u ≡ true → these u ≡ true
    either u h = elim (or_split (has g.0 u) (has (t ∷ []) u) (sym (list_any-append (λ w. w == u) g.0 (t ∷ [])) ∙ h)) [
      | inl old ↦ g.2 u old
      | inr new ↦ only u new
    ]

pub known_grown : (entries before now : List ℕ) (t u : ℕ) → Grown before now t → IsKnown entries before u → IsKnown entries now u
known_grown entries before now t u (inl same) known = subst (λ xs. IsKnown entries xs u) (sym same) known
known_grown entries before now t u (inr more) known = subst (λ xs. IsKnown entries xs u) (sym more) (known_still entries before (t ∷ []) u known)

-- no more were found than marks are set, which are no more than there may be entries
pub most_found : (entries : List ℕ) (w : Walk) → IsWalk entries w → w.found ≤ MAX_SUBMITS
most_found entries w h = omega (arith, h.count, h.marks, set_most w.marks)

pub got_taken : (xs : List ℕ) (n i : ℕ) → i < n → n ≤ length xs → slice_get (take n xs) i ≡ Some (get_or xs i 0)
got_taken [] n i h k = absurd (omega (arith, h, k))
got_taken (x ∷ xs) zero i h k = absurd (omega (arith, h))
got_taken (x ∷ xs) (suc n) zero h k = refl
got_taken (x ∷ xs) (suc n) (suc i) h k = got_taken xs n i (omega (arith, h)) (omega (arith, k))

nothing_told : (entries : List ℕ) (n p t : ℕ) → get_or (replicate n false) p false ≡ true → has [] t ≡ true
nothing_told entries n p t h = cc (sym (none_set n p) ∙ h)

-- a walk with no mark set found nobody
pub fresh_walk : (entries : List ℕ) (n : ℕ) → n ≡ MAX_SUBMITS → IsWalk entries record { marks = replicate n false; queue = replicate n 0; found = 0 }
fresh_walk entries n e = record {
  marks = length-replicate n false ∙ e;
  queue = length-replicate n 0 ∙ e;
  count = sym (set_none n);
  told = λ p t h at. nothing_told entries n p t h;
}
