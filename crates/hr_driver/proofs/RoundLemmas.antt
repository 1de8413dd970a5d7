-- Choices one after another: those made so far, and one more.
use Rattle.std.proofs.Common.{◌≡◌, ℕ, zero, suc, ◌+◌, Option, Some, List, [], ◌∷◌, ◌++◌, length, map, take, slice_get, refl, ap, ◌∙◌, sym, subst, arith}
use Rattle.std.specs.Prelude.{IfSome}
use Rattle.std.specs.List.{range_with_len}
use Rattle.std.proofs.lemmas.List.{length-map}
use Rattle.hr_base.specs.Lists.{last_of}
use Rattle.hr_engine.specs.Journal.{Journal}
use Rattle.hr_engine.specs.Backend.{Standing}
use Rattle.hr_history.specs.History.{History}
use Rattle.hr_records.proofs.Options.{same_some, some_none}
use Rattle.hr_ledger.specs.Chronicle.{Chronicle, history_in}
use Rattle.hr_core.specs.Turns.{IsSameSize}
use Rattle.hr_said.specs.declared.scenario.Scenario.{Scenario}
use Rattle.hr_schedule.specs.declared.attempt.Try.{Try}
use Rattle.hr_schedule.specs.Choices.{Making, Each, Times}
use Rattle.hr_driver.specs.Made.{Made, AreSameJournals, AreSameTries}
use Rattle.hr_driver.specs.Whole.{IsUnder, AreAll, StandOn}

each_more : {X : Type 0} (Of : X → Making) (xs : List X) (x : X) (a m b : History) → Each Of xs a m → Of x m b → Each Of (xs ++ x ∷ []) a b
each_more Of [] x a m b same last = (b, subst (λ h. Of x h b) same last, refl)
each_more Of (y ∷ xs) x a m b front last = (front.0, front.1, each_more Of xs x front.0 m b front.2 last)

next : (n : ℕ) → suc n ≡ n + 1
next n = omega arith

range_longer : (a n j : ℕ) → a + n ≡ j → range_with_len a (suc n) ≡ range_with_len a n ++ j ∷ []
range_longer a zero j e = let same : a ≡ j = omega (arith, e) in ap (λ k. k ∷ []) same
range_longer a (suc n) j e = ap (λ xs. a ∷ xs) (range_longer (a + 1) n j (omega (arith, e)))

range_more : (a n j : ℕ) → a + n ≡ j → range_with_len a n ++ j ∷ [] ≡ range_with_len a (n + 1)
range_more a n j e = sym (range_longer a n j e) ∙ ap (range_with_len a) (next n)

-- `Each` goes on at its end
pub made_more : (Of : ℕ → Making) (first n last : ℕ) (a m b : Chronicle) → first + n ≡ last → Made (Each Of (range_with_len first n)) a m → Made (Of last) m b → Made (Each Of (range_with_len first (n + 1))) a b
made_more Of first n last a m b e front made = record {
  size = record { f = made.size.f ∙ front.size.f; sessions = made.size.sessions ∙ front.size.sessions };
  made = subst (λ xs. Each Of xs (history_in a) (history_in b)) (range_more first n last e) (each_more Of (range_with_len first n) last (history_in a) (history_in m) (history_in b) front.made made.made);
}

-- so does `Times`
pub times_more : (Once : Making) (k : ℕ) (a m b : Chronicle) → Made (Times Once k) a m → Made Once m b → Made (Times Once (k + 1)) a b
times_more Once k a m b front made = record {
  size = record { f = made.size.f ∙ front.size.f; sessions = made.size.sessions ∙ front.size.sessions };
  made = subst (λ n. Times Once n (history_in a) (history_in b)) (next k) (history_in m, front.made, made.made);
}

-- ---- a list of choices

take_longer : {X : Type 0} (xs : List X) (i : ℕ) (x : X) → slice_get xs i ≡ Some x → take i xs ++ x ∷ [] ≡ take (suc i) xs
take_longer [] i x e = absurd (some_none x (sym e))
take_longer (y ∷ xs) zero x e = ap (λ z. z ∷ []) (sym (same_some y x e))
take_longer (y ∷ xs) (suc i) x e = ap (λ zs. y ∷ zs) (take_longer xs i x e)

pub made_next : {X : Type 0} (Of : X → Making) (xs : List X) (i : ℕ) (x : X) (a m b : Chronicle) → slice_get xs i ≡ Some x → Made (Each Of (take i xs)) a m → Made (Of x) m b → Made (Each Of (take (i + 1) xs)) a b
made_next Of xs i x a m b e front made = record {
  size = record { f = made.size.f ∙ front.size.f; sessions = made.size.sessions ∙ front.size.sessions };
  made = subst (λ ys. Each Of ys (history_in a) (history_in b)) (take_longer xs i x e ∙ ap (λ n. take n xs) (next i)) (each_more Of (take i xs) x (history_in a) (history_in m) (history_in b) front.made made.made);
}

-- ---- what stands where journals or tries do

pub under_left : (sc : Scenario) (tries : List (Option Try)) (c d : Chronicle) → IsUnder sc tries c → IsSameSize c d → AreSameTries c d → IsUnder sc tries d
under_left sc tries c d under size same = record {
  f = size.f ∙ under.f;
  sessions = size.sessions ∙ under.sessions;
  many = under.many;
  last = λ s first last. under.last s first last ∙ ap (λ (ts : List Try). Some (last_of ts)) (sym (same sc.retries s));
}

pub all_left : {X Y : Type 0} (f : X → Y) (sc : Scenario) (xs ys : List X) → AreAll sc xs → map f ys ≡ map f xs → AreAll sc ys
all_left f sc xs ys all same = sym (length-map ys f) ∙ ap length same ∙ length-map xs f ∙ all

pub stand_left : {X : Type 0} (stands : X → Standing) (xs : List X) (c d : Chronicle) → AreSameJournals c d → StandOn stands xs xs c d
stand_left stands xs c d same = λ r start stood. subst (λ (j : Journal). IfSome (slice_get xs r) (λ b. stands b start j)) (sym (same r)) stood
