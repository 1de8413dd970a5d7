-- A pass is split off the root.
use Rattle.std.proofs.Common.{◌≡◌, ◌≢◌, ℕ, ◌+◌, ◌^◌, ◌<◌, ◌⊎◌, false, true≢false, Option, Some, List, [], ◌∷◌, ◌++◌, length, set, refl, sym, ap, ◌∙◌, subst, inl, inr, ⊎_elim, arith, length-append, length-set}
use native.Mathlib.Decide.{ℕ_discrete}
use mathlib.Core.Logic.{dite}
use Rattle.atomic_table.specs.Table.{State, Splits}
use Rattle.atomic_table.proofs.Lists.{at_set, set_here, set_else, at_longer}
use Rattle.hr_turn.specs.declared.view.View.{View}
use Rattle.hr_turn.specs.Views.{spent_view, root_after_split, split_off}
use Rattle.hr_turn.specs.Turns.{IsAt, IsHome, IsOut, Knows, IsBack, IsRoot, InTurns}
use Rattle.hr_turn.proofs.Lists.{at_below, at_same, at_end, each_map, count_set, count_last, calls_none}
use Rattle.hr_turn.proofs.Change.{has_ticket, is_live, known}

module _ {S E : Type 0} (entries : S → List E) (caller : E → ℕ) (fixed : S → List ℕ) (about : List ℕ) where
  abbrev T : Type 0
  T = State (Option S) (View E)

  abbrev Holds : T → Type 0
  Holds = InTurns entries caller fixed about

  module _ (s : T) (h : Holds s) (v : View E) (at : IsAt s.views 0 v) (live : v.spent ≡ false) (room : v.splits < 2 ^ 32) where
    left : View E
    left = root_after_split v

    right : View E
    right = split_off v

    views : List (View E)
    views = set s.views 0 (root_after_split v) ++ split_off v ∷ []

    k : Knows caller about h.log h.served h.drawn 0 v
    k = known entries caller fixed about s h 0 v at live

    r : IsRoot caller h.log s.views v
    r = subst (IsRoot caller h.log s.views) (at_same s.views 0 h.root.0 v h.root.1.there at) h.root.1

    -- who stands at a place now: the root, another as before, or the new pass
    who : (P : ℕ → View E → Type 0) → P 0 (root_after_split v) → ((j : ℕ) (u : View E) → j ≢ 0 → IsAt s.views j u → P j u) → P (length s.views) (split_off v)
        → (j : ℕ) (u : View E) → IsAt (set s.views 0 (root_after_split v) ++ split_off v ∷ []) j u → P j u
    who P root other new j u there = ⊎_elim
        (λ (before : IsAt (set s.views 0 (root_after_split v)) j u). ⊎_elim
        (λ (t : (j ≡ 0) × (root_after_split v ≡ u)). subst (λ (x : ℕ × View E). P x.0 x.1) (λ i. (sym t.0 i, t.1 i)) root)
        (λ (t : (j ≢ 0) × IsAt s.views j u). other j u t.0 t.1)
        (at_set s.views 0 j (root_after_split v) u before))
        (λ (t : (j ≡ length (set s.views 0 (root_after_split v))) × (split_off v ≡ u)).
        subst (λ (x : ℕ × View E). P x.0 x.1) (λ i. (sym (t.0 ∙ length-set s.views 0 (root_after_split v)) i, t.1 i)) new)
        (at_end (set s.views 0 (root_after_split v)) (split_off v) u j there)

    stays : (j : ℕ) (u : View E) → j ≢ 0 → IsAt s.views j u → IsAt (set s.views 0 (root_after_split v) ++ split_off v ∷ []) j u
    stays j u n there = at_longer (set s.views 0 (root_after_split v)) (split_off v ∷ []) j u (set_else s.views 0 j (root_after_split v) n ∙ there)

    root_there : IsAt (set s.views 0 (root_after_split v) ++ split_off v ∷ []) 0 (root_after_split v)
    root_there = at_longer (set s.views 0 (root_after_split v)) (split_off v ∷ []) 0 (root_after_split v) (set_here s.views 0 (root_after_split v) (at_below s.views 0 v at))

    long : length (set s.views 0 (root_after_split v) ++ split_off v ∷ []) ≡ length s.views + 1
    long = let a = length-append (set s.views 0 (root_after_split v)) (split_off v ∷ []) in let b = length-set s.views 0 (root_after_split v) in omega arith

    root_knows : Knows caller about h.log h.served h.drawn 0 (root_after_split v)
    root_knows = record { live = k.live; number = k.number; seen = k.seen; heard = k.heard; mine = k.mine; own = k.own; ticket = k.ticket; inside = k.inside; fixed = k.fixed }

    new_knows : Knows caller about h.log h.served h.drawn (length s.views) (split_off v)
    new_knows = let none = h.later (length s.views) (omega arith) in record {
      live = refl;
      number = sym r.splits;
      seen = k.seen;
      heard = (v.seen, refl);
      mine = none;
      own = calls_none caller (length s.views) v.seen h.log k.seen none;
      ticket = λ t e. absurd (cc);
      inside = λ i. absurd (true≢false (sym i));
      fixed = k.fixed;
    }

    place' : IsHome entries caller fixed about h.log (record { words = s.words; homes = s.homes; views = set s.views 0 (root_after_split v) ++ split_off v ∷ [] })
        ⊎ IsOut entries caller fixed (record { words = s.words; homes = s.homes; views = set s.views 0 (root_after_split v) ++ split_off v ∷ [] })
    place' = ⊎_elim
        (λ (p : IsHome entries caller fixed about h.log s). inl record {
          value = p.value;
          slot = p.slot;
          list = p.list;
          same = p.same;
          nobody = who (λ j u. u.inside ≡ false) (p.nobody 0 v at) (λ j u n there. p.nobody j u there) refl;
        })
        (λ (p : IsOut entries caller fixed s). dite (ℕ_discrete p.who 0)
        (λ is. let same = at_same s.views 0 p.view v (subst (λ (j : ℕ). IsAt s.views j p.view) is p.there) at in
        inr record { slot = p.slot; who = 0; view = root_after_split v; there = root_there; inside = ap (λ (x : View E). x.inside) (sym same) ∙ p.inside })
        (λ n. inr record { slot = p.slot; who = p.who; view = p.view; there = stays p.who p.view n p.there; inside = p.inside }))
        h.place

    passes' : (j : ℕ) (u : View E) → IsAt (set s.views 0 (root_after_split v) ++ split_off v ∷ []) j u → (u ≡ spent_view) ⊎ Knows caller about h.log h.served h.drawn j u
    passes' = who (λ j u. (u ≡ spent_view) ⊎ Knows caller about h.log h.served h.drawn j u) (inr root_knows) (λ j u n there. h.passes j u there) (inr new_knows)

    -- the view that a pass with a ticket had before
    had : (j t : ℕ) (u : View E) → IsAt (set s.views 0 (root_after_split v) ++ split_off v ∷ []) j u → u.ticket ≡ Some t → (x : View E) × IsAt s.views j x × (x.ticket ≡ Some t)
    had j t = who (λ j u. u.ticket ≡ Some t → (x : View E) × IsAt s.views j x × (x.ticket ≡ Some t)) (λ e. (v, at, e)) (λ j u n there e. (u, there, e)) (λ e. absurd (cc)) j

    apart' : (i j t : ℕ) (x y : View E) → IsAt (set s.views 0 (root_after_split v) ++ split_off v ∷ []) i x → IsAt (set s.views 0 (root_after_split v) ++ split_off v ∷ []) j y → x.ticket ≡ Some t → y.ticket ≡ Some t → i ≡ j
    apart' i j t x y a b e f = let p = had i t x a e in let q = had j t y b f in h.apart i j t p.0 q.0 p.1 q.1 p.2 q.2

    whole' : (j : ℕ) × (u : View E) × IsAt (set s.views 0 (root_after_split v) ++ split_off v ∷ []) j u × (u.spent ≡ false) × (u.seen ≡ h.log)
    whole' = let t = h.whole in dite (ℕ_discrete t.0 0)
        (λ is. let same = at_same s.views 0 t.1 v (subst (λ (j : ℕ). IsAt s.views j t.1) is t.2) at in (0, root_after_split v, root_there, live, ap (λ (x : View E). x.seen) (sym same) ∙ t.4))
        (λ n. (t.0, t.1, stays t.0 t.1 n t.2, t.3, t.4))

    still_back : (p : ℕ × List E) → IsBack caller h.log v.seen s.views p → IsBack caller h.log v.seen (set s.views 0 (root_after_split v) ++ split_off v ∷ []) p
    still_back p b = record {
      number = b.number;
      spent = let up = b.number in stays p.0 spent_view (λ e. absurd (omega arith)) b.spent;
      mine = b.mine;
      own = b.own;
    }

    root' : IsRoot caller h.log (set s.views 0 (root_after_split v) ++ split_off v ∷ []) (root_after_split v)
    root' = record {
      there = root_there;
      live = live;
      splits = long ∙ ap (λ (n : ℕ). n + 1) r.splits;
      few = omega arith;
      others =
          let a = count_last is_live (set s.views 0 (root_after_split v)) (split_off v) in
          let b = count_set is_live s.views 0 v (root_after_split v) at in
          let d = r.others in
          omega arith;
      joined = each_map _ _ still_back v.joined r.joined;
      apart = r.apart;
    }

    split_keeps : Holds record { words = s.words; homes = s.homes; views = set s.views 0 (root_after_split v) ++ split_off v ∷ [] }
    split_keeps = record {
      log = h.log;
      drawn = h.drawn;
      served = h.served;
      words = h.words;
      out =
          let a = count_last has_ticket (set s.views 0 (root_after_split v)) (split_off v) in
          let b = count_set has_ticket s.views 0 v (root_after_split v) at in
          let d = h.out in
          omega arith;
      apart = apart';
      place = place';
      passes = passes';
      later = λ j far. h.later j (let n = long in omega arith);
      whole = whole';
      root = (root_after_split v, root');
    }

  pub splits : (id : ℕ) (v : View E) → v.number ≡ 0 → v.spent ≡ false → v.splits < 2 ^ 32 → Splits Holds id v (root_after_split v) (split_off v)
  splits id v root live room s h at =
      let is : id ≡ 0 = sym (known entries caller fixed about s h id v at live).number ∙ root in
      subst (λ (n : ℕ). Holds record { words = s.words; homes = s.homes; views = set s.views n (root_after_split v) ++ split_off v ∷ [] }) (sym is)
      (split_keeps s h v (subst (λ (n : ℕ). IsAt s.views n v) is at) live room)
