-- A pass is taken back by the root.
use Rattle.std.proofs.Common.{◌≡◌, ◌≢◌, ℕ, ◌⊎◌, Bool, false, true≢false, not, Option, Some, None, List, length, set, refl, sym, ap, ◌∙◌, subst, inl, inr, ⊎_elim, arith, length-set}
use native.Mathlib.Decide.{ℕ_discrete}
use mathlib.Core.Logic.{dite}
use Rattle.atomic_table.specs.Table.{State, Joins}
use Rattle.atomic_table.proofs.Lists.{at_set, set_here, set_else}
use Rattle.hr_turn.specs.declared.view.View.{View}
use Rattle.hr_turn.specs.Entries.{Begins}
use Rattle.hr_turn.specs.Views.{spent_view, root_after_join, longer, shorter}
use Rattle.hr_turn.specs.Turns.{IsAt, IsHome, IsOut, Knows, IsBack, IsRoot, InTurns}
use Rattle.hr_turn.proofs.Lists.{begins_all, begins_longer, begins_whole, longer_cases, at_below, at_same, each_map, weight, count_set, count_some, calls_between}
use Rattle.hr_turn.proofs.Change.{has_ticket, is_live, known}

module _ {E : Type 0} where
  -- two beginnings of one list: the longer is a beginning of it, which begins with both and with the shorter
  pub longer_begins : (xs ys zs : List E) → Begins xs zs → Begins ys zs → Begins (longer xs ys) zs
  longer_begins xs ys zs a b = longer_cases (λ l o. Begins l zs) xs ys (λ _. b) (λ _. a)

  pub begins_first : (xs ys zs : List E) → Begins xs zs → Begins ys zs → Begins xs (longer xs ys)
  begins_first xs ys zs a b = longer_cases (λ l o. Begins xs l) xs ys (λ few. begins_longer xs ys zs a b few) (λ _. begins_all xs)

  pub begins_second : (xs ys zs : List E) → Begins xs zs → Begins ys zs → Begins ys (longer xs ys)
  begins_second xs ys zs a b = longer_cases (λ l o. Begins ys l) xs ys (λ _. begins_all ys) (λ few. begins_longer ys xs zs b a few)

  pub shorter_begins : (xs ys zs : List E) → Begins xs zs → Begins ys zs → Begins (shorter xs ys) (longer xs ys)
  shorter_begins xs ys zs a b = longer_cases (λ l o. Begins o l) xs ys (λ few. begins_longer xs ys zs a b few) (λ few. begins_longer ys xs zs b a few)

  -- and where one of them is the whole list, so is the longer
  pub longer_whole : (xs ys zs : List E) → Begins xs zs → Begins ys zs → (xs ≡ zs) ⊎ (ys ≡ zs) → longer xs ys ≡ zs
  longer_whole xs ys zs a b one = ⊎_elim
      (λ e. longer_cases (λ l o. l ≡ zs) xs ys (λ few. begins_whole ys zs b (omega (arith, ap length e))) (λ _. e))
      (λ e. longer_cases (λ l o. l ≡ zs) xs ys (λ _. e) (λ few. begins_whole xs zs a (omega (arith, ap length e))))
      one

module _ {S E : Type 0} (entries : S → List E) (caller : E → ℕ) (fixed : S → List ℕ) (about : List ℕ) where
  abbrev T : Type 0
  T = State (Option S) (View E)

  abbrev Holds : T → Type 0
  Holds = InTurns entries caller fixed about

  module _ (s : T) (h : Holds s) (v w : View E) (other : ℕ) (at : IsAt s.views 0 v) (there : IsAt s.views other w) (apart : other ≢ 0)
      (live : v.spent ≡ false) (out : v.inside ≡ false) (live_other : w.spent ≡ false) (out_other : w.inside ≡ false) (no_ticket : w.ticket ≡ None) where
    abbrev both : View E
    both = root_after_join v w

    abbrev halfway : List (View E)
    halfway = set s.views 0 both

    abbrev views : List (View E)
    views = set halfway other spent_view

    abbrev list : List E
    list = longer v.seen w.seen

    k : Knows caller about h.log h.served h.drawn 0 v
    k = known entries caller fixed about s h 0 v at live

    o : Knows caller about h.log h.served h.drawn other w
    o = known entries caller fixed about s h other w there live_other

    r : IsRoot caller h.log s.views v
    r = subst (IsRoot caller h.log s.views) (at_same s.views 0 h.root.0 v h.root.1.there at) h.root.1

    there_still : IsAt halfway other w
    there_still = set_else s.views 0 other both apart ∙ there

    -- who stands at a place now: the root, what is left of the other, or a third as before
    who : (P : ℕ → View E → Type 0) → P 0 both → P other spent_view → ((j : ℕ) (u : View E) → j ≢ 0 → j ≢ other → IsAt s.views j u → P j u) → (j : ℕ) (u : View E) → IsAt views j u → P j u
    who P root spent third j u is = ⊎_elim
        (λ (t : (j ≡ other) × (spent_view ≡ u)). subst (λ (x : ℕ × View E). P x.0 x.1) (λ i. (sym t.0 i, t.1 i)) spent)
        (λ (t : (j ≢ other) × IsAt halfway j u). ⊎_elim
        (λ (b : (j ≡ 0) × (both ≡ u)). subst (λ (x : ℕ × View E). P x.0 x.1) (λ i. (sym b.0 i, b.1 i)) root)
        (λ (b : (j ≢ 0) × IsAt s.views j u). third j u b.0 t.0 b.1)
        (at_set s.views 0 j both u t.1))
        (at_set halfway other j spent_view u is)

    root_there : IsAt views 0 both
    root_there = set_else halfway other 0 spent_view (λ e. apart (sym e)) ∙ set_here s.views 0 both (at_below s.views 0 v at)

    third_there : (j : ℕ) (u : View E) → j ≢ 0 → j ≢ other → IsAt s.views j u → IsAt views j u
    third_there j u n m is = set_else halfway other j spent_view m ∙ (set_else s.views 0 j both n ∙ is)

    spent_there : IsAt views other spent_view
    spent_there = set_here halfway other spent_view (at_below halfway other w there_still)

    long : length views ≡ length s.views
    long = length-set halfway other spent_view ∙ length-set s.views 0 both

    list_begins : Begins list h.log
    list_begins = longer_begins v.seen w.seen h.log k.seen o.seen

    root_knows : Knows caller about h.log h.served h.drawn 0 both
    root_knows = record {
      live = k.live;
      number = k.number;
      seen = list_begins;
      heard = shorter_begins v.seen w.seen h.log k.seen o.seen;
      mine = k.mine;
      own = calls_between caller 0 v.seen list h.log (begins_first v.seen w.seen h.log k.seen o.seen) list_begins (k.mine ∙ sym k.own) ∙ k.own;
      ticket = k.ticket;
      inside = λ i. absurd (true≢false (sym i ∙ out));
      fixed = k.fixed;
    }

    place' : IsHome entries caller fixed about h.log (record { words = s.words; homes = s.homes; views = views }) ⊎ IsOut entries caller fixed (record { words = s.words; homes = s.homes; views = views })
    place' = ⊎_elim
        (λ (p : IsHome entries caller fixed about h.log s). inl record {
          value = p.value;
          slot = p.slot;
          list = p.list;
          same = p.same;
          nobody = who (λ j u. u.inside ≡ false) out refl (λ j u n m is. p.nobody j u is);
        })
        (λ (p : IsOut entries caller fixed s). inr record {
          slot = p.slot;
          who = p.who;
          view = p.view;
          there = third_there p.who p.view (not_inside s p 0 v at out) (not_inside s p other w there out_other) p.there;
          inside = p.inside;
        })
        h.place
      where
        not_inside : (s : T) (p : IsOut entries caller fixed s) (j : ℕ) (u : View E) → IsAt s.views j u → u.inside ≡ false → p.who ≢ j
        not_inside s p j u is outside e = true≢false (sym p.inside ∙ ap (λ (x : View E). x.inside) (at_same s.views j p.view u (subst (λ (n : ℕ). IsAt s.views n p.view) e p.there) is) ∙ outside)

    passes' : (j : ℕ) (u : View E) → IsAt views j u → (u ≡ spent_view) ⊎ Knows caller about h.log h.served h.drawn j u
    passes' = who (λ j u. (u ≡ spent_view) ⊎ Knows caller about h.log h.served h.drawn j u) (inr root_knows) (inl refl) (λ j u n m is. h.passes j u is)

    -- the view that a pass with a ticket had before
    had : (j t : ℕ) (u : View E) → IsAt views j u → u.ticket ≡ Some t → (x : View E) × IsAt s.views j x × (x.ticket ≡ Some t)
    had j t = who (λ j u. u.ticket ≡ Some t → (x : View E) × IsAt s.views j x × (x.ticket ≡ Some t)) (λ e. (v, at, e)) (λ e. absurd (cc)) (λ j u n m is e. (u, is, e)) j

    apart' : (i j t : ℕ) (x y : View E) → IsAt views i x → IsAt views j y → x.ticket ≡ Some t → y.ticket ≡ Some t → i ≡ j
    apart' i j t x y a b e f = let p = had i t x a e in let q = had j t y b f in h.apart i j t p.0 q.0 p.1 q.1 p.2 q.2

    whole' : (j : ℕ) × (u : View E) × IsAt views j u × (u.spent ≡ false) × (u.seen ≡ h.log)
    whole' = dite (ℕ_discrete h.whole.0 0)
        (λ is. root_has (inl (seen_by 0 v at is)))
        (λ n. dite (ℕ_discrete h.whole.0 other)
        (λ is. root_has (inr (seen_by other w there is)))
        (λ m. (h.whole.0, h.whole.1, third_there h.whole.0 h.whole.1 n m h.whole.2, h.whole.3, h.whole.4)))
      where
        seen_by : (j : ℕ) (u : View E) → IsAt s.views j u → h.whole.0 ≡ j → u.seen ≡ h.log
        seen_by j u is e = ap (λ (x : View E). x.seen) (at_same s.views j u h.whole.1 is (subst (λ (n : ℕ). IsAt s.views n h.whole.1) e h.whole.2)) ∙ h.whole.4

        root_has : (v.seen ≡ h.log) ⊎ (w.seen ≡ h.log) → (j : ℕ) × (u : View E) × IsAt views j u × (u.spent ≡ false) × (u.seen ≡ h.log)
        root_has one = (0, both, root_there, live, longer_whole v.seen w.seen h.log k.seen o.seen one)

    -- a pass that was taken back before isn't the other
    back_else : (p : ℕ × List E) → IsBack caller h.log v.seen s.views p → p.0 ≢ other
    back_else p b is = true≢false (ap (λ (x : View E). x.spent) (at_same s.views other spent_view w (subst (λ (n : ℕ). IsAt s.views n spent_view) is b.spent) there) ∙ live_other)

    still_back : (p : ℕ × List E) → IsBack caller h.log v.seen s.views p → IsBack caller h.log list views p
    still_back p b = record {
      number = b.number;
      spent = let up = b.number in third_there p.0 spent_view (λ e. absurd (omega arith)) (back_else p b) b.spent;
      mine = b.mine;
      own = calls_between caller p.0 v.seen list h.log (begins_first v.seen w.seen h.log k.seen o.seen) list_begins (b.mine ∙ sym b.own) ∙ b.own;
    }

    other_back : IsBack caller h.log list views (w.number, w.mine)
    other_back = subst (λ (n : ℕ). IsBack caller h.log list views (n, w.mine)) (sym o.number) record {
      number = omega arith;
      spent = spent_there;
      mine = o.mine;
      own = calls_between caller other w.seen list h.log (begins_second v.seen w.seen h.log k.seen o.seen) list_begins (o.mine ∙ sym o.own) ∙ o.own;
    }

    root' : IsRoot caller h.log views both
    root' = record {
      there = root_there;
      live = live;
      splits = long ∙ r.splits;
      few = r.few;
      others =
          let a = count_set is_live s.views 0 v both at in
          let b = count_set is_live halfway other w spent_view there_still in
          let c : weight is_live w ≡ 1 = ap (λ (x : Bool). weight (λ (y : Bool). not y) x) live_other in
          let d = count_some is_live views 0 both root_there (ap not live) in
          let e = r.others in
          omega arith;
      joined = (other_back, each_map _ _ still_back v.joined r.joined);
      apart = (each_map (IsBack caller h.log v.seen s.views) (λ q. q.0 ≢ w.number) (λ q b e. back_else q b (e ∙ o.number)) v.joined r.joined, r.apart);
    }

    join_keeps : Holds record { words = s.words; homes = s.homes; views = views }
    join_keeps = record {
      log = h.log;
      drawn = h.drawn;
      served = h.served;
      words = h.words;
      out =
          let a = count_set has_ticket s.views 0 v both at in
          let b = count_set has_ticket halfway other w spent_view there_still in
          let c : weight has_ticket w ≡ 0 = ap (λ (x : Option ℕ). weight has_ticket (record w { ticket = x })) no_ticket in
          let d = h.out in
          omega arith;
      apart = apart';
      place = place';
      passes = passes';
      later = λ j far. h.later j (let n = long in omega arith);
      whole = whole';
      root = (both, root');
    }

  pub joins : (id : ℕ) (v : View E) (other : ℕ) (w : View E) → v.number ≡ 0 → v.spent ≡ false → v.inside ≡ false → w.spent ≡ false → w.inside ≡ false → w.ticket ≡ None
      → Joins Holds id v other w (root_after_join v w) spent_view
  joins id v other w root live out live_other out_other no_ticket s h at apart there =
      let is : id ≡ 0 = sym (known entries caller fixed about s h id v at live).number ∙ root in
      let before : IsAt s.views other w = sym (set_else s.views id other (root_after_join v w) apart) ∙ there in
      subst (λ (n : ℕ). Holds record { words = s.words; homes = s.homes; views = set (set s.views n (root_after_join v w)) other spent_view }) (sym is)
      (join_keeps s h v w other (subst (λ (n : ℕ). IsAt s.views n v) is at) before (λ e. apart (e ∙ sym is)) live out live_other out_other no_ticket)
