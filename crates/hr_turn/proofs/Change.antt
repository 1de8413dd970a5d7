-- The step of one pass keeps the rule, where its view changes in one of the ways that a turn has.
use Rattle.std.proofs.Common.{◌≡◌, ◌≢◌, ℕ, ◌+◌, ◌%◌, ◌^◌, ◌≤◌, ◌⊎◌, Bool, true, false, true≢false, not, is_some, Option, Some, None, List, [], ◌∷◌, ◌++◌, length, set, count_by, refl, sym, ap, ◌∙◌, subst, inl, inr, ⊎_elim, arith, append-nil, length-set}
use native.Mathlib.Decide.{ℕ_discrete}
use mathlib.Core.Logic.{dite}
use mathlib.Core.Option as m
use Rattle.atomic_table.specs.Table.{State}
use Rattle.atomic_table.proofs.Lists.{at_set, set_here, set_else}
use Rattle.hr_turn.specs.declared.view.View.{View}
use Rattle.hr_turn.specs.Entries.{Begins, Each, calls_by}
use Rattle.hr_turn.specs.Views.{spent_view}
use Rattle.hr_turn.specs.Turns.{IsAt, Differ, IsHome, IsOut, Knows, IsBack, IsRoot, InTurns}
use Rattle.hr_turn.specs.Steps.{AreBack}
use Rattle.hr_turn.proofs.Lists.{begins_then, at_below, at_same, each_map, weight, count_set, calls-append, calls_other, calls_between}

module _ {E : Type 0} where
  abbrev pub has_ticket : View E → Bool
  has_ticket v = is_some v.ticket

  abbrev pub is_live : View E → Bool
  is_live v = not v.spent

-- what the root keeps of the passes taken back, as it is told to callers
pub are_back : {E : Type 0} (caller : E → ℕ) (log : List E) (views : List (View E)) (v : View E) → IsRoot caller log views v → AreBack caller v
are_back caller log views v r = (
  each_map _ _ (λ p k. (k.number, (let inside = at_below views p.0 spent_view k.spent in let n = r.splits in omega arith), k.own)) v.joined r.joined,
  r.apart,
)

module _ {S E : Type 0} (entries : S → List E) (caller : E → ℕ) (fixed : S → List ℕ) (about : List ℕ) where
  abbrev pub Rule : State (Option S) (View E) → Type 0
  Rule = InTurns entries caller fixed about

  -- a pass that was not taken back knows what it has to
  pub known : (s : State (Option S) (View E)) (h : Rule s) (j : ℕ) (v : View E) → IsAt s.views j v → v.spent ≡ false → Knows caller about h.log h.served h.drawn j v
  known s h j v at live = ⊎_elim (λ (e : v ≡ spent_view). absurd (true≢false (sym (ap (λ (u : View E). u.spent) e) ∙ live))) (λ k. k) (h.passes j v at)

  -- One pass's view goes from v to w, and the list grows by entries of its number. What else the step does, in small facts
  pub record Change (s : State (Option S) (View E)) (h : Rule s) (id : ℕ) (v w : View E) (more : List E) (drawn served : ℕ) : Type 0 where
    pub there : IsAt s.views id v
    pub live : v.spent ≡ false
    pub own : Each (λ e. caller e ≡ id) more
    pub out : drawn + h.served + weight has_ticket v ≡ h.drawn + served + weight has_ticket w
    pub drawn_more : h.drawn ≤ drawn
    pub unserved : (j t : ℕ) (u : View E) → j ≢ id → IsAt s.views j u → u.ticket ≡ Some t → served ≤ t
    pub alone : (j : ℕ) (u : View E) → j ≢ id → IsAt s.views j u → u.inside ≡ true → (served ≡ h.served) × (more ≡ [])
    pub knows : Knows caller about (h.log ++ more) served drawn id w
    pub ticket : (t : ℕ) → w.ticket ≡ Some t → (v.ticket ≡ Some t) ⊎ (h.drawn ≤ t)
    pub seen : Begins v.seen w.seen
    pub whole : (w.seen ≡ h.log ++ more) ⊎ ((more ≡ []) × (w.seen ≡ v.seen))
    pub root : (w.splits ≡ v.splits) × (w.others ≡ v.others) × (w.joined ≡ v.joined)

  module _ (s : State (Option S) (View E)) (h : Rule s) (id : ℕ) (v w : View E) (more : List E) (drawn served : ℕ) (c : Change s h id v w more drawn served) where
    log : List E
    log = h.log ++ more

    views : List (View E)
    views = set s.views id w

    others_calls : (j : ℕ) → j ≢ id → calls_by caller j (h.log ++ more) ≡ calls_by caller j h.log
    others_calls j n = calls-append caller j h.log more ∙ ap (λ (l : List E). calls_by caller j h.log ++ l) (calls_other caller id j more c.own n) ∙ append-nil (calls_by caller j h.log)

    -- another pass knows what it did
    other_knows : (j : ℕ) (u : View E) → j ≢ id → IsAt s.views j u → Knows caller about h.log h.served h.drawn j u → Knows caller about (h.log ++ more) served drawn j u
    other_knows j u n at k = record {
      live = k.live;
      number = k.number;
      seen = begins_then u.seen h.log (h.log ++ more) k.seen (more, refl);
      heard = k.heard;
      mine = others_calls j n ∙ k.mine;
      own = k.own;
      ticket = λ t e. (c.unserved j t u n at e, (let below = (k.ticket t e).1 in let up = c.drawn_more in omega arith));
      inside = λ i. let o = c.alone j u n at i in
          ((k.inside i).0 ∙ sym (served_is o.0), (k.inside i).1 ∙ sym (ap (λ (l : List E). h.log ++ l) o.1 ∙ append-nil h.log));
      fixed = k.fixed;
    }
      where
        served_is : served ≡ h.served → Some served ≡ Some h.served
        served_is e = λ i. Some (e i)

    each_knows : (j : ℕ) (u : View E) → IsAt (set s.views id w) j u → (u ≡ spent_view) ⊎ Knows caller about (h.log ++ more) served drawn j u
    each_knows j u at = ⊎_elim
        (λ (t : (j ≡ id) × (w ≡ u)). inr (subst (λ (x : ℕ × View E). Knows caller about (h.log ++ more) served drawn x.0 x.1) (λ i. (sym t.0 i, t.1 i)) c.knows))
        (λ (t : (j ≢ id) × IsAt s.views j u). ⊎_elim (λ (e : u ≡ spent_view). inl e) (λ k. inr (other_knows j u t.0 t.1 k)) (h.passes j u t.1))
        (at_set s.views id j w u at)

    -- a ticket of the changed pass is with no other
    new_apart : (j t : ℕ) (u : View E) → j ≢ id → IsAt s.views j u → w.ticket ≡ Some t → u.ticket ≡ Some t → ⊥
    new_apart j t u n at mine theirs = ⊎_elim
        (λ (e : v.ticket ≡ Some t). n (h.apart j id t u v at c.there theirs e))
        (λ (far : h.drawn ≤ t). ⊎_elim
        (λ (e : u ≡ spent_view). let none : None ≡ Some t = sym (ap (λ (x : View E). x.ticket) e) ∙ theirs in absurd (cc))
        (λ (k : Knows caller about h.log h.served h.drawn j u). let below = (k.ticket t theirs).1 in absurd (omega arith))
        (h.passes j u at))
        (c.ticket t mine)

    apart' : (i j t : ℕ) (x y : View E) → IsAt (set s.views id w) i x → IsAt (set s.views id w) j y → x.ticket ≡ Some t → y.ticket ≡ Some t → i ≡ j
    apart' i j t x y at there first second = ⊎_elim
        (λ (a : (i ≡ id) × (w ≡ x)). ⊎_elim
        (λ (b : (j ≡ id) × (w ≡ y)). a.0 ∙ sym b.0)
        (λ (b : (j ≢ id) × IsAt s.views j y). absurd (new_apart j t y b.0 b.1 (ap (λ (z : View E). z.ticket) a.1 ∙ first) second))
        (at_set s.views id j w y there))
        (λ (a : (i ≢ id) × IsAt s.views i x). ⊎_elim
        (λ (b : (j ≡ id) × (w ≡ y)). absurd (new_apart i t x a.0 a.1 (ap (λ (z : View E). z.ticket) b.1 ∙ second) first))
        (λ (b : (j ≢ id) × IsAt s.views j y). h.apart i j t x y a.1 b.1 first second)
        (at_set s.views id j w y there))
        (at_set s.views id i w x at)

    whole' : (j : ℕ) × (u : View E) × IsAt (set s.views id w) j u × (u.spent ≡ false) × (u.seen ≡ h.log ++ more)
    whole' = ⊎_elim (λ (e : w.seen ≡ h.log ++ more). mine e) (λ (t : (more ≡ []) × (w.seen ≡ v.seen)). same t.0 t.1) c.whole
      where
        mine : w.seen ≡ h.log ++ more → (j : ℕ) × (u : View E) × IsAt (set s.views id w) j u × (u.spent ≡ false) × (u.seen ≡ h.log ++ more)
        mine e = (id, w, set_here s.views id w (at_below s.views id v c.there), c.knows.live, e)

        same : more ≡ [] → w.seen ≡ v.seen → (j : ℕ) × (u : View E) × IsAt (set s.views id w) j u × (u.spent ≡ false) × (u.seen ≡ h.log ++ more)
        same none e =
            let all : h.log ≡ h.log ++ more = sym (ap (λ (l : List E). h.log ++ l) none ∙ append-nil h.log) in
            let t = h.whole in
            dite (ℕ_discrete t.0 id)
            (λ is. mine (e ∙ ap (λ (x : View E). x.seen) (at_same s.views id v t.1 c.there (subst (λ (k : ℕ). IsAt s.views k t.1) is t.2)) ∙ t.4 ∙ all))
            (λ n. (t.0, t.1, set_else s.views id t.0 w n ∙ t.2, t.3, t.4 ∙ all))

    -- a pass that was taken back isn't the changed one
    back_else : (p : ℕ × List E) → IsAt s.views p.0 spent_view → p.0 ≢ id
    back_else p there is = true≢false (ap (λ (x : View E). x.spent) (at_same s.views id spent_view v (subst (λ (k : ℕ). IsAt s.views k spent_view) is there) c.there) ∙ c.live)

    -- what the root keeps stays, where it has seen no less
    still_back : (seen now : List E) → Begins seen now → Begins now (h.log ++ more) → (p : ℕ × List E) → IsBack caller h.log seen s.views p → IsBack caller (h.log ++ more) now (set s.views id w) p
    still_back seen now a b p k = let n = back_else p k.spent in record {
      number = k.number;
      spent = set_else s.views id p.0 w n ∙ k.spent;
      mine = others_calls p.0 n ∙ k.mine;
      own = calls_between caller p.0 seen now (h.log ++ more) a b (others_calls p.0 n ∙ k.mine ∙ sym k.own) ∙ k.own;
    }

    live_still : count_by is_live (set s.views id w) ≡ count_by is_live s.views
    live_still =
        let n = count_set is_live s.views id v w c.there in
        let a : weight is_live v ≡ 1 = ap (λ (b : Bool). weight (λ (x : Bool). not x) b) c.live in
        let b : weight is_live w ≡ 1 = ap (λ (b : Bool). weight (λ (x : Bool). not x) b) c.knows.live in
        omega arith

    root' : (u : View E) × IsRoot caller (h.log ++ more) (set s.views id w) u
    root' = dite (ℕ_discrete 0 id) (λ is. changed_root is) (λ n. same_root n)
      where
        r : IsRoot caller h.log s.views h.root.0
        r = h.root.1

        changed_root : 0 ≡ id → (u : View E) × IsRoot caller (h.log ++ more) (set s.views id w) u
        changed_root is =
            let same : h.root.0 ≡ v = at_same s.views id h.root.0 v (subst (λ (k : ℕ). IsAt s.views k h.root.0) is r.there) c.there in
            let o = c.root in (
              w,
              record {
                there = subst (λ (k : ℕ). IsAt (set s.views id w) k w) (sym is) (set_here s.views id w (at_below s.views id v c.there));
                live = c.knows.live;
                splits = length-set s.views id w ∙ r.splits ∙ ap (λ (x : View E). x.splits + 1) same ∙ ap (λ (n : ℕ). n + 1) (sym o.0);
                few = subst (λ (n : ℕ). n ≤ 2 ^ 32) (ap (λ (x : View E). x.splits) same ∙ sym o.0) r.few;
                others = live_still ∙ r.others ∙ ap (λ (x : View E). x.others + 1) same ∙ ap (λ (n : ℕ). n + 1) (sym o.1);
                joined = subst (Each (IsBack caller (h.log ++ more) w.seen (set s.views id w))) (ap (λ (x : View E). x.joined) same ∙ sym o.2)
                    (each_map _ _ (still_back h.root.0.seen w.seen (subst (λ (x : View E). Begins x.seen w.seen) (sym same) c.seen) c.knows.seen) h.root.0.joined r.joined);
                apart = subst Differ (ap (λ (x : View E). x.joined) same ∙ sym o.2) r.apart;
              },
            )

        same_root : 0 ≢ id → (u : View E) × IsRoot caller (h.log ++ more) (set s.views id w) u
        same_root n = (
          h.root.0,
          record {
            there = set_else s.views id 0 w n ∙ r.there;
            live = r.live;
            splits = length-set s.views id w ∙ r.splits;
            few = r.few;
            others = live_still ∙ r.others;
            joined = each_map _ _ (still_back h.root.0.seen h.root.0.seen ([], sym (append-nil h.root.0.seen)) (begins_then h.root.0.seen h.log (h.log ++ more) (known s h 0 h.root.0 r.there r.live).seen (more, refl))) h.root.0.joined r.joined;
            apart = r.apart;
          },
        )

    pub changed : (words : List ℕ) (homes : List (m.Option (Option S))) → words ≡ drawn % 2 ^ 64 ∷ served % 2 ^ 64 ∷ []
        → IsHome entries caller fixed about (h.log ++ more) (record { words = words; homes = homes; views = set s.views id w }) ⊎ IsOut entries caller fixed (record { words = words; homes = homes; views = set s.views id w })
        → Rule record { words = words; homes = homes; views = set s.views id w }
    changed words homes are place = record {
      log = h.log ++ more;
      drawn = drawn;
      served = served;
      words = are;
      out = let n = count_set has_ticket s.views id v w c.there in let a = c.out in let b = h.out in omega arith;
      apart = apart';
      place = place;
      passes = each_knows;
      later = λ j far. let few : length s.views ≤ j = subst (λ (n : ℕ). n ≤ j) (length-set s.views id w) far in
          others_calls j (λ is. let inside = at_below s.views id v c.there in absurd (omega arith)) ∙ h.later j few;
      whole = whole';
      root = root';
    }
