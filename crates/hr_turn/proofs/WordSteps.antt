-- The four steps on words: a ticket is drawn, the pass looks whose turn it is, the next is served, and the root settles a join.
use Rattle.std.proofs.Common.{◌≡◌, ◌≢◌, ℕ, ◌+◌, ◌%◌, ◌^◌, ◌<◌, ◌≤◌, ◌⊎◌, Bool, true, false, true≢false, Option, Some, None, List, [], ◌∷◌, ◌++◌, set, slice_index, refl, sym, ap, ◌∙◌, subst, inl, inr, ⊎_elim, arith, append-nil}
use Rattle.std.proofs.Math.Nat.{mod-add-mod}
use native.Mathlib.Decide.{ℕ_discrete}
use mathlib.Core.Logic.{dite}
use mathlib.Core.Option as m
use lib.ListN.{get_elem?}
use Rattle.atomic_table.specs.Table.{State, Me, Act, Valid, step, keeps, takes, gives, stepped, put_back, rest, carried_after, Allows}
use Rattle.atomic_table.proofs.Lists.{at_set, set_here, set_else, one_turn}
use Rattle.hr_turn.specs.declared.view.View.{View}
use Rattle.hr_turn.specs.Entries.{Begins, Each, calls_by}
use Rattle.hr_turn.specs.Views.{spent_view, with_ticket, inside_at, outside_after, settled_view}
use Rattle.hr_turn.specs.Turns.{IsAt, IsHome, IsOut, Knows, IsRoot, InTurns}
use Rattle.hr_turn.specs.Steps.{AreBack, Draws, TakesTurn, Looks, Serves, Settles}
use Rattle.hr_turn.proofs.Lists.{begins_all, begins_then, at_below, at_same, each_map, weight, count_few, calls-append, calls_own}
use Rattle.hr_turn.proofs.Change.{has_ticket, known, are_back, Change, changed}

module _ {S E : Type 0} (entries : S → List E) (caller : E → ℕ) (fixed : S → List ℕ) (about : List ℕ) where
  abbrev T : Type 0
  T = State (Option S) (View E)

  abbrev Holds : T → Type 0
  Holds = InTurns entries caller fixed about

  -- each ticket of a pass is out
  is_out : (s : T) (h : Holds s) (j t : ℕ) (u : View E) → IsAt s.views j u → u.ticket ≡ Some t → (h.served ≤ t) × (t < h.drawn)
  is_out s h j t u at e = ⊎_elim
      (λ (g : u ≡ spent_view). let no : None ≡ Some t = sym (ap (λ (x : View E). x.ticket) g) ∙ e in let none : ⊥ = cc in absurd none)
      (λ (g : Knows caller about h.log h.served h.drawn j u). g.ticket t e)
      (h.passes j u at)

  module _ (s : T) (h : Holds s) (id : ℕ) (v : View E) (at : IsAt s.views id v) where
    -- nobody else comes in where this view isn't inside
    home_still : (w : View E) (words : List ℕ) (log : List E) → w.inside ≡ false → log ≡ h.log → IsHome entries caller fixed about h.log s → IsHome entries caller fixed about log (record { words = words; homes = s.homes; views = set s.views id w })
    home_still w words log out same p = record {
      value = p.value;
      slot = p.slot;
      list = p.list ∙ sym same;
      same = p.same;
      nobody = λ j u there. ⊎_elim
          (λ (t : (j ≡ id) × (w ≡ u)). sym (ap (λ (x : View E). x.inside) t.1) ∙ out)
          (λ (t : (j ≢ id) × IsAt s.views j u). p.nobody j u t.1)
          (at_set s.views id j w u there);
    }

    out_still : (w : View E) (words : List ℕ) → v.inside ≡ w.inside → IsOut entries caller fixed s → IsOut entries caller fixed (record { words = words; homes = s.homes; views = set s.views id w })
    out_still w words same p = dite (ℕ_discrete p.who id)
        (λ is. let mine = at_same s.views id p.view v (subst (λ (k : ℕ). IsAt s.views k p.view) is p.there) at in record {
          slot = p.slot;
          who = id;
          view = w;
          there = set_here s.views id w (at_below s.views id v at);
          inside = sym same ∙ ap (λ (x : View E). x.inside) (sym mine) ∙ p.inside;
        })
        (λ n. record { slot = p.slot; who = p.who; view = p.view; there = set_else s.views id p.who w n ∙ p.there; inside = p.inside })

    place_still : (w : View E) (words : List ℕ) (log : List E) → v.inside ≡ w.inside → log ≡ h.log
        → IsHome entries caller fixed about log (record { words = words; homes = s.homes; views = set s.views id w }) ⊎ IsOut entries caller fixed (record { words = words; homes = s.homes; views = set s.views id w })
    place_still w words log same all = ⊎_elim
        (λ p. inl (home_still w words log (sym same ∙ p.nobody id v at) all p))
        (λ p. inr (out_still w words same p))
        h.place

  -- the words, where word 0 or 1 goes up
  drawn_word : (ws : List ℕ) (d n : ℕ) → ws ≡ d % 2 ^ 64 ∷ n % 2 ^ 64 ∷ [] → set ws 0 ((slice_index ws 0 + 1) % 2 ^ 64) ≡ (d + 1) % 2 ^ 64 ∷ n % 2 ^ 64 ∷ []
  drawn_word ws d n e = ap (λ (l : List ℕ). set l 0 ((slice_index l 0 + 1) % 2 ^ 64)) e ∙ ap (λ (k : ℕ). k ∷ n % 2 ^ 64 ∷ []) (mod-add-mod d (2 ^ 64) 1)

  served_word : (ws : List ℕ) (d n : ℕ) → ws ≡ d % 2 ^ 64 ∷ n % 2 ^ 64 ∷ [] → set ws 1 ((slice_index ws 1 + 1) % 2 ^ 64) ≡ d % 2 ^ 64 ∷ (n + 1) % 2 ^ 64 ∷ []
  served_word ws d n e = ap (λ (l : List ℕ). set l 1 ((slice_index l 1 + 1) % 2 ^ 64)) e ∙ ap (λ (k : ℕ). d % 2 ^ 64 ∷ k ∷ []) (mod-add-mod n (2 ^ 64) 1)

  looked_word : (ws : List ℕ) (d n : ℕ) → ws ≡ d % 2 ^ 64 ∷ n % 2 ^ 64 ∷ [] → set ws 1 (slice_index ws 1) ≡ d % 2 ^ 64 ∷ n % 2 ^ 64 ∷ []
  looked_word ws d n e = ap (λ (l : List ℕ). set l 1 (slice_index l 1)) e

  pub draws : (slots id : ℕ) (me : Me (Option S) (View E)) → me.0.ticket ≡ None → me.0.inside ≡ false → me.0.spent ≡ false
      → Allows Holds slots id me 0 (λ n. (n + 1) % 2 ^ 64) (Draws (step slots 0 1 0 m.none) me)
  draws slots id me free out live s h _ at _ =
      let v : View E = me.0 in
      let w : View E = with_ticket v h.drawn in
      let k = known entries caller fixed about s h id v at live in
      let all : h.log ++ [] ≡ h.log = append-nil h.log in
      let c : Change entries caller fixed about s h id v w [] (h.drawn + 1) h.served = record {
        there = at;
        live = live;
        own = tt;
        out = let none : weight has_ticket v ≡ 0 = ap (λ (o : Option ℕ). weight has_ticket (record v { ticket = o })) free in omega arith;
        drawn_more = omega arith;
        unserved = λ j t u _ there e. (is_out s h j t u there e).0;
        alone = λ j u n there i. (refl, refl);
        knows = record {
          live = live;
          number = k.number;
          seen = subst (Begins v.seen) (sym all) k.seen;
          heard = k.heard;
          mine = ap (calls_by caller id) all ∙ k.mine;
          own = k.own;
          ticket = λ t e. let is : h.drawn ≡ t = cc in let o = h.out in (omega arith, omega arith);
          inside = λ i. absurd (true≢false (sym i ∙ out));
          fixed = k.fixed;
        };
        ticket = λ t e. let is : h.drawn ≡ t = cc in inr (omega arith);
        seen = begins_all v.seen;
        whole = inr (refl, refl);
        root = (refl, refl, refl);
      } in (
        w,
        keeps,
        tt,
        changed entries caller fixed about s h id v w [] (h.drawn + 1) h.served c _ s.homes (drawn_word s.words h.drawn h.served h.words) (place_still s h id v at w _ (h.log ++ []) refl all),
        (h.drawn, ap (λ (l : List ℕ). slice_index l 0) h.words, refl),
      )

  pub settles : (slots id : ℕ) (me : Me (Option S) (View E)) → me.0.number ≡ 0 → me.0.spent ≡ false
      → Allows Holds slots id me 1 (λ n. n) (Settles caller (step slots 1 0 0 m.none) me)
  settles slots id me root live s h _ at _ =
      let v : View E = me.0 in
      let w : View E = settled_view v in
      let k = known entries caller fixed about s h id v at live in
      let all : h.log ++ [] ≡ h.log = append-nil h.log in
      let c : Change entries caller fixed about s h id v w [] h.drawn h.served = record {
        there = at;
        live = live;
        own = tt;
        out = refl;
        drawn_more = omega arith;
        unserved = λ j t u _ there e. (is_out s h j t u there e).0;
        alone = λ j u n there i. (refl, refl);
        knows = record {
          live = live;
          number = k.number;
          seen = subst (Begins v.seen) (sym all) k.seen;
          heard = (v.seen, refl);
          mine = ap (calls_by caller id) all ∙ k.mine;
          own = k.own;
          ticket = k.ticket;
          inside = λ i. ((k.inside i).0, (k.inside i).1 ∙ sym all);
          fixed = k.fixed;
        };
        ticket = λ t e. inl e;
        seen = begins_all v.seen;
        whole = inr (refl, refl);
        root = (refl, refl, refl);
      } in
      let is : id ≡ 0 = sym k.number ∙ root in
      let r : IsRoot caller h.log s.views h.root.0 = h.root.1 in
      let same : h.root.0 ≡ v = at_same s.views 0 h.root.0 v r.there (subst (λ (n : ℕ). IsAt s.views n v) is at) in (
        w,
        keeps,
        tt,
        changed entries caller fixed about s h id v w [] h.drawn h.served c _ s.homes (looked_word s.words h.drawn h.served h.words) (place_still s h id v at w _ (h.log ++ []) refl all),
        (refl, k.heard, ap (λ (n : ℕ). calls_by caller n v.seen) k.number ∙ k.own, subst (AreBack caller) same (are_back caller h.log s.views h.root.0 r)),
      )

  -- whoever is inside has the ticket that is served
  inside_served : (s : T) (h : Holds s) (j : ℕ) (u : View E) → IsAt s.views j u → u.inside ≡ true → u.ticket ≡ Some h.served
  inside_served s h j u at i = ⊎_elim
      (λ (e : u ≡ spent_view). absurd (true≢false (sym i ∙ ap (λ (x : View E). x.inside) e)))
      (λ (k : Knows caller about h.log h.served h.drawn j u). (k.inside i).0)
      (h.passes j u at)

  -- the tickets that are out are few, so a ticket that looks served is served
  is_served : (s : T) (h : Holds s) (t : ℕ) → h.served ≤ t → t < h.drawn → h.served % 2 ^ 64 ≡ t % 2 ^ 64 → h.served ≡ t
  is_served s h t low high same =
      let n = count_few has_ticket s.views in
      let r : IsRoot caller h.log s.views h.root.0 = h.root.1 in
      let a = r.splits in
      let b = r.few in
      let o = h.out in
      one_turn h.served t (2 ^ 64) low (omega arith) same

  -- what a look does where the ticket is served
  comes_in : (slots id : ℕ) (me : Me (Option S) (View E)) (s : T) (h : Holds s) → IsAt s.views id me.0 → me.0.inside ≡ false → me.0.spent ≡ false → me.0.ticket ≡ Some h.served
      → IsHome entries caller fixed about h.log s
      → (w : View E) × (a : Act (Option S)) × Valid s.homes me.1 a × Holds (stepped s 1 (slice_index s.words 1) id me.1 w a) × TakesTurn entries caller fixed me (w, carried_after me.1 a)
  comes_in slots id me s h at out live mine p =
      let v : View E = me.0 in
      let value : S = p.value in
      let w : View E = inside_at v (entries value) in
      let k = known entries caller fixed about s h id v at live in
      let all : h.log ++ [] ≡ h.log = append-nil h.log in
      let list : h.log ≡ entries value = sym p.list in
      let c : Change entries caller fixed about s h id v w [] h.drawn h.served = record {
        there = at;
        live = live;
        own = tt;
        out = refl;
        drawn_more = omega arith;
        unserved = λ j t u _ there e. (is_out s h j t u there e).0;
        alone = λ j u n there i. (refl, refl);
        knows = record {
          live = live;
          number = k.number;
          seen = subst (Begins (entries value)) (sym all) (subst (λ (l : List E). Begins l h.log) list (begins_all h.log));
          heard = subst (Begins v.heard) list (begins_then v.heard v.seen h.log k.heard k.seen);
          mine = ap (calls_by caller id) all ∙ k.mine;
          own = ap (calls_by caller id) (sym list) ∙ k.mine;
          ticket = k.ticket;
          inside = λ i. (mine, p.list ∙ sym all);
          fixed = k.fixed;
        };
        ticket = λ t e. inl e;
        seen = subst (Begins v.seen) list k.seen;
        whole = inl (p.list ∙ sym all);
        root = (refl, refl, refl);
      } in (
        w,
        takes 0 (Some value),
        ap (λ (l : List (m.Option (Option S))). get_elem? l 0) p.slot,
        changed entries caller fixed about s h id v w [] h.drawn h.served c _ (set s.homes 0 m.none) (looked_word s.words h.drawn h.served h.words)
            (inr record { slot = ap (λ (l : List (m.Option (Option S))). set l 0 m.none) p.slot; who = id; view = w; there = set_here s.views id w (at_below s.views id v at); inside = refl }),
        (value, refl, subst (Begins v.seen) list k.seen, ap (calls_by caller v.number) (sym list) ∙ ap (λ (n : ℕ). calls_by caller n h.log) k.number ∙ k.mine, p.same ∙ sym k.fixed),
      )

  -- where a pass that isn't inside has the ticket that is served, nobody is inside
  home_at_turn : (s : T) (h : Holds s) (id : ℕ) (v : View E) → IsAt s.views id v → v.inside ≡ false → v.ticket ≡ Some h.served → IsHome entries caller fixed about h.log s
  home_at_turn s h id v at out mine = ⊎_elim (λ p. p) (λ p. let none : ⊥ = nobody p in absurd none) h.place
    where
      nobody : IsOut entries caller fixed s → ⊥
      nobody p =
          let who : p.who ≡ id = h.apart p.who id h.served p.view v p.there at (inside_served s h p.who p.view p.there p.inside) mine in
          let one : p.view ≡ v = at_same s.views id p.view v (subst (λ (n : ℕ). IsAt s.views n p.view) who p.there) at in
          true≢false (sym p.inside ∙ ap (λ (x : View E). x.inside) one ∙ out)

  -- a look may go on from here
  abbrev Looked : ℕ → ℕ → Me (Option S) (View E) → T → Type 0
  Looked slots id me s =
      (w : View E) × (a : Act (Option S)) × Valid s.homes me.1 a × Holds (stepped s 1 (slice_index s.words 1) id me.1 w a)
      × Looks entries caller fixed (step slots 1 0 0 m.none) me (slice_index s.words 1) (w, carried_after me.1 a)

  module _ (slots id : ℕ) (me : Me (Option S) (View E)) (t : ℕ) (has : me.0.ticket ≡ Some t) (s : T) (h : Holds s) (at : IsAt s.views id me.0) (out : me.0.inside ≡ false) (live : me.0.spent ≡ false) where
    found : slice_index s.words 1 ≡ h.served % 2 ^ 64
    found = ap (λ (l : List ℕ). slice_index l 1) h.words

    same_ticket : (u : ℕ) → me.0.ticket ≡ Some u → t ≡ u
    same_ticket u e = let x : Some t ≡ Some u = sym has ∙ e in cc

    hit : h.served % 2 ^ 64 ≡ t % 2 ^ 64 → Looked slots id me s
    hit same =
        let b = is_out s h id t me.0 at has in
        let is : h.served ≡ t = is_served s h t b.0 b.1 same in
        let mine : me.0.ticket ≡ Some h.served = has ∙ (λ i. Some (sym is i)) in
        let g = comes_in slots id me s h at out live mine (home_at_turn s h id me.0 at out mine) in
        (g.0, g.1, g.2, g.3, λ u e. ((λ _. g.4), (λ n. absurd (n (found ∙ same ∙ ap (λ (x : ℕ). x % 2 ^ 64) (same_ticket u e))))))

    miss : h.served % 2 ^ 64 ≢ t % 2 ^ 64 → Looked slots id me s
    miss n =
        let all : h.log ++ [] ≡ h.log = append-nil h.log in
        let c : Change entries caller fixed about s h id me.0 me.0 [] h.drawn h.served = record {
          there = at;
          live = live;
          own = tt;
          out = refl;
          drawn_more = omega arith;
          unserved = λ j t u _ there e. (is_out s h j t u there e).0;
          alone = λ j u n there i. (refl, refl);
          knows = subst (λ (l : List E). Knows caller about l h.served h.drawn id me.0) (sym all) (known entries caller fixed about s h id me.0 at live);
          ticket = λ t e. inl e;
          seen = begins_all me.0.seen;
          whole = inr (refl, refl);
          root = (refl, refl, refl);
        } in (
          me.0,
          keeps,
          tt,
          changed entries caller fixed about s h id me.0 me.0 [] h.drawn h.served c _ s.homes (looked_word s.words h.drawn h.served h.words) (place_still s h id me.0 at me.0 _ (h.log ++ []) refl all),
          λ u e. ((λ hit. absurd (n (sym found ∙ hit ∙ ap (λ (x : ℕ). x % 2 ^ 64) (sym (same_ticket u e))))), λ _. refl),
        )

  pub looks : (slots id : ℕ) (me : Me (Option S) (View E)) (t : ℕ) → me.0.ticket ≡ Some t → me.0.inside ≡ false → me.0.spent ≡ false
      → Allows Holds slots id me 1 (λ n. n) (Looks entries caller fixed (step slots 1 0 0 m.none) me)
  looks slots id me t has out live s h _ at _ =
      dite (ℕ_discrete (h.served % 2 ^ 64) (t % 2 ^ 64)) (hit slots id me t has s h at out live) (miss slots id me t has s h at out live)

  pub serves : (slots id : ℕ) (me : Me (Option S) (View E)) (value : S) (more : List E) → me.1 ≡ (0, Some value) ∷ [] → me.0.inside ≡ true → me.0.spent ≡ false
      → entries value ≡ me.0.seen ++ more → Each (λ e. caller e ≡ me.0.number) more → fixed value ≡ me.0.fixed
      → Allows Holds slots id me 1 (λ n. (n + 1) % 2 ^ 64) (Serves entries caller fixed (step slots 1 1 0 m.none) me)
  serves slots id me value more slot is_in live grown own same s h _ at _ =
      let v : View E = me.0 in
      let w : View E = outside_after v more in
      let k = known entries caller fixed about s h id v at live in
      let turn : v.ticket ≡ Some h.served = (k.inside is_in).0 in
      let list : v.seen ≡ h.log = (k.inside is_in).1 in
      let b = k.ticket h.served turn in
      let mine : Each (λ e. caller e ≡ id) more = subst (λ (n : ℕ). Each (λ e. caller e ≡ n) more) k.number own in
      let all : entries value ≡ h.log ++ more = grown ∙ ap (λ (l : List E). l ++ more) list in
      let calls : calls_by caller id (h.log ++ more) ≡ v.mine ++ more = calls-append caller id h.log more ∙ (λ i. k.mine i ++ calls_own caller id more mine i) in
      let others_out : (j : ℕ) (u : View E) → j ≢ id → IsAt s.views j u → u.inside ≡ true → ⊥ = λ j u n there i. n (h.apart j id h.served u v there at (inside_served s h j u there i) turn) in
      let c : Change entries caller fixed about s h id v w more h.drawn (h.served + 1) = record {
        there = at;
        live = live;
        own = mine;
        out = let one : weight has_ticket v ≡ 1 = ap (λ (o : Option ℕ). weight has_ticket (record v { ticket = o })) turn in omega arith;
        drawn_more = omega arith;
        unserved = λ j t u n there e.
            let low = (is_out s h j t u there e).0 in
            let differ : h.served ≢ t = λ z. n (h.apart j id t u v there at e (turn ∙ (λ i. Some (z i)))) in
            omega arith;
        alone = λ j u n there i. absurd (others_out j u n there i);
        knows = record {
          live = live;
          number = k.number;
          seen = subst (λ (l : List E). Begins (l ++ more) (h.log ++ more)) (sym list) (begins_all (h.log ++ more));
          heard = begins_then v.heard v.seen (v.seen ++ more) k.heard (more, refl);
          mine = calls;
          own = ap (λ (l : List E). calls_by caller id (l ++ more)) list ∙ calls;
          ticket = λ t e. let none : ⊥ = cc in absurd none;
          inside = λ i. absurd (true≢false (sym i));
          fixed = k.fixed;
        };
        ticket = λ t e. let none : ⊥ = cc in absurd none;
        seen = (more, refl);
        whole = inl (ap (λ (l : List E). l ++ more) list);
        root = (refl, refl, refl);
      } in
      let empty : s.homes ≡ m.none ∷ [] = ⊎_elim (λ p. absurd (true≢false (sym is_in ∙ p.nobody id v at))) (λ p. p.slot) h.place in (
        w,
        gives,
        tt,
        changed entries caller fixed about s h id v w more h.drawn (h.served + 1) c _ (put_back s.homes me.1) (served_word s.words h.drawn h.served h.words)
            (inl record {
              value = value;
              slot = ap (put_back s.homes) slot ∙ ap (λ (l : List (m.Option (Option S))). set l 0 (m.some (Some value))) empty;
              list = all;
              same = same ∙ k.fixed;
              nobody = λ j u there. ⊎_elim (λ (t : (j ≡ id) × (w ≡ u)). ap (λ (x : View E). x.inside) (sym t.1)) (λ (t : (j ≢ id) × IsAt s.views j u). outside (others_out j u t.0 t.1)) (at_set s.views id j w u there);
            }),
        λ given is. let one : given ≡ value = ap (held value) (sym is ∙ slot) in
            (more, ap entries one ∙ grown, (λ i. (w, rest (slot i))), ap (calls_by caller v.number) (ap entries one ∙ all) ∙ ap (λ (n : ℕ). calls_by caller n (h.log ++ more)) k.number ∙ calls),
      )
    where
      outside : {b : Bool} → (b ≡ true → ⊥) → b ≡ false
      outside {b = true} n = absurd (n refl)
      outside {b = false} n = refl

      held : S → List (ℕ × Option S) → S
      held d [] = d
      held d (x ∷ xs) = elim x.1 [ Some y ↦ y | None ↦ d ]
