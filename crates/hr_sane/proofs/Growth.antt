-- How histories grow by turns.
use Rattle.std.proofs.Common.{◌≡◌, ℕ, true, Option, Some, None, is_none, List, [], ◌∷◌, ◌++◌, reverse, refl, ap, sym, ◌∙◌, subst, append_assoc, append-nil, IsTrue}
use Rattle.std.proofs.lemmas.Bool.{and_parts, and_from, eq-eqb}
use Rattle.std.proofs.lemmas.List.{reverse-append, reverse-reverse}
use Rattle.std.proofs.lemmas.List.Elements.{All-nil, All-cons, All-append}
use Rattle.hr_history.specs.declared.entry.Entry.{Entry}
use Rattle.hr_history.specs.declared.entry.Event.{Event}
use Rattle.hr_history.specs.History.{History, history_of}
use Rattle.hr_history.specs.Rules.{due}
use Rattle.hr_history.specs.Turns.{FollowFrom, is_due}
use Rattle.hr_history.specs.Faithful.{Faithful, is_begun, is_next, is_allowed, is_turn_of, same_event}
use Rattle.hr_moves.specs.Callers.{IsTurn, Grows}

none_of : {X : Type 0} (o : Option X) → is_none o ≡ true → o ≡ None
none_of None e = refl
none_of (Some x) e = cc e

-- ---- a turn is faithful

module _ (f s caller : ℕ) where
  due_next : (o : Option Event) (e : Entry) (h : History) → is_due e.event o ≡ true → is_turn_of e.caller h ≡ true → is_next f s o e h ≡ true
  due_next None e h is turn = cc is
  due_next (Some x) e h is turn = and_from (same_event x e.event) (is_turn_of e.caller h) is turn

  follow_begun : (more : List Entry) (before : History) → is_begun f s before ≡ true → is_turn_of caller before ≡ true → FollowFrom f caller more before → (is_begun f s (more ++ before) ≡ true) × (is_turn_of caller (more ++ before) ≡ true)
  follow_begun [] before begun turn follow = (begun, turn)
  follow_begun (e ∷ more) before begun turn follow =
      let earlier = follow_begun more before begun turn follow.2 in
      let its = ap (λ n. is_turn_of n (more ++ before)) follow.1 ∙ earlier.1 in
      (and_from (is_begun f s (more ++ before)) _ earlier.0 (due_next (due f (more ++ before)) e (more ++ before) follow.0 its), eq-eqb e.caller caller follow.1)

  pub turn_faithful : (call : Event) (before after : History) → Faithful f s before → IsTrue (is_allowed f s caller call before) → IsTurn f caller call before after → Faithful f s after
  turn_faithful call before after faithful allowed t =
      let parts = and_parts (is_begun f s before) (is_none (due f before)) faithful in
      let e : Entry = record { caller = caller; event = call } in
      let start : is_begun f s (e ∷ before) ≡ true = and_from (is_begun f s before) _ parts.0 (ap (λ o. is_next f s o e before) (none_of (due f before) parts.1) ∙ allowed) in
      let begun = (follow_begun t.more (e ∷ before) start (eq-eqb caller caller refl) t.follows).0 in
      and_from (is_begun f s after) (is_none (due f after)) (ap (is_begun f s) t.is ∙ begun) (ap is_none t.ends)

-- ---- and grows by its caller

module _ (caller : ℕ) where
  abbrev Mine : Entry → Type 0
  Mine e = e.caller ≡ caller

  pub grows_none : (xs : List Entry) → Grows caller xs xs
  grows_none xs = record { more = []; is = sym (append-nil xs); mine = All-nil Mine }

  pub grows_twice : (xs ys zs : List Entry) → Grows caller xs ys → Grows caller ys zs → Grows caller xs zs
  grows_twice xs ys zs a b = record {
    more = a.more ++ b.more;
    is = b.is ∙ ap (λ ts. ts ++ b.more) a.is ∙ append_assoc xs a.more b.more;
    mine = All-append Mine a.more b.more a.mine b.mine;
  }

  one_more : (e : Entry) (h : History) → e.caller ≡ caller → Grows caller (reverse h) (reverse (e ∷ h))
  one_more e h its = record { more = e ∷ []; is = reverse-append (e ∷ []) h; mine = All-cons Mine e [] its (All-nil Mine) }

  follow_grows : (f : ℕ) (more : List Entry) (h : History) → FollowFrom f caller more h → Grows caller (reverse h) (reverse (more ++ h))
  follow_grows f [] h follow = grows_none (reverse h)
  follow_grows f (e ∷ more) h follow = grows_twice (reverse h) (reverse (more ++ h)) (reverse (e ∷ more ++ h)) (follow_grows f more h follow.2) (one_more e (more ++ h) follow.1)

  pub turn_grows : (f : ℕ) (call : Event) (old new : List Entry) → IsTurn f caller call (history_of old) (history_of new) → Grows caller old new
  turn_grows f call old new t =
      let e : Entry = record { caller = caller; event = call } in
      let before = history_of old in
      let grown = grows_twice (reverse before) (reverse (e ∷ before)) (reverse (t.more ++ e ∷ before)) (one_more e before refl) (follow_grows f t.more (e ∷ before) t.follows) in
      subst (λ xs. Grows caller xs new) (reverse-reverse old)
      (subst (λ ys. Grows caller (reverse before) ys) (ap reverse (sym t.is) ∙ reverse-reverse new) grown)
