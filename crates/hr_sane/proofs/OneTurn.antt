-- From one history, by one call, there is one turn.
use Rattle.std.proofs.Common.{◌≡◌, ℕ, true, Option, Some, None, List, [], ◌∷◌, ◌++◌, refl, ap, sym, ◌∙◌, subst}
use Rattle.hr_history.specs.declared.entry.Entry.{Entry}
use Rattle.hr_history.specs.declared.entry.Event.{Event}
use Rattle.hr_history.specs.History.{History}
use Rattle.hr_history.specs.Rules.{due}
use Rattle.hr_history.specs.Turns.{FollowFrom, is_due}
use Rattle.hr_records.proofs.SameEvents.{event_exact}
use Rattle.hr_moves.specs.Callers.{IsTurn}
use Rattle.hr_sane.proofs.Next.{true_false}

module _ (f caller : ℕ) where
  -- these follow, the first first, and lead from one history to the other
  abbrev Leads : List Entry → History → History → Type 0
  Leads [] h after = h ≡ after
  Leads (e ∷ es) h after = (is_due e.event (due f h) ≡ true) × (e.caller ≡ caller) × Leads es (e ∷ h) after

  leads_end : (es : List Entry) (h mid : History) (e : Entry) → Leads es h mid → is_due e.event (due f mid) ≡ true → e.caller ≡ caller → Leads (es ++ e ∷ []) h (e ∷ mid)
  leads_end [] h mid e same due_here its = (ap (λ k. is_due e.event (due f k)) same ∙ due_here, its, ap (λ k. e ∷ k) same)
  leads_end (x ∷ es) h mid e leads due_here its = (leads.0, leads.1, leads_end es (x ∷ h) mid e leads.2 due_here its)

  leads_on : (more : List Entry) (h : History) → FollowFrom f caller more h → (es : List Entry) × Leads es h (more ++ h)
  leads_on [] h follow = ([], refl)
  leads_on (e ∷ more) h follow = let r = leads_on more h follow.2 in (r.0 ++ e ∷ [], leads_end r.0 h (more ++ h) e r.1 follow.0 follow.1)

  same_due : (o : Option Event) (e d : Event) → is_due e o ≡ true → is_due d o ≡ true → e ≡ d
  same_due None e d h k = cc h
  same_due (Some x) e d h k = sym (event_exact x e h) ∙ event_exact x d k

  none_due : (e : Event) (o : Option Event) → o ≡ None → is_due e o ≡ true → ⊥
  none_due e o none h = true_false h (ap (is_due e) none)

  one_end : (es ds : List Entry) (h a b : History) → Leads es h a → Leads ds h b → due f a ≡ None → due f b ≡ None → a ≡ b
  one_end [] [] h a b p q x y = sym p ∙ q
  one_end [] (d ∷ ds) h a b p q x y = absurd (none_due d.event (due f h) (ap (due f) p ∙ x) q.0)
  one_end (e ∷ es) [] h a b p q x y = absurd (none_due e.event (due f h) (ap (due f) q ∙ y) p.0)
  one_end (e ∷ es) (d ∷ ds) h a b p q x y =
      let same : e ≡ d = λ i. record { caller = (p.1 ∙ sym q.1) i; event = same_due (due f h) e.event d.event p.0 q.0 i } in
      one_end es ds (e ∷ h) a b p.2 (subst (λ z. Leads ds (z ∷ h) b) (sym same) q.2) x y

  pub one_turn : (call : Event) (before a b : History) → IsTurn f caller call before a → IsTurn f caller call before b → a ≡ b
  one_turn call before a b s t =
      let start : History = record { caller = caller; event = call } ∷ before in
      let first = leads_on s.more start s.follows in
      let second = leads_on t.more start t.follows in
      one_end first.0 second.0 start a b (subst (Leads first.0 start) (sym s.is) first.1) (subst (Leads second.0 start) (sym t.is) second.1) s.ends t.ends
