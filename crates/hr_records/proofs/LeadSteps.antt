-- What one more entry makes of the primary's part, on plain words.
use Rattle.std.proofs.Common.{◌≡◌, ◌⊎◌, inl, inr, ℕ, ◌+◌, ◌≤◌, Bool, true, false, Option, Some, None, refl, ap, sym, ◌∙◌, subst, arith}
use Rattle.std.proofs.lemmas.Bool.{false_from_ne_true}
use Rattle.hr_history.specs.declared.job.Job.{Job}
use Rattle.hr_history.specs.declared.job.Job.TheVariants as job
use Rattle.hr_records.specs.Leads.{Leads}
use Rattle.hr_records.proofs.Options.{some_none, same_some}
use Rattle.hr_records.proofs.Places.{same_or_not}
use Rattle.hr_records.proofs.NumberSteps.{not_both}

module _ {r : ℕ} {primary : Option ℕ} {gone : Bool} {active : ℕ → Bool} {given att : ℕ → ℕ} {out : Option Job} {preempted : ℕ → Bool} {lost : Bool} (g : Leads r primary gone active given att out preempted lost) where
  -- once all that were open when the primary went are refused, it doesn't matter that it did
  pub calm : ((t : ℕ) → active t ≡ true → gone ≡ true → (given t ≡ 0) × ((i : ℕ) → out ≡ Some (job.Run t i) → ⊥)) → Leads r primary false active given att out preempted lost
  calm refused = record {
    leads = g.leads;
    live = g.live;
    follows = g.follows;
    ahead = λ t i e o. elim (g.ahead t i e o) [ inl le ↦ inl le | inr (inl is) ↦ inr (inl is) | inr (inr went) ↦ absurd ((refused t o went).1 i e) ];
    vacant = λ none t o. elim (g.vacant none t o) [ inl nil ↦ inl nil | inr went ↦ inl (refused t o went).0 ];
    preempts = g.preempts;
    rolls_back = g.rolls_back;
    commits = g.commits;
  }

  still_closed : (a b : Bool) → (a ≡ true → b ≡ true) → b ≡ false → a ≡ false
  still_closed true b up e = absurd (not_both b (up refl) e)
  still_closed false b up e = refl

  -- transactions ask or end
  pub closes : (active_now : ℕ → Bool) → ((t : ℕ) → active_now t ≡ true → active t ≡ true) → Leads r primary gone active_now given att out preempted lost
  closes active_now up = record {
    leads = λ e t o. g.leads e t (up t o);
    live = g.live;
    follows = λ t o. g.follows t (up t o);
    ahead = λ t i e o. g.ahead t i e (up t o);
    vacant = λ none t o. g.vacant none t (up t o);
    preempts = g.preempts;
    rolls_back = λ t e. elim (g.rolls_back t e) [ inl closed ↦ inl (still_closed (active_now t) (active t) (up t) closed) | inr was ↦ inr was ];
    commits = λ t e. still_closed (active_now t) (active t) (up t) (g.commits t e);
  }

  -- the primary goes
  pub goes : Leads r None true active given att out preempted lost
  goes = record {
    leads = λ e t o. absurd (some_none r (sym e));
    live = λ e. absurd (some_none r (sym e));
    follows = g.follows;
    ahead = λ t i e o. inr (inr refl);
    vacant = λ none t o. inr refl;
    preempts = g.preempts;
    rolls_back = g.rolls_back;
    commits = g.commits;
  }

  -- replica q becomes primary, where there was none
  pub elects : (q : ℕ) → primary ≡ None → ((t : ℕ) → active t ≡ true → gone ≡ true → given t ≡ 0) → (q ≡ r → lost ≡ false) → Leads r (Some q) gone active given att out preempted lost
  elects q none refused live = record {
    leads = λ e t o.
        (let nil = nothing t o in
        (omega (arith, nil, g.follows t o), false_from_ne_true (preempted t) (λ was. absurd (omega (arith, nil, g.follows t o, g.preempts t was)))));
    live = λ e. live (same_some q r e);
    follows = g.follows;
    ahead = λ t i e o. elim (g.ahead t i e o) [ inl le ↦ inl le | inr (inl is) ↦ absurd (some_none r (sym is ∙ none)) | inr (inr went) ↦ inr (inr went) ];
    vacant = λ e t o. absurd (some_none q e);
    preempts = g.preempts;
    rolls_back = g.rolls_back;
    commits = g.commits;
  }
    where
      nothing : (t : ℕ) → active t ≡ true → given t ≡ 0
      nothing t o = elim (g.vacant none t o) [ inl nil ↦ nil | inr went ↦ refused t o went ]

  -- a job is taken
  pub takes : (now : Job)
      → ((t i : ℕ) → now ≡ job.Run t i → active t ≡ true → (i ≤ given t) ⊎ (primary ≡ Some r))
      → ((t : ℕ) → now ≡ job.Rollback t → (active t ≡ false) ⊎ (preempted t ≡ true))
      → ((t : ℕ) → now ≡ job.Commit t → active t ≡ false)
      → Leads r primary gone active given att (Some now) preempted lost
  takes now runs rolls commits = record {
    leads = g.leads;
    live = g.live;
    follows = g.follows;
    ahead = λ t i e o. elim (runs t i (same_some now (job.Run t i) e) o) [ inl le ↦ inl le | inr is ↦ inr (inl is) ];
    vacant = g.vacant;
    preempts = g.preempts;
    rolls_back = λ t e. rolls t (same_some now (job.Rollback t) e);
    commits = λ t e. commits t (same_some now (job.Commit t) e);
  }

  -- an answer is given by another, who is the primary
  pub gives_elsewhere : (given_now : ℕ → ℕ) → ((t : ℕ) → given t ≤ given_now t) → (primary ≡ Some r → (t : ℕ) → given_now t ≡ given t) → (primary ≡ None → (t : ℕ) → given_now t ≡ given t)
      → Leads r primary gone active given_now att out preempted lost
  gives_elsewhere given_now more mine nobody = record {
    leads = λ e t o. (let l = g.leads e t o in (l.0 ∙ sym (mine e t), l.1));
    live = g.live;
    follows = λ t o. omega (arith, g.follows t o, more t);
    ahead = λ t i e o. elim (g.ahead t i e o) [ inl le ↦ inl (omega (arith, le, more t)) | inr else_ ↦ inr else_ ];
    vacant = λ none t o. elim (g.vacant none t o) [ inl nil ↦ inl (nobody none t ∙ nil) | inr went ↦ inr went ];
    preempts = g.preempts;
    rolls_back = g.rolls_back;
    commits = g.commits;
  }

  -- r replied to its job, and these are its words then
  pub replies : (primary_now : Option ℕ) (gone_now : Bool) (given_now att_now : ℕ → ℕ) (preempted_now : ℕ → Bool) (lost_now : Bool)
      → (primary_now ≡ Some r → (t : ℕ) → active t ≡ true → (att_now t ≡ given_now t) × (preempted_now t ≡ false))
      → (primary_now ≡ Some r → lost_now ≡ false)
      → ((t : ℕ) → active t ≡ true → att_now t ≤ given_now t)
      → (primary_now ≡ None → (t : ℕ) → active t ≡ true → (given_now t ≡ 0) ⊎ (gone_now ≡ true))
      → ((t : ℕ) → preempted_now t ≡ true → 1 ≤ att_now t)
      → Leads r primary_now gone_now active given_now att_now None preempted_now lost_now
  replies primary_now gone_now given_now att_now preempted_now lost_now leads live follows vacant preempts = record {
    leads = leads;
    live = live;
    follows = follows;
    ahead = λ t i e o. absurd (some_none (job.Run t i) (sym e));
    vacant = vacant;
    preempts = preempts;
    rolls_back = λ t e. absurd (some_none (job.Rollback t) (sym e));
    commits = λ t e. absurd (some_none (job.Commit t) (sym e));
  }

  -- nothing else changed
  pub silent : Leads r primary gone active given att None preempted lost
  silent = replies primary gone given att preempted lost g.leads g.live g.follows g.vacant g.preempts

  -- one more statement of t ran, and its answer is given where r is the primary and t is open
  pub runs_on : (t i : ℕ) (given_now att_now : ℕ → ℕ) → gone ≡ false → out ≡ Some (job.Run t i) → i ≡ att t + 1 → att_now t ≡ att t + 1 → ((u : ℕ) → (t ≡ u → ⊥) → att_now u ≡ att u)
      → ((u : ℕ) → (t ≡ u → ⊥) → given_now u ≡ given u) → given t ≤ given_now t → (primary ≡ Some r → active t ≡ true → i ≡ given t + 1 → given_now t ≡ given t + 1)
      → (primary ≡ None → (u : ℕ) → given_now u ≡ given u)
      → Leads r primary gone active given_now att_now None preempted lost
  runs_on t i given_now att_now still is index one_more other_att other_given le gives nobody =
      replies primary gone given_now att_now preempted lost
      (λ e u o. leads e u o (same_or_not t u)) g.live (λ u o. follow u o (same_or_not t u))
      (λ none u o. elim (g.vacant none u o) [ inl nil ↦ inl (nobody none u ∙ nil) | inr went ↦ inr went ])
      (λ u was. more u was (same_or_not t u))
    where
      leads : primary ≡ Some r → (u : ℕ) → active u ≡ true → (t ≡ u) ⊎ (t ≡ u → ⊥) → (att_now u ≡ given_now u) × (preempted u ≡ false)
      leads e u o (inl same) =
          let o_t : active t ≡ true = ap active same ∙ o in
          let l = g.leads e t o_t in
          subst (λ x. (att_now x ≡ given_now x) × (preempted x ≡ false)) same (omega (arith, one_more, l.0, gives e o_t (omega (arith, index, l.0))), l.1)
      leads e u o (inr other) = let l = g.leads e u o in (other_att u other ∙ l.0 ∙ sym (other_given u other), l.1)

      of_ahead : active t ≡ true → (i ≤ given t) ⊎ (primary ≡ Some r) ⊎ (gone ≡ true) → att_now t ≤ given_now t
      of_ahead o (inl small) = omega (arith, one_more, index, small, le)
      of_ahead o (inr (inl e)) = let l = g.leads e t o in omega (arith, one_more, l.0, gives e o (omega (arith, index, l.0)))
      of_ahead o (inr (inr went)) = absurd (not_both gone went still)

      follow : (u : ℕ) → active u ≡ true → (t ≡ u) ⊎ (t ≡ u → ⊥) → att_now u ≤ given_now u
      follow u o (inl same) = let o_t : active t ≡ true = ap active same ∙ o in subst (λ x. att_now x ≤ given_now x) same (of_ahead o_t (g.ahead t i is o_t))
      follow u o (inr other) = omega (arith, g.follows u o, other_att u other, other_given u other)

      more : (u : ℕ) → preempted u ≡ true → (t ≡ u) ⊎ (t ≡ u → ⊥) → 1 ≤ att_now u
      more u was (inl same) = subst (λ x. 1 ≤ att_now x) same (omega (arith, one_more))
      more u was (inr other) = omega (arith, g.preempts u was, other_att u other)

  -- all attempts end, and r isn't the primary, or is primary no more
  pub all_end : (primary_now : Option ℕ) (gone_now : Bool) (lost_now : Bool) → (primary_now ≡ Some r → ⊥)
      → (primary_now ≡ None → (t : ℕ) → active t ≡ true → (given t ≡ 0) ⊎ (gone_now ≡ true))
      → Leads r primary_now gone_now active given (λ t. 0) None (λ t. false) lost_now
  all_end primary_now gone_now lost_now not_it vacant =
      replies primary_now gone_now given (λ t. 0) (λ t. false) lost_now (λ e t o. absurd (not_it e)) (λ e. absurd (not_it e)) (λ t o. omega arith) vacant (λ t was. cc)

  -- the attempt of t ends, which is closed or was preempted
  pub one_ends : (t : ℕ) (att_now : ℕ → ℕ) (preempted_now : ℕ → Bool) → (active t ≡ false) ⊎ (preempted t ≡ true) → att_now t ≡ 0 → preempted_now t ≡ false
      → ((u : ℕ) → (t ≡ u → ⊥) → att_now u ≡ att u) → ((u : ℕ) → (t ≡ u → ⊥) → preempted_now u ≡ preempted u)
      → Leads r primary gone active given att_now None preempted_now lost
  one_ends t att_now preempted_now why none un other_att other_preempted =
      replies primary gone given att_now preempted_now lost
      (λ e u o. leads e u o (same_or_not t u)) g.live (λ u o. follow u o (same_or_not t u)) g.vacant (λ u was. more u was (same_or_not t u))
    where
      never : primary ≡ Some r → active t ≡ true → (active t ≡ false) ⊎ (preempted t ≡ true) → ⊥
      never e o (inl closed) = not_both (active t) o closed
      never e o (inr was) = not_both (preempted t) was (g.leads e t o).1

      leads : primary ≡ Some r → (u : ℕ) → active u ≡ true → (t ≡ u) ⊎ (t ≡ u → ⊥) → (att_now u ≡ given u) × (preempted_now u ≡ false)
      leads e u o (inl same) = absurd (never e (ap active same ∙ o) why)
      leads e u o (inr other) = let l = g.leads e u o in (other_att u other ∙ l.0, other_preempted u other ∙ l.1)

      follow : (u : ℕ) → active u ≡ true → (t ≡ u) ⊎ (t ≡ u → ⊥) → att_now u ≤ given u
      follow u o (inl same) = subst (λ x. att_now x ≤ given x) same (omega (arith, none))
      follow u o (inr other) = omega (arith, g.follows u o, other_att u other)

      more : (u : ℕ) → preempted_now u ≡ true → (t ≡ u) ⊎ (t ≡ u → ⊥) → 1 ≤ att_now u
      more u was (inl same) = absurd (not_both (preempted_now u) was (ap preempted_now (sym same) ∙ un))
      more u was (inr other) = omega (arith, g.preempts u (sym (other_preempted u other) ∙ was), other_att u other)

  -- who runs is preempted, not at the primary
  pub preempted_more : (preempted_now : ℕ → Bool) → (primary ≡ Some r → ⊥) → ((t : ℕ) → preempted t ≡ true → preempted_now t ≡ true) → ((t : ℕ) → preempted_now t ≡ true → 1 ≤ att t)
      → Leads r primary gone active given att out preempted_now lost
  preempted_more preempted_now not_it kept runs = record {
    leads = λ e t o. absurd (not_it e);
    live = g.live;
    follows = g.follows;
    ahead = g.ahead;
    vacant = g.vacant;
    preempts = runs;
    rolls_back = λ t e. elim (g.rolls_back t e) [ inl closed ↦ inl closed | inr was ↦ inr (kept t was) ];
    commits = g.commits;
  }
