-- Over a turn each replica's journal grows by what the turn's call tells of it, and by no more.
use Rattle.std.proofs.Common.{◌≡◌, ℕ, Bool, true, false, Option, Some, None, Ok, List, [], ◌∷◌, ◌++◌, refl, ap, ◌∙◌, sym}
use Rattle.std.proofs.lemmas.Bool.{eq-eqb, ne_eqb}
use Rattle.hr_engine.specs.Journal.{Call, Restarted}
use Rattle.hr_history.specs.declared.entry.Entry.{Entry}
use Rattle.hr_history.specs.declared.entry.Event.{Event}
use Rattle.hr_history.specs.declared.entry.Event.TheVariants as event
use Rattle.hr_history.specs.declared.job.Job.{Job}
use Rattle.hr_history.specs.declared.job.Job.TheVariants as job
use Rattle.hr_history.specs.declared.job.JobReply.{JobReply}
use Rattle.hr_history.specs.History.{History, is_call}
use Rattle.hr_history.specs.Rules.{due}
use Rattle.hr_history.specs.Faithful.{same_event, replica_caller}
use Rattle.hr_history.specs.Turns.{is_due, FollowFrom}
use Rattle.hr_history.specs.Replicas.{out_at, journal_of, next_journal, call_at, call_of, call_if, restart_of, restart_if, stmt_at}
use Rattle.hr_calls.specs.Callers.{AreFollowUps}
use Rattle.hr_calls.proofs.TurnLemmas.{part_of_turn}
use Rattle.hr_ledger.specs.Chronicle.{Chronicle, history_in}
use Rattle.hr_core.specs.Suspects.{suspects, next_suspects}
use Rattle.hr_core.specs.Turns.{HasTurn}

same_follows : (d e : Event) → same_event d e ≡ true → is_call e ≡ false
same_follows (event.Decide t) (event.Decide u) h = refl
same_follows (event.Refuse t c) (event.Refuse u k) h = refl
same_follows (event.Convict r e) (event.Convict s g) h = refl
same_follows (event.NewPrimary r) (event.NewPrimary s) h = refl
same_follows (event.Preempt r t) (event.Preempt s u) h = refl
same_follows _ _ h = cc

not_call : (e : Event) (o : Option Event) → is_due e o ≡ true → is_call e ≡ false
not_call e None h = cc
not_call e (Some next) h = same_follows next e h

pub follow_ups : (f caller : ℕ) (more : List Entry) (h : History) → FollowFrom f caller more h → AreFollowUps more
follow_ups f caller [] h follow = tt
follow_ups f caller (e ∷ more) h follow = (not_call e.event (due f (more ++ h)) follow.0, follow_ups f caller more h follow.2)

-- what follows from a call is no suspicion
suspects_left : (e : Event) (n : ℕ) → is_call e ≡ false → next_suspects e n ≡ n
suspects_left (event.Decide t) n h = refl
suspects_left (event.Refuse t c) n h = refl
suspects_left (event.Convict r e) n h = refl
suspects_left (event.NewPrimary r) n h = refl
suspects_left (event.Preempt r t) n h = refl
suspects_left _ n h = cc

suspects_since : (more : List Entry) (h : History) → AreFollowUps more → suspects (more ++ h) ≡ suspects h
suspects_since [] h are = refl
suspects_since (e ∷ more) h are = suspects_left e.event (suspects (more ++ h)) are.0 ∙ suspects_since more h are.1

module _ (c d : Chronicle) where
  -- how many suspicions, over a turn
  pub suspects_over : (caller : ℕ) (call : Event) → HasTurn caller call c d → suspects (history_in d) ≡ next_suspects call (suspects (history_in c))
  suspects_over caller call has =
      let t = has.turn in
      ap suspects t.is ∙ suspects_since t.more (record { caller = caller; event = call } ∷ history_in c) (follow_ups c.f caller t.more (record { caller = caller; event = call } ∷ history_in c) t.follows)

  -- every journal, over a turn
  pub grown : (caller : ℕ) (call : Event) → HasTurn caller call c d → (q : ℕ) → journal_of q (history_in d) ≡ next_journal (call_at q call (history_in c)) (journal_of q (history_in c))
  grown caller call has q =
      let t = has.turn in
      ap (journal_of q) t.is ∙ (part_of_turn q t.more record { caller = caller; event = call } (history_in c) (follow_ups c.f caller t.more (record { caller = caller; event = call } ∷ history_in c) t.follows)).journal

  module _ (r : ℕ) where
    -- the journal of a replica that replies, and those of the others
    pub after_give : (told : JobReply) (j : Job) (call : Call) → HasTurn (replica_caller r) (event.Give r told) c d → out_at r (history_in c) ≡ Some j
        → call_of (Some j) told (stmt_at (history_in c)) ≡ Some call → journal_of r (history_in d) ≡ call ∷ journal_of r (history_in c)
    after_give told j call has out is =
        let h = history_in c in
        let mine : call_at r (event.Give r told) h ≡ Some call =
        ap (λ (b : Bool). call_if b r told (λ q. out_at q h) (stmt_at h)) (eq-eqb r r refl) ∙ ap (λ (o : Option Job). call_of o told (stmt_at h)) out ∙ is in
        grown (replica_caller r) (event.Give r told) has r ∙ ap (λ (o : Option Call). next_journal o (journal_of r h)) mine

    pub beside_give : (told : JobReply) → HasTurn (replica_caller r) (event.Give r told) c d → (q : ℕ) → (q ≡ r → ⊥) → journal_of q (history_in d) ≡ journal_of q (history_in c)
    beside_give told has q other =
        let h = history_in c in
        grown (replica_caller r) (event.Give r told) has q
        ∙ ap (λ (b : Bool). next_journal (call_if b q told (λ p. out_at p h) (stmt_at h)) (journal_of q h)) (ne_eqb r q (λ e. other (sym e)))

    pub after_restart : (count : ℕ) → HasTurn (replica_caller r) (event.Restarted r count) c d → out_at r (history_in c) ≡ Some job.Restart
        → journal_of r (history_in d) ≡ Restarted (Ok count) ∷ journal_of r (history_in c)
    after_restart count has out =
        let h = history_in c in
        let mine : call_at r (event.Restarted r count) h ≡ Some (Restarted (Ok count)) =
        ap (λ (b : Bool). restart_if b r count (λ q. out_at q h)) (eq-eqb r r refl) ∙ ap (λ (o : Option Job). restart_of o count) out in
        grown (replica_caller r) (event.Restarted r count) has r ∙ ap (λ (o : Option Call). next_journal o (journal_of r h)) mine

    pub beside_restart : (count : ℕ) → HasTurn (replica_caller r) (event.Restarted r count) c d → (q : ℕ) → (q ≡ r → ⊥) → journal_of q (history_in d) ≡ journal_of q (history_in c)
    beside_restart count has q other =
        let h = history_in c in
        grown (replica_caller r) (event.Restarted r count) has q
        ∙ ap (λ (b : Bool). next_journal (restart_if b q count (λ p. out_at p h)) (journal_of q h)) (ne_eqb r q (λ e. other (sym e)))
