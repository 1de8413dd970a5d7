-- The test of a Blocked reply, by the walk.
use Rattle.std.proofs.Common.{◌≡◌, ◌↔◌, ℕ, Bool, true, false, not, ◌&&◌, List, length, IsTrue, refl, sym}
use Rattle.hr_base.specs.Lists.{has, is_empty, is_ascending}
use Rattle.hr_engine.specs.Waits.{is_list_of_running}
use Rattle.hr_history.specs.View.{View}
use Rattle.hr_history.specs.Processed.{replica_in, runs_in, wait_in}
use Rattle.hr_history.specs.Evidence.{is_sound_blocked}
use Rattle.hr_history.proofs.StepLemmas.{both}
use Rattle.hr_history.proofs.BlockedReplies.{blocked_exact}
use Rattle.hr_votes.specs.Walked.{LeadsOn}

not_false : (b : Bool) → not b ≡ true → b ≡ false
not_false true e = cc e
not_false false e = refl

-- the asker isn't one of those that are listed
pub asker_apart : (running : ℕ → Bool) (asker : ℕ) (named : List ℕ) → is_list_of_running running asker named ≡ true → has named asker ≡ false
asker_apart running asker named listed = not_false (has named asker) (both (not (is_empty named) && is_ascending named) _ (both _ _ listed).0).1

module _ (v : View) (r asker : ℕ) (named : List ℕ) (listed : is_list_of_running (runs_in v r) asker named ≡ true) where
  abbrev passes : Bool
  passes = is_sound_blocked (runs_in v r) (wait_in v r) (length (replica_in v r).attempts) asker named

  not_sound : (b : Bool) → passes ≡ b → LeadsOn (wait_in v r) named asker → b ≡ false
  not_sound true e leads = absurd (((blocked_exact v r asker named).0 e).no_cycle leads.0 leads.1 leads.2)
  not_sound false e leads = refl

  pub passes_by : (b : Bool) → (IsTrue b ↔ LeadsOn (wait_in v r) named asker) → not b ≡ passes
  passes_by true exact = sym (not_sound passes refl (exact.0 refl))
  passes_by false exact = sym ((blocked_exact v r asker named).1 record { listed = listed; no_cycle = λ t h leads. wrong (exact.1 (t, h, leads)) })
    where
      wrong : false ≡ true → ⊥
      wrong e = cc e
