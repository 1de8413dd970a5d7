-- What each turn keeps holds of what the choices make.
use Rattle.std.proofs.Common.{◌≡◌, ℕ, zero, suc, Option, Some, None, List, [], ◌∷◌, length, refl, sym, subst, IsTrue}
use Rattle.std.specs.Option.{option_map}
use Rattle.hr_base.specs.Lists.{one_to}
use Rattle.hr_said.specs.declared.scenario.Scenario.{Scenario}
use Rattle.hr_said.specs.declared.scenario.Choice.{Choice}
use Rattle.hr_said.specs.declared.scenario.Choice.TheVariants as choice
use Rattle.hr_history.specs.declared.entry.Event.{Event}
use Rattle.hr_history.specs.declared.entry.Event.TheVariants as event
use Rattle.hr_history.specs.declared.job.Job.{Job}
use Rattle.hr_history.specs.History.{History}
use Rattle.hr_history.specs.ReplicaNumbers.{replica_numbers}
use Rattle.hr_history.specs.Replicas.{out_at}
use Rattle.hr_history.specs.Words.{job}
use Rattle.hr_history.specs.Faithful.{replica_caller, session_caller}
use Rattle.hr_moves.specs.Callers.{IsTurn}
use Rattle.hr_schedule.specs.Scripts.{next_call_of}
use Rattle.hr_schedule.specs.Choices.{IsReply, is_suspect_due, Making, Both, Times, Each, Acts, Replies, TakeJob, GiveReply, Suspects, AllSuspects, Session, OfSession, OfReplica, Round, Chooses, choices, Chosen}

-- What holds of a history holds after one turn more, of each of the four kinds: a session makes the next call of its script,
-- a replica takes its job, a replica replies to the job that it has out, and the root suspects the primary where that is due.
pub record KeptByTurns (sc : Scenario) (Holds : History → Type 0) : Type 0 where
  pub call : (s : ℕ) (e : Event) (before after : History) → next_call_of sc s before ≡ Some e → IsTurn sc.f (session_caller sc.f s) e before after → Holds before → Holds after
  pub take : (r : ℕ) (j : Job) (before after : History) → job sc.f before r ≡ Some j → IsTurn sc.f (replica_caller r) (event.Take r j) before after → Holds before → Holds after
  pub reply : (r : ℕ) (j : Job) (e : Event) (before after : History) → out_at r before ≡ Some j → IsReply r e → IsTurn sc.f (replica_caller r) e before after → Holds before → Holds after
  pub suspect : (before after : History) → IsTrue (is_suspect_due sc before) → IsTurn sc.f 0 event.Suspect before after → Holds before → Holds after

-- what holds before it holds after it
abbrev Keeps : (History → Type 0) → Making → Type 0
Keeps P Made = (a b : History) → Made a b → P a → P b

module _ (P : History → Type 0) where
  both : (First Last : Making) → Keeps P First → Keeps P Last → Keeps P (Both First Last)
  both First Last k l a b made p = l made.0 b made.2 (k a made.0 made.1 p)

  times : (Once : Making) → Keeps P Once → (n : ℕ) → Keeps P (Times Once n)
  times Once k zero a b made p = subst P (sym made) p
  times Once k (suc n) a b made p = k made.0 b made.2 (times Once k n a made.0 made.1 p)

  each : {X : Type 0} (Of : X → Making) → ((x : X) → Keeps P (Of x)) → (xs : List X) → Keeps P (Each Of xs)
  each Of k [] a b made p = subst P (sym made) p
  each Of k (x ∷ xs) a b made p = each Of k xs made.0 b made.2 (k x a made.0 made.1 p)

  acts : (f caller : ℕ) (o : Option Event) (a b : History) → ((e : Event) → o ≡ Some e → IsTurn f caller e a b → P a → P b) → Acts f caller o a b → P a → P b
  acts f caller None a b k made p = subst P (sym made) p
  acts f caller (Some e) a b k made p = k e refl made p

  module _ (sc : Scenario) (k : KeptByTurns sc P) where
    session : (s : ℕ) → Keeps P (Session sc s)
    session s a b made p = acts sc.f (session_caller sc.f s) (next_call_of sc s a) a b (λ e is turn was. k.call s e a b is turn was) made p

    take_job : (r : ℕ) → Keeps P (TakeJob sc.f r)
    take_job r a b made p = by_job (job sc.f a r) refl made
      where
        by_job : (o : Option Job) → job sc.f a r ≡ o → Acts sc.f (replica_caller r) (option_map (λ j. event.Take r j) o) a b → P b
        by_job None is made = subst P (sym made) p
        by_job (Some j) is made = k.take r j a b is made p

    give_reply : (r : ℕ) → Keeps P (GiveReply sc.f r)
    give_reply r a b made p = by_job (out_at r a) refl made
      where
        by_job : (o : Option Job) → out_at r a ≡ o → Replies sc.f r o a b → P b
        by_job None is made = subst P (sym made) p
        by_job (Some j) is made = k.reply r j made.0 a b is made.1 made.2 p

    all_suspects : Keeps P (AllSuspects sc)
    all_suspects a b made p = times (Suspects sc) (λ c d one was. k.suspect c d one.0 one.1 was) made.0 a b made.1 p

    of_session : (s : ℕ) → Keeps P (OfSession sc s)
    of_session s = both (Session sc s) (AllSuspects sc) (session s) all_suspects

    of_replica : (r : ℕ) → Keeps P (OfReplica sc r)
    of_replica r = both (Both (TakeJob sc.f r) (GiveReply sc.f r)) (AllSuspects sc) (both (TakeJob sc.f r) (GiveReply sc.f r) (take_job r) (give_reply r)) all_suspects

    one_round : Keeps P (Round sc)
    one_round =
        both (Each (OfSession sc) (one_to (length sc.scripts))) (Each (OfReplica sc) (replica_numbers sc.f))
        (each (OfSession sc) of_session (one_to (length sc.scripts)))
        (each (OfReplica sc) of_replica (replica_numbers sc.f))

    chooses : (c : Choice) → Keeps P (Chooses sc c)
    chooses (choice.Session s) = of_session s
    chooses (choice.Both r) = of_replica r
    chooses (choice.TakeJob r) = both (TakeJob sc.f r) (AllSuspects sc) (take_job r) all_suspects
    chooses (choice.GiveReply r) = both (GiveReply sc.f r) (AllSuspects sc) (give_reply r) all_suspects
    chooses (choice.Rounds n) = times (Round sc) one_round n

    pub by_turns : (h : History) → P [] → Chosen sc h → P h
    by_turns h nothing chosen = each (Chooses sc) chooses (choices sc) [] h chosen nothing
