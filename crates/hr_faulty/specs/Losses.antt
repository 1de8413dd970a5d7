-- Not to be believed but checked: proofs that a trait's law has to cite. Why a loss is no lie: where the script has no other
-- acts, what is told is rigorous if the journal within is.
use Rattle.std.proofs.Common.{◌≡◌, ℕ, ◌+◌, ◌-◌, ◌≤◌, ◌<◌, ◌^◌, Bool, true, false, cond, not, ◌==◌, ◌&&◌, nat_lt, Option, Some, None, Result, Ok, Err, IsTrue, ◌⊎◌, inl, inr, List, [], ◌∷◌, ◌++◌, length, map, refl, ap, subst, ◌∙◌, sym, arith, Contains}
use Rattle.std.specs.List.{filter, list_all, AllZip}
use Rattle.std.proofs.lemmas.List.Elements.{filter_agree}
use Rattle.hr_rel.specs.declared.stmt.Stmt.{Stmt}
use Rattle.hr_rel.specs.Database.{Database}
use Rattle.hr_meaning.specs.Serial.{serial_answers, database_after}
use Rattle.hr_meaning.specs.SameAnswer.{SameAnswer}
use Rattle.hr_engine.specs.declared.reply.RunReply.{RunReply}
use Rattle.hr_engine.specs.declared.reply.RunReply.TheVariants as run
use Rattle.hr_engine.specs.declared.reply.EndReply.{EndReply}
use Rattle.hr_engine.specs.declared.reply.EndReply.TheVariants as end
use Rattle.hr_engine.specs.declared.reply.Lost.{Lost}
use Rattle.hr_engine.specs.Journal.{Call, Ran, Committed, RolledBack, Restarted, Journal}
use Rattle.hr_engine.specs.Effects.{effect_of, settling_of}
use Rattle.hr_engine.specs.Attempts.{RanStmt, attempt, next_attempt, statements, answers, is_running}
use Rattle.hr_engine.specs.Waits.{wait, next_wait, IsSoundBlocked, is_sound_deadlock}
use Rattle.hr_engine.specs.Base.{Settled, settled, next_settled, attempt_at, at_loss, at_restart, with_doubt, base, bases}
use Rattle.hr_engine.specs.Rigorous.{AnyOrder, IsSound, Rigorous}
use Rattle.hr_base.specs.Lists.{is_empty, is_distinct}
use Rattle.hr_engine.proofs.Orders.{none_run}
use Rattle.hr_engine.proofs.BaseLaws.{no_doubt, count_le}
use Rattle.std.proofs.lemmas.Bool.{and_parts, or_parts, eqb-true, ltb-true}
use Rattle.hr_faulty.specs.declared.script.Fault.{Fault}
use Rattle.hr_faulty.specs.declared.script.Act.{Act}
use Rattle.hr_faulty.specs.declared.script.Act.TheVariants as act
use Rattle.hr_faulty.specs.declared.script.When.{When}
use Rattle.hr_faulty.specs.declared.script.When.TheVariants.{Before, After}
use Rattle.hr_faulty.specs.Script.{act_at, is_lie, lies, names_calls}
use Rattle.hr_faulty.specs.Told.{Tells, Scripted, next_number}
use Rattle.hr_engine.specs.Backend.{IsLegal}
use Rattle.hr_faulty.specs.Wraps.{Wraps}
use Rattle.hr_faulty.specs.Resolves.{MayTell, may_stand, Resolves, resolves_itself, resolves_before, resolves_after}

-- two journals tell the same of every transaction and of the database
pub record Agree (inner outer : Journal) : Type 0 where
  pub attempts : (t : ℕ) → attempt t outer ≡ attempt t inner
  pub waits : (t : ℕ) → wait t outer ≡ wait t inner
  pub settled : settled outer ≡ settled inner

-- no transaction runs or waits
pub record IsSilent (journal : Journal) : Type 0 where
  pub attempts : (t : ℕ) → attempt t journal ≡ []
  pub waits : (t : ℕ) → wait t journal ≡ []

-- during a loss: nothing runs, and a restart settles what is open as it does within
pub record IsLossOf (inner outer : Journal) : Type 0 where
  pub silent : IsSilent outer
  pub resolves : Resolves (settled inner).commits (settled inner).doubt (settled outer).commits (settled outer).doubt

-- outside a loss they agree
abbrev pub Follows : Journal → Journal → Bool → Type 0
Follows inner outer false = Agree inner outer
Follows inner outer true = IsLossOf inner outer

-- what holds of the attempts and the base alone
AnyOrderOf : (ℕ → List RanStmt) → Database → Type 0
AnyOrderOf att db = (ts : List ℕ) → IsTrue (is_distinct ts) → IsTrue (list_all (λ t. not (is_empty (att t))) ts)
    → AllZip (AllZip SameAnswer) (serial_answers db (map (λ t. statements (att t)) ts)) (map (λ t. answers (att t)) ts)

module _ (start : Database) (inner outer : Journal) (agree : Agree inner outer) where
  any_order_along : AnyOrder start inner → AnyOrder start outer
  unfolding AnyOrderOf
  any_order_along any =
      let by_attempts : AnyOrderOf (λ t. attempt t outer) (base start inner) = subst (λ (att : ℕ → List RanStmt). AnyOrderOf att (base start inner)) (λ i t. sym (agree.attempts t) i) any in
      subst (λ (s : Settled). AnyOrderOf (λ t. attempt t outer) (database_after start s.commits)) (sym agree.settled) by_attempts

  blocked_along : (t : ℕ) (named : List ℕ) → IsSoundBlocked (λ u. is_running u inner) (λ u. wait u inner) t named → IsSoundBlocked (λ u. is_running u outer) (λ u. wait u outer) t named
  blocked_along t named sound =
      let running : IsSoundBlocked (λ u. is_running u outer) (λ u. wait u inner) t named =
      subst (λ (att : ℕ → List RanStmt). IsSoundBlocked (λ u. not (is_empty (att u))) (λ u. wait u inner) t named) (λ i u. sym (agree.attempts u) i) sound in
      subst (λ (waits : ℕ → List ℕ). IsSoundBlocked (λ u. is_running u outer) waits t named) (λ i u. sym (agree.waits u) i) running

  deadlock_along : (t : ℕ) (cycle : List ℕ) → IsTrue (is_sound_deadlock (λ u. is_running u inner) (λ u. wait u inner) t cycle) → IsTrue (is_sound_deadlock (λ u. is_running u outer) (λ u. wait u outer) t cycle)
  deadlock_along t cycle sound =
      let running : IsTrue (is_sound_deadlock (λ u. is_running u outer) (λ u. wait u inner) t cycle) =
      subst (λ (att : ℕ → List RanStmt). IsTrue (is_sound_deadlock (λ u. not (is_empty (att u))) (λ u. wait u inner) t cycle)) (λ i u. sym (agree.attempts u) i) sound in
      subst (λ (waits : ℕ → List ℕ). IsTrue (is_sound_deadlock (λ u. is_running u outer) waits t cycle)) (λ i u. sym (agree.waits u) i) running

  sound_along : (call : Call) → IsSound call inner → IsSound call outer
  sound_along (Ran t s (run.Done answer)) sound = tt
  sound_along (Ran t s (run.Blocked named)) sound = blocked_along t named sound
  sound_along (Ran t s (run.Deadlock cycle)) sound = deadlock_along t cycle sound
  sound_along (Ran t s run.Lost) sound = tt
  sound_along (Ran t s run.NoMemory) sound = tt
  sound_along (Committed t reply) sound = tt
  sound_along (RolledBack t reply) sound = tt
  sound_along (Restarted (Ok n)) sound = subst (λ (s : Settled). MayTell s.commits s.doubt n) (sym agree.settled) sound
  sound_along (Restarted (Err lost)) sound = tt

  attempt_at_along : (call : Call) → attempt_at call outer ≡ attempt_at call inner
  attempt_at_along (Ran t s reply) = agree.attempts t
  attempt_at_along (Committed t reply) = agree.attempts t
  attempt_at_along (RolledBack t reply) = agree.attempts t
  attempt_at_along (Restarted told) = refl

  -- the same call keeps the agreement
  agree_more : (call : Call) → Agree (call ∷ inner) (call ∷ outer)
  agree_more call = record {
    attempts = λ t. ap (next_attempt t (effect_of call)) (agree.attempts t);
    waits = λ t.
        ap (filter (λ u. is_running u (call ∷ outer))) (ap (next_wait t (effect_of call)) (agree.waits t))
        ∙ filter_agree (λ u. is_running u (call ∷ outer)) (λ u. is_running u (call ∷ inner)) (λ u. ap (λ (steps : List RanStmt). not (is_empty (next_attempt u (effect_of call) steps))) (agree.attempts u)) (next_wait t (effect_of call) (wait t inner));
    settled = λ i. next_settled (settling_of call) (statements (attempt_at_along call i)) (agree.settled i);
  }

-- a call at which a loss begins silences all
silent_at_loss : (call : Call) (before : Journal) → (settled before).lost ≡ false → (settled (call ∷ before)).lost ≡ true → IsSilent (call ∷ before)
silent_at_loss (Ran t s (run.Done answer)) before found lost = absurd (cc)
silent_at_loss (Ran t s (run.Blocked named)) before found lost = absurd (cc)
silent_at_loss (Ran t s (run.Deadlock cycle)) before found lost = absurd (cc)
silent_at_loss (Ran t s run.Lost) before found lost = record { attempts = λ u. refl; waits = λ u. refl }
silent_at_loss (Ran t s run.NoMemory) before found lost = absurd (cc)
silent_at_loss (Committed t end.Done) before found lost = absurd (cc)
silent_at_loss (Committed t end.Lost) before found lost = record { attempts = λ u. refl; waits = λ u. refl }
silent_at_loss (RolledBack t end.Done) before found lost = absurd (cc)
silent_at_loss (RolledBack t end.Lost) before found lost = record { attempts = λ u. refl; waits = λ u. refl }
silent_at_loss (Restarted (Ok n)) before found lost = absurd (cc)
silent_at_loss (Restarted (Err why)) before found lost = record { attempts = λ u. refl; waits = λ u. refl }

-- nobody runs in silence
silent_order : (start : Database) (journal : Journal) → IsSilent journal → AnyOrder start journal
silent_order start journal silent = none_run start journal (λ t. ap (λ (steps : List RanStmt). not (is_empty steps)) (silent.attempts t))

-- what holds after each call: the journal is rigorous, and it follows the one within
pub record IsTold (start : Database) (inner outer : Journal) : Type 0 where
  pub rigorous : Rigorous start outer
  pub follows : Follows inner outer (settled outer).lost

-- a loss, from its parts
loss : (start : Database) (inner before : Journal) (call : Call) → Rigorous start before → IsSound call before → (settled (call ∷ before)).lost ≡ true
    → IsSilent (call ∷ before) → Resolves (settled inner).commits (settled inner).doubt (settled (call ∷ before)).commits (settled (call ∷ before)).doubt
    → IsTold start inner (call ∷ before)
loss start inner before call rigorous sound lost silent resolves = record {
  rigorous = (rigorous, sound, silent_order start (call ∷ before) silent);
  follows = subst (λ (b : Bool). Follows inner (call ∷ before) b) (sym lost) record { silent = silent; resolves = resolves };
}

-- what agrees resolves alike
resolves_agreed : (inner outer : Journal) → settled outer ≡ settled inner → Resolves (settled inner).commits (settled inner).doubt (settled outer).commits (settled outer).doubt
resolves_agreed inner outer same =
    subst (λ (s : Settled). Resolves (settled inner).commits (settled inner).doubt s.commits s.doubt) (sym same) (resolves_itself (settled inner).commits (settled inner).doubt)

module _ (start : Database) (inner before : Journal) (rigorous : Rigorous start before) (found : (settled before).lost ≡ false) (agree : Agree inner before) where
  -- the call within is told as it is
  told_as_is : (call : Call) → IsSound call inner → AnyOrder start (call ∷ inner) → IsTold start (call ∷ inner) (call ∷ before)
  told_as_is call sound any = by_loss (settled (call ∷ before)).lost refl
    where
      more : Agree (call ∷ inner) (call ∷ before)
      more = agree_more start inner before agree call

      whole : Rigorous start (call ∷ before)
      whole = (rigorous, sound_along start inner before agree call sound, any_order_along start (call ∷ inner) (call ∷ before) more any)

      by_loss : (b : Bool) → (settled (call ∷ before)).lost ≡ b → IsTold start (call ∷ inner) (call ∷ before)
      by_loss false e = record { rigorous = whole; follows = subst (λ (b : Bool). Follows (call ∷ inner) (call ∷ before) b) (sym e) more }
      by_loss true e = record {
        rigorous = whole;
        follows = subst (λ (b : Bool). Follows (call ∷ inner) (call ∷ before) b) (sym e) record { silent = silent_at_loss call before found e; resolves = resolves_agreed (call ∷ inner) (call ∷ before) more.settled };
      }

-- a loss begins: the doubt is that of this call
begins : (d : Option (List Stmt)) (s : Settled) → s.lost ≡ false → (at_loss d s).doubt ≡ d
begins d s found = ap (λ (b : Bool). cond b s.doubt d) found

-- a loss lasts: nothing is settled anew
lasts : (d : Option (List Stmt)) (s : Settled) → s.lost ≡ true → at_loss d s ≡ s
lasts d s lost =
    let same : (at_loss d s).doubt ≡ s.doubt = ap (λ (b : Bool). cond b s.doubt d) lost in
    λ i. record { commits = s.commits; doubt = same i; lost = sym lost i }

-- a restart that fails, or a rollback or run that is lost, leaves the doubt that there was
doubt_stays : (s : Settled) → (s.lost ≡ false → s.doubt ≡ None) → (b : Bool) → s.lost ≡ b → (at_loss None s).doubt ≡ s.doubt
doubt_stays s none false e = begins None s e ∙ sym (none e)
doubt_stays s none true e = ap (λ (r : Settled). r.doubt) (lasts None s e)

-- where a call is answered Lost, all are silent
lost_run_silent : (t : ℕ) (u : Stmt) (before : Journal) → IsSilent (Ran t u run.Lost ∷ before)
lost_run_silent t u before = record { attempts = λ x. refl; waits = λ x. refl }

lost_commit_silent : (t : ℕ) (before : Journal) → IsSilent (Committed t end.Lost ∷ before)
lost_commit_silent t before = record { attempts = λ x. refl; waits = λ x. refl }

lost_rollback_silent : (t : ℕ) (before : Journal) → IsSilent (RolledBack t end.Lost ∷ before)
lost_rollback_silent t before = record { attempts = λ x. refl; waits = λ x. refl }

restart_silent : (told : Result ℕ Lost) (before : Journal) → IsSilent (Restarted told ∷ before)
restart_silent told before = record { attempts = λ x. refl; waits = λ x. refl }

module _ (start : Database) (inner before : Journal) (rigorous : Rigorous start before) (found : (settled before).lost ≡ false) (agree : Agree inner before)
    (few : length (settled before).commits + 1 ≤ 2 ^ 64 - 1) where
  -- nothing was made within that settles anything
  loss_kept : (within : Journal) → settled within ≡ settled before → (call : Call) (d : Option (List Stmt)) → IsSound call before → IsSilent (call ∷ before)
      → settled (call ∷ before) ≡ at_loss d (settled before) → IsTold start within (call ∷ before)
  loss_kept within same call d sound silent lost =
      let s = settled before in
      let from : Resolves s.commits s.doubt s.commits d = subst (λ (o : Option (List Stmt)). Resolves s.commits o s.commits d) (sym (no_doubt before found)) (resolves_before s.commits d few) in
      let inside : Resolves (settled within).commits (settled within).doubt s.commits d = subst (λ (r : Settled). Resolves r.commits r.doubt s.commits d) (sym same) from in
      let at_last : Resolves (settled within).commits (settled within).doubt s.commits (at_loss d s).doubt =
      subst (λ (o : Option (List Stmt)). Resolves (settled within).commits (settled within).doubt s.commits o) (sym (begins d s found)) inside in
      loss start within before call rigorous sound (ap (λ (r : Settled). r.lost) lost) silent
      (subst (λ (r : Settled). Resolves (settled within).commits (settled within).doubt r.commits r.doubt) (sym lost) at_last)

  -- the backend within was lost by the same call
  loss_within : (call : Call) → IsSound call before → (settled (call ∷ before)).lost ≡ true → IsSilent (call ∷ before) → IsTold start (call ∷ inner) (call ∷ before)
  loss_within call sound lost silent =
      loss start (call ∷ inner) before call rigorous sound lost silent (resolves_agreed (call ∷ inner) (call ∷ before) (agree_more start inner before agree call).settled)

  -- the commit was made within
  loss_made : (t : ℕ) → IsTold start (Committed t end.Done ∷ inner) (Committed t end.Lost ∷ before)
  loss_made t =
      let s = settled before in
      let stmts = statements (attempt t before) in
      let from : Resolves (s.commits ++ stmts ∷ []) s.doubt s.commits (Some stmts) =
      subst (λ (o : Option (List Stmt)). Resolves (s.commits ++ stmts ∷ []) o s.commits (Some stmts)) (sym (no_doubt before found)) (resolves_after s.commits stmts) in
      let inside : Resolves ((settled inner).commits ++ stmts ∷ []) (settled inner).doubt s.commits (Some stmts) =
      subst (λ (r : Settled). Resolves (r.commits ++ stmts ∷ []) r.doubt s.commits (Some stmts)) agree.settled from in
      let made : Resolves ((settled inner).commits ++ statements (attempt t inner) ∷ []) (settled inner).doubt s.commits (Some stmts) =
      subst (λ (steps : List RanStmt). Resolves ((settled inner).commits ++ statements steps ∷ []) (settled inner).doubt s.commits (Some stmts)) (agree.attempts t) inside in
      loss start (Committed t end.Done ∷ inner) before (Committed t end.Lost) rigorous tt refl (lost_commit_silent t before)
      (subst (λ (o : Option (List Stmt)). Resolves ((settled inner).commits ++ statements (attempt t inner) ∷ []) (settled inner).doubt s.commits o) (sym (begins (Some stmts) s found)) made)

  run_lost_after : (t : ℕ) (u : Stmt) (within : RunReply) → IsTold start (Ran t u within ∷ inner) (Ran t u run.Lost ∷ before)
  run_lost_after t u (run.Done answer) = loss_kept (Ran t u (run.Done answer) ∷ inner) (sym agree.settled) (Ran t u run.Lost) None tt (lost_run_silent t u before) refl
  run_lost_after t u (run.Blocked named) = loss_kept (Ran t u (run.Blocked named) ∷ inner) (sym agree.settled) (Ran t u run.Lost) None tt (lost_run_silent t u before) refl
  run_lost_after t u (run.Deadlock cycle) = loss_kept (Ran t u (run.Deadlock cycle) ∷ inner) (sym agree.settled) (Ran t u run.Lost) None tt (lost_run_silent t u before) refl
  run_lost_after t u run.Lost = loss_within (Ran t u run.Lost) tt refl (lost_run_silent t u before)
  run_lost_after t u run.NoMemory = loss_kept (Ran t u run.NoMemory ∷ inner) (sym agree.settled) (Ran t u run.Lost) None tt (lost_run_silent t u before) refl

  commit_lost_after : (t : ℕ) (within : EndReply) → IsTold start (Committed t within ∷ inner) (Committed t end.Lost ∷ before)
  commit_lost_after t end.Done = loss_made t
  commit_lost_after t end.Lost = loss_within (Committed t end.Lost) tt refl (lost_commit_silent t before)

  rollback_lost_after : (t : ℕ) (within : EndReply) → IsTold start (RolledBack t within ∷ inner) (RolledBack t end.Lost ∷ before)
  rollback_lost_after t end.Done = loss_kept (RolledBack t end.Done ∷ inner) (sym agree.settled) (RolledBack t end.Lost) None tt (lost_rollback_silent t before) refl
  rollback_lost_after t end.Lost = loss_within (RolledBack t end.Lost) tt refl (lost_rollback_silent t before)

  -- a restart outside a loss settles nothing
  restart_settles_none : (n : ℕ) → settled (Restarted (Ok n) ∷ inner) ≡ settled before
  restart_settles_none n =
      let s = settled before in
      let none = no_doubt before found in
      let as_before : settled (Restarted (Ok n) ∷ inner) ≡ at_restart n s = ap (at_restart n) (sym agree.settled) in
      let commits : with_doubt n s.doubt s.commits ≡ s.commits = ap (λ (d : Option (List Stmt)). with_doubt n d s.commits) none in
      as_before ∙ (λ i. record { commits = commits i; doubt = sym none i; lost = sym found i })

  restart_lost_after : (why : Lost) (within : Result ℕ Lost) → IsTold start (Restarted within ∷ inner) (Restarted (Err why) ∷ before)
  restart_lost_after why (Ok n) = loss_kept (Restarted (Ok n) ∷ inner) (restart_settles_none n) (Restarted (Err why)) None tt (restart_silent (Err why) before) refl
  restart_lost_after why (Err other) = loss_within (Restarted (Err why)) tt refl (restart_silent (Err why) before)

module _ (start : Database) (inner before : Journal) (rigorous : Rigorous start before) (lost : (settled before).lost ≡ true) (follows : IsLossOf inner before) where
  -- a further call during the loss
  in_loss : (call : Call) (d : Option (List Stmt)) → IsSound call before → IsSilent (call ∷ before) → settled (call ∷ before) ≡ at_loss d (settled before) → IsTold start inner (call ∷ before)
  in_loss call d sound silent told =
      let same : settled (call ∷ before) ≡ settled before = told ∙ lasts d (settled before) lost in
      loss start inner before call rigorous sound (ap (λ (s : Settled). s.lost) told) silent
      (subst (λ (s : Settled). Resolves (settled inner).commits (settled inner).doubt s.commits s.doubt) (sym same) follows.resolves)

  -- the restart that ends the loss, or fails
  after_loss : (told : Result ℕ Lost) → IsSound (Restarted told) inner → IsTold start (Restarted told ∷ inner) (Restarted told ∷ before)
  after_loss (Ok n) sound =
      let commits = follows.resolves.commits n sound in
      record {
        rigorous = (rigorous, follows.resolves.tells n sound, silent_order start (Restarted (Ok n) ∷ before) (restart_silent (Ok n) before));
        follows = record { attempts = λ t. refl; waits = λ t. refl; settled = λ i. record { commits = commits i; doubt = None; lost = false } };
      }
  after_loss (Err why) sound =
      let s = settled inner in
      let stays = doubt_stays s (no_doubt inner) s.lost refl in
      let out = lasts None (settled before) lost in
      let from : Resolves s.commits (at_loss None s).doubt (settled before).commits (settled before).doubt =
      subst (λ (o : Option (List Stmt)). Resolves s.commits o (settled before).commits (settled before).doubt) (sym stays) follows.resolves in
      loss start (Restarted (Err why) ∷ inner) before (Restarted (Err why)) rigorous tt refl (restart_silent (Err why) before)
      (subst (λ (r : Settled). Resolves s.commits (at_loss None s).doubt r.commits r.doubt) (sym out) from)

-- an act that is no lie
abbrev IsNoLie : Option Act → Type 0
IsNoLie a = (a ≡ None) ⊎ ((w : When) × (a ≡ Some (act.Lose w)))

no_lie_step : (f : Fault) (n : ℕ) (b : Bool) (rest : Option Act) → is_lie f.act ≡ false → IsNoLie rest → IsNoLie (cond b (Some f.act) rest)
no_lie_step f n false rest honest others = others
no_lie_step f n true rest honest others = inr (loss_only f.act honest)
  where
    loss_only : (a : Act) → is_lie a ≡ false → (w : When) × (Some a ≡ Some (act.Lose w))
    loss_only (act.Wrong m) h = absurd (cc)
    loss_only (act.Drop m) h = absurd (cc)
    loss_only act.Early h = absurd (cc)
    loss_only (act.Block named) h = absurd (cc)
    loss_only (act.Deadlock cycle) h = absurd (cc)
    loss_only act.Fail h = absurd (cc)
    loss_only (act.Position m) h = absurd (cc)
    loss_only (act.Lose w) h = (w, refl)

no_lie_at : (script : List Fault) (n : ℕ) → lies script ≡ false → IsNoLie (act_at script n)
no_lie_at [] n honest = inl refl
no_lie_at (f ∷ script) n honest =
    let parts = or_parts (is_lie f.act) (lies script) honest in
    no_lie_step f n (f.call == n) (act_at script n) parts.0 (no_lie_at script n parts.1)

-- an act is at a call that the counter tells apart
below_last : (script : List Fault) (n : ℕ) (a : Act) → names_calls script ≡ true → act_at script n ≡ Some a → n < 2 ^ 64 - 1
below_last [] n a named e = absurd (cc)
below_last (f ∷ script) n a named e = by_test (f.call == n) refl (λ h. below_last script n a parts.1 h)
  where
    parts : (nat_lt f.call (2 ^ 64 - 1) ≡ true) × (names_calls script ≡ true)
    parts = and_parts (nat_lt f.call (2 ^ 64 - 1)) (names_calls script) named

    by_test : (b : Bool) → (f.call == n) ≡ b → (act_at script n ≡ Some a → n < 2 ^ 64 - 1) → n < 2 ^ 64 - 1
    by_test true same rest =
        let here : f.call ≡ n = eqb-true f.call n same in
        subst (λ (m : ℕ). m < 2 ^ 64 - 1) here (ltb-true f.call (2 ^ 64 - 1) parts.0)
    by_test false differ rest =
        let later : cond (f.call == n) (Some f.act) (act_at script n) ≡ act_at script n = ap (λ (b : Bool). cond b (Some f.act) (act_at script n)) differ in
        rest (sym later ∙ e)

few_commits : (before : Journal) → next_number before < 2 ^ 64 - 1 → length (settled before).commits + 1 ≤ 2 ^ 64 - 1
few_commits before lt = omega (arith, count_le before)

module _ (start : Database) (earlier before : Journal) (rigorous : Rigorous start before) where
  -- the calls within, by what they are
  as_called : (calls wanted : List Call) (out : Journal) → calls ≡ wanted → (Rigorous start (wanted ++ earlier) → IsTold start (wanted ++ earlier) out)
      → Rigorous start (calls ++ earlier) → IsTold start (calls ++ earlier) out
  as_called calls wanted out same told within =
      subst (λ (cs : List Call). IsTold start (cs ++ earlier) out) (sym same) (told (subst (λ (cs : List Call). Rigorous start (cs ++ earlier)) same within))

  -- a reply that is the one wanted
  as_answered : {R : Type 0} (reply wanted : R) (call : R → Call) (inner : Journal) → reply ≡ wanted → IsTold start inner (call wanted ∷ before) → IsTold start inner (call reply ∷ before)
  as_answered reply wanted call inner same told = subst (λ r. IsTold start inner (call r ∷ before)) (sym same) told

  -- outside a loss
  module _ (found : (settled before).lost ≡ false) (agree : Agree earlier before) where
    plain : (call : Call) (calls : List Call) → calls ≡ call ∷ [] → Rigorous start (calls ++ earlier) → IsTold start (calls ++ earlier) (call ∷ before)
    plain call calls same = as_called calls (call ∷ []) (call ∷ before) same (λ within. told_as_is start earlier before rigorous found agree call within.1 within.2)

    no_act : (call : Call) (calls : List Call) → Tells None false call calls → Rigorous start (calls ++ earlier) → IsTold start (calls ++ earlier) (call ∷ before)
    no_act (Ran t s reply) calls tells = plain (Ran t s reply) calls tells
    no_act (Committed t reply) calls tells = plain (Committed t reply) calls tells
    no_act (RolledBack t reply) calls tells = plain (RolledBack t reply) calls tells
    no_act (Restarted told) calls tells = plain (Restarted told) calls (tells.2 ∙ ap (λ (r : Result ℕ Lost). Restarted r ∷ []) (sym tells.1))

    module _ (few : length (settled before).commits + 1 ≤ 2 ^ 64 - 1) where
      none_called : (call : Call) (d : Option (List Stmt)) (calls : List Call) → calls ≡ [] → IsSound call before → IsSilent (call ∷ before) → settled (call ∷ before) ≡ at_loss d (settled before)
          → Rigorous start (calls ++ earlier) → IsTold start (calls ++ earlier) (call ∷ before)
      none_called call d calls none sound silent lost =
          as_called calls [] (call ∷ before) none (λ within. loss_kept start earlier before rigorous found agree few earlier (sym agree.settled) call d sound silent lost)

      a_loss : (w : When) (call : Call) (calls : List Call) → Tells (Some (act.Lose w)) false call calls → Rigorous start (calls ++ earlier) → IsTold start (calls ++ earlier) (call ∷ before)
      a_loss Before (Ran t s reply) calls tells within =
          as_answered reply run.Lost (Ran t s) _ tells.0 (none_called (Ran t s run.Lost) None calls tells.1 tt (lost_run_silent t s before) refl within)
      a_loss After (Ran t s reply) calls tells within =
          as_answered reply run.Lost (Ran t s) _ tells.1
          (as_called calls (Ran t s tells.0 ∷ []) (Ran t s run.Lost ∷ before) tells.2 (λ more. run_lost_after start earlier before rigorous found agree few t s tells.0) within)
      a_loss Before (Committed t reply) calls tells within =
          as_answered reply end.Lost (Committed t) _ tells.0 (none_called (Committed t end.Lost) (Some (statements (attempt t before))) calls tells.1 tt (lost_commit_silent t before) refl within)
      a_loss After (Committed t reply) calls tells within =
          as_answered reply end.Lost (Committed t) _ tells.1
          (as_called calls (Committed t tells.0 ∷ []) (Committed t end.Lost ∷ before) tells.2 (λ more. commit_lost_after start earlier before rigorous found agree few t tells.0) within)
      a_loss Before (RolledBack t reply) calls tells within =
          as_answered reply end.Lost (RolledBack t) _ tells.0 (none_called (RolledBack t end.Lost) None calls tells.1 tt (lost_rollback_silent t before) refl within)
      a_loss After (RolledBack t reply) calls tells within =
          as_answered reply end.Lost (RolledBack t) _ tells.1
          (as_called calls (RolledBack t tells.0 ∷ []) (RolledBack t end.Lost ∷ before) tells.2 (λ more. rollback_lost_after start earlier before rigorous found agree few t tells.0) within)
      a_loss Before (Restarted (Ok n)) calls tells within = absurd (cc (tells.0))
      a_loss Before (Restarted (Err why)) calls tells within = none_called (Restarted (Err why)) None calls tells.1 tt (restart_silent (Err why) before) refl within
      a_loss After (Restarted (Ok n)) calls tells within = absurd (cc (tells.1))
      a_loss After (Restarted (Err why)) calls tells within =
          as_called calls (Restarted tells.0 ∷ []) (Restarted (Err why) ∷ before) tells.2 (λ more. restart_lost_after start earlier before rigorous found agree few why tells.0) within

  -- during a loss
  module _ (lost : (settled before).lost ≡ true) (follows : IsLossOf earlier before) where
    no_call : (call : Call) (d : Option (List Stmt)) (calls : List Call) → calls ≡ [] → IsSound call before → IsSilent (call ∷ before) → settled (call ∷ before) ≡ at_loss d (settled before)
        → Rigorous start (calls ++ earlier) → IsTold start (calls ++ earlier) (call ∷ before)
    no_call call d calls none sound silent told = as_called calls [] (call ∷ before) none (λ within. in_loss start earlier before rigorous lost follows call d sound silent told)

    lasting : (a : Option Act) (call : Call) (calls : List Call) → IsNoLie a → Tells a true call calls → Rigorous start (calls ++ earlier) → IsTold start (calls ++ earlier) (call ∷ before)
    lasting a (Ran t s reply) calls honest tells within =
        as_answered reply run.Lost (Ran t s) _ tells.0 (no_call (Ran t s run.Lost) None calls tells.1 tt (lost_run_silent t s before) refl within)
    lasting a (Committed t reply) calls honest tells within =
        as_answered reply end.Lost (Committed t) _ tells.0 (no_call (Committed t end.Lost) (Some (statements (attempt t before))) calls tells.1 tt (lost_commit_silent t before) refl within)
    lasting a (RolledBack t reply) calls honest tells within =
        as_answered reply end.Lost (RolledBack t) _ tells.0 (no_call (RolledBack t end.Lost) None calls tells.1 tt (lost_rollback_silent t before) refl within)
    lasting a (Restarted told) calls (inl none) tells within =
        let plainly : Tells None true (Restarted told) calls = subst (λ (o : Option Act). Tells o true (Restarted told) calls) none tells in
        let same : calls ≡ Restarted told ∷ [] = plainly.2 ∙ ap (λ (r : Result ℕ Lost). Restarted r ∷ []) (sym plainly.1) in
        as_called calls (Restarted told ∷ []) (Restarted told ∷ before) same (λ more. after_loss start earlier before rigorous lost follows told more.1) within
    lasting a (Restarted told) calls (inr some) tells within =
        restart_in_loss some.0 told (subst (λ (o : Option Act). Tells o true (Restarted told) calls) some.1 tells) within
      where
        restart_in_loss : (w : When) (r : Result ℕ Lost) → Tells (Some (act.Lose w)) true (Restarted r) calls → Rigorous start (calls ++ earlier) → IsTold start (calls ++ earlier) (Restarted r ∷ before)
        restart_in_loss Before (Ok n) told within = absurd (cc (told.0))
        restart_in_loss Before (Err why) told within = no_call (Restarted (Err why)) None calls told.1 tt (restart_silent (Err why) before) refl within
        restart_in_loss After (Ok n) told within = absurd (cc (told.0))
        restart_in_loss After (Err why) told within = no_call (Restarted (Err why)) None calls told.1 tt (restart_silent (Err why) before) refl within

  step : (b : Bool) → (settled before).lost ≡ b → Follows earlier before b → (a : Option Act) → IsNoLie a → ((x : Act) → a ≡ Some x → length (settled before).commits + 1 ≤ 2 ^ 64 - 1)
      → (call : Call) (calls : List Call) → Tells a b call calls → Rigorous start (calls ++ earlier) → IsTold start (calls ++ earlier) (call ∷ before)
  step true lost follows a honest few call calls tells = lasting lost follows a call calls honest tells
  step false found agree a (inl none) few call calls tells =
      no_act found agree call calls (subst (λ (o : Option Act). Tells o false call calls) none tells)
  step false found agree a (inr some) few call calls tells =
      a_loss found agree (few (act.Lose some.0) some.1) some.0 call calls (subst (λ (o : Option Act). Tells o false call calls) some.1 tells)

-- the journal within before its latest calls is rigorous too
rigorous_before : (start : Database) (calls earlier : Journal) → Rigorous start (calls ++ earlier) → Rigorous start earlier
rigorous_before start [] earlier rigorous = rigorous
rigorous_before start (call ∷ calls) earlier rigorous = rigorous_before start calls earlier rigorous.0

-- What is told by a script without a lie is rigorous, and follows the journal within.
pub told_honestly : (start : Database) (script : List Fault) → lies script ≡ false → names_calls script ≡ true → (outer inner : Journal) → Scripted script inner outer → Rigorous start inner → IsTold start inner outer
told_honestly start script honest named [] inner told rigorous =
    record { rigorous = tt; follows = record { attempts = λ t. ap (attempt t) (sym told); waits = λ t. ap (wait t) (sym told); settled = ap settled (sym told) } }
told_honestly start script honest named (call ∷ before) inner (earlier, calls, same, told, tells) rigorous =
    let within : Rigorous start (calls ++ earlier) = subst (Rigorous start) same rigorous in
    let until = told_honestly start script honest named before earlier told (rigorous_before start calls earlier within) in
    let a = act_at script (next_number before) in
    let few : (x : Act) → a ≡ Some x → length (settled before).commits + 1 ≤ 2 ^ 64 - 1 = λ x e. few_commits before (below_last script (next_number before) x named e) in
    subst (λ (j : Journal). IsTold start j (call ∷ before)) (sym same)
    (step start earlier before until.rigorous (settled before).lost refl until.follows a (no_lie_at script (next_number before) honest) few call calls tells within)

-- what may stand behind the journal within may stand behind the one that is told
bases_told : (start : Database) (inner outer : Journal) (b : Bool) → Follows inner outer b → (d : Database) → Contains (bases start inner) d → Contains (bases start outer) d
bases_told start inner outer false agree d among = subst (λ (s : Settled). Contains (may_stand start s.commits s.doubt) d) (sym agree.settled) among
bases_told start inner outer true follows d among = follows.resolves.stands start d among

-- a script without a lie keeps what is promised of the backend within
pub legal_over : (stands : Database → Journal → Type 0) (script : List Fault) (calls : ℕ) (lost : Bool) (d start : Database) (journal : Journal) (honest : Bool)
    → (honest ≡ true → (within : Journal) → stands start within → IsLegal start within d)
    → (honest && not (lies script)) ≡ true → Wraps stands script calls lost start journal → IsLegal start journal d
legal_over stands script calls lost d start journal honest inner both wraps =
    let parts = and_parts honest (not (lies script)) both in
    let legal = inner parts.0 wraps.within wraps.stood in
    let told = told_honestly start script (is_false (lies script) parts.1) wraps.named journal wraps.within wraps.told legal.rigorous in
    record { rigorous = told.rigorous; base = bases_told start wraps.within journal (settled journal).lost told.follows d legal.base }
  where
    is_false : (b : Bool) → not b ≡ true → b ≡ false
    is_false false h = refl
    is_false true h = absurd (cc)
