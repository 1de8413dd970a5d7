-- What is told of a call that is made within.
use Rattle.std.proofs.Common.{◌≡◌, ℕ, Bool, false, Option, Some, None, Result, Err, [], ◌∷◌, refl, subst, sym}
use Rattle.hr_rel.specs.declared.stmt.Stmt.{Stmt}
use Rattle.hr_rel.specs.declared.answer.Answer.{Answer}
use Rattle.hr_engine.specs.declared.reply.RunReply.{RunReply}
use Rattle.hr_engine.specs.declared.reply.RunReply.TheVariants as run
use Rattle.hr_engine.specs.declared.reply.EndReply.{EndReply}
use Rattle.hr_engine.specs.declared.reply.EndReply.TheVariants as end
use Rattle.hr_engine.specs.declared.reply.Lost.{Lost}
use Rattle.hr_engine.specs.Journal.{Call, Ran, Committed, Restarted}
use Rattle.hr_faulty.specs.declared.script.Act.{Act}
use Rattle.hr_faulty.specs.declared.script.Act.TheVariants as act
use Rattle.hr_faulty.specs.declared.script.When.{When}
use Rattle.hr_faulty.specs.declared.script.When.TheVariants.{After}
use Rattle.hr_faulty.specs.Told.{TellsRun, TellsEnd, TellsRestart, EarlyCalls, with_position}

pub run_as_is : (a : Option Act) (t : ℕ) (s : Stmt) (reply : RunReply) → a ≡ None → TellsRun a t s reply (Ran t s reply ∷ [])
run_as_is a t s reply e = subst (λ (o : Option Act). TellsRun o t s reply (Ran t s reply ∷ [])) (sym e) refl

pub run_at_position : (a : Act) (n t : ℕ) (s : Stmt) (reply : RunReply) → a ≡ act.Position n → TellsRun (Some a) t s reply (Ran t s reply ∷ [])
run_at_position a n t s reply e = subst (λ (o : Act). TellsRun (Some o) t s reply (Ran t s reply ∷ [])) (sym e) refl

pub run_behind : (w : When) (t : ℕ) (s : Stmt) (within : RunReply) → w ≡ After → TellsRun (Some (act.Lose w)) t s run.Lost (Ran t s within ∷ [])
run_behind w t s within e = subst (λ (v : When). TellsRun (Some (act.Lose v)) t s run.Lost (Ran t s within ∷ [])) (sym e) (within, refl, refl)

-- behind a Done the commit was made
pub early_done : (t : ℕ) (s : Stmt) (reply : RunReply) (a : Answer) (ended : EndReply) → reply ≡ run.Done a → EarlyCalls t s reply (Committed t ended ∷ Ran t s reply ∷ [])
early_done t s reply a ended e = subst (λ (r : RunReply). EarlyCalls t s r (Committed t ended ∷ Ran t s r ∷ [])) (sym e) (ended, refl)

pub early_else : (t : ℕ) (s : Stmt) (reply : RunReply) → ((a : Answer) → reply ≡ run.Done a → ⊥) → EarlyCalls t s reply (Ran t s reply ∷ [])
early_else t s (run.Done a) never = absurd (never a refl)
early_else t s (run.Blocked named) never = refl
early_else t s (run.Deadlock cycle) never = refl
early_else t s run.Lost never = refl
early_else t s run.NoMemory never = refl

pub end_as_is : (loss : Option When) (call : EndReply → Call) (reply : EndReply) → loss ≡ None → TellsEnd loss call reply (call reply ∷ [])
end_as_is loss call reply e = subst (λ (l : Option When). TellsEnd l call reply (call reply ∷ [])) (sym e) refl

pub end_behind : (w : When) (call : EndReply → Call) (within : EndReply) → w ≡ After → TellsEnd (Some w) call end.Lost (call within ∷ [])
end_behind w call within e = subst (λ (v : When). TellsEnd (Some v) call end.Lost (call within ∷ [])) (sym e) (within, refl, refl)

pub restart_as_is : (loss : Option When) (position : Option ℕ) (lost : Bool) (told within : Result ℕ Lost) → loss ≡ None → told ≡ with_position position within
    → TellsRestart loss position lost told (Restarted within ∷ [])
restart_as_is loss position lost told within e f = subst (λ (l : Option When). TellsRestart l position lost told (Restarted within ∷ [])) (sym e) (within, f, refl)

pub restart_behind : (w : When) (position : Option ℕ) (lost : Bool) (why : Lost) (within : Result ℕ Lost) → w ≡ After → lost ≡ false
    → TellsRestart (Some w) position lost (Err why) (Restarted within ∷ [])
restart_behind w position lost why within e f =
    subst (λ (v : When). TellsRestart (Some v) position lost (Err why) (Restarted within ∷ [])) (sym e)
    (subst (λ (b : Bool). TellsRestart (Some After) position b (Err why) (Restarted within ∷ [])) (sym f) (within, refl, refl))
