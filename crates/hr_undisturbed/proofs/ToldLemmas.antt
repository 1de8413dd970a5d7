-- A script without an act tells each call of an exact engine as it is, and the engine is never lost.
use Rattle.std.proofs.Common.{◌≡◌, false, None, Ok, Err, List, [], ◌∷◌, ◌++◌, refl, ap, sym, ◌∙◌, subst}
use Rattle.hr_engine.specs.declared.reply.RunReply.TheVariants as run
use Rattle.hr_engine.specs.declared.reply.EndReply.TheVariants as end
use Rattle.hr_engine.specs.Journal.{Call, Ran, Committed, RolledBack, Restarted, Journal}
use Rattle.hr_engine.specs.Base.{settled}
use Rattle.hr_engine.specs.Exact.{IsExact, Exact}
use Rattle.hr_faulty.specs.Told.{Tells, Scripted}
use Rattle.hr_schedule.specs.Claims.{Conflict}

told_as_it_is : (call : Call) (calls : List Call) → Tells None false call calls → calls ≡ call ∷ []
told_as_it_is (Ran t stmt reply) calls told = told
told_as_it_is (Committed t reply) calls told = told
told_as_it_is (RolledBack t reply) calls told = told
told_as_it_is (Restarted told) calls is = is.2 ∙ ap (λ r. Restarted r ∷ []) (sym is.1)

module _ (conflict : Conflict) where
  earlier_exact : (calls earlier : Journal) → Exact conflict (calls ++ earlier) → Exact conflict earlier
  earlier_exact [] earlier exact = exact
  earlier_exact (call ∷ calls) earlier exact = earlier_exact calls earlier exact.0

  still_there : (call : Call) (before : Journal) → IsExact conflict call before → (settled before).lost ≡ false → (settled (call ∷ before)).lost ≡ false
  still_there (Ran t stmt (run.Done answer)) before exact e = e
  still_there (Ran t stmt (run.Blocked named)) before exact e = e
  still_there (Ran t stmt (run.Deadlock cycle)) before exact e = e
  still_there (Ran t stmt run.Lost) before exact e = absurd exact
  still_there (Ran t stmt run.NoMemory) before exact e = e
  still_there (Committed t end.Done) before exact e = e
  still_there (Committed t end.Lost) before exact e = absurd exact
  still_there (RolledBack t end.Done) before exact e = e
  still_there (RolledBack t end.Lost) before exact e = absurd exact
  still_there (Restarted (Ok told)) before exact e = refl
  still_there (Restarted (Err lost)) before exact e = absurd exact

  pub nothing_told : (within journal : Journal) → Exact conflict within → Scripted [] within journal → (journal ≡ within) × ((settled journal).lost ≡ false)
  nothing_told within [] exact told = (sym told, refl)
  nothing_told within (call ∷ before) exact told =
      let rest = nothing_told told.0 before (earlier_exact told.1 told.0 (subst (Exact conflict) told.2 exact)) told.3 in
      let one : told.1 ≡ call ∷ [] = told_as_it_is call told.1 (subst (λ lost. Tells None lost call told.1) rest.1 told.4) in
      let same : (call ∷ before) ≡ within = ap (λ l. call ∷ l) rest.0 ∙ ap (λ calls. calls ++ told.0) (sym one) ∙ sym told.2 in
      let now : Exact conflict (call ∷ before) = subst (Exact conflict) (sym same) exact in
      (same, still_there call before now.1 rest.1)
