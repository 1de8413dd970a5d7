-- The replies that stored entries tell.
use Rattle.std.proofs.Common.{◌≡◌, ℕ, zero, suc, ◌<◌, true, nat_lt, Option, Some, None, unwrap_or, List, [], ◌∷◌, length, map, reverse, slice_get, IsTrue, refl, ap, sym, ◌∙◌, arith}
use Rattle.std.specs.Option.{option_map}
use Rattle.std.proofs.lemmas.Bool.{and_parts, ltb-true}
use Rattle.std.proofs.lemmas.List.{reverse-reverse}
use Rattle.std.proofs.lemmas.Option.{slice_get-map}
use Rattle.hr_engine.specs.declared.reply.RunReply.{RunReply}
use Rattle.hr_engine.specs.declared.reply.RunReply.TheVariants as run
use Rattle.hr_history.specs.declared.entry.Entry.{Entry}
use Rattle.hr_history.specs.declared.entry.Event.{Event}
use Rattle.hr_history.specs.History.{history_of}
use Rattle.hr_history.specs.Replies.{event_at}
use Rattle.hr_rel.specs.declared.stmt.Stmt.{Stmt}
use Rattle.hr_entries.specs.declared.stored.Stored.{Stored}
use Rattle.hr_entries.specs.declared.stored.StoredEvent.{StoredEvent}
use Rattle.hr_entries.specs.declared.stored.StoredEvent.TheVariants as stored
use Rattle.hr_entries.specs.Entries.{reply_at, event_of, entry_of, entries_of, is_within, are_within}
use Rattle.hr_ledger.specs.Told.{reply_told, place_told, ran_in}

module _ (ss : List Stmt) (rs : List RunReply) where
  there : (xs : List RunReply) (at : ℕ) → at < length xs → slice_get xs at ≡ Some (unwrap_or (slice_get xs at) run.NoMemory)
  there [] at h = absurd (omega (arith, h))
  there (x ∷ xs) zero h = refl
  there (x ∷ xs) (suc at) h = there xs at (omega (arith, h))

  by_event : (e : StoredEvent) → IsTrue (is_within (length ss) (length rs) e) → option_map (slice_get rs) (place_told e) ≡ option_map (λ (r : RunReply). Some r) (reply_told (Some (event_of ss rs e)))
  by_event (stored.Ran replica at) h = ap Some (there rs at (ltb-true at (length rs) h))
  by_event (stored.Begin session txn) h = refl
  by_event (stored.Submit txn index at) h = refl
  by_event (stored.AskCommit txn) h = refl
  by_event (stored.AskRollback txn) h = refl
  by_event (stored.Take replica job) h = refl
  by_event (stored.Ended replica given) h = refl
  by_event (stored.StillLost replica) h = refl
  by_event (stored.Restarted replica count) h = refl
  by_event stored.Suspect h = refl
  by_event (stored.Decide txn) h = refl
  by_event (stored.Refuse txn cause) h = refl
  by_event (stored.Convict replica evidence) h = refl
  by_event (stored.NewPrimary replica) h = refl
  by_event (stored.Preempt replica txn) h = refl

  at_place : (all : List Stored) (place : ℕ) → IsTrue (are_within ss rs all)
      → option_map (slice_get rs) (ran_in (slice_get all place)) ≡ option_map (λ (r : RunReply). Some r) (reply_told (option_map (λ (e : Entry). e.event) (option_map (entry_of ss rs) (slice_get all place))))
  at_place [] place h = refl
  at_place (s ∷ all) zero h = by_event s.event (and_parts (is_within (length ss) (length rs) s.event) (are_within ss rs all) h).0
  at_place (s ∷ all) (suc place) h = at_place all place (and_parts (is_within (length ss) (length rs) s.event) (are_within ss rs all) h).1

  pub told_at : (all : List Stored) (place : ℕ) → IsTrue (are_within ss rs all) → option_map (slice_get rs) (ran_in (slice_get all place)) ≡ option_map (λ (r : RunReply). Some r) (reply_told (event_at place (history_of (entries_of ss rs all))))
  told_at all place h =
      at_place all place h
      ∙ ap (λ o. option_map (λ (r : RunReply). Some r) (reply_told (option_map (λ (e : Entry). e.event) o)))
      (sym (slice_get-map (entry_of ss rs) all place) ∙ ap (λ (es : List Entry). slice_get es place) (sym (reverse-reverse (entries_of ss rs all))))
