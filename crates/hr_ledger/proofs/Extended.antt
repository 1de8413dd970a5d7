-- What stays where lists grow at their ends.
use Rattle.std.proofs.Common.{◌≡◌, ℕ, zero, suc, ◌+◌, ◌<◌, ◌≤◌, Bool, true, false, ◌&&◌, nat_lt, Option, Some, None, unwrap_or, List, [], ◌∷◌, ◌++◌, length, map, slice_get, IsTrue, refl, ap, sym, ◌∙◌, subst, arith, append-nil, length-append}
use Rattle.std.specs.List.{list_all}
use Rattle.std.proofs.lemmas.Bool.{and_parts, and_from, ltb-true, lt-ltb}
use Rattle.hr_rel.specs.declared.stmt.Stmt.{Stmt}
use Rattle.hr_engine.specs.declared.reply.RunReply.{RunReply}
use Rattle.hr_history.specs.declared.entry.Event.{Event}
use Rattle.hr_entries.specs.declared.stored.Stored.{Stored}
use Rattle.hr_entries.specs.declared.stored.StoredEvent.{StoredEvent}
use Rattle.hr_entries.specs.declared.stored.StoredEvent.TheVariants as stored
use Rattle.hr_history.specs.declared.entry.Entry.{Entry}
use Rattle.hr_history.specs.declared.entry.Event.TheVariants as event
use Rattle.hr_history.specs.declared.job.JobReply.{JobReply}
use Rattle.hr_history.specs.declared.job.JobReply.TheVariants as reply
use Rattle.hr_history.specs.Turn.{next_replies}
use Rattle.hr_entries.specs.Entries.{statement_at, reply_at, event_of, entry_of, entries_of, is_within, are_within}
use Rattle.hr_ledger.specs.Kept.{Extends, at_places}

pub extends_none : {X : Type 0} (xs : List X) → Extends xs xs
extends_none xs = ([], sym (append-nil xs))

pub extends_one : {X : Type 0} (xs : List X) (x : X) → Extends xs (xs ++ x ∷ [])
extends_one xs x = (x ∷ [], refl)

module _ {X : Type 0} where
  got_before : (xs more : List X) (i : ℕ) → i < length xs → slice_get (xs ++ more) i ≡ slice_get xs i
  got_before [] more i h = absurd (omega (arith, h))
  got_before (x ∷ xs) more zero h = refl
  got_before (x ∷ xs) more (suc i) h = got_before xs more i (omega (arith, h))

  pub got_kept : (xs ys : List X) (i : ℕ) → Extends xs ys → i < length xs → slice_get ys i ≡ slice_get xs i
  got_kept xs ys i (more, is) h = ap (λ zs. slice_get zs i) is ∙ got_before xs more i h

  some_before : (xs more : List X) (i : ℕ) (x : X) → slice_get xs i ≡ Some x → slice_get (xs ++ more) i ≡ Some x
  some_before [] more i x h = cc h
  some_before (y ∷ xs) more zero x h = h
  some_before (y ∷ xs) more (suc i) x h = some_before xs more i x h

  pub some_kept : (xs ys : List X) (i : ℕ) (x : X) → Extends xs ys → slice_get xs i ≡ Some x → slice_get ys i ≡ Some x
  some_kept xs ys i x (more, is) h = ap (λ zs. slice_get zs i) is ∙ some_before xs more i x h

  pub last_is : (xs : List X) (x : X) → slice_get (xs ++ x ∷ []) (length xs) ≡ Some x
  last_is [] x = refl
  last_is (y ∷ xs) x = last_is xs x

  pub no_less : (xs ys : List X) → Extends xs ys → length xs ≤ length ys
  no_less xs ys (more, is) = omega (arith, ap length is, length-append xs more)

module _ (ss ts : List Stmt) (rs us : List RunReply) (statements : Extends ss ts) (replies : Extends rs us) where
  event_kept : (e : StoredEvent) → IsTrue (is_within (length ss) (length rs) e) → event_of ts us e ≡ event_of ss rs e
  event_kept (stored.Submit txn index at) h = ap (λ o. event.Submit txn index (unwrap_or o (statement_at [] 0))) (got_kept ss ts at statements (ltb-true at (length ss) h))
  event_kept (stored.Ran replica at) h = ap (λ o. event.Give replica (reply.Ran (unwrap_or o (reply_at [] 0)))) (got_kept rs us at replies (ltb-true at (length rs) h))
  event_kept (stored.Begin session txn) h = refl
  event_kept (stored.AskCommit txn) h = refl
  event_kept (stored.AskRollback txn) h = refl
  event_kept (stored.Take replica job) h = refl
  event_kept (stored.Ended replica given) h = refl
  event_kept (stored.StillLost replica) h = refl
  event_kept (stored.Restarted replica count) h = refl
  event_kept stored.Suspect h = refl
  event_kept (stored.Decide txn) h = refl
  event_kept (stored.Refuse txn cause) h = refl
  event_kept (stored.Convict replica evidence) h = refl
  event_kept (stored.NewPrimary replica) h = refl
  event_kept (stored.Preempt replica txn) h = refl

  within_kept : (e : StoredEvent) → IsTrue (is_within (length ss) (length rs) e) → IsTrue (is_within (length ts) (length us) e)
  within_kept (stored.Submit txn index at) h = lt-ltb at (length ts) (omega (arith, ltb-true at (length ss) h, no_less ss ts statements))
  within_kept (stored.Ran replica at) h = lt-ltb at (length us) (omega (arith, ltb-true at (length rs) h, no_less rs us replies))
  within_kept (stored.Begin session txn) h = refl
  within_kept (stored.AskCommit txn) h = refl
  within_kept (stored.AskRollback txn) h = refl
  within_kept (stored.Take replica job) h = refl
  within_kept (stored.Ended replica given) h = refl
  within_kept (stored.StillLost replica) h = refl
  within_kept (stored.Restarted replica count) h = refl
  within_kept stored.Suspect h = refl
  within_kept (stored.Decide txn) h = refl
  within_kept (stored.Refuse txn cause) h = refl
  within_kept (stored.Convict replica evidence) h = refl
  within_kept (stored.NewPrimary replica) h = refl
  within_kept (stored.Preempt replica txn) h = refl

  pub entries_kept_on : (all : List Stored) → IsTrue (are_within ss rs all) → entries_of ts us all ≡ entries_of ss rs all
  entries_kept_on [] h = refl
  entries_kept_on (s ∷ all) h =
      let p = and_parts (is_within (length ss) (length rs) s.event) (are_within ss rs all) h in
      λ i. record { caller = s.caller; event = event_kept s.event p.0 i } ∷ entries_kept_on all p.1 i

  pub within_all : (all : List Stored) → IsTrue (are_within ss rs all) → IsTrue (are_within ts us all)
  within_all [] h = refl
  within_all (s ∷ all) h =
      let p = and_parts (is_within (length ss) (length rs) s.event) (are_within ss rs all) h in
      and_from (is_within (length ts) (length us) s.event) (are_within ts us all) (within_kept s.event p.0) (within_all all p.1)

-- what stands at places stays there
pub places_kept : (xs ys : List Stmt) (places : List ℕ) (stmts : List Stmt) → Extends xs ys → at_places xs places ≡ map Some stmts → at_places ys places ≡ map Some stmts
places_kept xs ys [] stmts ext h = h
places_kept xs ys (p ∷ places) [] ext h = cc h
places_kept xs ys (p ∷ places) (s ∷ stmts) ext h =
    let first : slice_get xs p ≡ Some s = ap head h in
    let rest : at_places xs places ≡ map Some stmts = ap tail h in
    λ i. some_kept xs ys p s ext first i ∷ places_kept xs ys places stmts ext rest i
  where
    head : List (Option Stmt) → Option Stmt
    head [] = None
    head (x ∷ xs) = x

    tail : List (Option Stmt) → List (Option Stmt)
    tail [] = []
    tail (x ∷ xs) = xs

pub extends_same : {X : Type 0} (xs ys : List X) → ys ≡ xs → Extends xs ys
extends_same xs ys e = ([], e ∙ sym (append-nil xs))

-- a reply to a run is added at the end
pub extends_told : (r : ℕ) (told : JobReply) (rs : List RunReply) → Extends rs (next_replies (event.Give r told) rs)
extends_told r (reply.Ran x) rs = extends_one rs x
extends_told r (reply.Ended x) rs = extends_none rs
extends_told r reply.StillLost rs = extends_none rs
