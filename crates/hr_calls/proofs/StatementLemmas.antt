-- Statements keep their numbers.
use Rattle.std.proofs.Common.{◌≡◌, inl, inr, ℕ, zero, suc, ◌<◌, ◌≤◌, cond, ◌==◌, unwrap_or, slice_get, List, [], ◌∷◌, ◌++◌, length, refl, ap, sym, ◌∙◌, arith, append-nil, length-append}
use Rattle.hr_base.specs.Lists.{numbered}
use Rattle.hr_rel.specs.declared.stmt.Stmt.{Stmt}
use Rattle.hr_history.specs.declared.entry.Entry.{Entry}
use Rattle.hr_history.specs.declared.entry.Event.{Event}
use Rattle.hr_history.specs.declared.entry.Event.TheVariants as event
use Rattle.hr_history.specs.History.{History}
use Rattle.hr_history.specs.Transactions.{begun, submits}
use Rattle.hr_history.specs.Replicas.{stmt_at, any_stmt}
use Rattle.hr_history.specs.Faithful.{Begun}
use Rattle.hr_history.proofs.StepLemmas.{call_allowed}
use Rattle.hr_records.specs.AtReplica.{Begins}
use Rattle.hr_records.specs.Numbers.{IsBorn}
use Rattle.hr_records.proofs.Allowed.{begin_allowed}
use Rattle.hr_records.proofs.Beginnings.{begins_chain}
use Rattle.hr_records.proofs.Places.{if_other, same_or_not, if_same}
use Rattle.hr_records.proofs.RuleLemmas.{begun_before}
use Rattle.hr_calls.specs.Callers.{WasSubmitted}

itself : {X : Type 0} (xs : List X) → Begins xs xs
itself xs = ([], append-nil xs)

equal_begins : {X : Type 0} (xs ys : List X) → ys ≡ xs → Begins xs ys
equal_begins xs ys e = ([], append-nil xs ∙ sym e)

-- the transaction is there, and its statements begin those that it has now
record Grows (t : ℕ) (before now : History) : Type 0 where
  there : length (begun before) ≤ length (begun now)
  statements : Begins (submits t before) (submits t now)

stays : (t : ℕ) (before now : History) → begun now ≡ begun before → submits t now ≡ submits t before → Grows t before now
stays t before now same_begun same_submits =
    record { there = omega (arith, ap (λ l. length l) same_begun); statements = equal_begins (submits t before) (submits t now) same_submits }

submitted_more : (txn t : ℕ) (stmt : Stmt) (xs : List Stmt) → Begins xs (cond (txn == t) (xs ++ stmt ∷ []) xs)
submitted_more txn t stmt xs = elim (same_or_not txn t) [
  | inl same ↦ (stmt ∷ [], sym (if_same txn t (xs ++ stmt ∷ []) xs same))
  | inr other ↦ equal_begins xs _ (if_other txn t (xs ++ stmt ∷ []) xs other)
]

module _ (f s c t : ℕ) (h : History) (born : IsBorn (length (begun h)) t) where
  grows_one : (e : Event) → Begun f s (record { caller = c; event = e } ∷ h) → Grows t h (record { caller = c; event = e } ∷ h)
  grows_one (event.Begin session txn) begun_now =
      let a = begin_allowed f s c h session txn (call_allowed f s record { caller = c; event = event.Begin session txn } h begun_now refl) in
      record {
        there = omega (arith, length-append (begun h) (session ∷ []));
        statements = equal_begins (submits t h) _ (if_other txn t [] (submits t h) (λ same. absurd (omega (arith, a.0, same, born.1))));
      }
  grows_one (event.Submit txn index stmt) begun_now = record { there = omega arith; statements = submitted_more txn t stmt (submits t h) }
  grows_one (event.AskCommit txn) begun_now = stays t h _ refl refl
  grows_one (event.AskRollback txn) begun_now = stays t h _ refl refl
  grows_one (event.Take q j) begun_now = stays t h _ refl refl
  grows_one (event.Give q told) begun_now = stays t h _ refl refl
  grows_one (event.Restarted q n) begun_now = stays t h _ refl refl
  grows_one event.Suspect begun_now = stays t h _ refl refl
  grows_one (event.Decide txn) begun_now = stays t h _ refl refl
  grows_one (event.Refuse txn x) begun_now = stays t h _ refl refl
  grows_one (event.Convict q x) begun_now = stays t h _ refl refl
  grows_one (event.NewPrimary q) begun_now = stays t h _ refl refl
  grows_one (event.Preempt q txn) begun_now = stays t h _ refl refl

grows : (f s t : ℕ) (more : List Entry) (h : History) → Begun f s (more ++ h) → IsBorn (length (begun h)) t → Grows t h (more ++ h)
grows f s t [] h begun_now born = stays t h h refl refl
grows f s t (e ∷ more) h begun_now born =
    let earlier = grows f s t more h (begun_before f s e (more ++ h) begun_now) born in
    let next = grows_one f s e.caller t (more ++ h) (born.0, omega (arith, born.1, earlier.there)) e.event begun_now in
    record {
      there = omega (arith, earlier.there, next.there);
      statements = begins_chain (submits t h) (submits t (more ++ h)) (submits t (e ∷ more ++ h)) earlier.statements next.statements;
    }

-- what a beginning has at a place, the whole has there
got_within_front : {X : Type 0} (xs ys : List X) (n : ℕ) → n < length xs → slice_get (xs ++ ys) n ≡ slice_get xs n
got_within_front [] ys n lt = absurd (omega (arith, lt))
got_within_front (x ∷ xs) ys zero lt = refl
got_within_front (x ∷ xs) ys (suc n) lt = got_within_front xs ys n (omega (arith, lt))

numbered_within_front : {X : Type 0} (xs ys : List X) (i : ℕ) → i ≤ length xs → numbered (xs ++ ys) i ≡ numbered xs i
numbered_within_front xs ys zero le = refl
numbered_within_front xs ys (suc n) le = got_within_front xs ys n (omega (arith, le))

pub statement_kept : (f s t i : ℕ) (more : List Entry) (h : History) → Begun f s (more ++ h) → WasSubmitted t i h → stmt_at (more ++ h) t i ≡ stmt_at h t i
statement_kept f s t i more h begun_now was =
    let all = (grows f s t more h begun_now was.0).statements in
    ap (λ o. unwrap_or o any_stmt) (ap (λ l. numbered l i) (sym all.1) ∙ numbered_within_front (submits t h) all.0 i was.1)
