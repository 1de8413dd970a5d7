-- An answer as played stands, as the history goes on.
use Rattle.std.proofs.Common.{◌≡◌, ℕ, suc, ◌≤◌, Bool, true, false, if◌then◌else◌, ◌==◌, Some, slice_get, take, List, [], ◌∷◌, ◌++◌, length, map, refl, ap, sym, ◌∙◌, arith}
use Rattle.std.proofs.lemmas.List.{map-append, length-map, take-append-le, append-nil}
use Rattle.hr_base.specs.Lists.{numbered}
use Rattle.hr_rel.specs.declared.answer.Answer.{Answer}
use Rattle.hr_rel.specs.Database.{Database}
use Rattle.hr_meaning.specs.Serial.{play, database_at, database_after}
use Rattle.hr_history.specs.declared.entry.Entry.{Entry}
use Rattle.hr_history.specs.declared.entry.Event.{Event}
use Rattle.hr_history.specs.declared.entry.Event.TheVariants as event
use Rattle.hr_history.specs.History.{History}
use Rattle.hr_history.specs.Transactions.{log, submits, phase_of, is_open}
use Rattle.hr_history.specs.Faithful.{Begun}
use Rattle.hr_history.proofs.StepLemmas.{call_allowed}
use Rattle.hr_records.specs.AtReplica.{Begins}
use Rattle.hr_records.specs.Kept.{Kept}
use Rattle.hr_records.proofs.Allowed.{begin_allowed}
use Rattle.hr_records.proofs.NumberLemmas.{submits_at_begin}
use Rattle.hr_records.proofs.Beginnings.{map_same_at}
use Rattle.hr_records.proofs.Closed.{frozen}
use Rattle.hr_serial.specs.Prefix.{log_statements}
use Rattle.hr_barriers.specs.Played.{IsAnswerAsPlayed}
use Rattle.hr_barriers.specs.Stamps.{span, next_span}
use Rattle.hr_barriers.proofs.DoneLemmas.{play_front}
use Rattle.hr_barriers.proofs.StampLemmas.{log_longer}

pub all_of : {X : Type 0} (xs : List X) → Begins xs xs
all_of xs = ([], append-nil xs)

pub same_begins : {X : Type 0} (xs ys : List X) → ys ≡ xs → Begins xs ys
same_begins xs ys e = ([], append-nil xs ∙ sym e)

pub if_begins : {X : Type 0} (b : Bool) (xs : List X) (x : X) → Begins xs (if b then xs ++ x ∷ [] else xs)
if_begins true xs x = (x ∷ [], refl)
if_begins false xs x = all_of xs

-- a transaction's statements and the log begin those of later
module _ (f s c : ℕ) (h : History) (k : Kept h) where
  submits_by : (e : Event) → Begun f s (record { caller = c; event = e } ∷ h) → (t : ℕ) → Begins (submits t h) (submits t (record { caller = c; event = e } ∷ h))
  submits_by (event.Begin session txn) b t =
      same_begins (submits t h) (if txn == t then [] else submits t h)
      (submits_at_begin h k.numbers txn (begin_allowed f s c h session txn (call_allowed f s record { caller = c; event = event.Begin session txn } h b refl)).0 t)
  submits_by (event.Submit txn index x) b t = if_begins (txn == t) (submits t h) x
  submits_by _ b t = all_of (submits t h)

pub log_by : (c : ℕ) (e : Event) (h : History) → Begins (log h) (log (record { caller = c; event = e } ∷ h))
log_by c (event.Decide txn) h = (txn ∷ [], refl)
log_by c _ h = all_of (log h)

-- no span is longer than the log
span_by : (a b : Bool) (now before span : ℕ) → before ≤ now → span ≤ before → next_span a b now before span ≤ now
span_by true b now before span le less = omega arith
span_by false true now before span le less = omega (arith, le)
span_by false false now before span le less = omega (arith, le, less)

pub span_within : (t : ℕ) (h : History) → span t h ≤ length (log h)
span_within t [] = omega arith
span_within t (e ∷ h) =
    span_by (is_open (phase_of t (e ∷ h))) (is_open (phase_of t h)) (length (log (e ∷ h))) (length (log h)) (span t h) (log_longer e.caller e.event h) (span_within t h)

pub closed_logged : (h : History) → Kept h → (i t : ℕ) → slice_get (log h) i ≡ Some t → is_open (phase_of t h) ≡ false
closed_logged h k i t e = ap is_open ((k.numbers.logged t (suc i)).1 e)

module _ (f s m : ℕ) (e : Entry) (h : History) (k : Kept h) (b : Begun f s (e ∷ h)) (le : m ≤ length (log h)) where
  same_statements : map (λ u. submits u (e ∷ h)) (log h) ≡ log_statements h
  same_statements = map_same_at (λ u. submits u (e ∷ h)) (λ u. submits u h) (log h) (λ i u at. (frozen f s e h k b u (closed_logged h k i u at)).0)

  -- the first so many of the log, with their statements
  same_first : take m (log_statements (e ∷ h)) ≡ take m (log_statements h)
  same_first =
      let more = log_by e.caller e.event h in
      let rest = map (λ u. submits u (e ∷ h)) more.0 in
      ap (take m) (ap (map (λ u. submits u (e ∷ h))) (sym more.1) ∙ map-append (λ u. submits u (e ∷ h)) (log h) more.0 ∙ ap (λ l. l ++ rest) same_statements)
      ∙ take-append-le m (log_statements h) rest (omega (arith, le, length-map (log h) (λ u. submits u h)))

  pub stands : (db : Database) (t i : ℕ) (told : Answer) → IsAnswerAsPlayed db m t i told h → IsAnswerAsPlayed db m t i told (e ∷ h)
  stands db t i told is =
      let d = database_at db (log_statements h) m in
      let front = play_front d (submits t h) (submits t (e ∷ h)) i is.0 (submits_by f s e.caller h k e.event b t) is.1 in
      (is.0, ap (λ l. numbered (play (database_after db l) (submits t (e ∷ h))).answers i) same_first ∙ front, is.2)
