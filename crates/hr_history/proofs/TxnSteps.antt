-- The transactions of a view, one entry later.
use Rattle.std.proofs.Common.{◌≡◌, ℕ, zero, suc, ◌+◌, ◌*◌, ◌<◌, ◌≤◌, Bool, true, false, ◌&&◌, ◌==◌, if◌then◌else◌, Option, Some, unwrap_or, List, [], ◌∷◌, ◌++◌, length, map, slice_get, refl, ap, subst, sym, ◌∙◌, arith, nat_le}
use Rattle.std.specs.List.{range_with_len}
use Rattle.std.proofs.lemmas.List.{length-append, append-nil}
use Rattle.std.proofs.lemmas.List.FromFn.{length-map-range_with_len, map-range_with_len_more}
use Rattle.std.proofs.lemmas.Bool.{leb-true}
use Rattle.std.proofs.lemmas.Bool.Decides.{Decides-eqb}
use Rattle.hr_rel.specs.declared.stmt.Stmt.{Stmt}
use Rattle.hr_engine.specs.declared.reply.RunReply.TheVariants as run
use Rattle.hr_history.specs.declared.entry.Entry.{Entry}
use Rattle.hr_history.specs.declared.entry.Event.{Event}
use Rattle.hr_history.specs.declared.entry.Event.TheVariants as event
use Rattle.hr_history.specs.declared.job.JobReply.{JobReply}
use Rattle.hr_history.specs.declared.job.JobReply.TheVariants as reply
use Rattle.hr_history.specs.declared.phase.Phase.TheVariants as phase
use Rattle.hr_history.specs.declared.phase.Fresh.{Fresh}
use Rattle.hr_history.specs.History.{History, is_call}
use Rattle.hr_base.specs.Lists.{numbered, one_to}
use Rattle.hr_history.specs.Transactions.{begun, next_begun, log, asks, submits, next_submits, phase_of, next_phase, is_open}
use Rattle.hr_history.specs.Replicas.{out_at}
use Rattle.hr_history.specs.Primary.{is_some_of}
use Rattle.hr_history.specs.Given.{Given, Found, found, given_by, next_given, given_to, is_run_of}
use Rattle.hr_history.specs.Turn.{next_fresh}
use Rattle.hr_history.specs.View.{TxnState, view_of, txn_state}
use Rattle.hr_history.specs.Jobs.{txn_numbers}
use Rattle.hr_history.specs.Faithful.{is_allowed, is_replica}
use Rattle.hr_history.specs.Step.{out_in, found_in, next_count, begun_by, txn_after}
use Rattle.hr_history.proofs.StepLemmas.{both, replica_lookup, txn_lookup}

le_of : (a b : ℕ) → nat_le a b ≡ true → a ≤ b
le_of a b h = leb-true a b h

-- a call of a replica is one of the 2f + 1
replica_within : (f c r : ℕ) (rest : Bool) → (is_replica f c r && rest) ≡ true → r < 2 * f + 1
replica_within f c r rest a =
    let le = le_of r (2 * f) (both (nat_le r (2 * f)) _ (both (is_replica f c r) rest a).0).0 in
    omega (arith, le)

pub out_same : (f r : ℕ) (h : History) → r < 2 * f + 1 → out_at r h ≡ out_in (view_of f h) r
out_same f r h lt = sym (ap (λ p. p.out) (replica_lookup f r h lt))

-- the run that the turn's call replied to
pub fresh_same : (f s c : ℕ) (e : Event) (h : History) (fresh : Option Fresh) → (is_call e ≡ true → is_allowed f s c e h ≡ true)
    → next_fresh e (λ r. out_at r h) fresh ≡ next_fresh e (out_in (view_of f h)) fresh
fresh_same f s c (event.Give r (reply.Ran told)) h fresh a = ap (λ o. next_fresh (event.Give r (reply.Ran told)) (λ q. o) fresh) (out_same f r h (replica_within f c r _ (a refl)))
fresh_same f s c e h fresh a = refl

-- the answers given to a transaction
given_same : (t r : ℕ) (told : JobReply) (g : List Given) (a b : Found) → a.out r ≡ b.out r → a.primary ≡ b.primary → a.phase ≡ b.phase → a.logged ≡ b.logged
    → given_by t r told a g ≡ given_by t r told b g
given_same t r (reply.Ran (run.Done answer)) g a b out primary phase logged =
    λ i. if is_run_of t (length g + 1) (out i) && is_some_of r (primary i) && is_open (phase i) then g ++ record { answer = answer; stamp = logged i } ∷ [] else g
given_same t r told g a b out primary phase logged = refl

given_after : (f s c t : ℕ) (e : Event) (h : History) (g : List Given) → 1 ≤ t → t ≤ length (begun h) → (is_call e ≡ true → is_allowed f s c e h ≡ true)
    → next_given t e (found t h) g ≡ next_given t e (found_in (view_of f h) t) g
given_after f s c t (event.Give r told) h g low high a =
    given_same t r told g (found t h) (found_in (view_of f h) t) (out_same f r h (replica_within f c r _ (a refl))) refl
    (sym (ap (λ (x : TxnState). x.phase) (txn_lookup f t h low high))) refl
given_after f s c t e h g low high a = refl

-- how many statements a transaction has
if_none : (b : Bool) (xs : List Stmt) → length (if b then [] else xs) ≡ if b then 0 else length xs
if_none true xs = refl
if_none false xs = refl

if_more : (b : Bool) (x : Stmt) (xs : List Stmt) → length (if b then xs ++ x ∷ [] else xs) ≡ if b then length xs + 1 else length xs
if_more true x xs = length-append xs (x ∷ [])
if_more false x xs = refl

count_after : (t : ℕ) (e : Event) (xs : List Stmt) → length (next_submits t e xs) ≡ next_count t e (length xs)
count_after t (event.Begin session txn) xs = if_none (txn == t) xs
count_after t (event.Submit txn index stmt) xs = if_more (txn == t) stmt xs
count_after t _ xs = refl

-- its session
slice_get_front : {X : Type 0} (xs ys : List X) (i : ℕ) → i < length xs → slice_get (xs ++ ys) i ≡ slice_get xs i
slice_get_front [] ys i h = absurd (omega (arith, h))
slice_get_front (x ∷ xs) ys zero h = refl
slice_get_front (x ∷ xs) ys (suc i) h = slice_get_front xs ys i (omega (arith, h))

slice_get_end : {X : Type 0} (xs : List X) (y : X) (i : ℕ) → i ≡ length xs → slice_get (xs ++ y ∷ []) i ≡ Some y
slice_get_end [] y zero h = refl
slice_get_end [] y (suc i) h = absurd (omega (arith, h))
slice_get_end (x ∷ xs) y zero h = absurd (omega (arith, h))
slice_get_end (x ∷ xs) y (suc i) h = slice_get_end xs y i (omega (arith, h))

session_kept : (t : ℕ) (e : Event) (xs : List ℕ) → 1 ≤ t → t ≤ length xs → numbered (next_begun e xs) t ≡ numbered xs t
session_kept zero e xs low high = absurd (omega (arith, low))
session_kept (suc n) (event.Begin session txn) xs low high = slice_get_front xs (session ∷ []) n (omega (arith, high))
session_kept (suc n) _ xs low high = refl

-- a transaction that was there before
txn_same : (f s : ℕ) (e : Entry) (h : History) (t : ℕ) → (is_call e.event ≡ true → is_allowed f s e.caller e.event h ≡ true) → 1 ≤ t → t ≤ length (begun h)
    → txn_state (e ∷ h) t ≡ txn_after (view_of f h) (asks h) e.event t
txn_same f s e h t a low high =
    let p = txn_lookup f t h low high in
    let session = ap (λ o. unwrap_or o 0) (session_kept t e.event (begun h) low high) ∙ sym (ap (λ (x : TxnState). x.session) p) in
    let statements = count_after t e.event (submits t h) ∙ sym (ap (λ (x : TxnState). next_count t e.event x.statements) p) in
    let given = given_after f s e.caller t e.event h (given_to t h) low high a ∙ sym (ap (λ (x : TxnState). next_given t e.event (found_in (view_of f h) t) x.given) p) in
    let at = sym (ap (λ (x : TxnState). next_phase t e.event (asks h) (length (log h)) x.phase) p) in
    λ i. record { session = session i; statements = statements i; given = given i; phase = at i }

-- two maps over a range agree where they agree at each number
pub map_same : {X : Type 0} (g k : ℕ → X) (a n : ℕ) → ((i : ℕ) → a ≤ i → i < a + n → g i ≡ k i) → map g (range_with_len a n) ≡ map k (range_with_len a n)
map_same g k a zero each = refl
map_same g k a (suc n) each =
    λ i. each a (omega arith) (omega arith) i ∷ map_same g k (a + 1) n (λ j low high. each j (omega (arith, low)) (omega (arith, high))) i

-- so many transactions as were begun
numbers_same : (f : ℕ) (h : History) → one_to (length (begun h)) ≡ txn_numbers (view_of f h)
numbers_same f h = sym (ap one_to (length-map-range_with_len (txn_state h) 1 (length (begun h))))

old_txns : (f s : ℕ) (e : Entry) (h : History) → (is_call e.event ≡ true → is_allowed f s e.caller e.event h ≡ true)
    → map (txn_state (e ∷ h)) (one_to (length (begun h))) ≡ map (txn_after (view_of f h) (asks h) e.event) (txn_numbers (view_of f h))
old_txns f s e h a =
    map_same (txn_state (e ∷ h)) (txn_after (view_of f h) (asks h) e.event) 1 (length (begun h)) (λ t low high. txn_same f s e h t a low (omega (arith, high)))
    ∙ ap (map (txn_after (view_of f h) (asks h) e.event)) (numbers_same f h)

-- the transaction that begins
if_true : {X : Type 0} (b : Bool) (x y : X) → b ≡ true → (if b then x else y) ≡ x
if_true true x y e = refl
if_true false x y e = cc

new_txn : (c session txn : ℕ) (h : History) → txn ≡ length (begun h) + 1
    → txn_state (record { caller = c; event = event.Begin session txn } ∷ h) (length (begun h) + 1) ≡ record { session = session; statements = 0; given = []; phase = phase.Active }
new_txn c session txn h e =
    let same : (txn == length (begun h) + 1) ≡ true = (Decides-eqb txn (length (begun h) + 1)).1 e in
    let numbered_end : numbered (begun h ++ session ∷ []) (length (begun h) + 1) ≡ Some session =
    let place : suc (length (begun h)) ≡ length (begun h) + 1 = omega arith in
    subst (λ n. numbered (begun h ++ session ∷ []) n ≡ Some session) place (slice_get_end (begun h) session (length (begun h)) refl) in
    let t = length (begun h) + 1 in
    λ i. record {
      session = unwrap_or (numbered_end i) 0;
      statements = length (if_true (txn == t) [] (submits t h) same i);
      given = if_true (txn == t) [] (given_to t h) same i;
      phase = if_true (txn == t) phase.Active (phase_of t h) same i;
    }

txns_by : (f s c : ℕ) (e : Event) (h : History) → (is_call e ≡ true → is_allowed f s c e h ≡ true)
    → map (txn_state (record { caller = c; event = e } ∷ h)) (one_to (length (next_begun e (begun h)))) ≡ map (txn_after (view_of f h) (asks h) e) (txn_numbers (view_of f h)) ++ begun_by e
txns_by f s c (event.Begin session txn) h a =
    let e : Entry = record { caller = c; event = event.Begin session txn } in
    let n = length (begun h) in
    let allowed = a refl in
    let next : (txn == n + 1) ≡ true = (both _ (txn == n + 1) (both _ _ allowed).0).1 in
    let is : txn ≡ n + 1 = (Decides-eqb txn (n + 1)).0 next in
    let more : one_to (length (begun h ++ session ∷ [])) ≡ one_to (n + 1) = ap one_to (length-append (begun h) (session ∷ [])) in
    ap (map (txn_state (e ∷ h))) more
    ∙ map-range_with_len_more (txn_state (e ∷ h)) 1 n (n + 1) (omega arith)
    ∙ (λ i. old_txns f s e h (λ call. allowed) i ++ new_txn c session txn h is i ∷ [])
txns_by f s c e h a = old_txns f s record { caller = c; event = e } h a ∙ sym (append-nil _)

pub txns_same : (f s : ℕ) (e : Entry) (h : History) → (is_call e.event ≡ true → is_allowed f s e.caller e.event h ≡ true)
    → map (txn_state (e ∷ h)) (one_to (length (next_begun e.event (begun h)))) ≡ map (txn_after (view_of f h) (asks h) e.event) (txn_numbers (view_of f h)) ++ begun_by e.event
txns_same f s e h a = txns_by f s e.caller e.event h a
