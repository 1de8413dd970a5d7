-- With one more entry, what is kept is what sessions are told.
use Rattle.std.proofs.Common.{◌≡◌, ℕ, ◌+◌, ◌*◌, ◌<◌, ◌≤◌, Bool, true, false, ◌&&◌, ◌==◌, if◌then◌else◌, Option, Some, None, unwrap_or, List, [], ◌∷◌, ◌++◌, length, slice_get, reverse, refl, ap, sym, ◌∙◌, subst, arith, length-append}
use Rattle.std.specs.Option.{option_map}
use Rattle.std.proofs.lemmas.Bool.{eq-eqb, eqb-true, and_parts}
use Rattle.std.proofs.lemmas.List.{reverse-append}
use Rattle.hr_base.specs.Lists.{when}
use Rattle.hr_engine.specs.declared.reply.RunReply.{RunReply}
use Rattle.hr_engine.specs.declared.reply.RunReply.TheVariants as run
use Rattle.hr_history.specs.declared.cause.Cause.{Cause}
use Rattle.hr_history.specs.declared.entry.Entry.{Entry}
use Rattle.hr_history.specs.declared.entry.Event.{Event}
use Rattle.hr_history.specs.declared.entry.Event.TheVariants as event
use Rattle.hr_history.specs.declared.reply.Reply.{Reply}
use Rattle.hr_history.specs.declared.reply.Reply.TheVariants as told
use Rattle.hr_history.specs.History.{History, history_of}
use Rattle.hr_history.specs.Primary.{is_some_of}
use Rattle.hr_history.specs.Replies.{ReplyState, NothingAsked, Waiting, Replied, reply_to, next_reply, reply_if, refusal_of, next_refusal}
use Rattle.hr_history.specs.Transactions.{begun, next_begun}
use Rattle.hr_history.specs.Turn.{replies_to_runs, next_replies}
use Rattle.hr_moves.specs.Changes.{map_from, change_at}
use Rattle.hr_records.proofs.Options.{same_some}
use Rattle.hr_ledger.specs.Chronicle.{Chronicle, history_in, and_entry}
use Rattle.hr_core.specs.declared.seat.Seat.{Seat}
use Rattle.hr_core.specs.declared.seat.Seat.TheVariants as seat
use Rattle.hr_core.specs.declared.seat.Shown.{Shown}
use Rattle.hr_core.specs.Seats.{answer_in, cause_kept, state_kept, refusal_kept, seat_in, refusal_in, waiting, first_told, change_of, refused_for}
use Rattle.hr_core.specs.Suspects.{suspects, next_suspects}
use Rattle.hr_core.specs.Told.{PlainCore, AreSeats, AreCauses, AreTold}
use Rattle.hr_core.proofs.Changes.{seat_changed, seats_length, refusal_else, refusal_here, causes_length, refusal_end}

pub history_more : (caller : ℕ) (e : Event) (c : Chronicle) → history_in (and_entry caller e c) ≡ record { caller = caller; event = e } ∷ history_in c
history_more caller e c = reverse-append c.entries (record { caller = caller; event = e } ∷ [])

-- ---- all of it

module _ (caller : ℕ) (e : Event) (p : PlainCore) (are : AreTold p) where
  abbrev h : History
  h = history_in p.ledger

  abbrev pub SeatsStep : List Seat → Type 0
  SeatsStep seats = (q : ℕ) (state : ReplyState) → 1 ≤ q → q ≤ length p.seats → state_kept (replies_to_runs (history_in p.ledger)) (seat_in p.seats q) ≡ Some state
      → state_kept (next_replies e (replies_to_runs (history_in p.ledger))) (seat_in seats q) ≡ Some (next_reply q e (history_in p.ledger) state)

  abbrev pub CausesStep : List (Option Shown) → Type 0
  CausesStep causes = (t : ℕ) (o : Option Cause) → refusal_kept (replies_to_runs (history_in p.ledger)) (refusal_in p.causes t) ≡ Some o
      → refusal_kept (next_replies e (replies_to_runs (history_in p.ledger))) (refusal_in causes t) ≡ Some (next_refusal t e (history_in p.ledger) o)

  pub told_step : (seats : List Seat) (causes : List (Option Shown)) (n : ℕ) → length seats ≡ length p.seats → SeatsStep seats → length causes ≡ length (next_begun e (begun (history_in p.ledger))) → CausesStep causes
      → n ≡ next_suspects e p.suspects → AreTold record { ledger = and_entry caller e p.ledger; seats = seats; causes = causes; suspects = n }
  told_step seats causes n same_length seat_step cause_length cause_step count =
      let entry : Entry = record { caller = caller; event = e } in
      let now = history_more caller e p.ledger in
      record {
        seats = subst (λ k. AreSeats p.ledger.sessions k seats) (sym now) record {
          each = same_length ∙ are.seats.each;
          told = λ q low high. seat_step q (reply_to q h) low (omega (arith, high, are.seats.each)) (are.seats.told q low high);
        };
        causes = subst (λ k. AreCauses k causes) (sym now) record {
          each = cause_length;
          told = λ t. cause_step t (refusal_of t h) (are.causes.told t);
        };
        suspects = count ∙ ap (next_suspects e) are.suspects ∙ ap suspects (sym now);
      }

-- ---- seats

module _ (rs : List RunReply) where
  wait_by : (b : Bool) (s : Seat) (state : ReplyState) → state_kept rs s ≡ Some state → state_kept rs (if b then seat.Waiting else s) ≡ Some (if b then Waiting else state)
  wait_by true s state h = refl
  wait_by false s state h = h

  pub wait_step : (o : Option ℕ) (q : ℕ) (s : Seat) (state : ReplyState) → state_kept rs s ≡ Some state → state_kept rs (change_of o waiting q s) ≡ Some (if is_some_of q o then Waiting else state)
  wait_step None q s state h = h
  wait_step (Some n) q s state h = wait_by (q == n) s state h

  -- who was told keeps the first reply
  keeps : {X : Type 0} (g : X → Reply) (o : Option X) (b : Bool) (reply : Reply) (state : ReplyState) → option_map (λ x. Replied (g x)) o ≡ Some state → option_map (λ x. Replied (g x)) o ≡ Some (reply_if b reply state)
  keeps g None b reply state h = cc h
  keeps g (Some x) b reply state h = ap (λ s. Some (reply_if b reply s)) (same_some (Replied (g x)) state h)

  stays : (b : Bool) (s : Seat) (reply : Reply) (state : ReplyState) → (s ≡ seat.Waiting → ⊥) → state_kept rs s ≡ Some state → state_kept rs s ≡ Some (reply_if b reply state)
  stays b seat.NothingAsked reply state h k = ap (λ x. Some (reply_if b reply x)) (same_some NothingAsked state k)
  stays b seat.Waiting reply state h k = absurd (h refl)
  stays b (seat.Answered p) reply state h k = keeps (λ (r : RunReply). told.Answered (answer_in (Some r))) (slice_get rs p) b reply state k
  stays b (seat.Committed n) reply state h k = ap (λ x. Some (reply_if b reply x)) (same_some (Replied (told.Committed n)) state k)
  stays b (seat.Refused why) reply state h k = keeps (λ (c : Cause). told.Refused c) (cause_kept rs why) b reply state k

  waits_still : (reply : Reply) (state : ReplyState) → Some Waiting ≡ Some state → Some Waiting ≡ Some (reply_if false reply state)
  waits_still reply state k = ap (λ x. Some (reply_if false reply x)) (same_some Waiting state k)

  waits_no_more : (new : Seat) (reply : Reply) (state : ReplyState) → state_kept rs new ≡ Some (Replied reply) → Some Waiting ≡ Some state → state_kept rs new ≡ Some (reply_if true reply state)
  waits_no_more new reply state is k = is ∙ ap (λ x. Some (reply_if true reply x)) (same_some Waiting state k)

  tell_by : (b : Bool) (s new : Seat) (reply : Reply) (state : ReplyState) → state_kept rs new ≡ Some (Replied reply) → state_kept rs s ≡ Some state → state_kept rs (if b then first_told new s else s) ≡ Some (reply_if b reply state)
  tell_by true seat.Waiting new reply state is k = waits_no_more new reply state is k
  tell_by false seat.Waiting new reply state is k = waits_still reply state k
  tell_by true seat.NothingAsked new reply state is k = stays true seat.NothingAsked reply state (λ e. cc e) k
  tell_by false seat.NothingAsked new reply state is k = stays false seat.NothingAsked reply state (λ e. cc e) k
  tell_by true (seat.Answered p) new reply state is k = stays true (seat.Answered p) reply state (λ e. cc e) k
  tell_by false (seat.Answered p) new reply state is k = stays false (seat.Answered p) reply state (λ e. cc e) k
  tell_by true (seat.Committed n) new reply state is k = stays true (seat.Committed n) reply state (λ e. cc e) k
  tell_by false (seat.Committed n) new reply state is k = stays false (seat.Committed n) reply state (λ e. cc e) k
  tell_by true (seat.Refused why) new reply state is k = stays true (seat.Refused why) reply state (λ e. cc e) k
  tell_by false (seat.Refused why) new reply state is k = stays false (seat.Refused why) reply state (λ e. cc e) k

  pub tell_step : (o : Option ℕ) (q : ℕ) (s new : Seat) (reply : Reply) (state : ReplyState) → state_kept rs new ≡ Some (Replied reply) → state_kept rs s ≡ Some state
      → state_kept rs (change_of o (first_told new) q s) ≡ Some (reply_if (is_some_of q o) reply state)
  tell_step None q s new reply state is k = tell_by false s new reply state is k
  tell_step (Some n) q s new reply state is k = tell_by (q == n) s new reply state is k

-- ---- refusals

module _ (rs : List RunReply) (why : Shown) (c : Cause) (is : cause_kept rs why ≡ Some c) (t : ℕ) (causes : List (Option Shown)) (low : 1 ≤ t) (high : t ≤ length causes) where
  abbrev kept : List (Option Shown)
  kept = map_from (change_at t (refused_for why)) 1 causes

  keep_by : (u : ℕ) (o : Option Cause) (b : Bool) → (t == u) ≡ b → refusal_kept rs (refusal_in causes u) ≡ Some o → refusal_kept rs (refusal_in kept u) ≡ Some (if b then Some c else o)
  keep_by u o true same k =
      ap (λ v. refusal_kept rs (refusal_in kept v)) (sym (eqb-true t u same)) ∙ ap (refusal_kept rs) (refusal_here why t causes low high) ∙ ap (option_map (λ (x : Cause). Some x)) is
  keep_by u o false apart k = ap (refusal_kept rs) (refusal_else why t causes u (λ e. wrong apart (eq-eqb t u (sym e)))) ∙ k
    where
      wrong : {b : Bool} → b ≡ false → b ≡ true → ⊥
      wrong x y = cc

  pub keep_step : (u : ℕ) (o : Option Cause) → refusal_kept rs (refusal_in causes u) ≡ Some o → refusal_kept rs (refusal_in kept u) ≡ Some (if t == u then Some c else o)
  keep_step u o k = keep_by u o (t == u) refl k

-- ---- with the fields as the code leaves them

pub entered : (caller : ℕ) (e : Event) (p : PlainCore) (are : AreTold p) (ledger : Chronicle) (seats : List Seat) (causes : List (Option Shown)) (n : ℕ) → ledger ≡ and_entry caller e p.ledger → length seats ≡ length p.seats → SeatsStep caller e p are seats
    → length causes ≡ length (next_begun e (begun (history_in p.ledger))) → CausesStep caller e p are causes → n ≡ next_suspects e p.suspects → AreTold record { ledger = ledger; seats = seats; causes = causes; suspects = n }
entered caller e p are ledger seats causes n is same_length seat_step cause_length cause_step count =
    subst (λ (l : Chronicle). AreTold record { ledger = l; seats = seats; causes = causes; suspects = n }) (sym is) (told_step caller e p are seats causes n same_length seat_step cause_length cause_step count)
