use Rattle.std.proofs.Common.{◌≡◌, ℕ, ◌+◌, ◌-◌, ◌≤◌, ◌<◌, ◌^◌, ◌++◌, [], ◌∷◌, None, Some, List, length, map, refl, sym, ◌∙◌, ap, subst, arith}
use Rattle.hr_history.specs.declared.entry.Entry.{Entry}
use Rattle.hr_history.specs.declared.entry.Event.TheVariants as event
use Rattle.hr_history.specs.Transactions as history
use Rattle.std.proofs.Common.{true, ◌&&◌, ◌==◌, nat_lt, unwrap_or, length-append}
use Rattle.std.proofs.lemmas.Bool.{and_parts, ltb-true, lt-ltb}
use Rattle.std.proofs.lemmas.List.{length-map}
use Rattle.hr_base.specs.declared.limits.TheConstants.{MAX_SUBMITS, MAX_STATEMENTS}
use Rattle.hr_rel.specs.declared.stmt.Stmt.{Stmt}
use Rattle.hr_history.specs.declared.entry.Event.{Event}
use Rattle.hr_history.specs.Faithful.{may_go_on_with}
use Rattle.hr_history.specs.Processed.{txn_in}
use Rattle.hr_history.specs.View.{View, TxnState}
use Rattle.hr_history.proofs.StepLemmas.{txn_lookup}
use Rattle.hr_moves.specs.Changes.{map_from, change_at}
use Rattle.hr_entries.specs.Entries.{statement_at}
use Rattle.hr_ledger.specs.declared.ledger.Ledger.TheInside.{Inside}
use Rattle.hr_moves.specs.Measure.{room_in}
use Rattle.hr_due.specs.Turns.{quiet_turn}
use Rattle.hr_entries.specs.declared.stored.Stored.{Stored}
use Rattle.hr_entries.specs.declared.stored.StoredEvent.TheVariants as stored
use Rattle.hr_ledger.specs.Chronicle.{Chronicle, history_in, IsQuiet, IsAllowed}
use Rattle.hr_ledger.specs.Kept.{plain, plain_script, seen, session_in, and_place, places_in, at_places, history_kept, AreKept, IsStep}
use Rattle.hr_ledger.proofs.Allowed.{begins_by, fits_by, room_by}
use Rattle.hr_ledger.proofs.Extended.{extends_same, last_is}
use Rattle.hr_ledger.proofs.Scripts.{script_count, known_open, submit_scripts, changed_sessions}
use Rattle.hr_ledger.proofs.Steps.{kept_step, with_entry}
use Rattle.hr_ledger.proofs.ledger.Ledger.submit.Goals as goal

module _ (l : Inside) (s : Chronicle) (caller txn : ℕ) (statement : Stmt) (kept : AreKept (plain l)) (is : seen l ≡ s) (quiet : IsQuiet s) where
  abbrev call : Event
  call = event.Submit txn (length (history.submits txn (history_in s)) + 1) statement

  module _ (allowed : IsAllowed caller call s) where
    -- the transaction is one that has begun
    known : (1 ≤ txn) × (txn ≤ length l.scripts.items)
    known =
        let h = history_kept (plain l) in
        let born = known_open l.view.f txn h l.view kept.view (fits_by (plain l) s caller call kept is quiet allowed) in
        (born.0, omega (arith, born.1, script_count l.scripts.items (history.begun h) kept.sessions))

    -- and has so many statements, and no more than it may
    counted : (txn_in l.view txn).statements ≡ length (history.submits txn (history_in s))
    counted =
        let h = history_kept (plain l) in
        let born = known_open l.view.f txn h l.view kept.view (fits_by (plain l) s caller call kept is quiet allowed) in
        ap (λ (v : View). (txn_in v txn).statements) kept.view ∙ ap (λ (x : TxnState). x.statements) (txn_lookup l.view.f txn h born.0 born.1) ∙ ap (λ (c : Chronicle). length (history.submits txn (history_in c))) is

    few : (txn_in l.view txn).statements < MAX_STATEMENTS
    few =
        let n = length (history.submits txn (history_in s)) in
        omega (arith, counted, ltb-true n MAX_STATEMENTS (and_parts (may_go_on_with s.f caller txn (history_in s) && (n + 1 == n + 1) && nat_lt (history.submitted (history_in s)) MAX_SUBMITS) (nat_lt n MAX_STATEMENTS) allowed).1)

indexed : (c : goal.After-push_reserved-2) → c.statements-index.result ≡ length (history.submits c.args.txn (history_in c.args.self.now))
indexed c = c.statements-index.ensures.value ∙ counted c.self.inside c.args.self.now c.args.caller c.args.txn c.args.stmt c.self.invariant.kept c.self.view_is c.requires.quiet c.requires.allowed

step : (c : goal.After-push_reserved-2) → IsStep (plain c.self.inside) (plain record c.self.inside { stored = c.push_reserved-2.new.self; statements = c.push_reserved.new.self; scripts = c.add_place.new.scripts; turn = c.of_call.result; view = c.submit.new.self }) record { caller = c.args.caller; event = event.Submit c.args.txn (length (history.submits c.args.txn (history_in c.args.self.now)) + 1) c.args.stmt }
step c =
    let l = c.self.inside in
    let ss = l.statements.items in
    let place : c.len.result ≡ length l.stored.items = c.len.ensures ∙ c.reserve.new.stored.ok.0 ∙ ap length c.reserve.ensures.same in
    let seen = c.in_ok-submit.ensures.ok (length l.stored.items) l.asks (length (history.submits c.args.txn (history_in c.args.self.now)) + 1) c.args.stmt in
    let statements : c.push_reserved.new.self.items ≡ ss ++ c.args.stmt ∷ [] = c.push_reserved.ensures.items ∙ ap (λ (xs : List Stmt). xs ++ c.args.stmt ∷ []) c.reserve-2.ensures.items in
    let at : c.len-at.result ≡ length ss = c.len-at.ensures ∙ c.reserve-2.new.self.ok.0 ∙ ap length c.reserve-2.ensures.items in
    let scripts : map plain_script c.add_place.new.scripts.items ≡ map_from (change_at c.args.txn (and_place (length ss))) 1 (map plain_script l.scripts.items) =
    c.add_place.ensures ∙ (λ i. map_from (change_at c.args.txn (and_place (at i))) 1 (c.make_room.ensures.same i)) in
    let is = known l c.args.self.now c.args.caller c.args.txn c.args.stmt c.self.invariant.kept c.self.view_is c.requires.quiet c.requires.allowed in
    let last : c.args.txn ≤ length (map plain_script l.scripts.items) = omega (arith, is.1, length-map l.scripts.items plain_script) in
    record {
      sessions = refl;
      statements = (c.args.stmt ∷ [], statements);
      replies = extends_same l.view.replies c.submit.new.self.replies (ap (λ (v : View). v.replies) seen);
      entry = record { caller = c.args.caller; event = stored.Submit c.args.txn (c.statements-index.result + 1) c.len-at.result };
      stored = c.push_reserved-2.ensures.items ∙ ap (λ (xs : List Stored). xs ++ record { caller = c.args.caller; event = stored.Submit c.args.txn (c.statements-index.result + 1) c.len-at.result } ∷ []) c.reserve.ensures.same;
      is = (λ i. record { caller = c.args.caller; event = event.Submit c.args.txn (indexed c i + 1) (statement_at (statements i) (at i)) })
          ∙ ap {B = Entry} (λ o. record { caller = c.args.caller; event = event.Submit c.args.txn (length (history.submits c.args.txn (history_in c.args.self.now)) + 1) (unwrap_or o (statement_at [] 0)) }) (last_is ss c.args.stmt);
      within = lt-ltb c.len-at.result (length c.push_reserved.new.self.items) (omega (arith, at, ap length statements, length-append ss (c.args.stmt ∷ [])));
      view = seen;
      turn = c.of_call.ensures ∙ ap quiet_turn place;
      asks = refl;
      few = omega arith;
      begun = ap (map session_in) scripts ∙ changed_sessions (length ss) c.args.txn (map plain_script l.scripts.items);
      submitted = omega (arith, ap length statements, length-append ss (c.args.stmt ∷ []));
      scripts = λ t stmts was. (λ i. at_places (statements i) (places_in (scripts i) t)) ∙ submit_scripts ss c.args.stmt (map plain_script l.scripts.items) c.args.txn t stmts is.0 last was;
    }

pub make_room-requires-clause-first : goal.make_room-requires-clause-first
make_room-requires-clause-first c = (known c.self.inside c.args.self.now c.args.caller c.args.txn c.args.stmt c.self.invariant.kept c.self.view_is c.requires.quiet c.requires.allowed).0

pub make_room-requires-clause-last : goal.make_room-requires-clause-last
make_room-requires-clause-last c = (known c.self.inside c.args.self.now c.args.caller c.args.txn c.args.stmt c.self.invariant.kept c.self.view_is c.requires.quiet c.requires.allowed).1

pub submit-requires-clause-open : goal.submit-requires-clause-open
submit-requires-clause-open c = fits_by (plain c.self.inside) c.args.self.now c.args.caller (event.Submit c.args.txn (length (history.submits c.args.txn (history_in c.args.self.now)) + 1) c.args.stmt) c.self.invariant.kept c.self.view_is c.requires.quiet c.requires.allowed

pub submit-requires-clause-few : goal.submit-requires-clause-few
submit-requires-clause-few c = few c.self.inside c.args.self.now c.args.caller c.args.txn c.args.stmt c.self.invariant.kept c.self.view_is c.requires.quiet c.requires.allowed

pub add_place-requires-clause-first : goal.add_place-requires-clause-first
add_place-requires-clause-first c = (known c.self.inside c.args.self.now c.args.caller c.args.txn c.args.stmt c.self.invariant.kept c.self.view_is c.requires.quiet c.requires.allowed).0

pub add_place-requires-clause-last : goal.add_place-requires-clause-last
add_place-requires-clause-last c =
    let is = known c.self.inside c.args.self.now c.args.caller c.args.txn c.args.stmt c.self.invariant.kept c.self.view_is c.requires.quiet c.requires.allowed in
    omega (arith, is.1, length-map c.self.inside.scripts.items plain_script, length-map c.make_room.new.scripts.items plain_script, ap length c.make_room.ensures.same)

pub returns-clause-index : goal.returns-clause-index
returns-clause-index c = ap (λ n. n + 1) (indexed c)

pub returns-clause-ok : goal.returns-clause-ok
returns-clause-ok c = with_entry (plain c.self.inside) (plain record c.self.inside { stored = c.push_reserved-2.new.self; statements = c.push_reserved.new.self; scripts = c.add_place.new.scripts; turn = c.of_call.result; view = c.submit.new.self }) c.args.self.now c.args.caller (event.Submit c.args.txn (length (history.submits c.args.txn (history_in c.args.self.now)) + 1) c.args.stmt) c.self.invariant.kept c.self.view_is (step c)

pub invariant_of-self-2 : goal.invariant_of-self-2
invariant_of-self-2 c =
    let room = room_by (plain c.self.inside) c.args.self.now c.args.caller (event.Submit c.args.txn (length (history.submits c.args.txn (history_in c.args.self.now)) + 1) c.args.stmt) c.self.invariant.kept c.self.view_is c.requires.quiet c.requires.allowed (length c.self.inside.stored.items) c.self.inside.asks refl in
    record {
      kept = kept_step (plain c.self.inside) (plain record c.self.inside { stored = c.push_reserved-2.new.self; statements = c.push_reserved.new.self; scripts = c.add_place.new.scripts; turn = c.of_call.result; view = c.submit.new.self }) record { caller = c.args.caller; event = event.Submit c.args.txn (length (history.submits c.args.txn (history_in c.args.self.now)) + 1) c.args.stmt } c.self.invariant.kept (step c) (begins_by (plain c.self.inside) c.args.self.now c.args.caller (event.Submit c.args.txn (length (history.submits c.args.txn (history_in c.args.self.now)) + 1) c.args.stmt) c.self.invariant.kept c.self.view_is c.requires.quiet c.requires.allowed);
      room = omega (arith, room, ap room_in (step c).view, c.push_reserved-2.ensures.len, c.push_reserved-2.ensures.capacity, c.in_ok-reserve.ensures.ok);
    }

pub invariant_of-self-in_err-submit : goal.invariant_of-self-in_err-submit
invariant_of-self-in_err-submit c =
    let l = c.self.inside in
    let same : plain record l { stored = c.reserve.new.stored; statements = c.reserve-2.new.self; scripts = c.make_room.new.scripts; view = c.submit.new.self } ≡ plain l =
    λ i. record (plain l) { stored = c.reserve.ensures.same i; statements = c.reserve-2.ensures.items i; scripts = c.make_room.ensures.same i; view = c.in_err-submit.ensures.err i } in
    record {
      kept = subst AreKept (sym same) c.self.invariant.kept;
      room = omega (arith, c.in_ok-reserve.ensures.ok, ap room_in c.in_err-submit.ensures.err);
    }
