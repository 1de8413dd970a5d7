use Rattle.std.proofs.Common.{◌≡◌, ℕ, ◌+◌, ◌-◌, ◌≤◌, ◌<◌, ◌^◌, ◌++◌, [], ◌∷◌, None, Some, List, length, map, refl, sym, ◌∙◌, ap, subst, arith}
use Rattle.hr_history.specs.declared.entry.Entry.{Entry}
use Rattle.hr_history.specs.declared.entry.Event.TheVariants as event
use Rattle.hr_history.specs.Transactions as history
use Rattle.std.proofs.lemmas.List.{map-append, length-map}
use Rattle.std.proofs.lemmas.List.FromFn.{length-map-range_with_len}
use Rattle.hr_history.specs.View.{View, txn_state}
use Rattle.hr_history.specs.Step.{view_step}
use Rattle.hr_moves.specs.Measure.{room_in}
use Rattle.hr_due.specs.Turns.{quiet_turn}
use Rattle.hr_entries.specs.declared.stored.Stored.{Stored}
use Rattle.hr_entries.specs.declared.stored.StoredEvent.TheVariants as stored
use Rattle.hr_ledger.specs.declared.script.Script.{Script}
use Rattle.hr_ledger.specs.Chronicle.{Chronicle, history_in}
use Rattle.hr_ledger.specs.Kept.{plain, PlainScript, plain_script, history_kept, session_in, places_in, at_places, IsStep}
use Rattle.hr_ledger.proofs.Allowed.{begins_by, room_by}
use Rattle.hr_ledger.proofs.Extended.{extends_none, extends_same}
use Rattle.hr_ledger.proofs.Scripts.{script_count, begin_scripts}
use Rattle.hr_ledger.proofs.Steps.{kept_step, with_entry}
use Rattle.hr_ledger.proofs.ledger.Ledger.begin.Goals as goal

-- as many transactions have begun as there are scripts, and as the view has
scripts_count : (c : goal.After-push_reserved-2) → c.len.result ≡ length (history.begun (history_in c.args.self.now))
scripts_count c =
    c.len.ensures ∙ c.reserve-2.new.self.ok.0 ∙ ap length c.reserve-2.ensures.items ∙ script_count c.self.inside.scripts.items (history.begun (history_kept (plain c.self.inside))) c.self.invariant.kept.sessions
    ∙ ap (λ (s : Chronicle). length (history.begun (history_in s))) c.self.view_is

view_count : (c : goal.After-push_reserved-2) → length c.self.inside.view.txns ≡ length (history.begun (history_in c.args.self.now))
view_count c =
    let h = history_kept (plain c.self.inside) in
    ap (λ (v : View). length v.txns) c.self.invariant.kept.view ∙ length-map-range_with_len (txn_state h) 1 (length (history.begun h)) ∙ ap (λ (s : Chronicle). length (history.begun (history_in s))) c.self.view_is

step : (c : goal.After-push_reserved-2) → IsStep (plain c.self.inside) (plain record c.self.inside { stored = c.push_reserved-2.new.self; scripts = c.push_reserved.new.self; turn = c.of_call.result; view = c.begin.new.self }) record { caller = c.args.caller; event = event.Begin c.args.session (length (history.begun (history_in c.args.self.now)) + 1) }
step c =
    let l = c.self.inside in
    let place : c.len-2.result ≡ length l.stored.items = c.len-2.ensures ∙ c.reserve.new.stored.ok.0 ∙ ap length c.reserve.ensures.same in
    let seen = c.in_ok-begin.ensures.ok (length l.stored.items) l.asks ∙ ap (λ n. view_step l.view (length l.stored.items) l.asks (event.Begin c.args.session (n + 1))) (view_count c) in
    let new : Script = record { session = c.args.session; statements = c.new.result } in
    let scripts : map plain_script c.push_reserved.new.self.items ≡ map plain_script l.scripts.items ++ plain_script new ∷ [] =
    ap (map plain_script) (c.push_reserved.ensures.items ∙ ap (λ (xs : List Script). xs ++ new ∷ []) c.reserve-2.ensures.items) ∙ map-append plain_script l.scripts.items (new ∷ []) in
    record {
      sessions = refl;
      statements = extends_none l.statements.items;
      replies = extends_same l.view.replies c.begin.new.self.replies (ap (λ (v : View). v.replies) seen);
      entry = record { caller = c.args.caller; event = stored.Begin c.args.session (c.len.result + 1) };
      stored = c.push_reserved-2.ensures.items ∙ ap (λ (xs : List Stored). xs ++ record { caller = c.args.caller; event = stored.Begin c.args.session (c.len.result + 1) } ∷ []) c.reserve.ensures.same;
      is = ap {B = Entry} (λ n. record { caller = c.args.caller; event = event.Begin c.args.session (n + 1) }) (scripts_count c);
      within = refl;
      view = seen;
      turn = c.of_call.ensures ∙ ap quiet_turn place;
      asks = refl;
      few = omega arith;
      begun = ap (map session_in) scripts ∙ map-append session_in (map plain_script l.scripts.items) (plain_script new ∷ []);
      submitted = refl;
      scripts = λ t stmts was.
          let count : length (history.begun (history_in c.args.self.now)) + 1 ≡ length (map plain_script l.scripts.items) + 1 =
          omega (arith, length-map l.scripts.items plain_script, script_count l.scripts.items (history.begun (history_kept (plain l))) c.self.invariant.kept.sessions, ap (λ (s : Chronicle). length (history.begun (history_in s))) c.self.view_is) in
          ap (λ (xs : List PlainScript). at_places l.statements.items (places_in xs t)) scripts
          ∙ begin_scripts l.statements.items (map plain_script l.scripts.items) (plain_script new) (length (history.begun (history_in c.args.self.now)) + 1) t stmts c.new.ensures.items count was;
    }

pub returns-clause-ok : goal.returns-clause-ok
returns-clause-ok c = with_entry (plain c.self.inside) (plain record c.self.inside { stored = c.push_reserved-2.new.self; scripts = c.push_reserved.new.self; turn = c.of_call.result; view = c.begin.new.self }) c.args.self.now c.args.caller (event.Begin c.args.session (length (history.begun (history_in c.args.self.now)) + 1)) c.self.invariant.kept c.self.view_is (step c)

pub returns-clause-txn : goal.returns-clause-txn
returns-clause-txn c = ap (λ n. n + 1) (scripts_count c)

pub invariant_of-self-2 : goal.invariant_of-self-2
invariant_of-self-2 c =
    let room = room_by (plain c.self.inside) c.args.self.now c.args.caller (event.Begin c.args.session (length (history.begun (history_in c.args.self.now)) + 1)) c.self.invariant.kept c.self.view_is c.requires.quiet c.requires.allowed (length c.self.inside.stored.items) c.self.inside.asks refl in
    record {
      kept = kept_step (plain c.self.inside) (plain record c.self.inside { stored = c.push_reserved-2.new.self; scripts = c.push_reserved.new.self; turn = c.of_call.result; view = c.begin.new.self }) record { caller = c.args.caller; event = event.Begin c.args.session (length (history.begun (history_in c.args.self.now)) + 1) } c.self.invariant.kept (step c) (begins_by (plain c.self.inside) c.args.self.now c.args.caller (event.Begin c.args.session (length (history.begun (history_in c.args.self.now)) + 1)) c.self.invariant.kept c.self.view_is c.requires.quiet c.requires.allowed);
      room = omega (arith, room, ap room_in (step c).view, c.push_reserved-2.ensures.len, c.push_reserved-2.ensures.capacity, c.in_ok-reserve.ensures.ok);
    }
