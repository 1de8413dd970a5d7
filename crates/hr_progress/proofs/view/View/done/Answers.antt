use Rattle.std.proofs.Common.{◌≡◌, ◌⊎◌, ◌+◌, ◌&&◌, ◌==◌, None, Some, List, if◌then◌else◌, map, length, slice_get, sym, ◌∙◌, ap, subst, refl, arith}
use Rattle.std.proofs.lemmas.Bool.{eq-eqb, eqb-true}
use Rattle.hr_base.specs.Lists.{when}
use Rattle.hr_engine.specs.declared.reply.RunReply.{RunReply}
use Rattle.hr_engine.specs.declared.reply.RunReply.TheVariants as run
use Rattle.hr_history.specs.declared.job.Job.TheVariants as job
use Rattle.hr_history.specs.declared.job.JobReply.TheVariants as reply
use Rattle.hr_history.specs.Primary.{is_some_of}
use Rattle.hr_history.specs.Transactions.{is_open}
use Rattle.hr_history.specs.View.{View, TxnState}
use Rattle.hr_history.specs.Processed.{replica_in}
use Rattle.hr_moves.specs.Changes.{map_from, change_at}
use Rattle.hr_moves.specs.Sane.{IsSane, IsReplica}
use Rattle.hr_moves.specs.Moves.{with_reply, with_given, answered, is_given, after_done}
use Rattle.hr_progress.specs.declared.txn.TxnState as code
use Rattle.hr_progress.specs.declared.attempt.Told.{Told}
use Rattle.hr_progress.specs.Plain.{PlainProgress, plain, plain_txn, plain_txn_in, plain_replica_in, to_answered, to_given, with_answered}
use Rattle.hr_progress.specs.Seen.{seen, seen_plain}
use Rattle.hr_progress.specs.Kept.{IsKept, ArePlaces, IsLeast, is_run, is_run_of, runs_out, recounted, back_to_before}
use Rattle.hr_progress.proofs.Dones.{stored, given_seen, given_parts, done_after, seen_done, places_done, kept_done}
use Rattle.hr_progress.proofs.Gives.{gives_sane, out_seen, has_entry, known_long, few_enough}
use Rattle.hr_progress.proofs.Least.{least_but_one}
use Rattle.hr_progress.proofs.Parts.{txn_seen}
use Rattle.hr_progress.proofs.Ready.{runs_less}
use Rattle.hr_progress.proofs.Replicas.{within, within_code}
use Rattle.std.proofs.lemmas.List.{length-map}
use Rattle.hr_progress.proofs.view.View.done.Goals as goal

pub push_reserved-requires : goal.push_reserved-requires
push_reserved-requires c = omega (arith, c.self.invariant.room.replies, runs_less c.args.replica 0 c.args.replica (λ (q : PlainProgress). record q { out = None }) (plain c.self.inside).replicas (omega arith) (within (plain c.self.inside) c.args.replica c.self.invariant.sane (subst (λ (v : View). IsReplica v c.args.replica) (sym c.self.view_is) c.requires.known)) (λ q. refl) (ap is_run (sym (out_seen (plain c.self.inside) c.self.invariant.sane c.args.replica) ∙ ap (λ (v : View). (replica_in v c.args.replica).out) c.self.view_is ∙ c.requires.out)))

pub answer_at-requires-clause-known : goal.answer_at-requires-clause-known
answer_at-requires-clause-known c = within_code c.self.inside.replicas.items c.args.replica (within (plain c.self.inside) c.args.replica c.self.invariant.sane (subst (λ (v : View). IsReplica v c.args.replica) (sym c.self.view_is) c.requires.known))

pub answer_at-requires-clause-out : goal.answer_at-requires-clause-out
answer_at-requires-clause-out c = ap (is_run_of c.args.txn) (sym (out_seen (plain c.self.inside) c.self.invariant.sane c.args.replica) ∙ ap (λ (v : View). (replica_in v c.args.replica).out) c.self.view_is ∙ c.requires.out) ∙ eq-eqb c.args.txn c.args.txn refl

pub answer_at-requires-clause-least : goal.answer_at-requires-clause-least
answer_at-requires-clause-least c =
    let p = plain c.self.inside in
    let r = c.args.replica in
    let t = c.args.txn in
    let q = plain_replica_in p.replicas r in
    let told : Told = record { reply = c.place_of-reply.result; at = c.args.place } in
    subst (λ (ts : List code.TxnState). IsLeast (map plain_txn ts) c.deref-5.result.now (back_to_before (map plain_txn ts) t (with_answered t told c.len-newest.result q))) (sym c.deref-4.ensures.value)
    (subst (λ ns. IsLeast p.txns ns (back_to_before p.txns t (with_answered t told c.len-newest.result q))) (sym c.deref-5.ensures.value)
    (least_but_one p c.self.invariant.sane t (to_answered told c.len-newest.result) q (c.self.invariant.kept.counted r (within (plain c.self.inside) c.args.replica c.self.invariant.sane (subst (λ (v : View). IsReplica v c.args.replica) (sym c.self.view_is) c.requires.known)))))

pub give_if-requires-clause-first : goal.give_if-requires-clause-first
give_if-requires-clause-first c = (c.self.invariant.sane.known c.args.replica c.args.txn (has_entry (plain c.self.inside) c.self.invariant.sane c.args.replica c.args.txn c.args.index (sym (out_seen (plain c.self.inside) c.self.invariant.sane c.args.replica) ∙ ap (λ (v : View). (replica_in v c.args.replica).out) c.self.view_is ∙ c.requires.out))).0

pub give_if-requires-clause-last : goal.give_if-requires-clause-last
give_if-requires-clause-last c =
    let h = has_entry (plain c.self.inside) c.self.invariant.sane c.args.replica c.args.txn c.args.index (sym (out_seen (plain c.self.inside) c.self.invariant.sane c.args.replica) ∙ ap (λ (v : View). (replica_in v c.args.replica).out) c.self.view_is ∙ c.requires.out) in
    omega (arith, known_long (plain c.self.inside) c.self.invariant.sane c.args.replica c.args.txn h, length-map c.self.inside.txns.items plain_txn)

pub give_if-requires-clause-fits : goal.give_if-requires-clause-fits
give_if-requires-clause-fits c = λ given.
    let p = plain c.self.inside in
    let t = c.args.txn in
    let parts = given_parts (is_some_of c.args.replica c.self.inside.primary) (is_open (plain_txn_in (map plain_txn c.self.inside.txns.items) c.args.txn).phase) (c.args.index == length (plain_txn_in (map plain_txn c.self.inside.txns.items) c.args.txn).given + 1) (sym (c.is_given-is_given.ensures ∙ ap (λ (xs : List code.TxnState). is_some_of c.args.replica c.self.inside.primary && is_open (plain_txn_in (map plain_txn xs) c.args.txn).phase && (c.args.index == length (plain_txn_in (map plain_txn xs) c.args.txn).given + 1)) c.deref.ensures.value) ∙ given) in
    omega (arith, eqb-true c.args.index (length (plain_txn_in p.txns t).given + 1) parts.1, few_enough p c.self.invariant.sane c.args.replica t c.args.index (sym (out_seen (plain c.self.inside) c.self.invariant.sane c.args.replica) ∙ ap (λ (v : View). (replica_in v c.args.replica).out) c.self.view_is ∙ c.requires.out), ap (λ (x : TxnState). x.statements) (txn_seen p t))

pub returns-clause-given : goal.returns-clause-given
returns-clause-given c =
    c.give_if.ensures.result ∙ ap (λ b. when b c.args.txn) ((c.is_given-is_given.ensures ∙ ap (λ (xs : List code.TxnState). is_some_of c.args.replica c.self.inside.primary && is_open (plain_txn_in (map plain_txn xs) c.args.txn).phase && (c.args.index == length (plain_txn_in (map plain_txn xs) c.args.txn).given + 1)) c.deref.ensures.value) ∙ given_seen (plain c.self.inside) c.args.replica c.args.txn c.args.index ∙ ap (λ (v : View). is_given v c.args.replica c.args.txn c.args.index) c.self.view_is)

moved : (c : goal.After-give_if) → plain record c.self.inside { txns = c.give_if.new.txns; replicas = c.answer_at.new.replicas; replies = c.push_reserved.new.self; fresh = Some record { replica = c.args.replica; txn = c.args.txn } } ≡ done_after (plain c.self.inside) c.self.invariant.sane c.self.invariant.places c.args.replica c.args.txn c.args.index c.args.answer record { reply = c.place_of-reply.result; at = c.args.place } c.is_given-is_given.result
moved c =
    let p = plain c.self.inside in
    let newest = c.len-newest.ensures ∙ c.self.inside.replies.ok.0 in
    let stamp = c.len.ensures ∙ c.self.inside.log.ok.0 in
    let told : Told = record { reply = c.place_of-reply.result; at = c.args.place } in
    λ i. record p {
      txns = (c.give_if.ensures.value ∙ (λ j. if c.is_given-is_given.result then map_from (change_at c.args.txn (to_given record { reply = newest j; stamp = stamp j })) 1 p.txns else p.txns)) i;
      replicas = (c.answer_at.ensures.value ∙ (λ j. map_from (change_at c.args.replica (λ (q : PlainProgress). recounted (map plain_txn (c.deref-4.ensures.value j)) (c.deref-5.ensures.value j) (with_answered c.args.txn told (newest j) q))) 0 p.replicas)) i;
      replies = c.push_reserved.ensures.items i;
      fresh = Some record { replica = c.args.replica; txn = c.args.txn };
    }

after : (c : goal.After-give_if) → seen record c.self.inside { txns = c.give_if.new.txns; replicas = c.answer_at.new.replicas; replies = c.push_reserved.new.self; fresh = Some record { replica = c.args.replica; txn = c.args.txn } } ≡ after_done c.args.self.now c.args.place c.args.replica c.args.txn c.args.index c.args.answer
after c =
    let p = plain c.self.inside in
    let r = c.args.replica in
    let t = c.args.txn in
    let w = answered (seen_plain p) c.args.place r t c.args.answer in
    let is = (c.is_given-is_given.ensures ∙ ap (λ (xs : List code.TxnState). is_some_of c.args.replica c.self.inside.primary && is_open (plain_txn_in (map plain_txn xs) c.args.txn).phase && (c.args.index == length (plain_txn_in (map plain_txn xs) c.args.txn).given + 1)) c.deref.ensures.value) ∙ given_seen p r t c.args.index in
    ap seen_plain (moved c) ∙ seen_done (plain c.self.inside) c.self.invariant.sane c.self.invariant.places c.args.replica c.args.txn c.args.index c.args.answer record { reply = c.place_of-reply.result; at = c.args.place } (stored (plain c.self.inside).replies c.args.answer c.place_of-reply.result (subst (λ (rs : List RunReply). (c.place_of-reply.result ≡ length rs) ⊎ (slice_get rs c.place_of-reply.result ≡ Some (run.Done c.args.answer))) c.deref-2.ensures.value c.place_of-reply.ensures)) c.is_given-is_given.result
    ∙ ap (λ b. with_reply r t (run.Done c.args.answer) (if b then with_given t c.args.answer w else w)) is ∙ ap (λ v. after_done v c.args.place r t c.args.index c.args.answer) c.self.view_is

pub returns-clause-step : goal.returns-clause-step
returns-clause-step c = after c

pub invariant_of-self : goal.invariant_of-self
invariant_of-self c = record {
  few = c.self.invariant.few;
  sane = subst IsSane (sym (after c)) (gives_sane c.args.self.now c.args.place c.args.replica (Some (job.Run c.args.txn c.args.index)) (reply.Ran (run.Done c.args.answer)) (subst IsSane c.self.view_is c.self.invariant.sane) c.requires.known c.requires.out c.requires.canonical);
  kept = subst IsKept (sym (moved c)) (kept_done (plain c.self.inside) c.self.invariant.sane c.self.invariant.places c.args.replica c.args.txn c.args.index c.args.answer record { reply = c.place_of-reply.result; at = c.args.place } c.self.invariant.kept (sym (out_seen (plain c.self.inside) c.self.invariant.sane c.args.replica) ∙ ap (λ (v : View). (replica_in v c.args.replica).out) c.self.view_is ∙ c.requires.out) c.is_given-is_given.result (λ e. (given_parts (is_some_of c.args.replica c.self.inside.primary) (is_open (plain_txn_in (map plain_txn c.self.inside.txns.items) c.args.txn).phase) (c.args.index == length (plain_txn_in (map plain_txn c.self.inside.txns.items) c.args.txn).given + 1) (sym (c.is_given-is_given.ensures ∙ ap (λ (xs : List code.TxnState). is_some_of c.args.replica c.self.inside.primary && is_open (plain_txn_in (map plain_txn xs) c.args.txn).phase && (c.args.index == length (plain_txn_in (map plain_txn xs) c.args.txn).given + 1)) c.deref.ensures.value) ∙ e)).0));
  places = subst ArePlaces (sym (moved c)) (places_done (plain c.self.inside) c.self.invariant.sane c.self.invariant.places c.args.replica c.args.txn c.args.index c.args.answer record { reply = c.place_of-reply.result; at = c.args.place } (stored (plain c.self.inside).replies c.args.answer c.place_of-reply.result (subst (λ (rs : List RunReply). (c.place_of-reply.result ≡ length rs) ⊎ (slice_get rs c.place_of-reply.result ≡ Some (run.Done c.args.answer))) c.deref-2.ensures.value c.place_of-reply.ensures)) c.is_given-is_given.result);
  room = record {
    log = c.self.invariant.room.log;
    given = c.give_if.ensures.room;
    replies = omega (arith, c.self.invariant.room.replies, ap runs_out c.answer_at.ensures.value, c.push_reserved.ensures.len, c.push_reserved.ensures.capacity, runs_less c.args.replica 0 c.args.replica (λ (q : PlainProgress). recounted (map plain_txn c.deref-4.result.now) c.deref-5.result.now (with_answered c.args.txn record { reply = c.place_of-reply.result; at = c.args.place } c.len-newest.result q)) (plain c.self.inside).replicas (omega arith) (within (plain c.self.inside) c.args.replica c.self.invariant.sane (subst (λ (v : View). IsReplica v c.args.replica) (sym c.self.view_is) c.requires.known)) (λ q. refl) (ap is_run (sym (out_seen (plain c.self.inside) c.self.invariant.sane c.args.replica) ∙ ap (λ (v : View). (replica_in v c.args.replica).out) c.self.view_is ∙ c.requires.out)));
    ready = c.answer_at.ensures.room;
  };
}
