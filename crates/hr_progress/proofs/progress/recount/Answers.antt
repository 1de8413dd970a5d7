use Rattle.std.proofs.Common.{◌≡◌, ◌<◌, ℕ, List, map, length, slice_get, refl, ap, sym, ◌∙◌, arith}
use Rattle.std.specs.Option.{option_map}
use Rattle.std.proofs.lemmas.List.{length-map}
use Rattle.std.proofs.lemmas.Option.{slice_get_read}
use Rattle.hr_moves.specs.Changes.{map_from, change_at}
use Rattle.hr_progress.specs.declared.progress.Progress.{Progress}
use Rattle.hr_progress.specs.Plain.{PlainProgress, plain_txn, plain_progress}
use Rattle.hr_progress.specs.Kept.{recounted}
use Rattle.hr_progress.proofs.Changed.{set_changed, got_from, length_from}
use Rattle.hr_progress.proofs.Parts.{got_map}
use Rattle.hr_progress.proofs.Recounts.{up_to, up_to_none, up_to_all, up_to_more, not_yet, least_at}
use Rattle.hr_progress.proofs.Ready.{ready_at, ready_set}
use Rattle.hr_progress.proofs.progress.recount.Goals as goal

pub replicas-init : goal.replicas-init
replicas-init c = record { value = sym (up_to_none (recounted (map plain_txn c.args.txns.now) c.args.log.now) 0 (map plain_progress c.args.replicas.now.items)); room = λ ready. ready }

long : (now first : List Progress) (g : ℕ → PlainProgress → PlainProgress) → map plain_progress now ≡ map_from g 0 (map plain_progress first) → length now ≡ length first
long now first g e = sym (length-map now plain_progress) ∙ ap length e ∙ length_from g 0 (map plain_progress first) ∙ length-map first plain_progress

pub recount_one-requires : goal.recount_one-requires
recount_one-requires c =
    let first = map plain_progress c.args.replicas.now.items in
    let now = c.replicas.replicas.items in
    let n = c.replicas.place in
    let g = recounted (map plain_txn c.args.txns.now) c.args.log.now in
    let x = c.index_mut.result.now in
    least_at (map plain_txn c.args.txns.now) c.args.log.now first n (plain_progress x) c.requires
    (sym (ap (λ ys. slice_get ys n) c.replicas.invariant.value ∙ got_from (up_to n g) 0 n n first (omega arith) ∙ not_yet g n (slice_get first n))
    ∙ got_map plain_progress now n ∙ ap (option_map plain_progress) (slice_get_read now (length now) n x refl (omega (arith, c.replicas-test.true, c.len-place-end.ensures, c.args.replicas.now.ok.0, long now c.args.replicas.now.items (up_to n g) c.replicas.invariant.value)) c.index_mut.ensures.value))

pub replicas-preserved : goal.replicas-preserved
replicas-preserved c =
    let g = recounted (map plain_txn c.args.txns.now) c.args.log.now in
    let now = c.replicas.replicas.items in
    let within : c.replicas.place < length now = omega (arith, c.replicas-test.true, c.len-place-end.ensures, c.args.replicas.now.ok.0, long now c.args.replicas.now.items (up_to c.replicas.place g) c.replicas.invariant.value) in
    record {
      value = set_changed plain_progress g now c.replicas.place 0 c.replicas.place c.index_mut.result.now c.recount_one.new.progress (omega arith) within c.index_mut.ensures.value c.recount_one.ensures.value
          ∙ ap (map_from (change_at c.replicas.place g) 0) c.replicas.invariant.value ∙ up_to_more g c.replicas.place 0 (map plain_progress c.args.replicas.now.items);
      room = λ first.
          let ready = c.replicas.invariant.room first in
          ready_set now c.replicas.place c.recount_one.new.progress (c.recount_one.ensures.room (ready_at now c.replicas.place c.index_mut.result.now within c.index_mut.ensures.value ready)) ready;
    }

pub returns-clause-value : goal.returns-clause-value
returns-clause-value c = c.replicas.invariant.value ∙ up_to_all (recounted (map plain_txn c.args.txns.now) c.args.log.now) c.replicas.place 0 (map plain_progress c.args.replicas.now.items) (omega (arith, c.replicas-test.false, c.len-place-end.ensures, c.args.replicas.now.ok.0, length-map c.args.replicas.now.items plain_progress))
