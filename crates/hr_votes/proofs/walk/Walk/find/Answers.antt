use Rattle.std.proofs.Common.{inl, inr, ◌+◌, ◌<◌, true, [], ◌∷◌, length, take, ap, sym, ◌∙◌, arith}
use Rattle.std.proofs.lemmas.List.{take_more_set, length-set}
use Rattle.hr_base.specs.Lists.{has}
use Rattle.hr_base.proofs.ListLaws.{has_head}
use Rattle.hr_records.proofs.Places.{got_within}
use Rattle.hr_moves.specs.Kept.{entries_in}
use Rattle.hr_votes.proofs.Places.{placed, missing}
use Rattle.hr_votes.proofs.Marks.{clear_left, set_more, told_more, has_back}
use Rattle.hr_votes.proofs.walk.Walk.find.Goals as goal

pub bounds-self-place : goal.bounds-self-place
bounds-self-place c =
    omega (arith, got_within (entries_in c.args.view.now c.args.replica) c.in-Some.place c.args.txn (placed c.args.txn (entries_in c.args.view.now c.args.replica) c.in-Some.place (sym c.entry_place.ensures ∙ c.in-Some.is)), c.entries.ensures.value, c.entries.ensures.few)

pub bounds-self-place-then-not-self-place : goal.bounds-self-place-then-not-self-place
bounds-self-place-then-not-self-place c =
    omega (arith, got_within (entries_in c.args.view.now c.args.replica) c.in-Some.place c.args.txn (placed c.args.txn (entries_in c.args.view.now c.args.replica) c.in-Some.place (sym c.entry_place.ensures ∙ c.in-Some.is)), c.entries.ensures.value, c.entries.ensures.few)

pub offset_bounds-self-self : goal.offset_bounds-self-self
offset_bounds-self-self c =
    let place = got_within (entries_in c.args.view.now c.args.replica) c.in-Some.place c.args.txn (placed c.args.txn (entries_in c.args.view.now c.args.replica) c.in-Some.place (sym c.entry_place.ensures ∙ c.in-Some.is)) in
    let within : c.in-Some.place < length c.args.self.now.marks = omega (arith, place, c.entries.ensures.value, c.entries.ensures.few, c.requires.marks) in
    omega (arith, clear_left c.args.self.now.marks c.in-Some.place within c.if-not-self-place.true, c.requires.marks, c.requires.count)

pub bounds-self-self : goal.bounds-self-self
bounds-self-self c =
    let place = got_within (entries_in c.args.view.now c.args.replica) c.in-Some.place c.args.txn (placed c.args.txn (entries_in c.args.view.now c.args.replica) c.in-Some.place (sym c.entry_place.ensures ∙ c.in-Some.is)) in
    let within : c.in-Some.place < length c.args.self.now.marks = omega (arith, place, c.entries.ensures.value, c.entries.ensures.few, c.requires.marks) in
    omega (arith, clear_left c.args.self.now.marks c.in-Some.place within c.if-not-self-place.true, c.requires.marks, c.requires.count)

pub overflow_add-self : goal.overflow_add-self
overflow_add-self c =
    let place = got_within (entries_in c.args.view.now c.args.replica) c.in-Some.place c.args.txn (placed c.args.txn (entries_in c.args.view.now c.args.replica) c.in-Some.place (sym c.entry_place.ensures ∙ c.in-Some.is)) in
    let within : c.in-Some.place < length c.args.self.now.marks = omega (arith, place, c.entries.ensures.value, c.entries.ensures.few, c.requires.marks) in
    omega (arith, clear_left c.args.self.now.marks c.in-Some.place within c.if-not-self-place.true, c.requires.marks, c.requires.count)

pub returns-then-not-self-place-clause-walk : goal.returns-then-not-self-place-clause-walk
returns-then-not-self-place-clause-walk c =
    let entries = entries_in c.args.view.now c.args.replica in
    let w = c.args.self.now in
    let at = placed c.args.txn entries c.in-Some.place (sym c.entry_place.ensures ∙ c.in-Some.is) in
    let place = got_within entries c.in-Some.place c.args.txn at in
    let within : c.in-Some.place < length w.marks = omega (arith, place, c.entries.ensures.value, c.entries.ensures.few, c.requires.marks) in
    let room : w.found < length w.queue = omega (arith, clear_left w.marks c.in-Some.place within c.if-not-self-place.true, c.requires.marks, c.requires.queue, c.requires.count) in
    record {
      marks = length-set w.marks c.in-Some.place true ∙ c.requires.marks;
      queue = length-set w.queue w.found c.args.txn ∙ c.requires.queue;
      count = ap (λ n. n + 1) c.requires.count ∙ sym (set_more w.marks c.in-Some.place within c.if-not-self-place.true);
      told = λ p t marked it. ap (λ xs. has xs t) (take_more_set w.queue w.found c.args.txn room) ∙ told_more entries w.marks (take w.found w.queue) c.in-Some.place c.args.txn c.requires.told at p t marked it;
    }

pub returns-then-not-self-place-clause-known : goal.returns-then-not-self-place-clause-known
returns-then-not-self-place-clause-known c =
    let entries = entries_in c.args.view.now c.args.replica in
    let w = c.args.self.now in
    let place = got_within entries c.in-Some.place c.args.txn (placed c.args.txn (entries_in c.args.view.now c.args.replica) c.in-Some.place (sym c.entry_place.ensures ∙ c.in-Some.is)) in
    let within : c.in-Some.place < length w.marks = omega (arith, place, c.entries.ensures.value, c.entries.ensures.few, c.requires.marks) in
    let room : w.found < length w.queue = omega (arith, clear_left w.marks c.in-Some.place within c.if-not-self-place.true, c.requires.marks, c.requires.queue, c.requires.count) in
    inl (ap (λ xs. has xs c.args.txn) (take_more_set w.queue w.found c.args.txn room) ∙ has_back (take w.found w.queue) (c.args.txn ∷ []) c.args.txn (has_head c.args.txn []))

pub returns-in_default-clause-known : goal.returns-in_default-clause-known
returns-in_default-clause-known c = inr (missing c.args.txn (entries_in c.args.view.now c.args.replica) (sym c.entry_place.ensures ∙ c.in_default.is))

pub returns-else-not-self-place-clause-known : goal.returns-else-not-self-place-clause-known
returns-else-not-self-place-clause-known c =
    inl (c.requires.told c.in-Some.place c.args.txn c.if-not-self-place.false (placed c.args.txn (entries_in c.args.view.now c.args.replica) c.in-Some.place (sym c.entry_place.ensures ∙ c.in-Some.is)))
