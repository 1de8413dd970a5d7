use Rattle.std.proofs.Common.{◌-◌, List, ℕ, length, slice_get, refl, ap, ◌∙◌}
use Rattle.std.proofs.lemmas.Option.{slice_get_read, slice_get_past}
use Rattle.hr_ledger.proofs.Scripts.{place_found, place_missing}
use Rattle.hr_ledger.proofs.script.statement_place.Goals as goal

pub returns-in-Some : goal.returns-in-Some
returns-in-Some c =
    let xs = c.args.scripts.now in
    c.place_at.ensures ∙ ap (λ (ps : List ℕ). slice_get ps (c.args.index - 1)) c.deref.ensures.value
    ∙ place_found xs c.args.txn c.args.index c.in-Some.script.now c.if-txn-eq0.false c.if-index-eq0.false
    (slice_get_read xs (length xs) (c.args.txn - 1) c.in-Some.script.now refl c.in-Some.ensures.lookup.3.0 c.in-Some.ensures.lookup.1)

pub returns-in-None : goal.returns-in-None
returns-in-None c =
    let xs = c.args.scripts.now in
    place_missing xs c.args.txn c.args.index c.if-txn-eq0.false (slice_get_past xs (c.args.txn - 1) c.in-None.ensures.lookup.3)
