use Rattle.std.proofs.Common.{slice_get, take_while, nat_lt, length, ap, sym, ◌∙◌}
use Rattle.hr_history.specs.Primary.{is_some_of}
use Rattle.hr_progress.proofs.Ordered.{order_there, order_insert}
use Rattle.hr_progress.proofs.progress.mark.Goals as goal

pub returns-then-stands_at : goal.returns-then-stands_at
returns-then-stands_at c =
    let ts = c.args.touched.now.items in
    let at = c.lower_than-place.ensures ∙ ap (λ xs. length (take_while (λ u. nat_lt u c.args.txn) xs)) c.deref.ensures.value in
    order_there c.args.txn c.lower_than-place.result ts at (sym (c.stands_at.ensures ∙ ap (λ xs. is_some_of c.args.txn (slice_get xs c.lower_than-place.result)) c.deref-2.ensures.value) ∙ c.if-stands_at.true)

pub returns : goal.returns
returns c =
    let ts = c.args.touched.now.items in
    let at = c.lower_than-place.ensures ∙ ap (λ xs. length (take_while (λ u. nat_lt u c.args.txn) xs)) c.deref.ensures.value in
    c.in-Ok.ensures.items
    ∙ order_insert c.args.txn c.lower_than-place.result ts at (sym (c.stands_at.ensures ∙ ap (λ xs. is_some_of c.args.txn (slice_get xs c.lower_than-place.result)) c.deref-2.ensures.value) ∙ c.if-stands_at.false)
