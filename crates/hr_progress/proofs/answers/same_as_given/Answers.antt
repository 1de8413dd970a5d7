use Rattle.std.proofs.Common.{◌==◌, ◌&&◌, length, nat_lt, sym, ap, ◌∙◌}
use Rattle.std.proofs.lemmas.Bool.{eq-eqb, ne_eqb}
use Rattle.std.proofs.lemmas.List.{length-map}
use Rattle.hr_history.specs.SameAnswers.{first_difference}
use Rattle.hr_progress.specs.declared.attempt.Told.{Told}
use Rattle.hr_progress.specs.declared.txn.Given.{Given}
use Rattle.hr_progress.specs.Seen.{answer_at}
use Rattle.hr_progress.proofs.Compared.{told_answers, given_answers, same_by_difference}
use Rattle.hr_progress.proofs.answers.same_as_given.Goals as goal

pub returns-then-told-given : goal.returns-then-told-given
returns-then-told-given c =
    let rs = c.args.replies.now in
    let xs = told_answers rs c.args.told.now in
    let ys = given_answers rs c.args.given.now in
    let long_told = length-map c.args.told.now (λ (t : Told). answer_at rs t.reply) in
    let long_given = length-map c.args.given.now (λ (g : Given). answer_at rs g.reply) in
    ap (nat_lt (length c.args.told.now)) c.first_difference.ensures
    ∙ ap (λ b. b && nat_lt (length c.args.told.now) (first_difference xs ys)) (sym (eq-eqb (length c.args.told.now) (length c.args.given.now) c.if-told-given.true))
    ∙ sym (λ i. (long_told i == long_given i) && nat_lt (long_told i) (first_difference xs ys)) ∙ same_by_difference xs ys

pub returns-else-told-given : goal.returns-else-told-given
returns-else-told-given c =
    let rs = c.args.replies.now in
    let xs = told_answers rs c.args.told.now in
    let ys = given_answers rs c.args.given.now in
    let long_told = length-map c.args.told.now (λ (t : Told). answer_at rs t.reply) in
    let long_given = length-map c.args.given.now (λ (g : Given). answer_at rs g.reply) in
    (let differ = ne_eqb (length c.args.told.now) (length c.args.given.now) c.if-told-given.false in
    differ ∙ ap (λ b. b && nat_lt (length c.args.told.now) (first_difference xs ys)) (sym differ))
    ∙ sym (λ i. (long_told i == long_given i) && nat_lt (long_told i) (first_difference xs ys)) ∙ same_by_difference xs ys
