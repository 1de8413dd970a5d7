use Rattle.std.proofs.Common.{◌≡◌, ◌∙◌, ◌⊎◌, ◌*◌, ◌+◌, sym, subst, map, length, Err, None, rules, arith}
use Rattle.std.proofs.lemmas.Grind.{common_steps}
use Rattle.hr_parse.specs.declared.parsing.ParseError.TheVariants as e
use Rattle.hr_parse.specs.Readers.{Reads, alone}
use Rattle.hr_parse.specs.Grammar.{statement}
use Rattle.hr_parse.specs.Parse.{IsTextOf, TextRefused, words, error, moved, depth_for, parsed}
use Rattle.hr_parse.proofs.Told.{exactly, exact_ok, exact_only, exact_err, short, unmoved}
use Rattle.hr_parse.proofs.Texts.{parsed_tree, parsed_refused}
use Rattle.hr_parse.proofs.parsing.parse.Goals as goal

pub returns-clause-exact : goal.returns-clause-exact
unfolding parsed
returns-clause-exact c =
    let text = c.args.text.now in
    let given = c.deref-2.result.now in
    let first : c.in_ok-tokens.field-0.error ≡ error text = first_of (search rules, cc, grind (arith, common_steps)) in
    let placed : given ≡ map (moved 0) (words text) = first_of (search rules, cc, grind (arith, common_steps)) in
    let ends = λ (none : error text ≡ None). c.end_of.ensures (short text none) in
    let len : c.len.result ≡ length given = first_of (search rules, cc, grind (arith, common_steps)) in
    let reads : Reads (alone (statement (depth_for given)).reads given) c.statement-read.result c.statement-read.new.self.rest.now =
    subst (λ n. Reads (alone (statement (4 * n + 6)).reads given) c.statement-read.result c.statement-read.new.self.rest.now) len c.statement-read.ensures in
    let k = exactly (λ n. alone (statement n).reads) given (words text) c.statement-read.result c.statement-read.new.self.rest.now c.in_ok-tokens.field-0.error (error text) c.end_of.result (length text) (placed ∙ unmoved (words text)) first ends reads in
    subst (λ z. (z ≡ parsed text) ⊎ (z ≡ Err e.Memory)) (sym c.told.ensures) k

pub returns-clause-ok : goal.returns-clause-ok
returns-clause-ok c = exact_ok (IsTextOf c.args.text.now) c.told.result (parsed c.args.text.now) (returns-clause-exact c) (λ a. (parsed_tree c.args.text.now a).0)

pub returns-clause-only : goal.returns-clause-only
returns-clause-only c = λ a l. exact_only c.told.result (parsed c.args.text.now) a (returns-clause-exact c) ((parsed_tree c.args.text.now a).1 l)

pub returns-clause-err : goal.returns-clause-err
returns-clause-err c = exact_err (TextRefused c.args.text.now) c.told.result (parsed c.args.text.now) (returns-clause-exact c) tt (parsed_refused c.args.text.now)
