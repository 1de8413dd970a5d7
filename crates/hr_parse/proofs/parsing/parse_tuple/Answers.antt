use Rattle.std.proofs.Common.{◌≡◌, ◌⊎◌, ◌*◌, ◌+◌, sym, subst, length, Err, None, rules, arith}
use Rattle.std.proofs.lemmas.Grind.{common_steps}
use Rattle.hr_parse.specs.declared.parsing.ParseError.TheVariants as e
use Rattle.hr_parse.specs.Readers.{Reads, alone}
use Rattle.hr_parse.specs.Grammar.{tuple}
use Rattle.hr_parse.specs.Parse.{IsTupleFrom, TupleRefused, words_from, error_from, depth_for, parsed_tuple}
use Rattle.hr_parse.proofs.Told.{exactly, exact_ok, exact_only, exact_err}
use Rattle.hr_parse.proofs.Texts.{tuple_tree, tuple_refused}
use Rattle.hr_parse.proofs.parsing.parse_tuple.Goals as goal

pub returns-clause-exact : goal.returns-clause-exact
unfolding parsed_tuple
returns-clause-exact c =
    let text = c.args.text.now in
    let from = c.args.from in
    let given = c.deref-2.result.now in
    let first : c.in_ok-moved.field-0 ≡ error_from from text = first_of (search rules, cc, grind (arith, common_steps)) in
    let placed : given ≡ words_from from text = first_of (search rules, cc, grind (arith, common_steps)) in
    let ends = λ (none : error_from from text ≡ None). c.end_of.ensures c.requires.short in
    let len : c.len.result ≡ length given = first_of (search rules, cc, grind (arith, common_steps)) in
    let reads : Reads (alone (tuple (depth_for given)).reads given) c.only_tuple-read.result c.only_tuple-read.new.self.rest.now =
    subst (λ n. Reads (alone (tuple (4 * n + 6)).reads given) c.only_tuple-read.result c.only_tuple-read.new.self.rest.now) len c.only_tuple-read.ensures in
    let k = exactly (λ n. alone (tuple n).reads) given (words_from from text) c.only_tuple-read.result c.only_tuple-read.new.self.rest.now c.in_ok-moved.field-0 (error_from from text) c.end_of.result (length text) placed first ends reads in
    subst (λ z. (z ≡ parsed_tuple from text) ⊎ (z ≡ Err e.Memory)) (sym c.told.ensures) k

pub returns-clause-ok : goal.returns-clause-ok
returns-clause-ok c =
    exact_ok (IsTupleFrom c.args.from c.args.text.now) c.told.result (parsed_tuple c.args.from c.args.text.now) (returns-clause-exact c) (λ a. (tuple_tree c.args.from c.args.text.now a).0)

pub returns-clause-only : goal.returns-clause-only
returns-clause-only c = λ a l. exact_only c.told.result (parsed_tuple c.args.from c.args.text.now) a (returns-clause-exact c) ((tuple_tree c.args.from c.args.text.now a).1 l)

pub returns-clause-err : goal.returns-clause-err
returns-clause-err c = exact_err (TupleRefused c.args.from c.args.text.now) c.told.result (parsed_tuple c.args.from c.args.text.now) (returns-clause-exact c) tt (tuple_refused c.args.from c.args.text.now)
