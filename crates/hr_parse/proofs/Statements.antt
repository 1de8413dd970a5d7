-- The readers of statements read what the grammar says.
use Rattle.std.proofs.Common.{◌≡◌, ℕ, true, if◌then◌else◌, List, [], ◌∷◌, ◌++◌, Option, Some, None, Ok, refl, sym, subst, lit<}
use Rattle.hr_rel.specs.declared.expr.Op.{Op}
use Rattle.hr_rel.specs.declared.expr.Op.TheVariants as op
use Rattle.hr_parse.specs.declared.ast.AggWord.{AggWord}
use Rattle.hr_parse.specs.declared.ast.NameAt.{NameAt}
use Rattle.hr_parse.specs.declared.ast.Ast.TheVariants as ast_of
use Rattle.hr_parse.specs.declared.ast.AggWord.TheVariants as word_of
use Rattle.hr_parse.specs.declared.ast.ItemAst.TheVariants as item_of
use Rattle.hr_parse.specs.declared.ast.Items.TheVariants as items_of
use Rattle.hr_lex.specs.declared.token.Keyword.TheVariants as kw
use Rattle.hr_parse.specs.declared.word.Mark.TheVariants as m
use Rattle.hr_parse.specs.declared.word.Sign.TheVariants as sg
use Rattle.hr_parse.specs.declared.word.Lexeme.{Lexeme}
use Rattle.hr_parse.specs.Words.{compare}
use Rattle.hr_parse.specs.Readers.{by_test, comparison, is_equal, equal_of, expect_equal, sees_name}
use Rattle.hr_parse.specs.Grammar as g
use Rattle.hr_parse.proofs.Shapes.{Shape, word, a_mark, nothing, ◌▸◌, ◌∥◌, Begins}
use Rattle.hr_parse.proofs.Rules.{Parts, less, rule_seq, rule_pure, rule_map, rule_test, Rule, rule_key, rule_case}
use Rattle.hr_parse.proofs.Operands.{Fits, parts, Holds, a_name, rule_name, rule_named, columns, rule_column, literals, rule_literal, lists, rule_listed, rule_optional, is_the_compare}
use Rattle.hr_parse.proofs.Nesting.{conds, rule_condition, exprs, rule_expression}

-- ---- SELECT

abbrev aggregates : Shape
aggregates = columns ▸ a_mark (m.Sign sg.RightParen) ▸ nothing

rule_aggregated : {P : ℕ → Type 0} → Parts P → (word : AggWord) (at : ℕ) → Holds (g.aggregated word at) aggregates P
unfolding g.aggregated
rule_aggregated parts word at = rule_seq parts (rule_column parts) (λ c. rule_key (m.Sign sg.RightParen) (less parts) (λ _. rule_pure (item_of.Aggregate word c at))) refl

rule_folded : {P : ℕ → Type 0} → Parts P → (word : AggWord) (at : ℕ) → Holds (g.folded word at) (a_mark (m.Sign sg.LeftParen) ▸ aggregates) P
unfolding g.folded
rule_folded parts word at = rule_key (m.Sign sg.LeftParen) (less parts) (λ _. rule_aggregated parts word at)

abbrev counts : Shape
counts = a_mark (m.Sign sg.LeftParen) ▸ ((a_mark (m.Sign sg.Star) ▸ a_mark (m.Sign sg.RightParen) ▸ nothing) ∥ aggregates)

rule_counted : {P : ℕ → Type 0} → Parts P → (at : ℕ) → Holds (g.counted at) counts P
unfolding g.counted
rule_counted parts at = rule_key (m.Sign sg.LeftParen) (less parts)
    (λ _. rule_case (m.Sign sg.Star) (less parts) (λ _. rule_key (m.Sign sg.RightParen) (less parts) (λ _. rule_pure (item_of.CountAll at))) (rule_aggregated parts word_of.Count at) refl)

abbrev folds : Shape
folds = a_mark (m.Sign sg.LeftParen) ▸ aggregates

abbrev an_item : Shape
an_item = (a_mark (m.Keyword kw.Count) ▸ counts) ∥ (a_mark (m.Keyword kw.Sum) ▸ folds) ∥ (a_mark (m.Keyword kw.Min) ▸ folds) ∥ (a_mark (m.Keyword kw.Max) ▸ folds) ∥ exprs

rule_item : (n : ℕ) → Holds (g.item n) an_item (Fits 6 n)
unfolding g.item
rule_item n =
    let p = less (parts 6 n) in
    rule_case (m.Keyword kw.Count) p (rule_counted (parts 6 n))
    (rule_case (m.Keyword kw.Sum) p (rule_folded (parts 6 n) word_of.Sum)
    (rule_case (m.Keyword kw.Min) p (rule_folded (parts 6 n) word_of.Min)
    (rule_case (m.Keyword kw.Max) p (rule_folded (parts 6 n) word_of.Max) (rule_map item_of.Plain (rule_expression n)) refl) refl) refl) refl

abbrev all_items : Shape
all_items = (a_mark (m.Sign sg.Star) ▸ nothing) ∥ lists an_item

rule_items : (n : ℕ) → Holds (g.items n) all_items (Fits 6 n)
unfolding g.items
rule_items n = rule_case (m.Sign sg.Star) (less (parts 6 n)) (λ at. rule_pure (items_of.Star at)) (rule_map items_of.Listed (rule_listed (lit< tt) refl refl refl (rule_item n))) refl

some_named : (u : List Lexeme) (a : Option NameAt) (t : List Lexeme) → g.Map Some g.IsName u a → sees_name (u ++ t) ≡ true
some_named u a t (g.Map.map (g.IsName.the_name n p)) = refl

abbrev entries : Shape
entries = a_name ▸ ((a_mark (m.Keyword kw.As) ▸ a_name) ∥ a_name ∥ nothing)

rule_entry : {P : ℕ → Type 0} → Parts P → Holds g.entry entries P
unfolding g.entry g.alias
rule_entry parts = rule_seq parts rule_name (λ table. rule_map (λ alias. record { table = table; alias = alias })
    (rule_case (m.Keyword kw.As) (less parts) (λ _. rule_map Some rule_name) (rule_named refl refl some_named (rule_map Some rule_name) (rule_pure None) refl) refl)) refl

abbrev joins : Shape
joins = entries ▸ a_mark (m.Keyword kw.On) ▸ conds

rule_joined : (n : ℕ) → Holds (g.joined n) joins (Fits 6 n)
unfolding g.joined
rule_joined n = rule_seq (parts 6 n) (rule_entry (parts 6 n)) (λ entry. rule_key (m.Keyword kw.On) (less (parts 6 n)) (λ _. rule_map (λ on. record { entry = entry; on = on }) (rule_condition n))) refl

abbrev a_join : Shape
a_join = (a_mark (m.Keyword kw.Inner) ▸ a_mark (m.Keyword kw.Join) ▸ joins) ∥ (a_mark (m.Keyword kw.Join) ▸ joins) ∥ nothing

rule_join : (n : ℕ) → Holds (g.join n) a_join (Fits 6 n)
unfolding g.join
rule_join n =
    let p = less (parts 6 n) in
    rule_case (m.Keyword kw.Inner) p (λ _. rule_key (m.Keyword kw.Join) p (λ _. rule_map Some (rule_joined n)))
    (rule_case (m.Keyword kw.Join) p (λ _. rule_map Some (rule_joined n)) (rule_pure None) refl) refl

abbrev filters : Shape
filters = (a_mark (m.Keyword kw.Where) ▸ conds) ∥ nothing

rule_filter : (n : ℕ) → Holds (g.filter n) filters (Fits 6 n)
unfolding g.filter
rule_filter n = rule_optional (m.Keyword kw.Where) (parts 6 n) (rule_condition n)

abbrev all_groups : Shape
all_groups = (a_mark (m.Keyword kw.Group) ▸ a_mark (m.Keyword kw.By) ▸ lists columns) ∥ nothing

rule_groups : (n : ℕ) → Holds (g.groups n) all_groups (Fits 6 n)
unfolding g.groups
rule_groups n =
    let p = less (parts 6 n) in
    rule_case (m.Keyword kw.Group) p (λ _. rule_key (m.Keyword kw.By) p (λ _. rule_listed (lit< tt) refl refl refl (rule_column (parts 6 n)))) (rule_pure []) refl

abbrev selects : Shape
selects = all_items ▸ a_mark (m.Keyword kw.From) ▸ entries ▸ a_join ▸ filters ▸ all_groups

rule_select : (n : ℕ) → Holds (g.select n) selects (Fits 6 n)
unfolding g.select
rule_select n =
    rule_seq (parts 6 n) (rule_items n) (λ items. rule_key (m.Keyword kw.From) (less (parts 6 n))
    (λ _. rule_seq (parts 6 n) (rule_entry (parts 6 n)) (λ first. rule_seq (parts 6 n) (rule_join n) (λ join. rule_seq (parts 6 n) (rule_filter n)
    (λ filter. rule_map (λ groups. record { items = items; first = first; join = join; filter = filter; groups = groups }) (rule_groups n)) refl) refl) refl)) refl

-- ---- INSERT, UPDATE and DELETE

abbrev pub tuples : Shape
tuples = a_mark (m.Sign sg.LeftParen) ▸ lists literals ▸ a_mark (m.Sign sg.RightParen) ▸ nothing

pub rule_tuple : (n : ℕ) → Rule (g.tuple n).reads g.IsTuple tuples (Fits 6 n)
unfolding g.tuple
rule_tuple n =
    let p = less (parts 6 n) in
    rule_key (m.Sign sg.LeftParen) p (λ at. rule_seq (parts 6 n) (rule_listed (lit< tt) refl refl refl (rule_literal (parts 6 n)))
    (λ values. rule_key (m.Sign sg.RightParen) p (λ _. rule_pure (record { values = values; at = at }))) refl)

abbrev all_columns : Shape
all_columns = (a_mark (m.Sign sg.LeftParen) ▸ lists a_name ▸ a_mark (m.Sign sg.RightParen) ▸ nothing) ∥ nothing

rule_columns : (n : ℕ) → Holds (g.named_columns n) all_columns (Fits 6 n)
unfolding g.named_columns
rule_columns n =
    let p = less (parts 6 n) in
    rule_case (m.Sign sg.LeftParen) p (λ _. rule_seq (parts 6 n) (rule_listed (lit< tt) refl refl refl rule_name) (λ all. rule_key (m.Sign sg.RightParen) p (λ _. rule_pure all)) refl) (rule_pure []) refl

abbrev inserts : Shape
inserts = a_mark (m.Keyword kw.Into) ▸ a_name ▸ all_columns ▸ a_mark (m.Keyword kw.Values) ▸ lists tuples

rule_insert : (n : ℕ) → Holds (g.insert n) inserts (Fits 6 n)
unfolding g.insert g.tuple
rule_insert n =
    let p = less (parts 6 n) in
    rule_key (m.Keyword kw.Into) p (λ _. rule_seq (parts 6 n) rule_name (λ table. rule_seq (parts 6 n) (rule_columns n)
    (λ columns. rule_key (m.Keyword kw.Values) p (λ _. rule_map (λ tuples. record { table = table; columns = columns; tuples = tuples }) (rule_listed (lit< tt) refl refl refl (rule_tuple n)))) refl) refl)

equal_op : (o : Option Op) (a : Unit {0}) → (if is_equal o then Some tt else None) ≡ Some a → o ≡ Some op.Eq
equal_op (Some op.Eq) a e = refl
equal_op _ a e = absurd (cc)

to_equal : (x : Lexeme) (a : Unit {0}) → equal_of x ≡ Some a → g.IsEqual (x ∷ []) a
to_equal x a e = subst (λ z. g.IsEqual (z ∷ []) a) (sym (is_the_compare op.Eq x (equal_op (comparison x.word) a e))) (g.IsEqual.the x.at)

equal_begins : (u : List Lexeme) (a : Unit {0}) → g.IsEqual u a → Begins (word (2 ∷ [])) u
equal_begins u a (g.IsEqual.the p) = refl

equal_read : (u : List Lexeme) (a : Unit {0}) → g.IsEqual u a → (t : List Lexeme) → by_test equal_of (u ++ t) ≡ Ok (a, t)
equal_read u a (g.IsEqual.the p) t = refl

rule_equal : {P : ℕ → Type 0} → Rule expect_equal g.IsEqual (word (2 ∷ [])) P
unfolding expect_equal
rule_equal {P} = rule_test {P = P} equal_of (2 ∷ []) (compare op.Eq 0) tt refl to_equal equal_begins equal_read

abbrev sets : Shape
sets = a_name ▸ word (2 ∷ []) ▸ exprs

rule_set : (n : ℕ) → Holds (g.assignment n) sets (Fits 6 n)
unfolding g.assignment
rule_set n = rule_seq (parts 6 n) rule_name (λ column. rule_seq (parts 6 n) rule_equal (λ _. rule_map (λ value. record { column = column; value = value }) (rule_expression n)) refl) refl

abbrev updates : Shape
updates = a_name ▸ a_mark (m.Keyword kw.Set) ▸ lists sets ▸ filters

rule_update : (n : ℕ) → Holds (g.update n) updates (Fits 6 n)
unfolding g.update
rule_update n =
    rule_seq (parts 6 n) rule_name (λ table. rule_key (m.Keyword kw.Set) (less (parts 6 n)) (λ _. rule_seq (parts 6 n) (rule_listed (lit< tt) refl refl refl (rule_set n))
    (λ sets. rule_map (λ filter. record { table = table; sets = sets; filter = filter }) (rule_filter n)) refl)) refl

abbrev deletes : Shape
deletes = a_mark (m.Keyword kw.From) ▸ a_name ▸ filters

rule_delete : (n : ℕ) → Holds (g.delete n) deletes (Fits 6 n)
unfolding g.delete
rule_delete n = rule_key (m.Keyword kw.From) (less (parts 6 n)) (λ _. rule_seq (parts 6 n) rule_name (λ table. rule_map (λ filter. record { table = table; filter = filter }) (rule_filter n)) refl)

-- ---- statements

abbrev commands : Shape
commands = (a_mark (m.Keyword kw.Select) ▸ selects) ∥ (a_mark (m.Keyword kw.Insert) ▸ inserts) ∥ (a_mark (m.Keyword kw.Update) ▸ updates) ∥ (a_mark (m.Keyword kw.Delete) ▸ deletes)

rule_command : (n : ℕ) → Holds (g.command n) commands (Fits 6 n)
unfolding g.command
rule_command n =
    let p = less (parts 6 n) in
    rule_case (m.Keyword kw.Select) p (λ _. rule_map ast_of.Select (rule_select n))
    (rule_case (m.Keyword kw.Insert) p (λ _. rule_map ast_of.Insert (rule_insert n))
    (rule_case (m.Keyword kw.Update) p (λ _. rule_map ast_of.Update (rule_update n)) (rule_key (m.Keyword kw.Delete) p (λ _. rule_map ast_of.Delete (rule_delete n))) refl) refl) refl

abbrev pub statements : Shape
statements = commands ▸ ((a_mark (m.Sign sg.Semicolon) ▸ nothing) ∥ nothing)

pub rule_statement : (n : ℕ) → Rule (g.statement n).reads g.IsStatement statements (Fits 6 n)
unfolding g.statement g.command g.select g.items g.item g.joined g.join g.filter g.groups g.insert g.named_columns g.tuple g.update g.assignment g.delete
rule_statement n = rule_seq (parts 6 n) (rule_command n) (λ a. rule_case (m.Sign sg.Semicolon) (less (parts 6 n)) (λ _. rule_pure a) (rule_pure a) refl) refl
