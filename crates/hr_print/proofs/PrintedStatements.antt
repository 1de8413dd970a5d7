-- Statements, as they are printed.
use Rattle.std.proofs.Common.{◌≡◌, ℕ, suc, ◌+◌, List, [], ◌∷◌, ◌++◌, map, codes, Option, Some, None, refl, sym, ap, subst, arith, append_assoc}
use Rattle.std.proofs.lemmas.List.{append-nil}
use Rattle.std.specs.Option.{option_map}
use Rattle.hr_rel.specs.declared.expr.Op.TheVariants as op
use Rattle.hr_parse.specs.declared.ast.Ast.{Ast}
use Rattle.hr_parse.specs.declared.ast.SelectAst.{SelectAst}
use Rattle.hr_parse.specs.declared.ast.InsertAst.{InsertAst}
use Rattle.hr_parse.specs.declared.ast.UpdateAst.{UpdateAst}
use Rattle.hr_parse.specs.declared.ast.DeleteAst.{DeleteAst}
use Rattle.hr_parse.specs.declared.ast.EntryAst.{EntryAst}
use Rattle.hr_parse.specs.declared.ast.JoinAst.{JoinAst}
use Rattle.hr_parse.specs.declared.ast.TupleAst.{TupleAst}
use Rattle.hr_parse.specs.declared.ast.SetAst.{SetAst}
use Rattle.hr_parse.specs.declared.ast.ExprAst.{ExprAst}
use Rattle.hr_parse.specs.declared.ast.AggWord.{AggWord}
use Rattle.hr_parse.specs.declared.ast.ItemAst.{ItemAst}
use Rattle.hr_parse.specs.declared.ast.Items.{Items}
use Rattle.hr_parse.specs.declared.ast.CondAst.{CondAst}
use Rattle.hr_parse.specs.declared.ast.LiteralAst.{LiteralAst}
use Rattle.hr_parse.specs.declared.ast.NameAt.{NameAt}
use Rattle.hr_parse.specs.declared.ast.ColumnAst.{ColumnAst}
use Rattle.hr_parse.specs.declared.ast.Ast.TheVariants as ast_of
use Rattle.hr_parse.specs.declared.ast.AggWord.TheVariants as word_of
use Rattle.hr_parse.specs.declared.ast.ItemAst.TheVariants as item_of
use Rattle.hr_parse.specs.declared.ast.Items.TheVariants as items_of
use Rattle.hr_parse.specs.declared.word.Mark.{Mark}
use Rattle.hr_parse.specs.declared.word.Mark.TheVariants as m
use Rattle.hr_lex.specs.declared.token.Keyword.TheVariants as kw
use Rattle.hr_parse.specs.declared.word.Sign.TheVariants as sg
use Rattle.hr_parse.specs.declared.word.Word.TheVariants as w
use Rattle.hr_parse.specs.declared.word.Lexeme.{Lexeme}
use Rattle.hr_parse.specs.Words.{mark, compare, same_mark}
use Rattle.hr_parse.specs.Grammar as g
use Rattle.hr_parse.specs.Grammar.{IsMark, Gives, Seq, Map, Either}
use Rattle.hr_print.specs.Print as p
use Rattle.hr_print.specs.Places.{bare_name, bare_column, bare_literal, bare_cond, bare_expr, bare_item, bare_items, bare_entry, bare_join, bare_tuple, bare_set, bare}
use Rattle.hr_print.proofs.Spelled.{Ends, says_before}
use Rattle.hr_print.proofs.SaidSigns.{said_star}
use Rattle.hr_print.proofs.SaidWords.{said_select, said_from, said_join, said_on, said_where, said_group, said_by, said_insert, said_into, said_values, said_update, said_set, said_delete, said_as, said_count, said_sum, said_min, said_max}
use Rattle.hr_print.proofs.Folds.{four, five, seven}
use Rattle.hr_print.proofs.Printed.{Printed, Like, The, Both, Valid, fixed, pair, change, nothing, spaced, retext, ap_two, count, count_both, valid_left, valid_right}
use Rattle.hr_print.proofs.PrintedParts.{before_blank, between_blanks, op_said, some_again, printed_name, printed_column, printed_literal, printed_list}
use Rattle.hr_print.proofs.PrintedTied.{Enclosed, printed_enclosed}
use Rattle.hr_print.proofs.PrintedConds.{cond_printed}
use Rattle.hr_print.proofs.PrintedExprs.{expr_printed}

-- an end may stand behind it before such a rest
abbrev IsApart : List ℕ → Type 0
IsApart text = (rest : List ℕ) → Ends rest → Ends (text ++ rest)

-- ---- items

agg_again : (k : Mark) (word : AggWord) → ((p q r : ℕ) (u : List Lexeme) (a : ColumnAst) → g.column.gives u a → (g.item 0).gives (mark k p ∷ mark (m.Sign sg.LeftParen) q ∷ (u ++ (mark (m.Sign sg.RightParen) r ∷ []))) (item_of.Aggregate word a p))
    → (a : ColumnAst) (at : ℕ) (us : List Lexeme) (x : ℕ × (ℕ × (ColumnAst × ℕ))) → Both (The (w.Fixed k)) (Enclosed g.column.gives) us x → (Unit {0} × (Unit {0} × (Like bare_column a x.1.1.0 × Unit {0})))
    → (b : ItemAst) × (g.item 0).gives us b × Like bare_item (item_of.Aggregate word a at) b
agg_again k word rule a at us x (Both.both (The.the q) (Both.both (The.the r) (Both.both {u} l (The.the s)))) h =
    (item_of.Aggregate word x.1.1.0 q, rule q r s u x.1.1.0 l, ap (λ c. item_of.Aggregate word c 0) h.1.1.0)

count_all_again : (at : ℕ) (us : List Lexeme) (x : ℕ × (ℕ × (ℕ × ℕ))) → Both (The (w.Fixed (m.Keyword kw.Count))) (Enclosed (The (w.Fixed (m.Sign sg.Star)))) us x → (Unit {0} × (Unit {0} × (Unit {0} × Unit {0})))
    → (b : ItemAst) × (g.item 0).gives us b × Like bare_item (item_of.CountAll at) b
unfolding g.item g.counted
count_all_again at us x (Both.both (The.the q) (Both.both (The.the r) (Both.both (The.the s) (The.the t)))) h = (item_of.CountAll q, Either.in_left (Seq.seq (IsMark.the q) (Seq.seq (IsMark.the r) (Either.in_left (Seq.seq (IsMark.the s) (Seq.seq (IsMark.the t) Gives.nothing))))), refl)

enclosed_column : (u : List Lexeme) (r : ℕ) (a : ColumnAst) → g.column.gives u a → Valid (u ++ (mark (m.Sign sg.RightParen) r ∷ []))
    → Printed Ends (codes "(" ++ (p.column_text a ++ codes ")")) (Enclosed g.column.gives) (λ x. Unit {0} × (Like bare_column a x.1.0 × Unit {0})) (suc (count (u ++ (mark (m.Sign sg.RightParen) r ∷ []))))
unfolding same_mark
enclosed_column u r a l h =
    let n : count (u ++ (mark (m.Sign sg.RightParen) r ∷ [])) ≡ count u + 0 = count_both u (mark (m.Sign sg.RightParen) r ∷ []) in
    change (printed_enclosed (printed_column u a l (valid_left u (mark (m.Sign sg.RightParen) r ∷ []) h))) (λ us x r e. (x, r, e)) (omega (arith, n))

printed_item : (u : List Lexeme) (a : ItemAst) → (g.item 0).gives u a → Valid u → Printed Ends (p.item_text a) (g.item 0).gives (Like bare_item a) (count u)
unfolding same_mark g.item g.counted g.folded g.aggregated
printed_item s b (Either.in_left (Seq.seq (IsMark.the p) (Seq.seq (IsMark.the q) (Either.in_left (Seq.seq (IsMark.the r) (Seq.seq (IsMark.the t) Gives.nothing)))))) h =
    change (pair (fixed (w.Fixed (m.Keyword kw.Count)) said_count) (printed_enclosed (fixed {F = Ends} (w.Fixed (m.Sign sg.Star)) (says_before (codes "*") _ said_star))) (λ r e. refl)) (count_all_again p) (omega arith)
printed_item s b (Either.in_left (Seq.seq (IsMark.the p) (Seq.seq (IsMark.the q) (Either.in_right (Seq.seq {u} {a} l (Seq.seq (IsMark.the r) Gives.nothing)))))) h =
    change (pair (fixed (w.Fixed (m.Keyword kw.Count)) said_count) (enclosed_column u r a l h.1.1) (λ r e. refl)) (agg_again (m.Keyword kw.Count) word_of.Count (λ p q r u a l. Either.in_left (Seq.seq (IsMark.the p) (Seq.seq (IsMark.the q) (Either.in_right (Seq.seq l (Seq.seq (IsMark.the r) Gives.nothing)))))) a p) (omega arith)
printed_item s b (Either.in_right (Either.in_left (Seq.seq (IsMark.the p) (Seq.seq (IsMark.the q) (Seq.seq {u} {a} l (Seq.seq (IsMark.the r) Gives.nothing)))))) h =
    change (pair (fixed (w.Fixed (m.Keyword kw.Sum)) said_sum) (enclosed_column u r a l h.1.1) (λ r e. refl)) (agg_again (m.Keyword kw.Sum) word_of.Sum (λ p q r u a l. Either.in_right (Either.in_left (Seq.seq (IsMark.the p) (Seq.seq (IsMark.the q) (Seq.seq l (Seq.seq (IsMark.the r) Gives.nothing)))))) a p) (omega arith)
printed_item s b (Either.in_right (Either.in_right (Either.in_left (Seq.seq (IsMark.the p) (Seq.seq (IsMark.the q) (Seq.seq {u} {a} l (Seq.seq (IsMark.the r) Gives.nothing))))))) h =
    change (pair (fixed (w.Fixed (m.Keyword kw.Min)) said_min) (enclosed_column u r a l h.1.1) (λ r e. refl)) (agg_again (m.Keyword kw.Min) word_of.Min (λ p q r u a l. Either.in_right (Either.in_right (Either.in_left (Seq.seq (IsMark.the p) (Seq.seq (IsMark.the q) (Seq.seq l (Seq.seq (IsMark.the r) Gives.nothing))))))) a p) (omega arith)
printed_item s b (Either.in_right (Either.in_right (Either.in_right (Either.in_left (Seq.seq (IsMark.the p) (Seq.seq (IsMark.the q) (Seq.seq {u} {a} l (Seq.seq (IsMark.the r) Gives.nothing)))))))) h =
    change (pair (fixed (w.Fixed (m.Keyword kw.Max)) said_max) (enclosed_column u r a l h.1.1) (λ r e. refl)) (agg_again (m.Keyword kw.Max) word_of.Max (λ p q r u a l. Either.in_right (Either.in_right (Either.in_right (Either.in_left (Seq.seq (IsMark.the p) (Seq.seq (IsMark.the q) (Seq.seq l (Seq.seq (IsMark.the r) Gives.nothing)))))))) a p) (omega arith)
printed_item s b (Either.in_right (Either.in_right (Either.in_right (Either.in_right (Map.map {u} {a} l))))) h =
    change (expr_printed u a l h).loose (λ us c k e. (item_of.Plain c, Either.in_right (Either.in_right (Either.in_right (Either.in_right (Map.map k)))), ap item_of.Plain e)) (omega arith)

star_again : (at : ℕ) (us : List Lexeme) (x : ℕ) → The (w.Fixed (m.Sign sg.Star)) us x → Unit {0} → (b : Items) × (g.items 0).gives us b × Like bare_items (items_of.Star at) b
unfolding g.items
star_again at us x (The.the q) h = (items_of.Star q, Either.in_left (Seq.seq (IsMark.the q) Gives.nothing), refl)

printed_items : (u : List Lexeme) (a : Items) → (g.items 0).gives u a → Valid u → Printed Ends (p.items_text a) (g.items 0).gives (Like bare_items a) (count u)
unfolding same_mark g.items
printed_items s b (Either.in_left (Seq.seq (IsMark.the p) Gives.nothing)) h = change (fixed (w.Fixed (m.Sign sg.Star)) (says_before (codes "*") _ said_star)) (star_again p) (omega arith)
printed_items s b (Either.in_right (Map.map {u} {a = all} l)) h =
    change (printed_list (g.item 0).gives bare_item p.item_text printed_item u all l h) (λ us c k e. (items_of.Listed c, Either.in_right (Map.map k), ap items_of.Listed e)) (omega arith)

-- ---- entries

alias_again : (a : NameAt) (us : List Lexeme) (x : ℕ × NameAt) → Both (The (w.Fixed (m.Keyword kw.As))) g.IsName us x → (Unit {0} × Like bare_name a x.1)
    → (b : Option NameAt) × g.alias.gives us b × Like (option_map bare_name) (Some a) b
unfolding g.alias
alias_again a us x (Both.both (The.the q) l) h = (Some x.1, Either.in_left (Seq.seq (IsMark.the q) (Map.map l)), ap Some h.1)

some_alias : (u : List Lexeme) (a : NameAt) → g.IsName u a → Valid u → Printed Ends (p.alias_text (Some a)) g.alias.gives (Like (option_map bare_name) (Some a)) (count u)
unfolding same_mark
some_alias u a l h = change (pair (fixed (w.Fixed (m.Keyword kw.As)) (between_blanks (codes "AS") (w.Fixed (m.Keyword kw.As)) said_as)) (printed_name u a l h) (λ r e. tt)) (alias_again a) (omega arith)

printed_alias : (u : List Lexeme) (a : Option NameAt) → g.alias.gives u a → Valid u → Printed Ends (p.alias_text a) g.alias.gives (Like (option_map bare_name) a) (count u)
unfolding same_mark g.alias
printed_alias s b (Either.in_right (Either.in_right Gives.nothing)) h = nothing 0 None (Either.in_right (Either.in_right Gives.nothing)) refl
printed_alias s b (Either.in_right (Either.in_left (Map.map {u} {a} l))) h = some_alias u a l h
printed_alias s b (Either.in_left (Seq.seq (IsMark.the p) (Map.map {u} {a} l))) h = some_alias u a l h.1

alias_apart : (a : Option NameAt) → IsApart (p.alias_text a)
alias_apart None rest h = h
alias_apart (Some a) rest h = refl

entry_again : (a : NameAt) (b : Option NameAt) (us : List Lexeme) (x : NameAt × Option NameAt) → Both g.IsName g.alias.gives us x → (Like bare_name a x.0 × Like (option_map bare_name) b x.1)
    → (c : EntryAst) × g.entry.gives us c × Like bare_entry (record { table = a; alias = b }) c
unfolding g.entry
entry_again a b us x (Both.both l k) h = (record { table = x.0; alias = x.1 }, Seq.seq l (Map.map k), ap_two (λ (y : NameAt) (z : Option NameAt). record { table = y; alias = z }) h.0 h.1)

printed_entry : (u : List Lexeme) (a : EntryAst) → g.entry.gives u a → Valid u → Printed Ends (p.entry_text a) g.entry.gives (Like bare_entry a) (count u)
unfolding g.entry
printed_entry s c (Seq.seq {u} {v} {a} l (Map.map {a = b} k)) h =
    let all : count (u ++ v) ≡ count u + count v = count_both u v in
    change (pair (printed_name u a l (valid_left u v h)) (printed_alias v b k (valid_right u v h)) (alias_apart b)) (entry_again a b) (omega (arith, all))

-- ---- joins, filters and groups

join_again : (a : EntryAst) (b : CondAst) (us : List Lexeme) (x : ℕ × (EntryAst × (ℕ × CondAst))) → Both (The (w.Fixed (m.Keyword kw.Join))) (Both g.entry.gives (Both (The (w.Fixed (m.Keyword kw.On))) g.IsCond)) us x
    → (Unit {0} × (Like bare_entry a x.1.0 × (Unit {0} × Like bare_cond b x.1.1.1))) → (c : Option JoinAst) × (g.join 0).gives us c × Like (option_map bare_join) (Some (record { entry = a; on = b })) c
unfolding g.join g.joined
join_again a b us x (Both.both (The.the q) (Both.both l (Both.both (The.the r) k))) h =
    (Some (record { entry = x.1.0; on = x.1.1.1 }), Either.in_right (Either.in_left (Seq.seq (IsMark.the q) (Map.map (Seq.seq l (Seq.seq (IsMark.the r) (Map.map k)))))), ap_two (λ (y : EntryAst) (z : CondAst). Some (record { entry = y; on = z })) h.1.0 h.1.1.1)

some_join : (u : List Lexeme) (a : JoinAst) → (g.joined 0).gives u a → Valid u → Printed Ends (p.join_text (Some a)) (g.join 0).gives (Like (option_map bare_join) (Some a)) (count u)
unfolding same_mark g.joined
some_join s c (Seq.seq {u} {a} l (Seq.seq (IsMark.the q) (Map.map {u = v} {a = b} k))) h =
    let all : count (u ++ (mark (m.Keyword kw.On) q ∷ v)) ≡ count u + count v = count_both u (mark (m.Keyword kw.On) q ∷ v) in
    retext (codes " JOIN " ++ (p.entry_text a ++ (codes " ON " ++ p.cond_text b 0))) (codes " JOIN " ++ p.entry_text a ++ codes " ON " ++ p.cond_text b 0)
    (sym (four (codes " JOIN ") (p.entry_text a) (codes " ON ") (p.cond_text b 0)))
    (change (pair (fixed (w.Fixed (m.Keyword kw.Join)) (between_blanks (codes "JOIN") (w.Fixed (m.Keyword kw.Join)) said_join))
    (pair (printed_entry u a l (valid_left u (mark (m.Keyword kw.On) q ∷ v) h))
    (pair (fixed (w.Fixed (m.Keyword kw.On)) (between_blanks (codes "ON") (w.Fixed (m.Keyword kw.On)) said_on)) (cond_printed v b k (valid_right u (mark (m.Keyword kw.On) q ∷ v) h).1).loose (λ r e. tt)) (λ r e. refl)) (λ r e. tt))
    (join_again a b) (omega (arith, all)))

printed_join : (u : List Lexeme) (a : Option JoinAst) → (g.join 0).gives u a → Valid u → Printed Ends (p.join_text a) (g.join 0).gives (Like (option_map bare_join) a) (count u)
unfolding same_mark g.join
printed_join s b (Either.in_right (Either.in_right Gives.nothing)) h = nothing 0 None (Either.in_right (Either.in_right Gives.nothing)) refl
printed_join s b (Either.in_right (Either.in_left (Seq.seq (IsMark.the p) (Map.map {u} {a} l)))) h = some_join u a l h.1
printed_join s b (Either.in_left (Seq.seq (IsMark.the p) (Seq.seq (IsMark.the q) (Map.map {u} {a} l)))) h = some_join u a l h.1.1

join_apart : (a : Option JoinAst) → IsApart (p.join_text a)
join_apart None rest h = h
join_apart (Some a) rest h = refl

printed_filter : (u : List Lexeme) (a : Option CondAst) → (g.filter 0).gives u a → Valid u → Printed Ends (p.filter_text a) (g.filter 0).gives (Like (option_map bare_cond) a) (count u)
unfolding same_mark g.filter
printed_filter s b (Either.in_right Gives.nothing) h = nothing 0 None (Either.in_right Gives.nothing) refl
printed_filter s b (Either.in_left (Seq.seq (IsMark.the p) (Map.map {u} {a} l))) h =
    change (pair (fixed (w.Fixed (m.Keyword kw.Where)) (between_blanks (codes "WHERE") (w.Fixed (m.Keyword kw.Where)) said_where)) (cond_printed u a l h.1).loose (λ r e. tt)) (some_again (m.Keyword kw.Where) g.IsCond bare_cond a) (omega arith)

filter_apart : (a : Option CondAst) → IsApart (p.filter_text a)
filter_apart None rest h = h
filter_apart (Some a) rest h = refl

groups_again : (list : List ColumnAst) (us : List Lexeme) (x : ℕ × (ℕ × List ColumnAst)) → Both (The (w.Fixed (m.Keyword kw.Group))) (Both (The (w.Fixed (m.Keyword kw.By))) (g.Listed g.column.gives)) us x
    → (Unit {0} × (Unit {0} × Like (map bare_column) list x.1.1)) → (b : List ColumnAst) × (g.groups 0).gives us b × Like (map bare_column) list b
unfolding g.groups
groups_again list us x (Both.both (The.the q) (Both.both (The.the r) l)) h = (x.1.1, Either.in_left (Seq.seq (IsMark.the q) (Seq.seq (IsMark.the r) l)), h.1.1)

groups_shown : (u : List Lexeme) (list : List ColumnAst) → g.Listed g.column.gives u list → p.groups_text list ≡ codes " GROUP BY " ++ p.joined (map p.column_text list)
groups_shown u list (g.Listed.one l) = refl
groups_shown u list (g.Listed.more p l k) = refl

printed_groups : (u : List Lexeme) (a : List ColumnAst) → (g.groups 0).gives u a → Valid u → Printed Ends (p.groups_text a) (g.groups 0).gives (Like (map bare_column) a) (count u)
unfolding same_mark g.groups
printed_groups s b (Either.in_right Gives.nothing) h = nothing 0 [] (Either.in_right Gives.nothing) refl
printed_groups s b (Either.in_left (Seq.seq (IsMark.the q) (Seq.seq {v = u} {b = all} (IsMark.the r) l))) h =
    retext (codes " GROUP BY " ++ p.joined (map p.column_text all)) (p.groups_text all) (sym (groups_shown u all l))
    (change (pair (fixed (w.Fixed (m.Keyword kw.Group)) (between_blanks (codes "GROUP") (w.Fixed (m.Keyword kw.Group)) said_group))
    (pair (fixed (w.Fixed (m.Keyword kw.By)) (before_blank (codes "BY") (w.Fixed (m.Keyword kw.By)) said_by)) (printed_list g.column.gives bare_column p.column_text printed_column u all l h.1.1) (λ r e. tt)) (λ r e. tt))
    (groups_again all) (omega arith))

groups_apart : (a : List ColumnAst) → IsApart (p.groups_text a)
groups_apart [] rest h = h
groups_apart (c ∷ a) rest h = refl

filter_groups_apart : (d : Option CondAst) (e : List ColumnAst) → IsApart (p.filter_text d ++ p.groups_text e)
filter_groups_apart d e rest h = subst Ends (sym (append_assoc (p.filter_text d) (p.groups_text e) rest)) (filter_apart d (p.groups_text e ++ rest) (groups_apart e rest h))

join_filter_apart : (c : Option JoinAst) (d : Option CondAst) (e : List ColumnAst) → IsApart (p.join_text c ++ (p.filter_text d ++ p.groups_text e))
join_filter_apart c d e rest h =
    let t : List ℕ = p.filter_text d ++ p.groups_text e in
    subst Ends (sym (append_assoc (p.join_text c) t rest)) (join_apart c (t ++ rest) (filter_groups_apart d e rest h))

-- ---- SELECT

-- the parts of a SELECT behind its first word
abbrev Selected : List Lexeme → Items × (ℕ × (EntryAst × (Option JoinAst × (Option CondAst × List ColumnAst)))) → Type 0
Selected = Both (g.items 0).gives (Both (The (w.Fixed (m.Keyword kw.From))) (Both g.entry.gives (Both (g.join 0).gives (Both (g.filter 0).gives (g.groups 0).gives))))

abbrev SameSelected : SelectAst → Items × (ℕ × (EntryAst × (Option JoinAst × (Option CondAst × List ColumnAst)))) → Type 0
SameSelected s x = Like bare_items s.items x.0 × (Unit {0} × (Like bare_entry s.first x.1.1.0 × (Like (option_map bare_join) s.join x.1.1.1.0
    × (Like (option_map bare_cond) s.filter x.1.1.1.1.0 × Like (map bare_column) s.groups x.1.1.1.1.1))))

select_again : (s : SelectAst) (us : List Lexeme) (x : ℕ × (Items × (ℕ × (EntryAst × (Option JoinAst × (Option CondAst × List ColumnAst)))))) → Both (The (w.Fixed (m.Keyword kw.Select))) Selected us x
    → (Unit {0} × SameSelected s x.1) → (b : Ast) × (g.command 0).gives us b × Like bare (ast_of.Select s) b
unfolding g.command g.select
select_again s us x (Both.both (The.the q) (Both.both a (Both.both (The.the r) (Both.both b (Both.both c (Both.both d e)))))) h =
    let y = x.1.1.1 in (
      ast_of.Select (record { items = x.1.0; first = y.0; join = y.1.0; filter = y.1.1.0; groups = y.1.1.1 }),
      Either.in_left (Seq.seq (IsMark.the q) (Map.map (Seq.seq a (Seq.seq (IsMark.the r) (Seq.seq b (Seq.seq c (Seq.seq d (Map.map e)))))))),
      cc (h.1.0, h.1.1.1.0, h.1.1.1.1.0, h.1.1.1.1.1.0, h.1.1.1.1.1.1),
    )

printed_select : (u : List Lexeme) (a : SelectAst) → (g.select 0).gives u a → Valid u → Printed Ends (p.select_text a) (g.command 0).gives (Like bare (ast_of.Select a)) (count u)
unfolding same_mark g.select
printed_select s t (Seq.seq {u} {a} l (Seq.seq (IsMark.the q) (Seq.seq {u = v} {a = b} k (Seq.seq {u = j} {a = c} i (Seq.seq {u = f} {a = d} r (Map.map {u = y} {a = e} o)))))) h =
    let from_on : List Lexeme = v ++ (j ++ (f ++ y)) in
    let rest = (valid_right u (mark (m.Keyword kw.From) q ∷ from_on) h).1 in
    let join_on = valid_right v (j ++ (f ++ y)) rest in
    let filter_on = valid_right j (f ++ y) join_on in
    let n : count (u ++ (mark (m.Keyword kw.From) q ∷ from_on)) ≡ count u + count from_on = count_both u (mark (m.Keyword kw.From) q ∷ from_on) in
    let n1 : count from_on ≡ count v + count (j ++ (f ++ y)) = count_both v (j ++ (f ++ y)) in
    let n2 : count (j ++ (f ++ y)) ≡ count j + count (f ++ y) = count_both j (f ++ y) in
    let n3 : count (f ++ y) ≡ count f + count y = count_both f y in
    retext _ _ (sym (seven (codes "SELECT ") (p.items_text a) (codes " FROM ") (p.entry_text b) (p.join_text c) (p.filter_text d) (p.groups_text e)))
    (change (pair (fixed (w.Fixed (m.Keyword kw.Select)) (before_blank (codes "SELECT") (w.Fixed (m.Keyword kw.Select)) said_select))
    (pair (printed_items u a l (valid_left u (mark (m.Keyword kw.From) q ∷ from_on) h))
    (pair (fixed (w.Fixed (m.Keyword kw.From)) (between_blanks (codes "FROM") (w.Fixed (m.Keyword kw.From)) said_from))
    (pair (printed_entry v b k (valid_left v (j ++ (f ++ y)) rest))
    (pair (printed_join j c i (valid_left j (f ++ y) join_on))
    (pair (printed_filter f d r (valid_left f y filter_on)) (printed_groups y e o (valid_right f y filter_on)) (groups_apart e))
    (λ z ends. filter_groups_apart d e z ends))
    (λ z ends. join_filter_apart c d e z ends))
    (λ z ends. tt))
    (λ z ends. refl))
    (λ z ends. tt))
    (select_again (record { items = a; first = b; join = c; filter = d; groups = e })) (omega (arith, n, n1, n2, n3)))

-- ---- INSERT

tuple_again : (list : List LiteralAst) (at : ℕ) (us : List Lexeme) (x : ℕ × (List LiteralAst × ℕ)) → Enclosed (g.Listed g.literal.gives) us x → (Unit {0} × (Like (map bare_literal) list x.1.0 × Unit {0}))
    → (b : TupleAst) × g.IsTuple us b × Like bare_tuple (record { values = list; at = at }) b
unfolding g.tuple
tuple_again list at us x (Both.both (The.the q) (Both.both l (The.the r))) h =
    (record { values = x.1.0; at = q }, Seq.seq (IsMark.the q) (Seq.seq l (Seq.seq (IsMark.the r) Gives.nothing)), ap (λ (z : List LiteralAst). record { values = z; at = 0 }) h.1.0)

printed_tuple : (u : List Lexeme) (a : TupleAst) → g.IsTuple u a → Valid u → Printed Ends (p.tuple_text a) g.IsTuple (Like bare_tuple a) (count u)
unfolding same_mark g.tuple
printed_tuple s b (Seq.seq (IsMark.the q) (Seq.seq {u} {a = all} l (Seq.seq (IsMark.the r) Gives.nothing))) h =
    let n : count (u ++ (mark (m.Sign sg.RightParen) r ∷ [])) ≡ count u + 0 = count_both u (mark (m.Sign sg.RightParen) r ∷ []) in
    change (printed_enclosed (printed_list g.literal.gives bare_literal p.literal_text printed_literal u all l (valid_left u (mark (m.Sign sg.RightParen) r ∷ []) h.1))) (tuple_again all q) (omega (arith, n))

columns_again : (list : List NameAt) (us : List Lexeme) (x : ℕ × (List NameAt × ℕ)) → Enclosed (g.Listed g.IsName) us x → (Unit {0} × (Like (map bare_name) list x.1.0 × Unit {0}))
    → (b : List NameAt) × (g.named_columns 0).gives us b × Like (map bare_name) list b
unfolding g.named_columns
columns_again list us x (Both.both (The.the q) (Both.both l (The.the r))) h = (x.1.0, Either.in_left (Seq.seq (IsMark.the q) (Seq.seq l (Seq.seq (IsMark.the r) Gives.nothing))), h.1.0)

columns_shown : (u : List Lexeme) (list : List NameAt) → g.Listed g.IsName u list → p.columns_text list ≡ codes " (" ++ (p.joined (map p.name_text list) ++ codes ")")
columns_shown u list (g.Listed.one l) = refl
columns_shown u list (g.Listed.more p l k) = refl

printed_columns : (u : List Lexeme) (a : List NameAt) → (g.named_columns 0).gives u a → Valid u → Printed Ends (p.columns_text a) (g.named_columns 0).gives (Like (map bare_name) a) (count u)
unfolding same_mark g.named_columns
printed_columns s b (Either.in_right Gives.nothing) h = nothing 0 [] (Either.in_right Gives.nothing) refl
printed_columns s b (Either.in_left (Seq.seq (IsMark.the q) (Seq.seq {u} {a = all} l (Seq.seq (IsMark.the r) Gives.nothing)))) h =
    let n : count (u ++ (mark (m.Sign sg.RightParen) r ∷ [])) ≡ count u + 0 = count_both u (mark (m.Sign sg.RightParen) r ∷ []) in
    retext (codes " (" ++ (p.joined (map p.name_text all) ++ codes ")")) (p.columns_text all) (sym (columns_shown u all l))
    (change (spaced (printed_enclosed (printed_list g.IsName bare_name p.name_text printed_name u all l (valid_left u (mark (m.Sign sg.RightParen) r ∷ []) h.1)))) (columns_again all) (omega (arith, n)))

columns_apart : (a : List NameAt) → IsApart (p.columns_text a)
columns_apart [] rest h = h
columns_apart (c ∷ a) rest h = refl

columns_values_apart : (a : List NameAt) (t rest : List ℕ) → Ends ((p.columns_text a ++ (codes " VALUES " ++ t)) ++ rest)
columns_values_apart [] t rest = refl
columns_values_apart (c ∷ a) t rest = refl

abbrev Inserted : List Lexeme → ℕ × (ℕ × (NameAt × (List NameAt × (ℕ × List TupleAst)))) → Type 0
Inserted = Both (The (w.Fixed (m.Keyword kw.Insert))) (Both (The (w.Fixed (m.Keyword kw.Into))) (Both g.IsName (Both (g.named_columns 0).gives (Both (The (w.Fixed (m.Keyword kw.Values))) (g.Listed g.IsTuple)))))

insert_again : (a : NameAt) (b : List NameAt) (c : List TupleAst) (us : List Lexeme) (x : ℕ × (ℕ × (NameAt × (List NameAt × (ℕ × List TupleAst))))) → Inserted us x
    → (Unit {0} × (Unit {0} × (Like bare_name a x.1.1.0 × (Like (map bare_name) b x.1.1.1.0 × (Unit {0} × Like (map bare_tuple) c x.1.1.1.1.1)))))
    → (i : Ast) × (g.command 0).gives us i × Like bare (ast_of.Insert (record { table = a; columns = b; tuples = c })) i
unfolding g.command g.insert
insert_again a b c us x (Both.both (The.the o) (Both.both (The.the q) (Both.both l (Both.both k (Both.both (The.the r) j))))) h =
    let y = x.1.1 in
    (ast_of.Insert (record { table = y.0; columns = y.1.0; tuples = y.1.1.1 }), Either.in_right (Either.in_left (Seq.seq (IsMark.the o) (Map.map (Seq.seq (IsMark.the q) (Seq.seq l (Seq.seq k (Seq.seq (IsMark.the r) (Map.map j)))))))), cc (h.1.1.0, h.1.1.1.0, h.1.1.1.1.1))

printed_insert : (u : List Lexeme) (a : InsertAst) → (g.insert 0).gives u a → Valid u → Printed Ends (p.insert_text a) (g.command 0).gives (Like bare (ast_of.Insert a)) (count u)
unfolding same_mark g.insert
printed_insert s t (Seq.seq (IsMark.the q) (Seq.seq {u} {a} l (Seq.seq {u = v} {a = b} k (Seq.seq (IsMark.the r) (Map.map {u = x} {a = c} j))))) h =
    let last : List Lexeme = mark (m.Keyword kw.Values) r ∷ x in
    let rest = valid_right u (v ++ last) h.1 in
    let n : count (u ++ (v ++ last)) ≡ count u + count (v ++ last) = count_both u (v ++ last) in
    let n1 : count (v ++ last) ≡ count v + count x = count_both v last in
    retext _ _ (sym (five (codes "INSERT INTO ") a.name (p.columns_text b) (codes " VALUES ") (p.joined (map p.tuple_text c))))
    (change (pair (fixed (w.Fixed (m.Keyword kw.Insert)) (before_blank (codes "INSERT") (w.Fixed (m.Keyword kw.Insert)) said_insert))
    (pair (fixed (w.Fixed (m.Keyword kw.Into)) (before_blank (codes "INTO") (w.Fixed (m.Keyword kw.Into)) said_into))
    (pair (printed_name u a l (valid_left u (v ++ last) h.1))
    (pair (printed_columns v b k (valid_left v last rest))
    (pair (fixed (w.Fixed (m.Keyword kw.Values)) (between_blanks (codes "VALUES") (w.Fixed (m.Keyword kw.Values)) said_values))
    (printed_list g.IsTuple bare_tuple p.tuple_text printed_tuple x c j (valid_right v last rest).1) (λ z ends. tt))
    (λ z ends. refl))
    (λ z ends. columns_values_apart b (p.joined (map p.tuple_text c)) z))
    (λ z ends. tt))
    (λ z ends. tt))
    (insert_again a b c) (omega (arith, n, n1)))

-- ---- UPDATE and DELETE

set_again : (a : NameAt) (b : ExprAst) (us : List Lexeme) (x : NameAt × (ℕ × ExprAst)) → Both g.IsName (Both (The (w.Compare op.Eq)) g.IsExpr) us x → (Like bare_name a x.0 × (Unit {0} × Like bare_expr b x.1.1))
    → (c : SetAst) × (g.assignment 0).gives us c × Like bare_set (record { column = a; value = b }) c
unfolding g.assignment
set_again a b us x (Both.both l (Both.both (The.the q) k)) h =
    (record { column = x.0; value = x.1.1 }, Seq.seq l (Seq.seq (g.IsEqual.the q) (Map.map k)), ap_two (λ (y : NameAt) (z : ExprAst). record { column = y; value = z }) h.0 h.1.1)

printed_set : (u : List Lexeme) (a : SetAst) → (g.assignment 0).gives u a → Valid u → Printed Ends (p.set_text a) (g.assignment 0).gives (Like bare_set a) (count u)
unfolding same_mark g.assignment
printed_set s c (Seq.seq {u} {a} l (Seq.seq (g.IsEqual.the q) (Map.map {u = v} {a = b} k))) h =
    let last : List Lexeme = compare op.Eq q ∷ v in
    let n : count (u ++ last) ≡ count u + count v = count_both u last in
    retext _ _ (sym (append_assoc a.name (codes " = ") (p.expr_text b 0)))
    (change (pair (printed_name u a l (valid_left u last h)) (pair (fixed (w.Compare op.Eq) (op_said op.Eq)) (expr_printed v b k (valid_right u last h).1).loose (λ z ends. tt)) (λ z ends. refl))
    (set_again a b) (omega (arith, n)))

abbrev Updated : List Lexeme → ℕ × (NameAt × (ℕ × (List SetAst × Option CondAst))) → Type 0
Updated = Both (The (w.Fixed (m.Keyword kw.Update))) (Both g.IsName (Both (The (w.Fixed (m.Keyword kw.Set))) (Both (g.Listed (g.assignment 0).gives) (g.filter 0).gives)))

update_again : (a : NameAt) (b : List SetAst) (c : Option CondAst) (us : List Lexeme) (x : ℕ × (NameAt × (ℕ × (List SetAst × Option CondAst)))) → Updated us x
    → (Unit {0} × (Like bare_name a x.1.0 × (Unit {0} × (Like (map bare_set) b x.1.1.1.0 × Like (option_map bare_cond) c x.1.1.1.1))))
    → (i : Ast) × (g.command 0).gives us i × Like bare (ast_of.Update (record { table = a; sets = b; filter = c })) i
unfolding g.command g.update
update_again a b c us x (Both.both (The.the o) (Both.both l (Both.both (The.the q) (Both.both k j)))) h =
    let y = x.1 in
    (ast_of.Update (record { table = y.0; sets = y.1.1.0; filter = y.1.1.1 }), Either.in_right (Either.in_right (Either.in_left (Seq.seq (IsMark.the o) (Map.map (Seq.seq l (Seq.seq (IsMark.the q) (Seq.seq k (Map.map j)))))))), cc (h.1.0, h.1.1.1.0, h.1.1.1.1))

printed_update : (u : List Lexeme) (a : UpdateAst) → (g.update 0).gives u a → Valid u → Printed Ends (p.update_text a) (g.command 0).gives (Like bare (ast_of.Update a)) (count u)
unfolding same_mark g.update
printed_update s t (Seq.seq {u} {a} l (Seq.seq (IsMark.the q) (Seq.seq {u = v} {a = b} k (Map.map {u = x} {a = c} j)))) h =
    let rest : List Lexeme = mark (m.Keyword kw.Set) q ∷ (v ++ x) in
    let after = (valid_right u rest h).1 in
    let n : count (u ++ rest) ≡ count u + count (v ++ x) = count_both u rest in
    let n1 : count (v ++ x) ≡ count v + count x = count_both v x in
    retext _ _ (sym (five (codes "UPDATE ") a.name (codes " SET ") (p.joined (map p.set_text b)) (p.filter_text c)))
    (change (pair (fixed (w.Fixed (m.Keyword kw.Update)) (before_blank (codes "UPDATE") (w.Fixed (m.Keyword kw.Update)) said_update))
    (pair (printed_name u a l (valid_left u rest h))
    (pair (fixed (w.Fixed (m.Keyword kw.Set)) (between_blanks (codes "SET") (w.Fixed (m.Keyword kw.Set)) said_set))
    (pair (printed_list (g.assignment 0).gives bare_set p.set_text printed_set v b k (valid_left v x after)) (printed_filter x c j (valid_right v x after)) (filter_apart c))
    (λ z ends. tt))
    (λ z ends. refl))
    (λ z ends. tt))
    (update_again a b c) (omega (arith, n, n1)))

abbrev Deleted : List Lexeme → ℕ × (ℕ × (NameAt × Option CondAst)) → Type 0
Deleted = Both (The (w.Fixed (m.Keyword kw.Delete))) (Both (The (w.Fixed (m.Keyword kw.From))) (Both g.IsName (g.filter 0).gives))

delete_again : (a : NameAt) (b : Option CondAst) (us : List Lexeme) (x : ℕ × (ℕ × (NameAt × Option CondAst))) → Deleted us x
    → (Unit {0} × (Unit {0} × (Like bare_name a x.1.1.0 × Like (option_map bare_cond) b x.1.1.1)))
    → (i : Ast) × (g.command 0).gives us i × Like bare (ast_of.Delete (record { table = a; filter = b })) i
unfolding g.command g.delete
delete_again a b us x (Both.both (The.the o) (Both.both (The.the q) (Both.both l k))) h =
    (ast_of.Delete (record { table = x.1.1.0; filter = x.1.1.1 }), Either.in_right (Either.in_right (Either.in_right (Seq.seq (IsMark.the o) (Map.map (Seq.seq (IsMark.the q) (Seq.seq l (Map.map k))))))), cc (h.1.1.0, h.1.1.1))

printed_delete : (u : List Lexeme) (a : DeleteAst) → (g.delete 0).gives u a → Valid u → Printed Ends (p.delete_text a) (g.command 0).gives (Like bare (ast_of.Delete a)) (count u)
unfolding same_mark g.delete
printed_delete s t (Seq.seq (IsMark.the q) (Seq.seq {u} {a} l (Map.map {u = v} {a = b} k))) h =
    let n : count (u ++ v) ≡ count u + count v = count_both u v in
    change (pair (fixed (w.Fixed (m.Keyword kw.Delete)) (before_blank (codes "DELETE") (w.Fixed (m.Keyword kw.Delete)) said_delete))
    (pair (fixed (w.Fixed (m.Keyword kw.From)) (before_blank (codes "FROM") (w.Fixed (m.Keyword kw.From)) said_from))
    (pair (printed_name u a l (valid_left u v h.1)) (printed_filter v b k (valid_right u v h.1)) (filter_apart b))
    (λ z ends. tt))
    (λ z ends. tt))
    (delete_again a b) (omega (arith, n))

-- ---- whole statements

printed_command : (u : List Lexeme) (a : Ast) → (g.command 0).gives u a → Valid u → Printed Ends (p.text a) (g.command 0).gives (Like bare a) (count u)
unfolding same_mark g.command
printed_command s b (Either.in_left (Seq.seq (IsMark.the q) (Map.map {u} {a} l))) h = change (printed_select u a l h.1) (λ us c k e. (c, k, e)) (omega arith)
printed_command s b (Either.in_right (Either.in_left (Seq.seq (IsMark.the q) (Map.map {u} {a} l)))) h = change (printed_insert u a l h.1) (λ us c k e. (c, k, e)) (omega arith)
printed_command s b (Either.in_right (Either.in_right (Either.in_left (Seq.seq (IsMark.the q) (Map.map {u} {a} l))))) h = change (printed_update u a l h.1) (λ us c k e. (c, k, e)) (omega arith)
printed_command s b (Either.in_right (Either.in_right (Either.in_right (Seq.seq (IsMark.the q) (Map.map {u} {a} l))))) h = change (printed_delete u a l h.1) (λ us c k e. (c, k, e)) (omega arith)

as_statement : (u : List Lexeme) (a : Ast) → (g.command 0).gives u a → g.IsStatement u a
unfolding g.statement
as_statement u a l = subst (λ z. g.IsStatement z a) (append-nil u) (Seq.seq l (Either.in_right Gives.nothing))

pub printed_statement : (u : List Lexeme) (a : Ast) → g.IsStatement u a → Valid u → Printed Ends (p.text a) g.IsStatement (Like bare a) (count u)
unfolding same_mark g.statement
printed_statement s b (Seq.seq {u} {a} l (Either.in_right Gives.nothing)) h =
    let n : count (u ++ []) ≡ count u + 0 = count_both u [] in
    change (printed_command u a l (valid_left u [] h)) (λ us c k e. (c, as_statement us c k, e)) (omega (arith, n))
printed_statement s b (Seq.seq {u} {a} l (Either.in_left (Seq.seq (IsMark.the q) Gives.nothing))) h =
    let last : List Lexeme = mark (m.Sign sg.Semicolon) q ∷ [] in
    let n : count (u ++ last) ≡ count u + 0 = count_both u last in
    change (printed_command u a l (valid_left u last h)) (λ us c k e. (c, as_statement us c k, e)) (omega (arith, n))
