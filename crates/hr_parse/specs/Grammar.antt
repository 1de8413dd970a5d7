-- The grammar: which words each rule gives, and with which tree. A rule is put together part by part, as EBNF has it; the
-- names of the parts' trees, and the tree that they are put into, stand with them.
use Rattle.std.specs.Prelude.{ℕ, zero, suc, ◌<◌, ◌≤◌, ◌^◌, pos, Bool, true, false, if◌then◌else◌, List, [], ◌∷◌, ◌++◌, Option, Some, None}
use Rattle.hr_rel.specs.declared.expr.Op.{Op}
use Rattle.hr_rel.specs.declared.expr.Op.TheVariants as op
use Rattle.hr_parse.specs.declared.ast.Ast.{Ast}
use Rattle.hr_parse.specs.declared.ast.SelectAst.{SelectAst}
use Rattle.hr_parse.specs.declared.ast.InsertAst.{InsertAst}
use Rattle.hr_parse.specs.declared.ast.UpdateAst.{UpdateAst}
use Rattle.hr_parse.specs.declared.ast.DeleteAst.{DeleteAst}
use Rattle.hr_parse.specs.declared.ast.EntryAst.{EntryAst}
use Rattle.hr_parse.specs.declared.ast.JoinAst.{JoinAst}
use Rattle.hr_parse.specs.declared.ast.TupleAst.{TupleAst}
use Rattle.hr_parse.specs.declared.ast.SetAst.{SetAst}
use Rattle.hr_parse.specs.declared.ast.ExprAst.{ExprAst}
use Rattle.hr_parse.specs.declared.ast.AggWord.{AggWord}
use Rattle.hr_parse.specs.declared.ast.ItemAst.{ItemAst}
use Rattle.hr_parse.specs.declared.ast.Items.{Items}
use Rattle.hr_parse.specs.declared.ast.CondAst.{CondAst}
use Rattle.hr_parse.specs.declared.ast.OperandAst.{OperandAst}
use Rattle.hr_parse.specs.declared.ast.LiteralAst.{LiteralAst}
use Rattle.hr_parse.specs.declared.ast.NameAt.{NameAt}
use Rattle.hr_parse.specs.declared.ast.ColumnAst.{ColumnAst}
use Rattle.hr_parse.specs.declared.ast.Ast.TheVariants as ast_of
use Rattle.hr_parse.specs.declared.ast.AggWord.TheVariants as word_of
use Rattle.hr_parse.specs.declared.ast.ItemAst.TheVariants as item_of
use Rattle.hr_parse.specs.declared.ast.Items.TheVariants as items_of
use Rattle.hr_parse.specs.declared.ast.CondAst.TheVariants as cond_of
use Rattle.hr_parse.specs.declared.ast.OperandAst.TheVariants as operand_of
use Rattle.hr_parse.specs.declared.ast.LitAst.TheVariants as lit
use Rattle.hr_parse.specs.declared.word.Mark.{Mark}
use Rattle.hr_parse.specs.declared.word.Mark.TheVariants as m
use Rattle.hr_lex.specs.declared.token.Keyword.{Keyword}
use Rattle.hr_lex.specs.declared.token.Keyword.TheVariants as kw
use Rattle.hr_parse.specs.declared.word.Sign.{Sign}
use Rattle.hr_parse.specs.declared.word.Sign.TheVariants as sg
use Rattle.hr_parse.specs.declared.word.Lexeme.{Lexeme}
use Rattle.hr_parse.specs.Words.{mark, sign, named, number, text, compare}
use Rattle.hr_parse.specs.Readers.{Reader, and_then, pure, refuse, sees, sees_name, compares, expect, ahead_at, chosen, expect_equal, read_compare, read_name, negative, constant, listed_behind}
use Rattle.hr_parse.specs.Trees.{minus, sum, difference, product, placed, simple}

-- which words are in a language, and with which tree
abbrev pub Language : Type 0 → Type 1
Language A = List Lexeme → A → Type 0

-- ---- what rules give

-- a mark, and its place
pub data IsMark (m : Mark) : List Lexeme → ℕ → Type 0 where
  the : (p : ℕ) → IsMark m (mark m p ∷ []) p

-- a comparison
pub data IsCompare : List Lexeme → Op → Type 0 where
  the : (o : Op) (p : ℕ) → IsCompare (compare o p ∷ []) o

-- the comparison `=`
pub data IsEqual : List Lexeme → Unit {0} → Type 0 where
  the : (p : ℕ) → IsEqual (compare op.Eq p ∷ []) tt

-- no words
pub data Gives {A : Type 0} (a : A) : List Lexeme → A → Type 0 where
  nothing : Gives a [] a

-- what L says, and then what M says
pub data Seq {A B : Type 0} (L : List Lexeme → A → Type 0) (M : A → List Lexeme → B → Type 0) : List Lexeme → B → Type 0 where
  seq : {u v : List Lexeme} {a : A} {b : B} → L u a → M a v b → Seq L M (u ++ v) b

-- what L says, with its tree put into another
pub data Map {A B : Type 0} (h : A → B) (L : List Lexeme → A → Type 0) : List Lexeme → B → Type 0 where
  map : {u : List Lexeme} {a : A} → L u a → Map h L u (h a)

-- what L says or what M says
pub data Either {A : Type 0} (L M : List Lexeme → A → Type 0) : List Lexeme → A → Type 0 where
  in_left : {u : List Lexeme} {a : A} → L u a → Either L M u a
  in_right : {u : List Lexeme} {a : A} → M u a → Either L M u a

-- L { "," L }
pub data Listed {A : Type 0} (L : List Lexeme → A → Type 0) : List Lexeme → List A → Type 0 where
  one : {u : List Lexeme} {a : A} → L u a → Listed L u (a ∷ [])
  more : (p : ℕ) {u v : List Lexeme} {a : A} {others : List A} → L u a → Listed L v others → Listed L (u ++ (sign sg.Comma p ∷ v)) (a ∷ others)

-- ---- how rules are written

-- What a rule gives. How it is read, and by which words one sees that it comes, needn't be believed.
pub record Grammar (A : Type 0) : Type 1 where
  pub gives : List Lexeme → A → Type 0
  pub opens : List Lexeme → Bool
  pub reads : Reader A

-- a language with a reader of its own
abbrev pub rule : {A : Type 0} → Language A → Reader A → Grammar A
rule L f = record { gives = L; opens = λ _. false; reads = f }

abbrev pub gives : {A : Type 0} → A → Grammar A
gives a = rule (Gives a) (pure a)

abbrev pub fixed : Mark → Grammar ℕ
fixed m = record { gives = IsMark m; opens = sees m; reads = expect m }

abbrev pub key : Keyword → Grammar ℕ
key k = fixed (m.Keyword k)

abbrev pub punct : Sign → Grammar ℕ
punct s = fixed (m.Sign s)

abbrev pub comparison : Grammar Op
comparison = record { gives = IsCompare; opens = compares; reads = read_compare }

infixl 10 ◌>>=◌
abbrev pub ◌>>=◌ : {A B : Type 0} → Grammar A → (A → Grammar B) → Grammar B
g >>= h = record { gives = Seq g.gives (λ a. (h a).gives); opens = g.opens; reads = λ words. and_then (g.reads words) (λ a. (h a).reads) }

infixl 10 ◌>>◌
abbrev pub ◌>>◌ : {A B : Type 0} → Grammar A → Grammar B → Grammar B
g >> h = g >>= (λ _. h)

infixl 12 ◌giving◌
abbrev pub ◌giving◌ : {A B : Type 0} → Grammar A → (A → B) → Grammar B
g giving h = record { gives = Map h g.gives; opens = g.opens; reads = λ words. and_then (g.reads words) (λ a. pure (h a)) }

infixr 8 ◌or◌
abbrev pub ◌or◌ : {A : Type 0} → Grammar A → Grammar A → Grammar A
g or h = record {
  gives = Either g.gives h.gives;
  opens = λ words. if g.opens words then true else h.opens words;
  reads = λ words. if g.opens words then g.reads words else h.reads words;
}

-- g, which one sees by a name
abbrev pub by_name : {A : Type 0} → Grammar A → Grammar A
by_name g = record { gives = g.gives; opens = sees_name; reads = g.reads }

-- [ m g ]
abbrev pub optional : {A : Type 0} → Mark → Grammar A → Grammar (Option A)
optional m g = (do fixed m; g giving Some) or gives None

-- g { "," g }; the number, here and below, bounds how many parts are read and how deep rules nest
abbrev pub listed : {A : Type 0} → ℕ → Grammar A → Grammar (List A)
listed n g = rule (Listed g.gives) (listed_behind g.reads n [])

-- ---- names, literals, operands

pub data IsName : List Lexeme → NameAt → Type 0 where
  the_name : (n : List ℕ) (p : ℕ) → IsName (named n p ∷ []) (record { name = n; at = p })

abbrev pub name : Grammar NameAt
name = record { gives = IsName; opens = sees_name; reads = read_name }

-- column = name [ "." name ]
unfoldable pub column : Grammar ColumnAst
column = do
  first ← name
  optional (m.Sign sg.Dot) name giving λ second. record { first = first; second = second }

-- a number behind a sign, which stands at a place
pub data IsNegative (at : ℕ) : List Lexeme → LiteralAst → Type 0 where
  signed : (n p : ℕ) → n ≤ 2 ^ 63 → IsNegative at (number n p ∷ []) (record { value = lit.Int (minus n); at = at })

-- number | text
pub data IsConstant : List Lexeme → LiteralAst → Type 0 where
  unsigned : (n p : ℕ) → n < 2 ^ 63 → IsConstant (number n p ∷ []) (record { value = lit.Int (pos n); at = p })
  quoted : (t : List ℕ) (p : ℕ) → IsConstant (text t p ∷ []) (record { value = lit.Text t; at = p })

-- literal = [ "-" ] number | text | NULL
unfoldable pub literal : Grammar LiteralAst
literal = (do at ← punct sg.Minus; rule (IsNegative at) (negative at)) or (do at ← key kw.Null; gives (record { value = lit.Null; at = at })) or rule IsConstant constant

-- operand = column | literal
unfoldable pub operand : Grammar OperandAst
operand = (by_name column giving operand_of.Column) or (literal giving operand_of.Literal)

-- ---- conditions

-- operand AND operand
unfoldable pub between : OperandAst → Bool → Grammar CondAst
between left negated = do
  low ← operand
  key kw.And
  operand giving λ high. cond_of.Between left low high negated

-- "(" literal { "," literal } ")"
unfoldable pub among : ℕ → OperandAst → Bool → Grammar CondAst
among n left negated = do
  punct sg.LeftParen
  list ← listed n literal
  punct sg.RightParen
  gives (cond_of.Among left list negated)

-- [ NOT ] NULL
unfoldable pub nullity : OperandAst → Grammar CondAst
nullity left = (do key kw.Not; key kw.Null; gives (cond_of.IsNull left true)) or (do key kw.Null; gives (cond_of.IsNull left false))

abbrev pub range_or_list_of : ℕ → OperandAst → Bool → Grammar CondAst
range_or_list_of n left negated = (do key kw.Between; between left negated) or (do key kw.In; among n left negated)

-- [ NOT ] BETWEEN operand AND operand | [ NOT ] IN "(" literal { "," literal } ")"
unfoldable pub range_or_list : ℕ → OperandAst → Grammar CondAst
range_or_list n left = (do key kw.Not; range_or_list_of n left true) or range_or_list_of n left false

-- check = compare operand | IS [ NOT ] NULL | [ NOT ] BETWEEN operand AND operand | [ NOT ] IN "(" literal { "," literal } ")",
-- behind its left operand
unfoldable pub check : ℕ → OperandAst → Grammar CondAst
check n left = (do o ← comparison; operand giving λ right. cond_of.Compare o left right) or (do key kw.Is; nullity left) or range_or_list n left

-- operand check
unfoldable pub predicate : ℕ → Grammar CondAst
predicate n = do
  left ← operand
  check n left

-- ---- operators

-- an operator of these, and what it makes
pub data OneOf {B : Type 0} : List (Mark × B) → Mark → B → Type 0 where
  here : {x : Mark × B} {rest : List (Mark × B)} → OneOf (x ∷ rest) x.0 x.1
  there : {x : Mark × B} {rest : List (Mark × B)} {m : Mark} {b : B} → OneOf rest m b → OneOf (x ∷ rest) m b

-- What operators tie together: the plain parts, the tree of one in parentheses that open at a place, and with the trees that they
-- make the operators before a part, the tight ones between parts, and the loose ones.
pub record Operators (A : Type 0) : Type 1 where
  pub plain : ℕ → Grammar A
  pub placed : ℕ → A → A
  pub before : List (Mark × (A → A))
  pub tight : List (Mark × (A → A → A))
  pub loose : List (Mark × (A → A → A))

-- the operators between parts of a level
abbrev pub between_parts : {A : Type 0} → Operators A → ℕ → List (Mark × (A → A → A))
between_parts o zero = o.tight
between_parts o (suc level) = o.loose

-- parts of a level: 0 without operators between, 1 with tight ones, 2 with loose ones
pub data Tied {A : Type 0} (o : Operators A) : ℕ → List Lexeme → A → Type 0 where
  -- tied 0 = before (tied 0) | "(" tied 2 ")" | plain
  prefixed : (p : ℕ) {m : Mark} {h : A → A} {u : List Lexeme} {a : A} → OneOf o.before m h → Tied o 0 u a → Tied o 0 (mark m p ∷ u) (h a)
  parens : (p q : ℕ) {u : List Lexeme} {a : A} → Tied o 2 u a → Tied o 0 (sign sg.LeftParen p ∷ (u ++ (sign sg.RightParen q ∷ []))) (o.placed p a)
  plain : {u : List Lexeme} {a : A} → (o.plain 0).gives u a → Tied o 0 u a
  -- tied (level + 1) = tied level { between_parts (tied level) }, grouped from the left
  one : {level : ℕ} {u : List Lexeme} {a : A} → Tied o level u a → Tied o (suc level) u a
  more : (p : ℕ) {level : ℕ} {m : Mark} {h : A → A → A} {u v : List Lexeme} {a b : A}
      → Tied o (suc level) u a → OneOf (between_parts o level) m h → Tied o level v b → Tied o (suc level) (u ++ (mark m p ∷ v)) (h a b)

unfoldable mutual
  pub read_tied : {A : Type 0} → Operators A → ℕ → ℕ → Reader A
  read_tied o level zero = refuse
  read_tied o zero (suc n) = chosen o.before (λ h words. and_then (read_tied o 0 n words) (λ a. pure (h a)))
      (ahead_at (m.Sign sg.LeftParen) (λ at words. and_then (read_tied o 2 n words) (λ inner words. and_then (expect (m.Sign sg.RightParen) words) (λ _. pure (o.placed at inner)))) (o.plain n).reads)
  read_tied o (suc level) (suc n) = λ words. and_then (read_tied o level n words) (tied_behind o level n)

  pub tied_behind : {A : Type 0} → Operators A → ℕ → ℕ → A → Reader A
  tied_behind o level zero left = refuse
  tied_behind o level (suc n) left = chosen (between_parts o level) (λ h words. and_then (read_tied o level n words) (λ right. tied_behind o level n (h left right))) (pure left)

-- cond = conj { OR conj }, conj = neg { AND neg }, neg = NOT neg | "(" cond ")" | predicate
abbrev pub conditions : Operators CondAst
conditions = record {
  plain = predicate;
  placed = λ at a. a;
  before = (m.Keyword kw.Not, cond_of.Not) ∷ [];
  tight = (m.Keyword kw.And, cond_of.And) ∷ [];
  loose = (m.Keyword kw.Or, cond_of.Or) ∷ [];
}

abbrev pub IsCond : Language CondAst
IsCond = Tied conditions 2

abbrev pub condition : ℕ → Grammar CondAst
condition n = rule IsCond (read_tied conditions 2 n)

-- expr = term { ( "+" | "-" ) term }, term = factor { "*" factor }, factor = "(" expr ")" | operand
abbrev pub expressions : Operators ExprAst
expressions = record {
  plain = λ _. operand giving simple;
  placed = λ at a. placed a at;
  before = [];
  tight = (m.Sign sg.Star, product) ∷ [];
  loose = (m.Sign sg.Plus, sum) ∷ (m.Sign sg.Minus, difference) ∷ [];
}

abbrev pub IsExpr : Language ExprAst
IsExpr = Tied expressions 2

abbrev pub expression : ℕ → Grammar ExprAst
expression n = rule IsExpr (read_tied expressions 2 n)

-- ---- SELECT

-- column ")"
unfoldable pub aggregated : AggWord → ℕ → Grammar ItemAst
aggregated word at = do
  column ← column
  punct sg.RightParen
  gives (item_of.Aggregate word column at)

-- "(" "*" ")" | "(" column ")"
unfoldable pub counted : ℕ → Grammar ItemAst
counted at = do
  punct sg.LeftParen
  (do punct sg.Star; punct sg.RightParen; gives (item_of.CountAll at)) or aggregated word_of.Count at

-- "(" column ")"
unfoldable pub folded : AggWord → ℕ → Grammar ItemAst
folded word at = do
  punct sg.LeftParen
  aggregated word at

-- aggregate = COUNT "(" "*" ")" | ( COUNT | SUM | MIN | MAX ) "(" column ")"
-- item = aggregate | expr
unfoldable pub item : ℕ → Grammar ItemAst
item n =
    (key kw.Count >>= counted)
    or (key kw.Sum >>= folded word_of.Sum)
    or (key kw.Min >>= folded word_of.Min)
    or (key kw.Max >>= folded word_of.Max)
    or (expression n giving item_of.Plain)

-- items = "*" | item { "," item }
unfoldable pub items : ℕ → Grammar Items
items n = (do at ← punct sg.Star; gives (items_of.Star at)) or (listed n (item n) giving items_of.Listed)

-- [ [ AS ] name ]
unfoldable pub alias : Grammar (Option NameAt)
alias = (do key kw.As; name giving Some) or (name giving Some) or gives None

-- entry = name [ [ AS ] name ]
unfoldable pub entry : Grammar EntryAst
entry = do
  table ← name
  alias giving λ alias. record { table = table; alias = alias }

-- entry ON cond
unfoldable pub joined : ℕ → Grammar JoinAst
joined n = do
  entry ← entry
  key kw.On
  condition n giving λ on. record { entry = entry; on = on }

-- [ [ INNER ] JOIN entry ON cond ]
unfoldable pub join : ℕ → Grammar (Option JoinAst)
join n = (do key kw.Inner; key kw.Join; joined n giving Some) or (do key kw.Join; joined n giving Some) or gives None

-- [ WHERE cond ]
unfoldable pub filter : ℕ → Grammar (Option CondAst)
filter n = optional (m.Keyword kw.Where) (condition n)

-- [ GROUP BY column { "," column } ]
unfoldable pub groups : ℕ → Grammar (List ColumnAst)
groups n = (do key kw.Group; key kw.By; listed n column) or gives []

-- select = SELECT items FROM entry [ [ INNER ] JOIN entry ON cond ] [ WHERE cond ] [ GROUP BY column { "," column } ], behind its first word
unfoldable pub select : ℕ → Grammar SelectAst
select n = do
  items ← items n
  key kw.From
  first ← entry
  join ← join n
  filter ← filter n
  groups n giving λ groups. record { items = items; first = first; join = join; filter = filter; groups = groups }

-- ---- INSERT, UPDATE and DELETE, each behind its first word

-- tuple = "(" literal { "," literal } ")"
unfoldable pub tuple : ℕ → Grammar TupleAst
tuple n = do
  at ← punct sg.LeftParen
  values ← listed n literal
  punct sg.RightParen
  gives (record { values = values; at = at })

-- [ "(" name { "," name } ")" ]
unfoldable pub named_columns : ℕ → Grammar (List NameAt)
named_columns n = (do punct sg.LeftParen; all ← listed n name; punct sg.RightParen; gives all) or gives []

-- insert = INSERT INTO name [ "(" name { "," name } ")" ] VALUES tuple { "," tuple }
unfoldable pub insert : ℕ → Grammar InsertAst
insert n = do
  key kw.Into
  table ← name
  columns ← named_columns n
  key kw.Values
  listed n (tuple n) giving λ tuples. record { table = table; columns = columns; tuples = tuples }

-- name "=" expr
unfoldable pub assignment : ℕ → Grammar SetAst
assignment n = do
  column ← name
  rule IsEqual expect_equal
  expression n giving λ value. record { column = column; value = value }

-- update = UPDATE name SET name "=" expr { "," name "=" expr } [ WHERE cond ]
unfoldable pub update : ℕ → Grammar UpdateAst
update n = do
  table ← name
  key kw.Set
  sets ← listed n (assignment n)
  filter n giving λ filter. record { table = table; sets = sets; filter = filter }

-- delete = DELETE FROM name [ WHERE cond ]
unfoldable pub delete : ℕ → Grammar DeleteAst
delete n = do
  key kw.From
  table ← name
  filter n giving λ filter. record { table = table; filter = filter }

-- ---- statements

-- select | insert | update | delete
unfoldable pub command : ℕ → Grammar Ast
command n =
    (do key kw.Select; select n giving ast_of.Select)
    or (do key kw.Insert; insert n giving ast_of.Insert)
    or (do key kw.Update; update n giving ast_of.Update)
    or (do key kw.Delete; delete n giving ast_of.Delete)

-- statement = ( select | insert | update | delete ) [ ";" ]
unfoldable pub statement : ℕ → Grammar Ast
statement n = do
  a ← command n
  (do punct sg.Semicolon; gives a) or gives a

-- no bound plays a part in what is given
abbrev pub IsStatement : List Lexeme → Ast → Type 0
IsStatement = (statement 0).gives

abbrev pub IsTuple : List Lexeme → TupleAst → Type 0
IsTuple = (tuple 0).gives
