-- A line of a table has a key: its first column holds numbers, and none of them NULL.
use Rattle.std.proofs.Common.{◌≡◌, ◌+◌, Bool, true, false, not, cond, ◌&&◌, nat_lt, Option, Some, None, option_map, option_and_then, List, [], ◌∷◌, length, take, drop, map, refl}
use Rattle.std.specs.Prelude.{codes}
use Rattle.hr_base.specs.Texts.{Text}
use Rattle.hr_rel.specs.declared.catalog.ColKind.{ColKind}
use Rattle.hr_rel.specs.declared.catalog.ColKind.TheVariants as kinds
use Rattle.hr_rel.specs.Kinds.{same_kind}
use Rattle.hr_line.specs.Words.{first, others, only, pieces, words_of}
use Rattle.hr_line.specs.declared.name.LineName.{LineName}
use Rattle.hr_line.specs.declared.number.Number.{Number}
use Rattle.hr_forms.specs.Words.{named, number_in, one_number, is_over, all_there}
use Rattle.hr_forms.specs.Headings.{heading_of}
use Rattle.hr_forms.specs.Acts.{lie_of, loss_of}
use Rattle.hr_forms.specs.Columns.{is_comma, says, key_kind, column, column_of, key_piece, key_column, with_others, columns_of}
use Rattle.hr_forms.specs.Forms.{fault, index, alone, form_behind, headed, closed, closed_columns, table, row, opened, tuple_place, form_of}
use Rattle.hr_forms.specs.declared.act.ActForm.{ActForm}
use Rattle.hr_forms.specs.declared.column.ColumnForm.{ColumnForm}
use Rattle.hr_forms.specs.declared.heading.Heading.{Heading}
use Rattle.hr_forms.specs.declared.heading.Heading.TheVariants as heading
use Rattle.hr_forms.specs.declared.line.LineForm.{LineForm}
use Rattle.hr_forms.specs.declared.line.LineForm.TheVariants as form
use Rattle.hr_records.proofs.Options.{On, on_some, then_on, map_on}

-- ---- words

-- a kind that a key may have
abbrev pub IsKeyKind : ColKind × Bool → Type 0
IsKeyKind k = (same_kind k.0 kinds.Int && not k.1) ≡ true

-- a column that may be a key
abbrev pub IsKeyForm : ColumnForm → Type 0
IsKeyForm c = (same_kind c.kind kinds.Int && not c.nullable) ≡ true

-- the first of some columns is a key
abbrev pub has_key : List ColumnForm → Bool
has_key [] = false
has_key (c ∷ columns) = same_kind c.kind kinds.Int && not c.nullable

abbrev pub HasKey : List ColumnForm → Type 0
HasKey columns = has_key columns ≡ true

-- a line that is no table without a key
abbrev pub is_keyed : LineForm → Bool
is_keyed (form.Table name columns) = has_key columns
is_keyed _ = true

abbrev pub IsKeyed : LineForm → Type 0
IsKeyed f = is_keyed f ≡ true

-- of two, the one that a test takes
either : {X : Type 0} (P : X → Type 0) (b : Bool) (x y : Option X) → On P x → On P y → On P (cond b x y)
either P true x y h k = h
either P false x y h k = k

-- ---- columns

key_kind_good : (words : List Text) → On IsKeyKind (key_kind words)
key_kind_good words = either IsKeyKind (says (first words) (codes "int") && says (only (others words)) (codes "key")) (Some (kinds.Int, false)) None refl tt

column_good : (name : Option LineName) (k : Option (ColKind × Bool)) → On IsKeyKind k → On IsKeyForm (column name k)
column_good None None h = tt
column_good None (Some k) h = tt
column_good (Some name) None h = tt
column_good (Some name) (Some k) h = h

key_piece_good : (piece : Text) → On IsKeyForm (key_piece piece)
key_piece_good piece = column_good (named (first (words_of piece))) (key_kind (others (words_of piece))) (key_kind_good (others (words_of piece)))

key_column_good : (piece : Option Text) → On IsKeyForm (key_column piece)
key_column_good piece = then_on IsKeyForm key_piece piece (λ text e. key_piece_good text)

with_others_good : (key : ColumnForm) (rest : List Text) → IsKeyForm key → On HasKey (with_others key rest)
with_others_good key rest h = map_on HasKey (λ columns. key ∷ columns) (all_there (map column_of rest)) (λ columns e. h)

columns_good : (text : Text) → On HasKey (columns_of text)
unfolding columns_of
columns_good text =
    let ps = pieces is_comma text in
    then_on HasKey (λ key. with_others key (others ps)) (key_column (first ps))
    (λ key e. with_others_good key (others ps) (on_some IsKeyForm (key_column (first ps)) key e (key_column_good (first ps))))

-- ---- lines with a parenthesis

closed_good : (text : Text) → On HasKey (closed_columns text)
closed_good text = then_on HasKey columns_of (closed text) (λ inner e. columns_good inner)

table_good : (name : Option LineName) (columns : Option (List ColumnForm)) → On HasKey columns → On IsKeyed (table name columns)
table_good None None h = tt
table_good None (Some columns) h = tt
table_good (Some name) None h = tt
table_good (Some name) (Some columns) h = h

row_good : (name : Option LineName) → On IsKeyed (row name)
row_good name = map_on IsKeyed form.Row name (λ n e. refl)

opened_good : (words : List Text) (behind : Text) → On IsKeyed (opened words behind)
opened_good words behind =
    let a_table = table (named (only (others words))) (closed_columns behind) in
    let a_row = row (named (only (others words))) in
    either IsKeyed (says (first words) (codes "table")) a_table (cond (says (first words) (codes "row")) a_row None)
    (table_good (named (only (others words))) (closed_columns behind) (closed_good behind))
    (either IsKeyed (says (first words) (codes "row")) a_row None (row_good (named (only (others words)))) tt)

-- ---- lines without one

index_good : (table column : Option LineName) → On IsKeyed (index table column)
index_good None None = tt
index_good None (Some column) = tt
index_good (Some table) None = tt
index_good (Some table) (Some column) = refl

fault_good : (replica call : Option Number) (act : Option ActForm) → On IsKeyed (fault replica call act)
fault_good None None None = tt
fault_good None None (Some act) = tt
fault_good None (Some call) None = tt
fault_good None (Some call) (Some act) = tt
fault_good (Some replica) None None = tt
fault_good (Some replica) None (Some act) = tt
fault_good (Some replica) (Some call) None = tt
fault_good (Some replica) (Some call) (Some act) = refl

alone_good : (words : List Text) (f : LineForm) → IsKeyed f → On IsKeyed (alone words f)
alone_good words f h = either IsKeyed (is_over words) (Some f) None h tt

behind_good : (h : Heading) (words : List Text) → On IsKeyed (form_behind h words)
behind_good heading.Version words = map_on IsKeyed form.Version (one_number words) (λ n e. refl)
behind_good heading.Liars words = map_on IsKeyed form.Liars (one_number words) (λ n e. refl)
behind_good heading.Replicas words = refl
behind_good heading.Retries words = map_on IsKeyed form.Retries (one_number words) (λ n e. refl)
behind_good heading.Index words = index_good (named (first words)) (named (only (others words)))
behind_good heading.Lie words = fault_good (number_in (first words)) (number_in (first (others words))) (lie_of (others (others words)))
behind_good heading.Lose words = fault_good (number_in (first words)) (number_in (first (others words))) (loss_of (others (others words)))
behind_good heading.Suspect words =
    let one = option_map form.Suspect (one_number (others words)) in
    either IsKeyed (says (first words) (codes "after")) one None (map_on IsKeyed form.Suspect (one_number (others words)) (λ n e. refl)) tt
behind_good heading.Session words = alone_good words form.Session refl
behind_good heading.Schedule words = alone_good words form.Schedule refl

headed_good : (words : List Text) → On IsKeyed (headed words)
headed_good words = then_on IsKeyed (λ h. form_behind h (others words)) (option_and_then heading_of (first words)) (λ h e. behind_good h (others words))

-- ---- lines

pub form_keyed : (content : Text) → On IsKeyed (form_of content)
form_keyed content =
    let at = tuple_place content in
    let words = words_of (take at content) in
    either IsKeyed (nat_lt at (length content)) (opened words (drop (at + 1) content)) (headed words) (opened_good words (drop (at + 1) content)) (headed_good words)
