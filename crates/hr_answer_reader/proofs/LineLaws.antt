-- The lines of an answer's text are its first line and those behind it; and lines that are put together again are the text.
use Rattle.std.proofs.Common.{◌≡◌, ℕ, suc, ℤ, pos, negsuc, ◌^◌, ◌≤◌, ◌<◌, nat_lt, nat_le, Bool, true, false, not, ◌&&◌, ◌||◌, ◌==◌, cond, List, [], ◌∷◌, ◌++◌, map, length, Option, Some, None, refl, ap, sym, subst, ◌∙◌, append_assoc, arith}
use Rattle.std.specs.Prelude.{codes, ⊤}
use Rattle.std.specs.Char.{is_ascii_digit}
use Rattle.std.specs.Fmt.{decimal, signed_decimal}
use Rattle.std.specs.List.{list_all, flat_map}
use Rattle.std.proofs.lemmas.Bool.{and_from, and_parts, eqb-true}
use Rattle.std.proofs.lemmas.Bool.Decides.{nat_tests}
use Rattle.std.proofs.lemmas.List.{append-nil}
use Rattle.std.proofs.lemmas.List.Folds.{list_all-append}
use Rattle.hr_base.specs.Bytes.{is_printable}
use Rattle.hr_base.specs.Texts.{Text, doubled, quoted_byte}
use Rattle.hr_rel.specs.declared.value.Value.{Value}
use Rattle.hr_rel.specs.declared.value.Value.TheVariants as value
use Rattle.hr_rel.specs.declared.answer.Answer.{Answer}
use Rattle.hr_rel.specs.declared.answer.Answer.TheVariants.{Rows, Count, Failed}
use Rattle.hr_rel.specs.declared.answer.RunError.{RunError}
use Rattle.hr_rel.specs.declared.answer.RunError.TheVariants.{DuplicateKey, Overflow, NullRefused, TooManyRows, Unfit}
use Rattle.hr_rel.specs.Kinds.{fits_i64}
use Rattle.hr_base.specs.declared.limits.TheConstants.{MAX_TEXT_BYTES}
use Rattle.hr_line.specs.Words.{pieces, in_front}
use Rattle.hr_lines.specs.Lines.{is_feed}
use Rattle.hr_answer_text.specs.Answers.{value_text, more_values, values_text, row_text, row_lines, error_text, first_line, answer_text}
use Rattle.hr_answer_reader.specs.Held.{is_text, is_held_value, is_held_row, is_held_error, is_held}
use Rattle.hr_answer_reader.specs.Lines.{lines_behind}
use Rattle.hr_answer_reader.proofs.NumberLaws.{all_digits}

-- lines, each behind a line feed
abbrev pub fed : List Text → Text
fed lines = flat_map (λ (l : Text). codes "\n" ++ l) lines

-- lines put together
abbrev pub joined : List Text → Text
joined [] = []
joined (l ∷ lines) = l ++ fed lines

-- ---- pieces put together are the text

abbrev IsThere : List Text → Type 0
IsThere [] = ⊥
IsThere (p ∷ ps) = ⊤

there_in_front : (b : ℕ) (ps : List Text) → IsThere (in_front b ps)
there_in_front b [] = tt
there_in_front b (p ∷ ps) = tt

there_either : (b : ℕ) (ps : List Text) (is : Bool) → IsThere (cond is ([] ∷ ps) (in_front b ps))
there_either b ps true = tt
there_either b ps false = there_in_front b ps

there : (text : Text) → IsThere (pieces is_feed text)
there [] = tt
there (b ∷ text) = there_either b (pieces is_feed text) (is_feed b)

joined_feed : (ps : List Text) → IsThere ps → joined ([] ∷ ps) ≡ 10 ∷ joined ps
joined_feed [] h = absurd h
joined_feed (p ∷ ps) h = refl

joined_front : (b : ℕ) (ps : List Text) → joined (in_front b ps) ≡ b ∷ joined ps
joined_front b [] = refl
joined_front b (p ∷ ps) = refl

joined_either : (b : ℕ) (ps : List Text) (is : Bool) → is_feed b ≡ is → IsThere ps → joined (cond is ([] ∷ ps) (in_front b ps)) ≡ b ∷ joined ps
joined_either b ps true is some = joined_feed ps some ∙ ap (λ (c : ℕ). c ∷ joined ps) (sym (eqb-true b 10 is))
joined_either b ps false is some = joined_front b ps

pub joined-pieces : (text : Text) → joined (pieces is_feed text) ≡ text
joined-pieces [] = refl
joined-pieces (b ∷ text) =
    joined_either b (pieces is_feed text) (is_feed b) refl (there text) ∙ ap (λ (t : Text). b ∷ t) (joined-pieces text)

-- ---- lines without line feeds are the pieces of what they are put together to

abbrev pub is_bare : Text → Bool
is_bare text = list_all (λ b. not (is_feed b)) text

not_true : (b : Bool) → not b ≡ true → b ≡ false
not_true true h = cc
not_true false h = refl

pieces_alone : (text : Text) → is_bare text ≡ true → pieces is_feed text ≡ text ∷ []
pieces_alone [] h = refl
pieces_alone (b ∷ text) h =
    let parts = and_parts (not (is_feed b)) (is_bare text) h in
    let no : is_feed b ≡ false = not_true (is_feed b) parts.0 in
    rw no (ap (in_front b) (pieces_alone text parts.1))

pieces_before : (text rest : Text) → is_bare text ≡ true → pieces is_feed (text ++ 10 ∷ rest) ≡ text ∷ pieces is_feed rest
pieces_before [] rest h = refl
pieces_before (b ∷ text) rest h =
    let parts = and_parts (not (is_feed b)) (is_bare text) h in
    let no : is_feed b ≡ false = not_true (is_feed b) parts.0 in
    rw no (ap (in_front b) (pieces_before text rest parts.1))

pub pieces-joined : (lines : List Text) (l : Text) → is_bare l ≡ true → list_all is_bare lines ≡ true → pieces is_feed (joined (l ∷ lines)) ≡ l ∷ lines
pieces-joined [] l h all = ap (pieces is_feed) (append-nil l) ∙ pieces_alone l h
pieces-joined (m ∷ lines) l h all =
    let parts = and_parts (is_bare m) (list_all is_bare lines) all in
    pieces_before l (m ++ fed lines) h ∙ ap (λ (ps : List Text). l ∷ ps) (pieces-joined lines m parts.0 parts.1)

-- ---- the lines of an answer have no line feed

bare_append : (a b : Text) → is_bare a ≡ true → is_bare b ≡ true → is_bare (a ++ b) ≡ true
bare_append a b h k = list_all-append (λ (c : ℕ). not (is_feed c)) a b ∙ and_from (is_bare a) (is_bare b) h k

digits_bare : (ds : Text) → list_all is_ascii_digit ds ≡ true → is_bare ds ≡ true
digits_bare [] h = refl
digits_bare (b ∷ ds) h =
    let parts = and_parts (is_ascii_digit b) (list_all is_ascii_digit ds) h in
    let no : not (is_feed b) ≡ true = grind (arith, nat_tests, parts.0) in
    and_from (not (is_feed b)) (is_bare ds) no (digits_bare ds parts.1)

decimal_bare : (n : ℕ) → n < 2 ^ 64 → is_bare (decimal n) ≡ true
decimal_bare n h = digits_bare (decimal n) (all_digits n h)

signed_bare : (z : ℤ) → fits_i64 z ≡ true → is_bare (signed_decimal z) ≡ true
signed_bare (pos n) h =
    let low : n < 2 ^ 63 = grind (arith, nat_tests, h) in
    decimal_bare n (omega (arith, low))
signed_bare (negsuc n) h =
    let low : n < 2 ^ 63 = grind (arith, nat_tests, h) in
    decimal_bare (suc n) (omega (arith, low))

quoted_bare : (b : ℕ) (is : Bool) → (b == 39) ≡ is → is_printable b ≡ true → is_bare (cond is (39 ∷ 39 ∷ []) (b ∷ [])) ≡ true
quoted_bare b true is h = refl
quoted_bare b false is h =
    let no : not (is_feed b) ≡ true = grind (arith, nat_tests, h) in
    and_from (not (is_feed b)) true no refl

doubled_bare : (bytes : Text) → list_all is_printable bytes ≡ true → is_bare (doubled bytes) ≡ true
doubled_bare [] h = refl
doubled_bare (b ∷ bytes) h =
    let parts = and_parts (is_printable b) (list_all is_printable bytes) h in
    bare_append (quoted_byte b) (doubled bytes) (quoted_bare b (b == 39) refl parts.0) (doubled_bare bytes parts.1)

value_bare : (v : Value) → is_held_value v ≡ true → is_bare (value_text v) ≡ true
value_bare value.Null h = refl
value_bare (value.Int n) h = signed_bare n h
value_bare (value.Text bytes) h =
    let all = (and_parts (nat_le (length bytes) MAX_TEXT_BYTES) (list_all is_printable bytes) h).1 in
    bare_append (codes "'" ++ doubled bytes) (codes "'") (bare_append (codes "'") (doubled bytes) refl (doubled_bare bytes all)) refl

more_bare : (vs : List Value) → is_held_row vs ≡ true → is_bare (more_values vs) ≡ true
more_bare [] h = refl
more_bare (v ∷ vs) h =
    let parts = and_parts (is_held_value v) (is_held_row vs) h in
    bare_append (codes ", " ++ value_text v) (more_values vs) (bare_append (codes ", ") (value_text v) refl (value_bare v parts.0)) (more_bare vs parts.1)

values_bare : (row : List Value) → is_held_row row ≡ true → is_bare (values_text row) ≡ true
values_bare [] h = refl
values_bare (v ∷ vs) h =
    let parts = and_parts (is_held_value v) (is_held_row vs) h in
    bare_append (value_text v) (more_values vs) (value_bare v parts.0) (more_bare vs parts.1)

row_bare : (row : List Value) → is_held_row row ≡ true → is_bare (row_text row) ≡ true
row_bare row h = bare_append (codes "(" ++ values_text row) (codes ")") (bare_append (codes "(") (values_text row) refl (values_bare row h)) refl

rows_bare : (rows : List (List Value)) → list_all is_held_row rows ≡ true → list_all is_bare (map row_text rows) ≡ true
rows_bare [] h = refl
rows_bare (row ∷ rows) h =
    let parts = and_parts (is_held_row row) (list_all is_held_row rows) h in
    and_from (is_bare (row_text row)) (list_all is_bare (map row_text rows)) (row_bare row parts.0) (rows_bare rows parts.1)

error_bare : (e : RunError) → is_held_error e ≡ true → is_bare (error_text e) ≡ true
error_bare (DuplicateKey n) h = bare_append (codes "duplicate ") (signed_decimal n) refl (signed_bare n h)
error_bare Overflow h = refl
error_bare (NullRefused n) h =
    let low : n < 2 ^ 32 = grind (arith, nat_tests, h) in
    bare_append (codes "null ") (decimal n) refl (decimal_bare n (omega (arith, low)))
error_bare TooManyRows h = refl
error_bare Unfit h = refl

first_bare : (answer : Answer) → is_held answer ≡ true → is_bare (first_line answer) ≡ true
first_bare (Rows rows) h =
    let few = (and_parts (nat_lt (length rows) (2 ^ 64)) (list_all is_held_row rows) h).0 in
    bare_append (codes "rows ") (decimal (length rows)) refl (decimal_bare (length rows) (grind (arith, nat_tests, few)))
first_bare (Count n) h = bare_append (codes "count ") (decimal n) refl (decimal_bare n (grind (arith, nat_tests, h)))
first_bare (Failed e) h = bare_append (codes "failed ") (error_text e) refl (error_bare e h)

behind_bare : (answer : Answer) → is_held answer ≡ true → list_all is_bare (lines_behind answer) ≡ true
behind_bare (Rows rows) h = rows_bare rows (and_parts (nat_lt (length rows) (2 ^ 64)) (list_all is_held_row rows) h).1
behind_bare (Count n) h = refl
behind_bare (Failed e) h = refl

-- ---- an answer's text

fed_rows : (rows : List (List Value)) → row_lines rows ≡ fed (map row_text rows)
fed_rows [] = refl
fed_rows (row ∷ rows) = ap (λ (t : Text). (codes "\n" ++ row_text row) ++ t) (fed_rows rows)

pub text_joined : (answer : Answer) → answer_text answer ≡ joined (first_line answer ∷ lines_behind answer)
text_joined (Rows rows) = ap (λ (t : Text). first_line (Rows rows) ++ t) (fed_rows rows)
text_joined (Count n) = refl
text_joined (Failed e) = refl

pub text_pieces : (answer : Answer) → is_held answer ≡ true → pieces is_feed (answer_text answer) ≡ first_line answer ∷ lines_behind answer
text_pieces answer h =
    ap (pieces is_feed) (text_joined answer)
    ∙ pieces-joined (lines_behind answer) (first_line answer) (first_bare answer h) (behind_bare answer h)
