-- Exactly the texts of answers in canonical form are read.
use Rattle.std.proofs.Common.{◌≡◌, ℕ, zero, suc, ◌+◌, ◌^◌, ◌<◌, ◌≤◌, Bool, true, false, not, nat_lt, ◌&&◌, cond, List, [], ◌∷◌, ◌++◌, length, map, take, drop, get_or, Option, Some, None, refl, ap, sym, subst, ◌∙◌, inl, inr, ◌⊎◌, ⊎_elim, arith}
use Rattle.std.specs.Prelude.{codes, IsSorted, IfSome, IfOk, Result, Ok, Err, ◌-◌}
use Rattle.std.specs.Fmt.{decimal, signed_decimal}
use Rattle.std.specs.List.{list_all, zip}
use Rattle.std.specs.Option.{option_and_then, option_map}
use Rattle.std.specs.Ordering.{is_lt}
use Rattle.std.specs.Str.{bytes_eq}
use Rattle.std.proofs.lemmas.Bool.{and_from, and_parts}
use Rattle.std.proofs.lemmas.Bool.Decides.{nat_tests}
use Rattle.hr_base.specs.Lists.{is_empty}
use Rattle.hr_base.specs.Texts.{Text}
use Rattle.hr_rel.specs.declared.value.Value.{Value}
use Rattle.hr_rel.specs.declared.answer.Answer.{Answer}
use Rattle.hr_rel.specs.declared.answer.Answer.TheVariants as answer
use Rattle.hr_rel.specs.declared.answer.RunError.{RunError}
use Rattle.hr_rel.specs.declared.answer.RunError.TheVariants.{DuplicateKey, Overflow, NullRefused, TooManyRows, Unfit}
use Rattle.hr_rel.specs.Kinds.{fits_i64}
use Rattle.hr_meaning.specs.Order.{row_cmp}
use Rattle.hr_line.specs.Words.{pieces}
use Rattle.hr_lines.specs.Lines.{is_feed}
use Rattle.hr_answer.specs.Canonical.{IsCanonical}
use Rattle.hr_answer_text.specs.Answers.{row_text, error_text, first_line, answer_text}
use Rattle.hr_answer_reader.specs.Held.{is_held_row, is_held_error, is_held}
use Rattle.hr_answer_reader.specs.Numbers.{long, short, key}
use Rattle.hr_answer_reader.specs.Rows.{row_of}
use Rattle.hr_answer_reader.specs.Lines.{lines_behind, line_count, Begins}
use Rattle.hr_answer_reader.specs.Answers.{begins, behind, plain_error_of, error_of, first_of, with_first, rows_in, follows, is_ascending, canonical_rows, answer_behind, answer_at, count_of, one_more, whole, answer_in, answer_of}
use Rattle.hr_answer_reader.specs.declared.first.FirstLine.{FirstLine}
use Rattle.hr_answer_reader.specs.declared.first.FirstLine.TheVariants as first
use Rattle.hr_answer_reader.proofs.NumberLaws.{long_again, long_said, short_again, short_said, key_again, key_said}
use Rattle.hr_answer_reader.proofs.RowLaws.{row_again, row_said, bytes_same}
use Rattle.hr_answer_reader.proofs.LineLaws.{joined, joined-pieces, text_joined, text_pieces}

-- ---- the first line

-- what the first line of an answer says
abbrev first_in : Answer → FirstLine
first_in (answer.Rows rows) = first.Rows (length rows)
first_in (answer.Count n) = first.Count n
first_in (answer.Failed e) = first.Failed e

-- how it is written, and whether the program can hold it
abbrev text_in : FirstLine → Text
text_in (first.Rows n) = codes "rows " ++ decimal n
text_in (first.Count n) = codes "count " ++ decimal n
text_in (first.Failed e) = codes "failed " ++ error_text e

abbrev is_held_first : FirstLine → Bool
is_held_first (first.Rows n) = nat_lt n (2 ^ 64)
is_held_first (first.Count n) = nat_lt n (2 ^ 64)
is_held_first (first.Failed e) = is_held_error e

error_again : (e : RunError) → is_held_error e ≡ true → error_of (error_text e) ≡ Some e
error_again (DuplicateKey n) h = ap (option_map DuplicateKey) (key_again n h)
error_again Overflow h = refl
error_again (NullRefused n) h = ap (option_map NullRefused) (short_again n (grind (arith, nat_tests, h)))
error_again TooManyRows h = refl
error_again Unfit h = refl

again : (f : FirstLine) → is_held_first f ≡ true → first_of (text_in f) ≡ Some f
unfolding first_of
again (first.Rows n) h = ap (option_map first.Rows) (long_again n (grind (arith, nat_tests, h)))
again (first.Count n) h = ap (option_map first.Count) (long_again n (grind (arith, nat_tests, h)))
again (first.Failed e) h = ap (option_map first.Failed) (error_again e h)

-- a text that begins so is this and what stands behind
front_and_rest : (n : ℕ) (text : Text) → text ≡ take n text ++ drop n text
front_and_rest zero text = refl
front_and_rest (suc n) [] = refl
front_and_rest (suc n) (b ∷ text) = ap (λ (t : Text). b ∷ t) (front_and_rest n text)

begun : (front text : Text) → begins front text ≡ true → front ++ behind front text ≡ text
begun front text h =
    ap (λ (t : Text). t ++ behind front text) (sym (bytes_same (take (length front) text) front h)) ∙ sym (front_and_rest (length front) text)

-- which way a test went
chosen : {X : Type 0} (b : Bool) (x y z : X) → cond b x y ≡ z → ((b ≡ true) × (x ≡ z)) ⊎ ((b ≡ false) × (y ≡ z))
chosen true x y z e = inl (refl, e)
chosen false x y z e = inr (refl, e)

mapped : {X Y : Type 0} (f : X → Y) (o : Option X) (y : Y) → option_map f o ≡ Some y → (x : X) × (o ≡ Some x) × (f x ≡ y)
mapped f None y e = cc
mapped f (Some x) y e = (x, refl, cc)

abbrev SaidError : Text → RunError → Type 0
SaidError word e = (error_text e ≡ word) × (is_held_error e ≡ true)

duplicate_said : (word rest : Text) (e : RunError) → codes "duplicate " ++ rest ≡ word → option_map DuplicateKey (key rest) ≡ Some e → SaidError word e
duplicate_said word rest e whole is =
    let m = mapped DuplicateKey (key rest) e is in
    let said = key_said rest m.0 m.1 in
    subst (λ (x : RunError). SaidError word x) m.2 (ap (λ (t : Text). codes "duplicate " ++ t) said.0 ∙ whole, said.1)

null_said : (word rest : Text) (e : RunError) → codes "null " ++ rest ≡ word → option_map NullRefused (short rest) ≡ Some e → SaidError word e
null_said word rest e whole is =
    let m = mapped NullRefused (short rest) e is in
    let said = short_said rest m.0 m.1 in
    let held : nat_lt m.0 (2 ^ 32) ≡ true = grind (arith, nat_tests, said.1) in
    subst (λ (x : RunError). SaidError word x) m.2 (ap (λ (t : Text). codes "null " ++ t) said.0 ∙ whole, held)

plain_word : (word name : Text) (e x : RunError) → error_text x ≡ name → is_held_error x ≡ true → bytes_eq word name ≡ true → Some x ≡ Some e → SaidError word e
plain_word word name e x text held same is =
    let one : x ≡ e = cc in
    subst (λ (y : RunError). SaidError word y) one (text ∙ sym (bytes_same word name same), held)

unfit_said : (word : Text) (e : RunError) (b : Bool) → bytes_eq word (codes "unfit") ≡ b → cond b (Some Unfit) None ≡ Some e → SaidError word e
unfit_said word e true h is = plain_word word (codes "unfit") e Unfit refl refl h is
unfit_said word e false h is = cc

many_said : (word : Text) (e : RunError) (b : Bool) → bytes_eq word (codes "toomany") ≡ b
    → cond b (Some TooManyRows) (cond (bytes_eq word (codes "unfit")) (Some Unfit) None) ≡ Some e → SaidError word e
many_said word e true h is = plain_word word (codes "toomany") e TooManyRows refl refl h is
many_said word e false h is = unfit_said word e (bytes_eq word (codes "unfit")) refl is

plain_said : (word : Text) (e : RunError) (b : Bool) → bytes_eq word (codes "overflow") ≡ b
    → cond b (Some Overflow) (cond (bytes_eq word (codes "toomany")) (Some TooManyRows) (cond (bytes_eq word (codes "unfit")) (Some Unfit) None)) ≡ Some e → SaidError word e
plain_said word e true h is = plain_word word (codes "overflow") e Overflow refl refl h is
plain_said word e false h is = many_said word e (bytes_eq word (codes "toomany")) refl is

after_duplicate : (word : Text) (e : RunError) (b : Bool) → begins (codes "null ") word ≡ b
    → cond b (option_map NullRefused (short (behind (codes "null ") word))) (plain_error_of word) ≡ Some e → SaidError word e
after_duplicate word e true h is = null_said word (behind (codes "null ") word) e (begun (codes "null ") word h) is
after_duplicate word e false h is = plain_said word e (bytes_eq word (codes "overflow")) refl is

error_cases : (word : Text) (e : RunError) (b : Bool) → begins (codes "duplicate ") word ≡ b
    → cond b (option_map DuplicateKey (key (behind (codes "duplicate ") word)))
    (cond (begins (codes "null ") word) (option_map NullRefused (short (behind (codes "null ") word))) (plain_error_of word)) ≡ Some e → SaidError word e
error_cases word e true h is = duplicate_said word (behind (codes "duplicate ") word) e (begun (codes "duplicate ") word h) is
error_cases word e false h is = after_duplicate word e (begins (codes "null ") word) refl is

error_said : (word : Text) (e : RunError) → error_of word ≡ Some e → SaidError word e
error_said word e is = error_cases word e (begins (codes "duplicate ") word) refl is

abbrev Said : Text → FirstLine → Type 0
Said line f = (text_in f ≡ line) × (is_held_first f ≡ true)

rows_first : (line rest : Text) (f : FirstLine) → codes "rows " ++ rest ≡ line → option_map first.Rows (long rest) ≡ Some f → Said line f
rows_first line rest f whole is =
    let m = mapped first.Rows (long rest) f is in
    let said = long_said rest m.0 m.1 in
    let held : nat_lt m.0 (2 ^ 64) ≡ true = grind (arith, nat_tests, said.1) in
    subst (λ (x : FirstLine). Said line x) m.2 (ap (λ (t : Text). codes "rows " ++ t) said.0 ∙ whole, held)

count_first : (line rest : Text) (f : FirstLine) → codes "count " ++ rest ≡ line → option_map first.Count (long rest) ≡ Some f → Said line f
count_first line rest f whole is =
    let m = mapped first.Count (long rest) f is in
    let said = long_said rest m.0 m.1 in
    let held : nat_lt m.0 (2 ^ 64) ≡ true = grind (arith, nat_tests, said.1) in
    subst (λ (x : FirstLine). Said line x) m.2 (ap (λ (t : Text). codes "count " ++ t) said.0 ∙ whole, held)

failed_first : (line rest : Text) (f : FirstLine) → codes "failed " ++ rest ≡ line → option_map first.Failed (error_of rest) ≡ Some f → Said line f
failed_first line rest f whole is =
    let m = mapped first.Failed (error_of rest) f is in
    let said = error_said rest m.0 m.1 in
    subst (λ (x : FirstLine). Said line x) m.2 (ap (λ (t : Text). codes "failed " ++ t) said.0 ∙ whole, said.1)

failed_cases : (line : Text) (f : FirstLine) (b : Bool) → begins (codes "failed ") line ≡ b
    → cond b (option_map first.Failed (error_of (behind (codes "failed ") line))) None ≡ Some f → Said line f
failed_cases line f true h is = failed_first line (behind (codes "failed ") line) f (begun (codes "failed ") line h) is
failed_cases line f false h is = cc

count_cases : (line : Text) (f : FirstLine) (b : Bool) → begins (codes "count ") line ≡ b
    → cond b (option_map first.Count (long (behind (codes "count ") line)))
    (cond (begins (codes "failed ") line) (option_map first.Failed (error_of (behind (codes "failed ") line))) None) ≡ Some f → Said line f
count_cases line f true h is = count_first line (behind (codes "count ") line) f (begun (codes "count ") line h) is
count_cases line f false h is = failed_cases line f (begins (codes "failed ") line) refl is

first_cases : (line : Text) (f : FirstLine) (b : Bool) → begins (codes "rows ") line ≡ b
    → cond b (option_map first.Rows (long (behind (codes "rows ") line)))
    (cond (begins (codes "count ") line) (option_map first.Count (long (behind (codes "count ") line)))
    (cond (begins (codes "failed ") line) (option_map first.Failed (error_of (behind (codes "failed ") line))) None)) ≡ Some f → Said line f
first_cases line f true h is = rows_first line (behind (codes "rows ") line) f (begun (codes "rows ") line h) is
first_cases line f false h is = count_cases line f (begins (codes "count ") line) refl is

first_said : (line : Text) (f : FirstLine) → first_of line ≡ Some f → Said line f
unfolding first_of
first_said line f is = first_cases line f (begins (codes "rows ") line) refl is

held_first : (a : Answer) → is_held a ≡ true → is_held_first (first_in a) ≡ true
held_first (answer.Rows rows) h = (and_parts (nat_lt (length rows) (2 ^ 64)) (list_all is_held_row rows) h).0
held_first (answer.Count n) h = h
held_first (answer.Failed e) h = h

first_text : (a : Answer) → text_in (first_in a) ≡ first_line a
first_text (answer.Rows rows) = refl
first_text (answer.Count n) = refl
first_text (answer.Failed e) = refl

pub first_again : (a : Answer) → is_held a ≡ true → first_of (first_line a) ≡ Some (first_in a)
first_again a h = ap first_of (sym (first_text a)) ∙ again (first_in a) (held_first a h)

-- ---- rows

rows_again : (rows : List (List Value)) (rest : List Text) → list_all is_held_row rows ≡ true → rows_in (length rows) (map row_text rows ++ rest) ≡ Some rows
rows_again [] rest h = refl
rows_again (row ∷ rows) rest h =
    let parts = and_parts (is_held_row row) (list_all is_held_row rows) h in
    ap (λ (o : Option (List Value)). with_first o (rows_in (length rows) (map row_text rows ++ rest))) (row_again row parts.0)
    ∙ ap (with_first (Some row)) (rows_again rows rest parts.1)

abbrev AreRows : ℕ → List Text → List (List Value) → Type 0
AreRows n lines rows = (length rows ≡ n) × (lines ≡ map row_text rows ++ drop n lines)

rows_step : (n : ℕ) (line : Text) (lines : List Text) (rows : List (List Value)) (o : Option (List Value)) (more : Option (List (List Value)))
    → row_of line ≡ o → ((rest : List (List Value)) → more ≡ Some rest → AreRows n lines rest) → with_first o more ≡ Some rows → AreRows (suc n) (line ∷ lines) rows
rows_step n line lines rows None more is rest e = cc
rows_step n line lines rows (Some row) None is rest e = cc
rows_step n line lines rows (Some row) (Some found) is rest e =
    let same : row ∷ found ≡ rows = cc in
    let r = rest found refl in
    subst (λ (all : List (List Value)). AreRows (suc n) (line ∷ lines) all) same
    (ap suc r.0, λ i. sym (row_said line row is) i ∷ r.1 i)

rows_said : (n : ℕ) (lines : List Text) (rows : List (List Value)) → rows_in n lines ≡ Some rows → AreRows n lines rows
rows_said zero lines rows e =
    let same : [] ≡ rows = cc in
    subst (λ (all : List (List Value)). AreRows zero lines all) same (refl, refl)
rows_said (suc n) [] rows e = cc
rows_said (suc n) (line ∷ lines) rows e =
    rows_step n line lines rows (row_of line) (rows_in n lines) refl (λ rest is. rows_said n lines rest is) e

-- ---- rows in order

pair_follows : (x y : List Value) → follows (x, y) ≡ true → is_lt (row_cmp y x) ≡ false
pair_follows x y h = not_true (is_lt (row_cmp y x)) h
  where
    not_true : (b : Bool) → not b ≡ true → b ≡ false
    not_true true h = cc
    not_true false h = refl

sorted_more : (x y : List Value) (ys : List (List Value)) → is_lt (row_cmp y x) ≡ false → IsSorted row_cmp (y ∷ ys) → IsSorted row_cmp (x ∷ y ∷ ys)
sorted_more x y ys first rest k d le lt = by k lt
  where
    by : (k : ℕ) → k + 1 < length (x ∷ y ∷ ys) → is_lt (row_cmp (get_or (x ∷ y ∷ ys) (k + 1) d) (get_or (x ∷ y ∷ ys) k d)) ≡ false
    by zero lt = first
    by (suc k) lt =
        let next : suc (k + 1) ≡ suc k + 1 = omega arith in
        subst (λ (n : ℕ). is_lt (row_cmp (get_or (x ∷ y ∷ ys) n d) (get_or (x ∷ y ∷ ys) (suc k) d)) ≡ false) next (rest k d (omega arith) (omega (arith, lt)))

pub ascending_sorted : (rows : List (List Value)) → is_ascending rows ≡ true → IsSorted row_cmp rows
ascending_sorted [] h = λ k d le lt. absurd (omega (arith, lt))
ascending_sorted (x ∷ []) h = λ k d le lt. absurd (omega (arith, lt))
ascending_sorted (x ∷ y ∷ ys) h =
    let parts = and_parts (follows (x, y)) (is_ascending (y ∷ ys)) h in
    sorted_more x y ys (pair_follows x y parts.0) (ascending_sorted (y ∷ ys) parts.1)

sorted_rest : (x y : List Value) (ys : List (List Value)) → IsSorted row_cmp (x ∷ y ∷ ys) → IsSorted row_cmp (y ∷ ys)
sorted_rest x y ys h = λ k d le lt.
    let next : suc k + 1 ≡ suc (k + 1) = omega arith in
    subst (λ (n : ℕ). is_lt (row_cmp (get_or (x ∷ y ∷ ys) n d) (get_or (y ∷ ys) k d)) ≡ false) next (h (suc k) d (omega arith) (omega (arith, lt)))

pub sorted_ascending : (rows : List (List Value)) → IsSorted row_cmp rows → is_ascending rows ≡ true
sorted_ascending [] h = refl
sorted_ascending (x ∷ []) h = refl
sorted_ascending (x ∷ y ∷ ys) h =
    let first : is_lt (row_cmp y x) ≡ false = h 0 x (omega arith) (omega arith) in
    and_from (follows (x, y)) (is_ascending (y ∷ ys)) (ap not first) (sorted_ascending (y ∷ ys) (sorted_rest x y ys h))

-- ---- answers at the front of lines

dropped : (lines rest : List Text) → drop (length lines) (lines ++ rest) ≡ rest
dropped [] rest = refl
dropped (l ∷ lines) rest = dropped lines rest

mapped_length : (rows : List (List Value)) → length (map row_text rows) ≡ length rows
mapped_length [] = refl
mapped_length (row ∷ rows) = ap suc (mapped_length rows)

behind_again : (a : Answer) (rest : List Text) → is_held a ≡ true → IsCanonical a → answer_behind (lines_behind a ++ rest) (first_in a) ≡ Some (a, rest)
behind_again (answer.Rows rows) rest h canonical =
    let all = (and_parts (nat_lt (length rows) (2 ^ 64)) (list_all is_held_row rows) h).1 in
    let lines = map row_text rows ++ rest in
    let gone : drop (length rows) lines ≡ rest = ap (λ (n : ℕ). drop n lines) (sym (mapped_length rows)) ∙ dropped (map row_text rows) rest in
    ap (canonical_rows lines (length rows)) (rows_again rows rest all)
    ∙ (rw (sorted_ascending rows canonical) (ap (λ (more : List Text). Some (answer.Rows rows, more)) gone))
behind_again (answer.Count n) rest h canonical = refl
behind_again (answer.Failed e) rest h canonical = refl

-- what is written is read
pub answer_again : (a : Answer) (rest : List Text) → is_held a ≡ true → IsCanonical a → answer_at (first_line a) (lines_behind a ++ rest) ≡ Some (a, rest)
answer_again a rest h canonical =
    ap (option_and_then (answer_behind (lines_behind a ++ rest))) (first_again a h) ∙ behind_again a rest h canonical

-- an answer stands at the front of these lines
abbrev pub StandsAt : Text → List Text → Answer → List Text → Type 0
StandsAt line lines a rest = IsCanonical a × (first_line a ≡ line) × (lines ≡ lines_behind a ++ rest)

rows_stand : (line : Text) (lines : List Text) (n : ℕ) (rows : List (List Value)) (a : Answer) (rest : List Text) (b : Bool)
    → codes "rows " ++ decimal n ≡ line → AreRows n lines rows → is_ascending rows ≡ b → cond {A = Option (Answer × List Text)} b (Some (answer.Rows rows, drop n lines)) None ≡ Some (a, rest) → StandsAt line lines a rest
rows_stand line lines n rows a rest false text are is e = cc
rows_stand line lines n rows a rest true text are is e =
    let same : ◌≡◌ {A = Answer × List Text} (answer.Rows rows, drop n lines) (a, rest) = some_same _ _ e in
    subst (λ (p : Answer × List Text). StandsAt line lines p.0 p.1) same
    (ascending_sorted rows is, ap (λ (m : ℕ). codes "rows " ++ decimal m) are.0 ∙ text, are.1)
  where
    some_same : (p q : Answer × List Text) → Some p ≡ Some q → p ≡ q
    some_same p q h = cc

maybe_rows : (line : Text) (lines : List Text) (n : ℕ) (o : Option (List (List Value))) (a : Answer) (rest : List Text)
    → codes "rows " ++ decimal n ≡ line → rows_in n lines ≡ o → canonical_rows lines n o ≡ Some (a, rest) → StandsAt line lines a rest
maybe_rows line lines n None a rest text is e = cc
maybe_rows line lines n (Some rows) a rest text is e = rows_stand line lines n rows a rest (is_ascending rows) text (rows_said n lines rows is) refl e

pair_same : (p q : Answer × List Text) → Some p ≡ Some q → p ≡ q
pair_same p q h = cc

behind_said : (line : Text) (lines : List Text) (f : FirstLine) (a : Answer) (rest : List Text) → text_in f ≡ line → answer_behind lines f ≡ Some (a, rest) → StandsAt line lines a rest
behind_said line lines (first.Rows n) a rest text e = maybe_rows line lines n (rows_in n lines) a rest text refl e
behind_said line lines (first.Count n) a rest text e =
    subst (λ (p : Answer × List Text). StandsAt line lines p.0 p.1) (pair_same (answer.Count n, lines) (a, rest) e) (tt, text, refl)
behind_said line lines (first.Failed x) a rest text e =
    subst (λ (p : Answer × List Text). StandsAt line lines p.0 p.1) (pair_same (answer.Failed x, lines) (a, rest) e) (tt, text, refl)

at_cases : (line : Text) (lines : List Text) (o : Option FirstLine) (a : Answer) (rest : List Text) → first_of line ≡ o → option_and_then (answer_behind lines) o ≡ Some (a, rest) → StandsAt line lines a rest
at_cases line lines None a rest is e = cc
at_cases line lines (Some f) a rest is e = behind_said line lines f a rest (first_said line f is).0 e

-- what is read is written so
pub answer_said : (line : Text) (lines : List Text) (a : Answer) (rest : List Text) → answer_at line lines ≡ Some (a, rest) → StandsAt line lines a rest
answer_said line lines a rest e = at_cases line lines (first_of line) a rest refl e

-- ---- texts

nil_end : (lines : List Text) → lines ++ [] ≡ lines
nil_end [] = refl
nil_end (l ∷ lines) = ap (λ (ls : List Text). l ∷ ls) (nil_end lines)

pub text_again : (a : Answer) (text : Text) → is_held a ≡ true → IsCanonical a → answer_text a ≡ text → answer_of text ≡ Some a
text_again a text h canonical is =
    ap (λ (t : Text). answer_of t) (sym is)
    ∙ ap answer_in (text_pieces a h)
    ∙ ap (λ (lines : List Text). whole (answer_at (first_line a) lines)) (sym (nil_end (lines_behind a)))
    ∙ ap whole (answer_again a [] h canonical)

empty_is : (lines : List Text) → is_empty lines ≡ true → lines ≡ []
empty_is [] h = refl
empty_is (l ∷ lines) h = cc

abbrev IsText : Answer → Text → Type 0
IsText a text = IsCanonical a × (answer_text a ≡ text)

whole_cases : (line : Text) (lines rest : List Text) (a found : Answer) (b : Bool) → is_empty rest ≡ b → StandsAt line lines found rest → cond b (Some found) None ≡ Some a → IsText a (joined (line ∷ lines))
whole_cases line lines rest a found false is stands e = cc
whole_cases line lines rest a found true is stands e =
    let same : found ≡ a = cc in
    let all : lines ≡ lines_behind found = stands.2 ∙ ap (λ (more : List Text). lines_behind found ++ more) (empty_is rest is) ∙ nil_end (lines_behind found) in
    let text : answer_text found ≡ joined (line ∷ lines) =
    text_joined found ∙ ap (λ (l : Text). joined (l ∷ lines_behind found)) stands.1 ∙ ap (λ (ls : List Text). joined (line ∷ ls)) (sym all) in
    subst (λ (x : Answer). IsText x (joined (line ∷ lines))) same (stands.0, text)

whole_said : (line : Text) (lines : List Text) (o : Option (Answer × List Text)) (a : Answer) → answer_at line lines ≡ o → whole o ≡ Some a → IsText a (joined (line ∷ lines))
whole_said line lines None a is e = cc
whole_said line lines (Some p) a is e = whole_cases line lines p.1 a p.0 (is_empty p.1) refl (answer_said line lines p.0 p.1 is) e

in_said : (lines : List Text) (a : Answer) → answer_in lines ≡ Some a → IsText a (joined lines)
in_said [] a e = cc
in_said (line ∷ lines) a e = whole_said line lines (answer_at line lines) a refl e

pub text_said : (a : Answer) (text : Text) → answer_of text ≡ Some a → IsCanonical a × (answer_text a ≡ text)
text_said a text e =
    let said = in_said (pieces is_feed text) a e in
    (said.0, said.1 ∙ joined-pieces text)

-- ---- the number of lines

-- so many rows without a value
abbrev bare_rows : ℕ → List (List Value)
bare_rows zero = []
bare_rows (suc n) = [] ∷ bare_rows n

bare_length : (n : ℕ) → length (bare_rows n) ≡ n
bare_length zero = refl
bare_length (suc n) = ap suc (bare_length n)

bare_held : (n : ℕ) → list_all is_held_row (bare_rows n) ≡ true
bare_held zero = refl
bare_held (suc n) = bare_held n

bare_ascending : (n : ℕ) → is_ascending (bare_rows n) ≡ true
bare_ascending zero = refl
bare_ascending (suc zero) = refl
bare_ascending (suc (suc n)) = bare_ascending (suc n)

pub rows_begin : (line : Text) (n : ℕ) → first_of line ≡ Some (first.Rows n) → Begins line (n + 1)
rows_begin line n is =
    let said = first_said line (first.Rows n) is in
    let rows = bare_rows n in
    let held : is_held (answer.Rows rows) ≡ true = and_from (nat_lt (length rows) (2 ^ 64)) (list_all is_held_row rows) (ap (λ (k : ℕ). nat_lt k (2 ^ 64)) (bare_length n) ∙ said.1) (bare_held n) in (
      answer.Rows rows,
      held,
      ascending_sorted rows (bare_ascending n),
      ap (λ (k : ℕ). codes "rows " ++ decimal k) (bare_length n) ∙ said.0,
      ap (λ (k : ℕ). k + 1) (mapped_length rows ∙ bare_length n),
    )

pub count_begins : (line : Text) (n : ℕ) → first_of line ≡ Some (first.Count n) → Begins line 1
count_begins line n is =
    let said = first_said line (first.Count n) is in
    (answer.Count n, said.1, tt, said.0, refl)

pub failed_begins : (line : Text) (e : RunError) → first_of line ≡ Some (first.Failed e) → Begins line 1
failed_begins line e is =
    let said = first_said line (first.Failed e) is in
    (answer.Failed e, said.1, tt, said.0, refl)

maybe_more : (line : Text) (n : ℕ) (b : Bool) → first_of line ≡ Some (first.Rows n) → IfSome (cond b (Some (n + 1)) None) (Begins line)
maybe_more line n true is = rows_begin line n is
maybe_more line n false is = tt

some_begins : (line : Text) (f : Option FirstLine) → first_of line ≡ f → IfSome (count_of f) (Begins line)
some_begins line None is = tt
some_begins line (Some (first.Rows n)) is = maybe_more line n (nat_lt n (2 ^ 64 - 1)) is
some_begins line (Some (first.Count n)) is = count_begins line n is
some_begins line (Some (first.Failed e)) is = failed_begins line e is

pub some_counted : (line : Text) (o : Option ℕ) → o ≡ count_of (first_of line) → IfSome o (Begins line)
some_counted line o is = subst (λ (x : Option ℕ). IfSome x (Begins line)) (sym is) (some_begins line (first_of line) refl)

counts_in : (a : Answer) → line_count a < 2 ^ 64 → count_of (Some (first_in a)) ≡ Some (line_count a)
counts_in (answer.Rows rows) few =
    let size = mapped_length rows in
    let low : nat_lt (length rows) (2 ^ 64 - 1) ≡ true = grind (arith, nat_tests, few, size) in
    rw low (ap (λ (n : ℕ). Some (n + 1)) (sym size))
counts_in (answer.Count n) few = refl
counts_in (answer.Failed e) few = refl

pub each_counted : (line : Text) (o : Option ℕ) → o ≡ count_of (first_of line)
    → (a : Answer) → is_held a ≡ true → first_line a ≡ line → line_count a < 2 ^ 64 → o ≡ Some (line_count a)
each_counted line o is a h text few =
    is ∙ ap (λ (l : Text). count_of (first_of l)) (sym text) ∙ ap count_of (first_again a h) ∙ counts_in a few

pub written : {E : Type 0} (text : Text) (r : Result (Option Answer) E) → IfOk r (λ read. read ≡ answer_of text) → IfOk r (λ read. IfSome read (λ a. IsCanonical a × (answer_text a ≡ text)))
written text (Err e) is = tt
written text (Ok None) is = tt
written text (Ok (Some a)) is = text_said a text (sym is)

pub each_read : {E : Type 0} (text : Text) (r : Result (Option Answer) E) → IfOk r (λ read. read ≡ answer_of text)
    → IfOk r (λ read. (a : Answer) → is_held a ≡ true → IsCanonical a → answer_text a ≡ text → read ≡ Some a)
each_read text (Err e) is = tt
each_read text (Ok read) is = λ a h canonical same. is ∙ text_again a text h canonical same
