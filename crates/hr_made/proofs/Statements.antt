-- Each statement that is drawn is one of the table of accounts, and its line is a statement's.
use Rattle.std.proofs.Common.{◌≡◌, ◌≤◌, ◌<◌, ◌+◌, ◌-◌, ℕ, ◌^◌, true, false, not, ◌==◌, List, [], ◌∷◌, ◌++◌, length, Ok, None, codes, refl, sym, ◌∙◌, ap, subst, arith}
use Rattle.std.specs.List.{list_all}
use Rattle.std.specs.Str.{bytes_eq}
use Rattle.std.specs.Fmt.{decimal}
use Rattle.std.proofs.lemmas.Bool.{and_from}
use Rattle.std.proofs.lemmas.Bool.Decides.{nat_tests}
use Rattle.std.proofs.lemmas.Fmt.{length-decimal-le}
use Rattle.std.proofs.lemmas.List.{length-append, drop_at}
use Rattle.std.proofs.lemmas.List.Folds.{list_all-append}
use Rattle.hr_base.specs.Bytes.{is_printable}
use Rattle.hr_base.specs.Texts.{Text}
use Rattle.hr_lex.specs.Bytes.{is_blank, is_digit}
use Rattle.hr_line.specs.Bytes.{content_of, is_skipped}
use Rattle.hr_line.specs.Words.{pieces, words_of, is_filled, only}
use Rattle.hr_line.specs.Scripts.{without_semicolon, script_form_of}
use Rattle.hr_line.specs.declared.script.ScriptForm.TheVariants as form
use Rattle.hr_parse.specs.declared.ast.Ast.{Ast}
use Rattle.hr_parse.specs.declared.ast.ExprAst.{ExprAst}
use Rattle.hr_parse.specs.declared.word.Mark.{Mark}
use Rattle.hr_parse.specs.declared.word.Word.{Word}
use Rattle.hr_parse.specs.declared.word.Word.TheVariants as w
use Rattle.hr_parse.specs.Grammar.{IsStatement, OneOf, expressions}
use Rattle.hr_parse.specs.Parse.{IsTextOf, words}
use Rattle.hr_parse.proofs.Texts.{parsed_tree}
use Rattle.hr_print.proofs.Spelled.{Says}
use Rattle.hr_print.proofs.Spelled as spelled
use Rattle.hr_check.specs.Told.{problem_of}
use Rattle.hr_bind.specs.Bind.{bound_of, bind_of}
use Rattle.hr_said.specs.Outcomes.{goes_on}
use Rattle.hr_sessions.specs.Sessions.{told_statement, bound_text, told_text, statement_in}
use Rattle.hr_sessions.specs.declared.statement.Read.{Read}
use Rattle.hr_made.proofs.Texts.{IsPrinted, Ends, ends_behind, parted, read_whole}
use Rattle.hr_made.proofs.Numbers.{decimal_ends, decimal_printed}
use Rattle.hr_made.proofs.Parsing.{placed, at_places, change_words, change_tree, change_given, look_words, look_tree, look_given}
use Rattle.hr_made.proofs.Spelling.{change_text, said_change, look_text, said_look, said_whole}
use Rattle.hr_made.proofs.Binding.{accounts, IsArithmetic, change_fits, look_fits}

-- ---- what a line is

digit_closes : (b : ℕ) → is_digit b ≡ true → (b == 59) ≡ false
digit_closes b h = grind (arith, nat_tests)

no_semicolon : (front : Text) (last : ℕ) → is_digit last ≡ true → without_semicolon (front ++ last ∷ []) ≡ front ++ last ∷ []
no_semicolon front last digit =
    let n : length (front ++ last ∷ []) - 1 ≡ length front = let k : length (front ++ last ∷ []) ≡ length front + 1 = length-append front (last ∷ []) in omega (arith, k) in
    rw (n, drop_at front (last ∷ []) (length front) refl, digit_closes last digit) refl

-- two words and more are no command
two_words : (a b rest : Text) → list_all (λ c. not (is_blank c)) a ≡ true → list_all (λ c. not (is_blank c)) b ≡ true → is_filled a ≡ true → is_filled b ≡ true
    → only (words_of (a ++ 32 ∷ (b ++ 32 ∷ rest))) ≡ None
unfolding only
two_words a b rest unblank unblank_too some more =
    let ps : pieces is_blank (a ++ 32 ∷ (b ++ 32 ∷ rest)) ≡ a ∷ b ∷ pieces is_blank rest =
    parted is_blank a (b ++ 32 ∷ rest) 32 unblank refl ∙ ap (λ z. a ∷ z) (parted is_blank b rest 32 unblank_too refl) in
    rw (ps, some, more) refl

statement_form : (a b rest : Text) → list_all (λ c. not (is_blank c)) a ≡ true → list_all (λ c. not (is_blank c)) b ≡ true → is_filled a ≡ true → is_filled b ≡ true
    → bytes_eq (a ++ 32 ∷ (b ++ 32 ∷ rest)) (codes "end") ≡ false → Ends (a ++ 32 ∷ (b ++ 32 ∷ rest)) → script_form_of (a ++ 32 ∷ (b ++ 32 ∷ rest)) ≡ form.Statement
statement_form a b rest unblank unblank_too some more other ends =
    let whole : without_semicolon (a ++ 32 ∷ (b ++ 32 ∷ rest)) ≡ a ++ 32 ∷ (b ++ 32 ∷ rest) =
    ap without_semicolon ends.is ∙ no_semicolon ends.front ends.last ends.digit ∙ sym ends.is in
    rw (other, whole, two_words a b rest unblank unblank_too some more) refl

-- ---- what a text says in the table of accounts

no_problem : (tree : Ast) → problem_of accounts tree ≡ None → bind_of accounts tree ≡ Ok (bound_of accounts tree)
unfolding bind_of
no_problem tree none = rw none refl

read_in : (t : Text) (ws : List Word) (tree : (ℕ → ℕ) → Ast) → length t ≤ 1024 → Says spelled.Ends t ws
    → ((at : ℕ → ℕ) → IsStatement (placed ws at) (tree at)) → ((at : ℕ → ℕ) → problem_of accounts (tree at) ≡ None) → (r : Read) × (statement_in accounts t ≡ Ok r)
read_in t ws tree short says_it given fits =
    let said = said_whole t ws short says_it in
    let p = at_places (words t) in
    let us : words t ≡ placed ws p.0 = p.1 ∙ ap (λ z. placed z p.0) said.said in
    let is : IsTextOf t (tree p.0) = (said.none, subst (λ z. IsStatement z (tree p.0)) (sym us) (given p.0)) in (
      record { stmt = bound_of accounts (tree p.0); text = tree p.0 },
      ap (λ z. goes_on (told_text z) (λ text. bound_text accounts text)) ((parsed_tree t (tree p.0)).1 is)
          ∙ ap (told_statement (tree p.0)) (no_problem (tree p.0) (fits p.0)),
    )

-- ---- a line of a statement

-- It is read whole, it is no comment, and it is a statement of the table of accounts.
pub record IsLine (t : Text) : Type 0 where
  pub printed : IsPrinted t
  pub content : content_of t ≡ Ok t
  pub said : is_skipped t ≡ false
  pub is : script_form_of t ≡ form.Statement
  pub read : (r : Read) × (statement_in accounts t ≡ Ok r)
  pub short : length t ≤ 60

small : (n : ℕ) → n < 1000 → (n < 2 ^ 63) × (n ≤ 2 ^ 63) × (n < 2 ^ 64) × (length (decimal n) ≤ 3)
small n h =
    let low : n < 2 ^ 64 = omega arith in
    (omega arith, omega arith, low, length-decimal-le 3 n (omega arith) (omega arith) low)

pub change_line : (bytes : Text) (sign : Mark) (tie : ExprAst → ExprAst → ExprAst) (amount account : ℕ) → Says spelled.Ends bytes (w.Fixed sign ∷ []) → OneOf expressions.loose sign tie → IsArithmetic tie
    → IsPrinted bytes → length bytes ≤ 1 → amount < 1000 → account < 1000 → IsLine (change_text bytes amount account)
change_line bytes sign tie amount account said ties is printed one few low =
    let m = small amount few in
    let a = small account low in
    let tail : Text = codes " WHERE id = " ++ decimal account in
    let rest : Text = bytes ++ (codes " " ++ (decimal amount ++ tail)) in
    let t : Text = change_text bytes amount account in
    let ends : Ends t = ends_behind (codes "UPDATE acct SET bal = bal ") rest (ends_behind bytes (codes " " ++ (decimal amount ++ tail)) (ends_behind (codes " ") (decimal amount ++ tail)
    (ends_behind (decimal amount) tail (ends_behind (codes " WHERE id = ") (decimal account) (decimal_ends account a.2))))) in
    let tail_printed : IsPrinted tail = list_all-append is_printable (codes " WHERE id = ") (decimal account) ∙ and_from true (list_all is_printable (decimal account)) refl (decimal_printed account a.2) in
    let amount_printed : IsPrinted (decimal amount ++ tail) = list_all-append is_printable (decimal amount) tail ∙ and_from (list_all is_printable (decimal amount)) (list_all is_printable tail) (decimal_printed amount m.2) tail_printed in
    let rest_printed : IsPrinted rest = list_all-append is_printable bytes (codes " " ++ (decimal amount ++ tail)) ∙ and_from (list_all is_printable bytes) (list_all is_printable (codes " " ++ (decimal amount ++ tail))) printed amount_printed in
    let all : IsPrinted t = rest_printed in
    let size : length t ≤ 60 =
    let k : length (decimal amount ++ tail) ≡ length (decimal amount) + length tail = length-append (decimal amount) tail in
    let j : length tail ≡ 12 + length (decimal account) = length-append (codes " WHERE id = ") (decimal account) in
    let i : length rest ≡ length bytes + length (codes " " ++ (decimal amount ++ tail)) = length-append bytes (codes " " ++ (decimal amount ++ tail)) in
    let h : length t ≡ 26 + length rest = length-append (codes "UPDATE acct SET bal = bal ") rest in
    omega (arith, k, j, i, h, one, m.3, a.3) in
    record {
      printed = all;
      content = read_whole t all (omega (arith, size)) refl ends;
      said = refl;
      is = statement_form (codes "UPDATE") (codes "acct") (codes "SET bal = bal " ++ rest) refl refl refl refl refl ends;
      read = read_in t (change_words sign amount account) (change_tree tie amount account) (omega (arith, size)) (said_change bytes sign amount account said m.1 a.1)
          (λ at. change_given sign tie amount account at m.0 a.0 ties) (λ at. change_fits tie amount account at is m.0 a.0);
      short = size;
    }

pub look_line : (first last : ℕ) → first < 1000 → last < 1000 → IsLine (look_text first last)
look_line first last low high =
    let a = small first low in
    let z = small last high in
    let tail : Text = codes " AND " ++ decimal last in
    let t : Text = look_text first last in
    let ends : Ends t = ends_behind (codes "SELECT bal FROM acct WHERE id BETWEEN ") (decimal first ++ tail)
    (ends_behind (decimal first) tail (ends_behind (codes " AND ") (decimal last) (decimal_ends last z.2))) in
    let tail_printed : IsPrinted tail = list_all-append is_printable (codes " AND ") (decimal last) ∙ and_from true (list_all is_printable (decimal last)) refl (decimal_printed last z.2) in
    let all : IsPrinted t = list_all-append is_printable (decimal first) tail ∙ and_from (list_all is_printable (decimal first)) (list_all is_printable tail) (decimal_printed first a.2) tail_printed in
    let size : length t ≤ 60 =
    let k : length (decimal first ++ tail) ≡ length (decimal first) + length tail = length-append (decimal first) tail in
    let j : length tail ≡ 5 + length (decimal last) = length-append (codes " AND ") (decimal last) in
    let h : length t ≡ 38 + length (decimal first ++ tail) = length-append (codes "SELECT bal FROM acct WHERE id BETWEEN ") (decimal first ++ tail) in
    omega (arith, k, j, h, a.3, z.3) in
    record {
      printed = all;
      content = read_whole t all (omega (arith, size)) refl ends;
      said = refl;
      is = statement_form (codes "SELECT") (codes "bal") (codes "FROM acct WHERE id BETWEEN " ++ (decimal first ++ tail)) refl refl refl refl refl ends;
      read = read_in t (look_words first last) (look_tree first last) (omega (arith, size)) (said_look first last a.1 z.1)
          (λ at. look_given first last at a.0 z.0) (λ at. look_fits first last at a.0 z.0);
      short = size;
    }
