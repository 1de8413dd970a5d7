-- What keywords and names say.
use Rattle.std.proofs.Common.{◌≡◌, ◌≤◌, ℕ, true, false, nat_le, List, [], ◌∷◌, ◌++◌, length, take, Some, None, codes, refl, ◌∙◌, ap, subst, arith}
use Rattle.std.specs.List.{prefix_len, list_all}
use Rattle.std.specs.Str.{str_to_ascii_lowercase}
use Rattle.std.proofs.lemmas.Bool.{and_from, or_left, cond-true, le-leb}
use Rattle.std.proofs.lemmas.Bool.Decides.{nat_tests}
use Rattle.std.proofs.lemmas.List.{take_at}
use Rattle.hr_lex.specs.Bytes.{is_blank, is_letter, is_digit, is_name_byte}
use Rattle.hr_lex.specs.Keywords.{keyword}
use Rattle.hr_lex.specs.Tokens.{token_at, word_at, word_of}
use Rattle.hr_lex.specs.declared.token.Keyword.{Keyword}
use Rattle.hr_lex.specs.declared.token.Keyword.TheVariants as k
use Rattle.hr_lex.specs.declared.token.TokenKind.TheVariants as t
use Rattle.hr_parse.specs.declared.word.Mark.TheVariants as m
use Rattle.hr_parse.specs.declared.word.Word.TheVariants as w
use Rattle.hr_print.proofs.Spelled.{Read, Says, Ends}
use Rattle.hr_print.proofs.SaidTokens.{read_token, no_name_ahead, whole_run}

-- letters and digits, of which the first is a letter
abbrev pub IsRun : List ℕ → Type 0
IsRun [] = ⊥
IsRun (b ∷ bytes) = (is_letter b ≡ true) × (list_all is_name_byte bytes ≡ true)

-- a name as trees have it: such a run of at most 32 bytes, in small letters, which is no keyword
pub record IsGoodName (n : List ℕ) : Type 0 where
  pub run : IsRun n
  pub short : length n ≤ 32
  pub small : str_to_ascii_lowercase n ≡ n
  pub free : keyword n ≡ None

-- ---- the token of a run

letter_not_blank : (b : ℕ) → is_letter b ≡ true → is_blank b ≡ false
letter_not_blank b h = grind (arith, nat_tests)

begins_word : (at b : ℕ) (text : List ℕ) → is_letter b ≡ true → token_at at (b ∷ text) ≡ word_at at (b ∷ text)
unfolding token_at
begins_word at b text h = cond-true (is_letter b) _ _ h

all_of_run : (b : ℕ) (bytes : List ℕ) → IsRun (b ∷ bytes) → list_all is_name_byte (b ∷ bytes) ≡ true
all_of_run b bytes run = and_from (is_name_byte b) (list_all is_name_byte bytes) (or_left (is_letter b) (is_digit b) run.0) run.1

-- a run before an end is read as a word, by whether it is a keyword
run_token : (at b : ℕ) (bytes rest : List ℕ) → IsRun (b ∷ bytes) → Ends rest → token_at at (b ∷ (bytes ++ rest)) ≡ word_of at (length (b ∷ bytes)) (keyword (b ∷ bytes))
run_token at b bytes rest run h =
    let text : List ℕ = b ∷ (bytes ++ rest) in
    let len : prefix_len is_name_byte text ≡ length (b ∷ bytes) = whole_run is_name_byte (b ∷ bytes) rest (all_of_run b bytes run) (no_name_ahead rest h) in
    begins_word at b (bytes ++ rest) run.0
    ∙ (ap (λ n. word_of at n (keyword (take n text))) len ∙ ap (λ z. word_of at (length (b ∷ bytes)) (keyword z)) (take_at (b ∷ bytes) rest (length (b ∷ bytes)) refl))

-- a keyword's bytes say its mark
pub said_keyword : (bytes : List ℕ) (k : Keyword) → IsRun bytes → keyword bytes ≡ Some k → Says Ends bytes (w.Fixed (m.Keyword k) ∷ [])
said_keyword [] k run is = absurd run
said_keyword (b ∷ bytes) k run is = λ front rest h.
    read_token (t.Keyword k) front b bytes rest (letter_not_blank b run.0) (run_token (length front) b bytes rest run h ∙ ap (word_of (length front) (length (b ∷ bytes))) is)

-- a good name says itself
pub said_name : (n : List ℕ) → IsGoodName n → Says Ends n (w.Name n ∷ [])
said_name [] good = absurd good.run
said_name (b ∷ bytes) good = λ front rest h.
    let at : ℕ = length front in
    let fits : nat_le (length (b ∷ bytes)) 32 ≡ true = le-leb (length (b ∷ bytes)) 32 good.short in
    let found : token_at at (b ∷ (bytes ++ rest)) ≡ word_of at (length (b ∷ bytes)) None
    = run_token at b bytes rest good.run h ∙ ap (word_of at (length (b ∷ bytes))) good.free in
    subst (λ z. Read front (b ∷ bytes) rest (w.Name z ∷ [])) good.small
    (read_token t.Name front b bytes rest (letter_not_blank b good.run.0) (found ∙ cond-true (nat_le (length (b ∷ bytes)) 32) _ _ fits))

-- ---- the keywords of printed texts

pub said_select : Says Ends (codes "SELECT") (w.Fixed (m.Keyword k.Select) ∷ [])
unfolding keyword
said_select = said_keyword (codes "SELECT") k.Select (refl, refl) refl

pub said_from : Says Ends (codes "FROM") (w.Fixed (m.Keyword k.From) ∷ [])
unfolding keyword
said_from = said_keyword (codes "FROM") k.From (refl, refl) refl

pub said_join : Says Ends (codes "JOIN") (w.Fixed (m.Keyword k.Join) ∷ [])
unfolding keyword
said_join = said_keyword (codes "JOIN") k.Join (refl, refl) refl

pub said_on : Says Ends (codes "ON") (w.Fixed (m.Keyword k.On) ∷ [])
unfolding keyword
said_on = said_keyword (codes "ON") k.On (refl, refl) refl

pub said_where : Says Ends (codes "WHERE") (w.Fixed (m.Keyword k.Where) ∷ [])
unfolding keyword
said_where = said_keyword (codes "WHERE") k.Where (refl, refl) refl

pub said_group : Says Ends (codes "GROUP") (w.Fixed (m.Keyword k.Group) ∷ [])
unfolding keyword
said_group = said_keyword (codes "GROUP") k.Group (refl, refl) refl

pub said_by : Says Ends (codes "BY") (w.Fixed (m.Keyword k.By) ∷ [])
unfolding keyword
said_by = said_keyword (codes "BY") k.By (refl, refl) refl

pub said_insert : Says Ends (codes "INSERT") (w.Fixed (m.Keyword k.Insert) ∷ [])
unfolding keyword
said_insert = said_keyword (codes "INSERT") k.Insert (refl, refl) refl

pub said_into : Says Ends (codes "INTO") (w.Fixed (m.Keyword k.Into) ∷ [])
unfolding keyword
said_into = said_keyword (codes "INTO") k.Into (refl, refl) refl

pub said_values : Says Ends (codes "VALUES") (w.Fixed (m.Keyword k.Values) ∷ [])
unfolding keyword
said_values = said_keyword (codes "VALUES") k.Values (refl, refl) refl

pub said_update : Says Ends (codes "UPDATE") (w.Fixed (m.Keyword k.Update) ∷ [])
unfolding keyword
said_update = said_keyword (codes "UPDATE") k.Update (refl, refl) refl

pub said_set : Says Ends (codes "SET") (w.Fixed (m.Keyword k.Set) ∷ [])
unfolding keyword
said_set = said_keyword (codes "SET") k.Set (refl, refl) refl

pub said_delete : Says Ends (codes "DELETE") (w.Fixed (m.Keyword k.Delete) ∷ [])
unfolding keyword
said_delete = said_keyword (codes "DELETE") k.Delete (refl, refl) refl

pub said_and : Says Ends (codes "AND") (w.Fixed (m.Keyword k.And) ∷ [])
unfolding keyword
said_and = said_keyword (codes "AND") k.And (refl, refl) refl

pub said_or : Says Ends (codes "OR") (w.Fixed (m.Keyword k.Or) ∷ [])
unfolding keyword
said_or = said_keyword (codes "OR") k.Or (refl, refl) refl

pub said_not : Says Ends (codes "NOT") (w.Fixed (m.Keyword k.Not) ∷ [])
unfolding keyword
said_not = said_keyword (codes "NOT") k.Not (refl, refl) refl

pub said_is : Says Ends (codes "IS") (w.Fixed (m.Keyword k.Is) ∷ [])
unfolding keyword
said_is = said_keyword (codes "IS") k.Is (refl, refl) refl

pub said_null : Says Ends (codes "NULL") (w.Fixed (m.Keyword k.Null) ∷ [])
unfolding keyword
said_null = said_keyword (codes "NULL") k.Null (refl, refl) refl

pub said_between : Says Ends (codes "BETWEEN") (w.Fixed (m.Keyword k.Between) ∷ [])
unfolding keyword
said_between = said_keyword (codes "BETWEEN") k.Between (refl, refl) refl

pub said_in : Says Ends (codes "IN") (w.Fixed (m.Keyword k.In) ∷ [])
unfolding keyword
said_in = said_keyword (codes "IN") k.In (refl, refl) refl

pub said_as : Says Ends (codes "AS") (w.Fixed (m.Keyword k.As) ∷ [])
unfolding keyword
said_as = said_keyword (codes "AS") k.As (refl, refl) refl

pub said_count : Says Ends (codes "COUNT") (w.Fixed (m.Keyword k.Count) ∷ [])
unfolding keyword
said_count = said_keyword (codes "COUNT") k.Count (refl, refl) refl

pub said_sum : Says Ends (codes "SUM") (w.Fixed (m.Keyword k.Sum) ∷ [])
unfolding keyword
said_sum = said_keyword (codes "SUM") k.Sum (refl, refl) refl

pub said_min : Says Ends (codes "MIN") (w.Fixed (m.Keyword k.Min) ∷ [])
unfolding keyword
said_min = said_keyword (codes "MIN") k.Min (refl, refl) refl

pub said_max : Says Ends (codes "MAX") (w.Fixed (m.Keyword k.Max) ∷ [])
unfolding keyword
said_max = said_keyword (codes "MAX") k.Max (refl, refl) refl
