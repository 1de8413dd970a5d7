-- What the texts of the statements that are drawn say, word by word.
use Rattle.std.proofs.Common.{◌≡◌, ◌≤◌, ℕ, zero, ◌^◌, false, nat_lt, List, [], ◌∷◌, ◌++◌, length, None, codes, refl, sym, ◌∙◌, ap, arith}
use Rattle.std.specs.Fmt.{decimal}
use Rattle.std.proofs.lemmas.Bool.Decides.{nat_tests}
use Rattle.std.proofs.lemmas.List.{append-nil}
use Rattle.hr_base.specs.Texts.{Text}
use Rattle.hr_rel.specs.declared.expr.Op.TheVariants as op
use Rattle.hr_lex.specs.Keywords.{keyword}
use Rattle.hr_lex.specs.Tokens.{read_of, reading}
use Rattle.hr_parse.specs.declared.word.Mark.{Mark}
use Rattle.hr_parse.specs.declared.word.Word.{Word}
use Rattle.hr_parse.specs.declared.word.Word.TheVariants as w
use Rattle.hr_parse.specs.Lexemes.{lexemes}
use Rattle.hr_parse.specs.Parse.{words, error}
use Rattle.hr_print.specs.Canonical.{says}
use Rattle.hr_print.proofs.Spelled.{Read, Says, Ends, says_both, says_before}
use Rattle.hr_print.proofs.SaidSigns.{said_blank, said_equal}
use Rattle.hr_print.proofs.SaidWords.{said_name, said_update, said_set, said_where, said_select, said_from, said_between, said_and}
use Rattle.hr_print.proofs.SaidNumbers.{said_number}
use Rattle.hr_made.proofs.Parsing.{change_words, look_words}

-- ---- words with a blank between

spaced : (a b : Text) (x : Word) (ws : List Word) → Says Ends a (x ∷ []) → Says Ends b ws → Says Ends (a ++ (codes " " ++ b)) (x ∷ ws)
spaced a b x ws first others =
    says_both a (codes " " ++ b) (x ∷ []) ws first (says_both (codes " ") b [] ws said_blank others (λ rest h. tt)) (λ rest h. refl)

named_acct : Says Ends (codes "acct") (w.Name (codes "acct") ∷ [])
unfolding keyword
named_acct = said_name (codes "acct") (record { run = (refl, refl); short = omega arith; small = refl; free = refl })

named_bal : Says Ends (codes "bal") (w.Name (codes "bal") ∷ [])
unfolding keyword
named_bal = said_name (codes "bal") (record { run = (refl, refl); short = omega arith; small = refl; free = refl })

named_id : Says Ends (codes "id") (w.Name (codes "id") ∷ [])
unfolding keyword
named_id = said_name (codes "id") (record { run = (refl, refl); short = omega arith; small = refl; free = refl })

equals : Says Ends (codes "=") (w.Compare op.Eq ∷ [])
equals = says_before (codes "=") (w.Compare op.Eq ∷ []) said_equal

-- ---- the statements

abbrev pub change_text : Text → ℕ → ℕ → Text
change_text sign amount account = codes "UPDATE acct SET bal = bal " ++ (sign ++ (codes " " ++ (decimal amount ++ (codes " WHERE id = " ++ decimal account))))

pub said_change : (bytes : Text) (sign : Mark) (amount account : ℕ) → Says Ends bytes (w.Fixed sign ∷ []) → amount ≤ 2 ^ 63 → account ≤ 2 ^ 63
    → Says Ends (change_text bytes amount account) (change_words sign amount account)
said_change bytes sign amount account said small few =
    spaced (codes "UPDATE") _ _ _ said_update (spaced (codes "acct") _ _ _ named_acct (spaced (codes "SET") _ _ _ said_set
    (spaced (codes "bal") _ _ _ named_bal (spaced (codes "=") _ _ _ equals (spaced (codes "bal") _ _ _ named_bal
    (spaced bytes _ _ _ said (spaced (decimal amount) _ _ _ (said_number amount small) (spaced (codes "WHERE") _ _ _ said_where
    (spaced (codes "id") _ _ _ named_id (spaced (codes "=") _ _ _ equals (said_number account few)))))))))))

abbrev pub look_text : ℕ → ℕ → Text
look_text first last = codes "SELECT bal FROM acct WHERE id BETWEEN " ++ (decimal first ++ (codes " AND " ++ decimal last))

pub said_look : (first last : ℕ) → first ≤ 2 ^ 63 → last ≤ 2 ^ 63 → Says Ends (look_text first last) (look_words first last)
said_look first last low high =
    spaced (codes "SELECT") _ _ _ said_select (spaced (codes "bal") _ _ _ named_bal (spaced (codes "FROM") _ _ _ said_from
    (spaced (codes "acct") _ _ _ named_acct (spaced (codes "WHERE") _ _ _ said_where (spaced (codes "id") _ _ _ named_id
    (spaced (codes "BETWEEN") _ _ _ said_between (spaced (decimal first) _ _ _ (said_number first low)
    (spaced (codes "AND") _ _ _ said_and (said_number last high)))))))))

-- ---- a whole text

pub record Said (t : Text) (ws : List Word) : Type 0 where
  pub none : error t ≡ None
  pub said : says (words t) ≡ ws

pub said_whole : (t : Text) (ws : List Word) → length t ≤ 1024 → Says Ends t ws → Said t ws
said_whole t ws short says_it =
    let r : Read [] t [] ws = says_it [] [] tt in
    let fits : nat_lt 1024 (length t) ≡ false = grind (arith, nat_tests, short) in
    let all : reading zero 0 t ≡ record { tokens = r.tokens; error = None } =
    ap (reading zero 0) (sym (append-nil t)) ∙ r.reads ∙ ap (λ z. record { tokens = z; error = None }) (append-nil r.tokens) in
    let whole : read_of t ≡ record { tokens = r.tokens; error = None } = rw fits all in
    record {
      none = ap (λ z. z.error) whole;
      said = ap (λ z. says (lexemes t z.tokens)) whole ∙ ap (λ z. says (lexemes z r.tokens)) (sym (append-nil t)) ∙ r.says;
    }
