-- What texts within quotes say.
use Rattle.std.proofs.Common.{◌≡◌, ℕ, suc, ◌+◌, ◌-◌, true, false, ◌==◌, List, [], ◌∷◌, ◌++◌, length, Ok, inl, inr, codes, refl, ◌∙◌, ap, sym, subst, arith}
use Rattle.std.specs.List.{AllByRecursion}
use Rattle.std.proofs.lemmas.Bool.{cases_Bool, eqb-true}
use Rattle.std.proofs.lemmas.List.{length-append, take_at, append_assoc}
use Rattle.hr_base.specs.Bytes.{is_printable}
use Rattle.hr_lex.specs.Quotes.{closing}
use Rattle.hr_lex.specs.Tokens.{token, token_at, quoted}
use Rattle.hr_lex.specs.declared.token.TokenKind.TheVariants as kind
use Rattle.hr_parse.specs.declared.word.Word.TheVariants as w
use Rattle.hr_parse.specs.Lexemes.{undoubled, between_quotes}
use Rattle.hr_base.specs.Texts.{doubled}
use Rattle.hr_print.proofs.Spelled.{Read, Says, Ends}
use Rattle.hr_print.proofs.SaidTokens.{read_token, apart}

-- ---- the quote that closes

closes_here : (at : ℕ) (rest : List ℕ) → Ends rest → closing true at rest ≡ Ok at
closes_here at [] h = refl
closes_here at (b ∷ rest) h = rw (apart b h).1 refl

-- behind doubled quotes and other bytes, the quote before an end closes
closes : (t rest : List ℕ) (at : ℕ) → AllByRecursion (λ b. is_printable b ≡ true) t → Ends rest
    → closing false at (doubled t ++ (39 ∷ rest)) ≡ Ok (at + length (doubled t) + 1)
closes [] rest at all h = let e : at + 1 ≡ at + 0 + 1 = omega arith in closes_here (at + 1) rest h ∙ ap Ok e
closes (b ∷ t) rest at all h = elim (cases_Bool (b == 39)) [
  | inl e ↦ let n : at + 1 + 1 + length (doubled t) + 1 ≡ at + suc (suc (length (doubled t))) + 1 = omega arith in
      rw e (closes t rest (at + 1 + 1) all.1 h ∙ ap Ok n)
  | inr e ↦ let n : at + 1 + length (doubled t) + 1 ≡ at + suc (length (doubled t)) + 1 = omega arith in
      rw (e, e, all.0) (closes t rest (at + 1) all.1 h ∙ ap Ok n)
]

-- ---- the bytes between the quotes

undoubled_doubled : (t : List ℕ) → undoubled false (doubled t) ≡ t
undoubled_doubled [] = refl
undoubled_doubled (b ∷ t) = elim (cases_Bool (b == 39)) [
  | inl e ↦ rw e (ap (λ z. 39 ∷ z) (undoubled_doubled t) ∙ ap (λ z. z ∷ t) (sym (eqb-true b 39 e)))
  | inr e ↦ rw (e, e) (ap (λ z. b ∷ z) (undoubled_doubled t))
]

between : (bytes : List ℕ) → between_quotes (39 ∷ (bytes ++ (39 ∷ []))) ≡ bytes
between bytes =
    let n : suc (length (bytes ++ (39 ∷ []))) - 2 ≡ length bytes = omega (arith, length-append bytes (39 ∷ [])) in
    rw n (take_at bytes (39 ∷ []) (length bytes) refl)

-- ---- the token

-- bytes within quotes before an end are read as one text
quoted_token : (at : ℕ) (t rest : List ℕ) → AllByRecursion (λ b. is_printable b ≡ true) t → Ends rest
    → token_at at (39 ∷ ((doubled t ++ (39 ∷ [])) ++ rest)) ≡ Ok (token kind.Text at (at + length (39 ∷ (doubled t ++ (39 ∷ [])))))
unfolding token_at
quoted_token at t rest all h =
    let place : at + 1 + length (doubled t) + 1 ≡ at + suc (length (doubled t ++ (39 ∷ []))) = omega (arith, length-append (doubled t) (39 ∷ [])) in
    ap (λ z. quoted at (closing false (at + 1) z)) (append_assoc (doubled t) (39 ∷ []) rest)
    ∙ (ap (quoted at) (closes t rest (at + 1) all h) ∙ ap (λ n. Ok (token kind.Text at n)) place)

-- printable bytes, doubled and within quotes, say themselves
pub said_text : (t : List ℕ) → AllByRecursion (λ b. is_printable b ≡ true) t → Says Ends (codes "'" ++ doubled t ++ codes "'") (w.Text t ∷ [])
said_text t all front rest h =
    let bytes : List ℕ = doubled t ++ (39 ∷ []) in
    let says : undoubled false (between_quotes (39 ∷ bytes)) ≡ t = ap (undoubled false) (between (doubled t)) ∙ undoubled_doubled t in
    subst (λ z. Read front (39 ∷ bytes) rest (w.Text z ∷ [])) says (read_token kind.Text front 39 bytes rest refl (quoted_token (length front) t rest all h))
