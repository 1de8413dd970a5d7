-- How a text is parted into printable lines, and that a line which ends with a digit is read whole.
use Rattle.std.proofs.Common.{◌≡◌, ℕ, zero, suc, ◌-◌, ◌≤◌, Bool, true, false, cond, not, ◌==◌, nat_lt, List, [], ◌∷◌, ◌++◌, length, take, drop, Ok, refl, sym, ap, ◌∙◌, arith, append_assoc}
use Rattle.std.specs.List.{list_all, prefix_len, suffix_len}
use Rattle.std.specs.Str.{bytes_eq}
use Rattle.std.proofs.lemmas.Bool.{and_parts}
use Rattle.std.proofs.lemmas.Bool.Decides.{nat_tests}
use Rattle.std.proofs.lemmas.List.{reverse-append, take_all}
use Rattle.hr_base.specs.Bytes.{is_printable}
use Rattle.hr_base.specs.Texts.{Text, line}
use Rattle.hr_lex.specs.Bytes.{is_blank, is_digit}
use Rattle.hr_line.specs.Bytes.{is_line_byte, without_return, content_of}
use Rattle.hr_line.specs.Words.{pieces, in_front}
use Rattle.hr_lines.specs.Lines.{is_feed, ended, lines_of}

-- ---- a text in pieces

pub unset : (b : Bool) → not b ≡ true → b ≡ false
unset true h = absurd (cc)
unset false h = refl

module _ (parts : ℕ → Bool) where
  -- up to the first byte that parts
  pub parted : (t rest : Text) (b : ℕ) → list_all (λ c. not (parts c)) t ≡ true → parts b ≡ true → pieces parts (t ++ b ∷ rest) ≡ t ∷ pieces parts rest
  parted [] rest b all is = rw is refl
  parted (c ∷ t) rest b all is =
      let k = and_parts (not (parts c)) (list_all (λ c. not (parts c)) t) all in
      let none : parts c ≡ false = unset (parts c) k.0 in
      rw (none, parted t rest b k.1 is) refl

-- ---- printable texts

abbrev pub IsPrinted : Text → Type 0
IsPrinted t = list_all is_printable t ≡ true

module _ (p q : ℕ → Bool) (h : (b : ℕ) → p b ≡ true → q b ≡ true) where
  pub all_are : (t : Text) → list_all p t ≡ true → list_all q t ≡ true
  all_are [] all = refl
  all_are (b ∷ t) all = let k = and_parts (p b) (list_all p t) all in rw (h b k.0) (all_are t k.1)

no_feed : (b : ℕ) → is_printable b ≡ true → not (is_feed b) ≡ true
no_feed b h = grind (arith, nat_tests)

line_byte : (b : ℕ) → is_printable b ≡ true → is_line_byte b ≡ true
line_byte b h = grind (arith, nat_tests)

all_dropped : (n : ℕ) (t : Text) → IsPrinted t → IsPrinted (drop n t)
all_dropped zero t all = all
all_dropped (suc n) [] all = refl
all_dropped (suc n) (b ∷ t) all = all_dropped n t (and_parts (is_printable b) (list_all is_printable t) all).1

no_return : (b : ℕ) → is_printable b ≡ true → (b == 13) ≡ false
no_return b h = grind (arith, nat_tests)

is_no_return : (t : Text) → IsPrinted t → bytes_eq t (13 ∷ []) ≡ false
is_no_return [] all = refl
is_no_return (b ∷ t) all = rw (no_return b (and_parts (is_printable b) (list_all is_printable t) all).0) refl

kept_whole : (t : Text) → IsPrinted t → without_return t ≡ t
kept_whole t all = rw (is_no_return (drop (length t - 1) t) (all_dropped (length t - 1) t all)) refl

-- ---- the lines of a text

abbrev IsThere : List Text → Type 0
IsThere [] = ⊥
IsThere (piece ∷ pieces) = Unit {0}

there_in_front : (b : ℕ) (ps : List Text) → IsThere (in_front b ps)
there_in_front b [] = tt
there_in_front b (p ∷ ps) = tt

there : (text : Text) → IsThere (pieces is_feed text)
there [] = tt
there (b ∷ text) =
    let by : (e : Bool) → IsThere (cond e ([] ∷ pieces is_feed text) (in_front b (pieces is_feed text)))
    = λ e. elim e as (λ (e : Bool). IsThere (cond e ([] ∷ pieces is_feed text) (in_front b (pieces is_feed text)))) [
      | true ↦ tt
      | false ↦ there_in_front b (pieces is_feed text)
    ] in
    by (is_feed b)

ended_more : (piece : Text) (rest : List Text) → IsThere rest → ended (piece ∷ rest) ≡ without_return piece ∷ ended rest
ended_more piece [] some = absurd some
ended_more piece (next ∷ rest) some = refl

-- a printable line and what comes behind it
pub first_line : (t rest : Text) → IsPrinted t → lines_of (line t ++ rest) ≡ t ∷ lines_of rest
first_line t rest all =
    ap lines_of (append_assoc t (10 ∷ []) rest)
    ∙ ap ended (parted is_feed t rest 10 (all_are is_printable (λ c. not (is_feed c)) no_feed t all) refl)
    ∙ ended_more t (pieces is_feed rest) (there rest)
    ∙ ap (λ z. z ∷ lines_of rest) (kept_whole t all)

-- ---- a line that ends with a digit

pub record Ends (t : Text) : Type 0 where
  pub front : Text
  pub last : ℕ
  pub digit : is_digit last ≡ true
  pub is : t ≡ front ++ last ∷ []

pub ends_behind : (a t : Text) → Ends t → Ends (a ++ t)
ends_behind a t e = record {
  front = a ++ e.front;
  last = e.last;
  digit = e.digit;
  is = ap (λ z. a ++ z) e.is ∙ sym (append_assoc a e.front (e.last ∷ []));
}

digit_unblank : (b : ℕ) → is_digit b ≡ true → is_blank b ≡ false
digit_unblank b h = grind (arith, nat_tests)

no_blanks_behind : (front : Text) (b : ℕ) → is_digit b ≡ true → suffix_len is_blank (front ++ b ∷ []) ≡ 0
no_blanks_behind front b h = ap (prefix_len is_blank) (reverse-append front (b ∷ [])) ∙ rw (digit_unblank b h) refl

-- it is read whole, where no blank stands before it
pub read_whole : (t : Text) → IsPrinted t → length t ≤ 1024 → prefix_len is_blank t ≡ 0 → Ends t → content_of t ≡ Ok t
read_whole t all short first e =
    let long : nat_lt 1024 (length t) ≡ false = grind (arith, nat_tests, short) in
    let good : list_all is_line_byte t ≡ true = all_are is_printable is_line_byte line_byte t all in
    let none : suffix_len is_blank t ≡ 0 = ap (suffix_len is_blank) e.is ∙ no_blanks_behind e.front e.last e.digit in
    let whole : take (length t - 0) t ≡ t = take_all (length t - 0) t (omega arith) in
    rw (long, good, first, none) (ap Ok whole)
