-- The words of a text, one at a time.
use Rattle.std.proofs.Common.{◌≡◌, ℕ, ◌+◌, ◌<◌, Bool, true, false, cond, not, List, [], ◌∷◌, length, take, drop, refl, ap, sym, ◌∙◌, suc, arith, subst}
use Rattle.std.specs.List.{filter, prefix_len}
use Rattle.hr_base.specs.Texts.{Text}
use Rattle.hr_lex.specs.Bytes.{is_blank}
use Rattle.hr_line.specs.Words.{in_front, is_filled, pieces, words_of}

module _ (parts : ℕ → Bool) where
  abbrev pub goes_on : ℕ → Bool
  goes_on b = not (parts b)

  abbrev parted : Text → List Text
  parted text = filter is_filled (pieces parts text)

  -- bytes at the front that part, part nothing
  parted_past : (text : Text) → parted text ≡ parted (drop (prefix_len parts text) text)
  parted_past [] = refl
  parted_past (b ∷ text) =
      let Here : Type 0 = parted (b ∷ text) ≡ parted (drop (prefix_len parts (b ∷ text)) (b ∷ text)) in
      let by : (e : Bool) → parts b ≡ e → Here = λ e. elim e as (λ (e : Bool). parts b ≡ e → Here) [
        | true ↦ λ h. let one : 1 + prefix_len parts text ≡ suc (prefix_len parts text) = omega arith in rw (h, one) (parted_past text)
        | false ↦ λ h. let none : prefix_len parts (b ∷ text) ≡ 0 = rw h refl in rw none refl
      ] in
      by (parts b) refl

  -- behind these there is none
  stops : (text : Text) → prefix_len parts (drop (prefix_len parts text) text) ≡ 0
  stops [] = refl
  stops (b ∷ text) =
      let Here : Type 0 = prefix_len parts (drop (prefix_len parts (b ∷ text)) (b ∷ text)) ≡ 0 in
      let by : (e : Bool) → parts b ≡ e → Here = λ e. elim e as (λ (e : Bool). parts b ≡ e → Here) [
        | true ↦ λ h. let one : 1 + prefix_len parts text ≡ suc (prefix_len parts text) = omega arith in rw (h, one) (stops text)
        | false ↦ λ h. let none : prefix_len parts (b ∷ text) ≡ 0 = rw h refl in rw none none
      ] in
      by (parts b) refl

  -- the pieces of what stands behind a piece
  abbrev pub behind : Text → List Text
  behind [] = []
  behind (b ∷ text) = pieces parts text

  pub pieces_at : (text : Text) → pieces parts text ≡ take (prefix_len goes_on text) text ∷ behind (drop (prefix_len goes_on text) text)
  pieces_at [] = refl
  pieces_at (b ∷ text) =
      let Here : Type 0 = pieces parts (b ∷ text)
      ≡ take (prefix_len goes_on (b ∷ text)) (b ∷ text) ∷ behind (drop (prefix_len goes_on (b ∷ text)) (b ∷ text)) in
      let by : (e : Bool) → parts b ≡ e → Here = λ e. elim e as (λ (e : Bool). parts b ≡ e → Here) [
        | true ↦ λ h. rw h refl
        | false ↦ λ h.
            let one : 1 + prefix_len goes_on text ≡ suc (prefix_len goes_on text) = omega arith in
            rw (h, one) (ap (in_front b) (pieces_at text))
      ] in
      by (parts b) refl

  -- a piece ends at a byte that parts, or at the end
  ends : (text : Text) → filter is_filled (behind (drop (prefix_len goes_on text) text)) ≡ parted (drop (prefix_len goes_on text) text)
  ends [] = refl
  ends (b ∷ text) =
      let Here : Type 0 = filter is_filled (behind (drop (prefix_len goes_on (b ∷ text)) (b ∷ text)))
      ≡ parted (drop (prefix_len goes_on (b ∷ text)) (b ∷ text)) in
      let by : (e : Bool) → parts b ≡ e → Here = λ e. elim e as (λ (e : Bool). parts b ≡ e → Here) [
        | true ↦ λ h. let none : prefix_len goes_on (b ∷ text) ≡ 0 = rw h refl in rw none (rw h refl)
        | false ↦ λ h.
            let one : 1 + prefix_len goes_on text ≡ suc (prefix_len goes_on text) = omega arith in
            rw (h, one) (ends text)
      ] in
      by (parts b) refl

  -- where something stands at the front, it is the first of what is parted
  parted_at : (text : Text) → 0 < length text → prefix_len parts text ≡ 0
      → parted text ≡ take (prefix_len goes_on text) text ∷ parted (drop (prefix_len goes_on text) text)
  parted_at [] some front = absurd (omega arith)
  parted_at (b ∷ text) some front =
      let Here : Type 0 = parted (b ∷ text)
      ≡ take (prefix_len goes_on (b ∷ text)) (b ∷ text) ∷ parted (drop (prefix_len goes_on (b ∷ text)) (b ∷ text)) in
      let by : (e : Bool) → parts b ≡ e → Here = λ e. elim e as (λ (e : Bool). parts b ≡ e → Here) [
        | true ↦ λ h. absurd (omega (arith, subst (λ (e : Bool). cond e (1 + prefix_len parts text) 0 ≡ 0) h front))
        | false ↦ λ h.
            let one : 1 + prefix_len goes_on text ≡ suc (prefix_len goes_on text) = omega arith in
            let n = prefix_len goes_on (b ∷ text) in
            let more : n ≡ suc (prefix_len goes_on text) = rw h one in
            let kept : filter is_filled (take n (b ∷ text) ∷ behind (drop n (b ∷ text)))
            ≡ take n (b ∷ text) ∷ filter is_filled (behind (drop n (b ∷ text))) = rw more refl in
            ap (filter is_filled) (pieces_at (b ∷ text)) ∙ kept ∙ ap (λ (ws : List Text). take n (b ∷ text) ∷ ws) (ends (b ∷ text))
      ] in
      by (parts b) refl

-- a text of nothing but blanks has no words
pub no_words : (text filled : Text) → filled ≡ drop (prefix_len is_blank text) text → length filled ≡ 0 → words_of text ≡ []
no_words text [] is none = parted_past is_blank text ∙ ap words_of (sym is)
no_words text (b ∷ filled) is none = absurd (omega (arith, none))

-- the first word, and those of what comes after it
pub words_split : (text filled : Text) (n : ℕ) → filled ≡ drop (prefix_len is_blank text) text
    → n ≡ prefix_len (λ b. not (is_blank b)) filled → 0 < length filled → words_of text ≡ take n filled ∷ words_of (drop n filled)
words_split text filled n is len some =
    let front : prefix_len is_blank filled ≡ 0 = rw is (stops is_blank text) in
    parted_past is_blank text ∙ ap words_of (sym is) ∙ (rw len (parted_at is_blank filled some front))
