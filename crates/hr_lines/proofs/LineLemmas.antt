-- The lines of a text, one at a time.
use Rattle.std.proofs.Common.{◌≡◌, ℕ, Bool, true, false, cond, List, [], ◌∷◌, Option, Some, None, refl, ap, sym, ◌∙◌}
use Rattle.std.specs.Prelude.{⊤}
use Rattle.std.specs.Option.{is_some}
use Rattle.hr_base.specs.Texts.{Text}
use Rattle.hr_line.specs.Bytes.{without_return}
use Rattle.hr_line.specs.Words.{first, others, pieces, pieces_left, in_front}
use Rattle.hr_lines.specs.Lines.{is_feed, line_of, ended, lines_of, lines_left}

-- there is always a piece
abbrev IsThere : List Text → Type 0
IsThere [] = ⊥
IsThere (piece ∷ pieces) = ⊤

there_in_front : (b : ℕ) (ps : List Text) → IsThere (in_front b ps)
there_in_front b [] = tt
there_in_front b (p ∷ ps) = tt

there : (text : Text) → IsThere (pieces is_feed text)
there [] = tt
there (b ∷ text) =
    let by : (e : Bool) → IsThere (cond e ([] ∷ pieces is_feed text) (in_front b (pieces is_feed text)))
    = λ e. elim e as (λ (e : Bool). IsThere (cond e ([] ∷ pieces is_feed text) (in_front b (pieces is_feed text)))) [
      | true ↦ tt
      | false ↦ there_in_front b (pieces is_feed text)
    ] in
    by (is_feed b)

-- a piece that isn't the last
ended_more : (piece : Text) (rest : List Text) → IsThere rest → ended (piece ∷ rest) ≡ without_return piece ∷ ended rest
ended_more piece [] some = absurd some
ended_more piece (next ∷ rest) some = refl

-- the last one
first_last : (piece : Text) → line_of piece false ≡ first (ended (piece ∷ []))
first_last [] = refl
first_last (b ∷ piece) = refl

others_last : (piece : Text) → [] ≡ others (ended (piece ∷ []))
others_last [] = refl
others_last (b ∷ piece) = refl

pub first_line : (text piece : Text) (left : Option Text) → pieces is_feed text ≡ piece ∷ pieces_left is_feed left
    → line_of piece (is_some left) ≡ first (lines_of text)
first_line text piece None is = first_last piece ∙ ap (λ ps. first (ended ps)) (sym is)
first_line text piece (Some rest) is =
    ap first (sym (ended_more piece (pieces is_feed rest) (there rest))) ∙ ap (λ ps. first (ended ps)) (sym is)

pub other_lines : (text piece : Text) (left : Option Text) → pieces is_feed text ≡ piece ∷ pieces_left is_feed left
    → lines_left left ≡ others (lines_of text)
other_lines text piece None is = others_last piece ∙ ap (λ ps. others (ended ps)) (sym is)
other_lines text piece (Some rest) is =
    ap others (sym (ended_more piece (pieces is_feed rest) (there rest))) ∙ ap (λ ps. others (ended ps)) (sym is)
