-- A text has no more lines than bytes, and one.
use Rattle.std.proofs.Common.{◌≡◌, ℕ, suc, ◌+◌, ◌-◌, ◌^◌, ◌<◌, ◌≤◌, Bool, true, false, cond, List, [], ◌∷◌, length, take, arith}
use Rattle.std.proofs.lemmas.List.{length-take}
use Rattle.hr_base.specs.Texts.{Text}
use Rattle.hr_line.specs.Words.{pieces, in_front}
use Rattle.hr_lines.specs.Lines.{is_feed}
use Rattle.hr_answer_reader.specs.Lines.{lines_of, without_feed}

in_front_few : (b : ℕ) (ps : List Text) (n : ℕ) → length ps ≤ suc n → length (in_front b ps) ≤ suc n
in_front_few b [] n h = omega arith
in_front_few b (p ∷ ps) n h = h

piece_few : (e : Bool) (b : ℕ) (ps : List Text) (n : ℕ) → length ps ≤ suc n → length (cond e ([] ∷ ps) (in_front b ps)) ≤ suc (suc n)
piece_few true b ps n h = omega (arith, h)
piece_few false b ps n h = in_front_few b ps (suc n) (omega (arith, h))

pieces_few : (text : Text) → length (pieces is_feed text) ≤ suc (length text)
pieces_few [] = omega arith
pieces_few (b ∷ text) = piece_few (is_feed b) b (pieces is_feed text) (length text) (pieces_few text)

either_few : (e : Bool) (n : ℕ) (text : Text) → length (cond e (take n text) text) ≤ length text
either_few true n text = omega (arith, length-take n text)
either_few false n text = omega arith

lines_few : (text : Text) → length (lines_of text) ≤ suc (length text)
lines_few [] = omega arith
lines_few (b ∷ text) =
    let shorter : length (without_feed (b ∷ text)) ≤ length (b ∷ text) = either_few _ _ (b ∷ text) in
    omega (arith, pieces_few (without_feed (b ∷ text)), shorter)

pub few_lines : (text : Text) → length text < 2 ^ 63 → length (lines_of text) ≤ 2 ^ 63
few_lines text h = omega (arith, lines_few text, h)
