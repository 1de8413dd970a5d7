-- A text has no more lines than bytes, and one.
use Rattle.std.proofs.Common.{ℕ, suc, ◌^◌, ◌<◌, ◌≤◌, Bool, true, false, cond, List, [], ◌∷◌, length, arith}
use Rattle.hr_base.specs.Texts.{Text}
use Rattle.hr_line.specs.Words.{pieces, in_front, is_filled}
use Rattle.hr_lines.specs.Lines.{is_feed, ended, lines_of}

in_front_few : (b : ℕ) (ps : List Text) (n : ℕ) → length ps ≤ suc n → length (in_front b ps) ≤ suc n
in_front_few b [] n h = omega arith
in_front_few b (p ∷ ps) n h = h

piece_few : (e : Bool) (b : ℕ) (ps : List Text) (n : ℕ) → length ps ≤ suc n → length (cond e ([] ∷ ps) (in_front b ps)) ≤ suc (suc n)
piece_few true b ps n h = omega (arith, h)
piece_few false b ps n h = in_front_few b ps (suc n) (omega (arith, h))

pieces_few : (text : Text) → length (pieces is_feed text) ≤ suc (length text)
pieces_few [] = omega arith
pieces_few (b ∷ text) = piece_few (is_feed b) b (pieces is_feed text) (length text) (pieces_few text)

last_few : (e : Bool) (p : Text) → length (cond e (p ∷ []) []) ≤ 1
last_few true p = omega arith
last_few false p = omega arith

ended_few : (ps : List Text) → length (ended ps) ≤ length ps
ended_few [] = omega arith
ended_few (p ∷ []) = last_few (is_filled p) p
ended_few (p ∷ q ∷ ps) = let rest = ended_few (q ∷ ps) in omega (arith, rest)

less_by : (a b c : ℕ) → a ≤ b → b ≤ suc c → c ≤ 1048576 → a < 2 ^ 31
less_by a b c h k m = omega (arith, h, k, m)

pub few_lines : (text : Text) → length text ≤ 1048576 → length (lines_of text) < 2 ^ 31
few_lines text h = less_by (length (lines_of text)) (length (pieces is_feed text)) (length text) (ended_few (pieces is_feed text)) (pieces_few text) h
