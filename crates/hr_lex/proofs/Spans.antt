-- How the reading of a text goes on behind a token.
use Rattle.std.proofs.Common.{◌≡◌, ◌≤◌, ℕ, zero, suc, ◌+◌, ◌-◌, false, List, [], ◌∷◌, ◌++◌, length, drop, get_or, arith, sym, ◌∙◌, ap, Ok, append_assoc, drop-drop}
use Rattle.hr_lex.specs.Bytes.{is_blank}
use Rattle.hr_lex.specs.Tokens.{Tokens, Spans, reading, token_at, with_front}
use Rattle.hr_lex.specs.declared.token.Token.{Token}

-- bytes that belong to the token before are passed over
pub passed : (taken at : ℕ) (text : List ℕ) → taken ≤ length text → reading taken at text ≡ reading zero (at + taken) (drop taken text)
passed zero at text h = let e : at + 0 ≡ at = omega arith in rw e
passed (suc taken) at [] h = absurd (omega (arith, h))
passed (suc taken) at (b ∷ text) h =
    let e : at + 1 + taken ≡ at + suc taken = omega arith in
    passed taken (at + 1) text (omega (arith, h)) ∙ rw e

behind : (at : ℕ) (b : ℕ) (text : List ℕ) (t : Token) → Spans at (at + length (b ∷ text)) t
    → reading (t.to - t.from - 1) (at + 1) text ≡ reading zero t.to (drop (t.to - at) (b ∷ text))
behind at b text t s =
    let k : ℕ = t.to - t.from - 1 in
    let place : at + 1 + k ≡ t.to = omega (arith, s.0, s.1) in
    let more : t.to - at ≡ suc k = omega (arith, s.0, s.1) in
    passed k (at + 1) text (omega (arith, s.0, s.1, s.2)) ∙ rw (place, more)

goes_on : (at : ℕ) (b : ℕ) (text : List ℕ) (t : Token) → is_blank b ≡ false → token_at at (b ∷ text) ≡ Ok t → Spans at (at + length (b ∷ text)) t
    → reading zero at (b ∷ text) ≡ with_front (t ∷ []) (reading zero t.to (drop (t.to - at) (b ∷ text)))
goes_on at b text t e f s = rw (e, f) (ap (with_front (t ∷ [])) (behind at b text t s))

-- the tokens so far, one more, and those of the rest are those of all
pub one_more : (front : List Token) (at : ℕ) (rest : List ℕ) (t : Token) (all : Tokens) → 1 ≤ length rest → is_blank (get_or rest 0 0) ≡ false
    → token_at at rest ≡ Ok t → Spans at (at + length rest) t → with_front front (reading zero at rest) ≡ all
    → with_front (front ++ t ∷ []) (reading zero t.to (drop (t.to - at) rest)) ≡ all
one_more front at [] t all some e f s whole = absurd (omega (arith, some))
one_more front at (b ∷ text) t all some e f s whole =
    let later : Tokens = reading zero t.to (drop (t.to - at) (b ∷ text)) in
    rw (append_assoc front (t ∷ []) later.tokens) (ap (with_front front) (sym (goes_on at b text t e f s)) ∙ whole)

-- the rest behind a token is that of the text
pub further : (text rest : List ℕ) (at to : ℕ) → at ≤ to → rest ≡ drop at text → drop (to - at) rest ≡ drop to text
further text rest at to le e = let k : at + (to - at) ≡ to = omega (arith, le) in rw e (drop-drop (to - at) at text ∙ rw k)
