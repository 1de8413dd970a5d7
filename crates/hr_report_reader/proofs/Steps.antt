-- One item after another.
use Rattle.std.proofs.Common.{◌≡◌, ℕ, zero, suc, ◌+◌, ◌-◌, ◌^◌, ◌≤◌, ◌<◌, Bool, true, false, inl, subst, length-drop, Option, Some, None, List, [], ◌∷◌, length, drop, refl, ap, sym, ◌∙◌, arith}
use Rattle.std.specs.Prelude.{Result, Ok, Err}
use Rattle.std.specs.Option.{option_map}
use Rattle.hr_base.specs.Texts.{Text}
use Rattle.hr_line.specs.Words.{first, others}
use Rattle.hr_said.specs.declared.scenario.Scenario.{Scenario}
use Rattle.hr_report_reader.specs.declared.item.Item.{Item}
use Rattle.hr_report_reader.specs.declared.told.Told.{Told}
use Rattle.hr_report_reader.specs.Items.{item_at, lines_in, Takes}
use Rattle.hr_report_reader.specs.Told.{next, Goes}
use Rattle.hr_report_reader.specs.Reading.{Outcome, whole, with_item, go_on, read_lines, told_outcome, IsRead}
use Rattle.hr_report_reader.specs.declared.reader.ReportError.TheVariants.{Refused}

-- what is told with an item, and how many lines it has behind its first
abbrev with_told : Item → Option Told → Option (Told × ℕ)
with_told i o = option_map (λ (t : Told). (t, lines_in i)) o

module _ (sc : Scenario) where
  -- the lines of an item behind its first are passed over
  passed : (told : Told) (n k : ℕ) (lines : List Text) → k ≤ length lines → read_lines sc told n k lines ≡ read_lines sc told (n + k) 0 (drop k lines)
  passed told n zero lines h =
      let same : n ≡ n + 0 = omega arith in
      ap (λ m. read_lines sc told m 0 lines) same
  passed told n (suc k) [] h = absurd (omega (arith, h))
  passed told n (suc k) (line ∷ lines) h =
      let same : n + 1 + k ≡ n + suc k = omega arith in
      passed told (n + 1) k lines (omega (arith, h)) ∙ ap (λ m. read_lines sc told m 0 (drop k lines)) same

  pub read_item : (told more : Told) (n : ℕ) (rest after : List Text) (line : Text) (i : Item) → Some line ≡ first rest → item_at line (others rest) ≡ Some i
      → next sc told i ≡ Some more → after ≡ drop (lines_in i) (others rest) → lines_in i ≤ length (others rest)
      → read_lines sc told n 0 rest ≡ read_lines sc more (n + (1 + lines_in i)) 0 after
  read_item told more n [] after line i is item_is goes left few = cc
  read_item told more n (l ∷ rest) after line i is item_is goes left few =
      let same : l ≡ line = cc in
      let place : n + 1 + lines_in i ≡ n + (1 + lines_in i) = omega arith in
      let found : with_item sc told (item_at l rest) ≡ Some (more, lines_in i) =
      ap (λ (t : Text). with_item sc told (item_at t rest)) same ∙ ap (with_item sc told) item_is ∙ with_next goes in
      ap (λ o. go_on n o (λ t behind. read_lines sc t (n + 1) behind rest)) found
      ∙ passed more (n + 1) (lines_in i) rest few
      ∙ ap (λ m. read_lines sc more m 0 (drop (lines_in i) rest)) place
      ∙ ap (λ (ls : List Text). read_lines sc more (n + (1 + lines_in i)) 0 ls) (sym left)
    where
      with_next : next sc told i ≡ Some more → with_item sc told (Some i) ≡ Some (more, lines_in i)
      with_next e = ap (with_told i) e

  pub no_item : (told : Told) (n : ℕ) (rest : List Text) (line : Text) → Some line ≡ first rest → item_at line (others rest) ≡ None → read_lines sc told n 0 rest ≡ Err n
  no_item told n [] line is none = cc
  no_item told n (l ∷ rest) line is none =
      let same : l ≡ line = cc in
      ap (λ (t : Text). go_on n (with_item sc told (item_at t rest)) (λ t behind. read_lines sc t (n + 1) behind rest)) same
      ∙ ap (λ (o : Option Item). go_on n (with_item sc told o) (λ t behind. read_lines sc t (n + 1) behind rest)) none

  pub no_place : (told : Told) (n : ℕ) (rest : List Text) (line : Text) (i : Item) → Some line ≡ first rest → item_at line (others rest) ≡ Some i → next sc told i ≡ None
      → read_lines sc told n 0 rest ≡ Err n
  no_place told n [] line i is item_is none = cc
  no_place told n (l ∷ rest) line i is item_is none =
      let same : l ≡ line = cc in
      ap (λ (t : Text). go_on n (with_item sc told (item_at t rest)) (λ t behind. read_lines sc t (n + 1) behind rest)) same
      ∙ ap (λ (o : Option Item). go_on n (with_item sc told o) (λ t behind. read_lines sc t (n + 1) behind rest)) item_is
      ∙ ap (λ (o : Option Told). go_on n (with_told i o) (λ t behind. read_lines sc t (n + 1) behind rest)) none

  pub no_lines : (told : Told) (n : ℕ) (rest : List Text) → None ≡ first rest → read_lines sc told n 0 rest ≡ whole told n
  no_lines told n [] is = refl
  no_lines told n (l ∷ rest) is = cc

pub fewer : (rest : List Text) (line : Text) → Some line ≡ first rest → length rest ≡ length (others rest) + 1
fewer [] line is = cc
fewer (l ∷ rest) line is = omega arith

refused : (o : Outcome) (n : ℕ) → o ≡ Err n → IsRead o (Err (Refused n))
refused o n e = inl (sym (ap told_outcome e))

taken_none : (line : Text) (mid rest after : List Text) (o : Option Item) → ((i : Item) → o ≡ Some i → ⊥) → mid ≡ others rest → Takes (item_at line mid) o mid after → item_at line (others rest) ≡ None
taken_none line mid rest after None none is takes = ap (λ (ls : List Text). item_at line ls) (sym is) ∙ takes
taken_none line mid rest after (Some i) none is takes = absurd (none i refl)

taken_some : (line : Text) (mid rest after : List Text) (o : Option Item) (i : Item) → o ≡ Some i → mid ≡ others rest → Takes (item_at line mid) o mid after
    → (item_at line (others rest) ≡ Some i) × (after ≡ drop (lines_in i) (others rest)) × (lines_in i ≤ length (others rest))
taken_some line mid rest after o i item_is is takes =
    let found : Takes (item_at line mid) (Some i) mid after = subst (λ (x : Option Item). Takes (item_at line mid) x mid after) item_is takes in
    subst (λ (ls : List Text). (item_at line ls ≡ Some i) × (after ≡ drop (lines_in i) ls) × (lines_in i ≤ length ls)) is found

goes_not : (due : Option Told) (b : Bool) (after : Told) → b ≡ false → Goes due b after → due ≡ None
goes_not due true after is goes = cc
goes_not due false after is goes = goes

goes_on : (due : Option Told) (b : Bool) (after : Told) → b ≡ true → Goes due b after → due ≡ Some after
goes_on due true after is goes = goes
goes_on due false after is goes = cc

module _ (sc : Scenario) (first_told told : Told) (first_line n : ℕ) (lines rest : List Text) (so_far : read_lines sc told n 0 rest ≡ read_lines sc first_told first_line 0 lines) (line : Text)
    (is : Some line ≡ first rest) (mid after : List Text) (left : mid ≡ others rest) (o : Option Item) (takes : Takes (item_at line mid) o mid after) where
  pub refused_item : ((i : Item) → o ≡ Some i → ⊥) → IsRead (read_lines sc first_told first_line 0 lines) (Err (Refused n))
  refused_item none = refused _ n (sym so_far ∙ no_item sc told n rest line is (taken_none line mid rest after o none left takes))

  pub refused_place : (i : Item) (b : Bool) (more : Told) → o ≡ Some i → b ≡ false → Goes (next sc told i) b more → IsRead (read_lines sc first_told first_line 0 lines) (Err (Refused n))
  refused_place i b more item_is stays goes =
      let t = taken_some line mid rest after o i item_is left takes in
      refused _ n (sym so_far ∙ no_place sc told n rest line i is t.0 (goes_not (next sc told i) b more stays goes))

  pub read_on : (i : Item) (b : Bool) (more : Told) (behind : ℕ) → o ≡ Some i → b ≡ true → Goes (next sc told i) b more → behind ≡ lines_in i → n + length rest < 2 ^ 64
      → (read_lines sc more (n + (1 + behind)) 0 after ≡ read_lines sc first_told first_line 0 lines) × (n + (1 + behind) + length after < 2 ^ 64)
  read_on i b more behind item_is moves goes size room =
      let t = taken_some line mid rest after o i item_is left takes in
      let step : read_lines sc told n 0 rest ≡ read_lines sc more (n + (1 + lines_in i)) 0 after =
      read_item sc told more n rest after line i is t.0 (goes_on (next sc told i) b more moves goes) t.1 t.2 in
      let gone : length after ≡ length (others rest) - lines_in i = ap length t.1 ∙ length-drop (lines_in i) (others rest) in
      (ap (λ (k : ℕ). read_lines sc more (n + (1 + k)) 0 after) size ∙ sym step ∙ so_far, omega (arith, room, fewer rest line is, gone, t.2, size))
