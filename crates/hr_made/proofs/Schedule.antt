-- The schedule that is made is read.
use Rattle.std.proofs.Common.{◌≡◌, ◌≤◌, ◌<◌, ◌+◌, ◌-◌, ◌*◌, ◌/◌, ◌^◌, ℕ, true, false, not, nat_lt, nat_le, List, [], ◌∷◌, ◌++◌, length, Ok, Some, codes, refl, ◌∙◌, ap, arith}
use Rattle.std.specs.List.{filter, list_all}
use Rattle.std.specs.Fmt.{decimal}
use Rattle.std.proofs.Math.Nat.{div-mul-le_self, div-le_self}
use Rattle.std.proofs.lemmas.Bool.{and_parts}
use Rattle.std.proofs.lemmas.Bool.Decides.{nat_tests}
use Rattle.std.proofs.lemmas.Fmt.{length-decimal-le, decimal_nonempty}
use Rattle.std.proofs.lemmas.List.{length-append}
use Rattle.std.proofs.lemmas.Nat.{le-div}
use Rattle.hr_base.specs.Counters.{shown}
use Rattle.hr_base.specs.Texts.{Text, line}
use Rattle.hr_lex.specs.Bytes.{is_blank}
use Rattle.hr_line.specs.Words.{pieces, words_of, is_filled, only}
use Rattle.hr_line.specs.declared.number.Number.TheVariants as number
use Rattle.hr_forms.specs.Headings.{heading_of}
use Rattle.hr_forms.specs.Choices.{choices_of, choices, schedule_form_of}
use Rattle.hr_forms.specs.declared.choice.ChoiceForm.{ChoiceForm}
use Rattle.hr_forms.specs.declared.choice.ChoiceForm.TheVariants as form
use Rattle.hr_forms.specs.declared.choice.ScheduleForm.TheVariants as line_form
use Rattle.hr_said.specs.declared.said.Said.{Said}
use Rattle.hr_said.specs.declared.said.Inside.TheVariants as inside
use Rattle.hr_said.specs.Schedule.{count_with, choice_of}
use Rattle.hr_said.specs.Limits.{may_stand}
use Rattle.hr_reader.specs.Reading.{line_says}
use Rattle.hr_answer_reader.proofs.NumberLaws.{number_again}
use Rattle.hr_generator.specs.Made.{rounds_text, schedule_text}
use Rattle.hr_made.proofs.Texts.{IsPrinted, Ends, ends_behind, unset, parted, read_whole}
use Rattle.hr_made.proofs.Numbers.{decimal_ends, decimal_printed, decimal_unblank}
use Rattle.hr_made.proofs.Lines.{Goes, goes_line, goes_both}

-- ---- the words of its line

one_piece : (t : Text) → list_all (λ c. not (is_blank c)) t ≡ true → pieces is_blank t ≡ t ∷ []
one_piece [] all = refl
one_piece (b ∷ t) all =
    let k = and_parts (not (is_blank b)) (list_all (λ c. not (is_blank c)) t) all in
    rw (unset (is_blank b) k.0, one_piece t k.1) refl

filled : (t : Text) → 0 < length t → is_filled t ≡ true
filled [] h = absurd (omega (arith, h))
filled (b ∷ t) h = refl

abbrev rounds_line : ℕ → Text
rounds_line r = codes "rounds " ++ decimal r

rounds_form : (r : ℕ) → r < 2 ^ 64 → schedule_form_of (rounds_line r) ≡ Some (line_form.Choices (form.Rounds (number.Of r) ∷ []))
rounds_form r h =
    let ps : pieces is_blank (rounds_line r) ≡ codes "rounds" ∷ decimal r ∷ [] =
    parted is_blank (codes "rounds") (decimal r) 32 refl refl ∙ ap (λ z. codes "rounds" ∷ z) (one_piece (decimal r) (decimal_unblank r h)) in
    let ws : words_of (rounds_line r) ≡ codes "rounds" ∷ decimal r ∷ [] = ap (filter is_filled) ps ∙ rw (filled (decimal r) (decimal_nonempty r h)) refl in
    ap (λ z. choices (choices_of false z)) ws ∙ rw (number_again r h) refl

-- ---- what is said within the schedule

module _ (said : Said) (stands : may_stand said.part 8 ≡ true) (outside : said.inside ≡ inside.Outside) where
  abbrev opened : Said
  opened = record said { part = 8; inside = inside.Schedule }

  pub schedule_says : line_says said (codes "schedule") ≡ Ok opened
  unfolding line_says heading_of only
  schedule_says = rw (outside, stands) refl

  pub rounds_says : (r : ℕ) → 1 ≤ r → r ≤ 200000 → count_with opened (form.Rounds (number.Of r) ∷ []) ≤ 200000
      → line_says opened (rounds_line r) ≡ Ok (record opened { choices = said.choices ++ choice_of (form.Rounds (number.Of r)) ∷ []; choice_count = count_with opened (form.Rounds (number.Of r) ∷ []) })
  unfolding line_says
  rounds_says r some most few =
      let low : r < 2 ^ 64 = omega arith in
      let t : Text = rounds_line r in
      let ends : Ends t = ends_behind (codes "rounds ") (decimal r) (decimal_ends r low) in
      let all : IsPrinted t = decimal_printed r low in
      let size : length t ≤ 1024 =
      let k : length t ≡ 7 + length (decimal r) = length-append (codes "rounds ") (decimal r) in
      let j : length (decimal r) ≤ 6 = length-decimal-le 6 r (omega arith) (omega arith) low in
      omega (arith, k, j) in
      let one : nat_le 1 r ≡ true = grind (arith, nat_tests, some) in
      let last : nat_le r (2 ^ 32 - 1) ≡ true = grind (arith, nat_tests, most) in
      let under : nat_lt 200000 (count_with opened (form.Rounds (number.Of r) ∷ [])) ≡ false = grind (arith, nat_tests, few) in
      rw (read_whole t all size refl ends, rounds_form r low, one, last, under) refl

-- ---- as many rounds as may be

divided : (k : ℕ) → k ≤ 64 → (1 ≤ 200000 / (k + 3)) × (200000 / (k + 3) ≤ 200000) × (200000 / (k + 3) * (k + 3) ≤ 200000)
divided k few = (le-div 1 200000 (k + 3) (omega arith) (omega (arith, few)), div-le_self 200000 (k + 3), div-mul-le_self 200000 (k + 3))

shown_small : (n : ℕ) → n ≤ 200000 → shown n ≡ n
shown_small n h = omega (arith, h)

end_says : (s : Said) → s.inside ≡ inside.Schedule → line_says s (codes "end") ≡ Ok (record s { inside = inside.Outside })
unfolding line_says
end_says s is = rw is refl

-- The schedule leads on to its end, outside of everything.
pub record ReadSchedule (said : Said) (text : Text) : Type 0 where
  pub next : Said
  pub last : next.part ≡ 8
  pub outside : next.inside ≡ inside.Outside
  pub goes : Goes said text next

pub schedule_read : (said : Said) (k : ℕ) → may_stand said.part 8 ≡ true → said.inside ≡ inside.Outside → length said.scripts ≡ k → length said.faults ≡ 3 → said.choice_count ≡ 0 → k ≤ 64 → ReadSchedule said (schedule_text k)
unfolding schedule_text rounds_text
schedule_read said k stands out many faults none few =
    let r : ℕ = 200000 / (k + 3) in
    let d = divided k few in
    let start : Said = opened said stands out in
    let forms : List ChoiceForm = form.Rounds (number.Of r) ∷ [] in
    let callers : length said.scripts + length said.faults ≡ k + 3 = omega (arith, many, faults) in
    let one : shown (length said.scripts + length said.faults) ≡ k + 3 = ap shown callers ∙ shown_small (k + 3) (omega (arith, few)) in
    let count : count_with start forms ≡ r * (k + 3) = rw (none, one) (omega (arith, d.2)) in
    let within : count_with start forms ≤ 200000 = rw count d.2 in
    let filled : Said = record start { choices = said.choices ++ choice_of (form.Rounds (number.Of r)) ∷ []; choice_count = count_with start forms } in
    let after : Said = record filled { inside = inside.Outside } in
    let first = goes_line said start (codes "schedule") refl (schedule_says said stands out) in
    let second = goes_line start filled (rounds_line r) (decimal_printed r (omega (arith, d.1))) (rounds_says said stands out r d.0 d.1 within) in
    let third = goes_line filled after (codes "end") refl (end_says filled refl) in
    record {
      next = after;
      last = refl;
      outside = refl;
      goes = goes_both said filled after (line (codes "schedule") ++ line (rounds_line r)) (line (codes "end")) (goes_both said start filled (line (codes "schedule")) (line (rounds_line r)) first second) third;
    }
