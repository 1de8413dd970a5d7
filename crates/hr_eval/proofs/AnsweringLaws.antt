-- What an answer in the making says of its SELECT.
use Rattle.std.proofs.Common.{◌≡◌, Bool, true, false, not, cond, List, [], ◌∷◌, ◌++◌, Result, Ok, refl, ap, sym, ◌∙◌, nat_lt, length}
use Rattle.std.specs.List.{list_all, list_any}
use Rattle.std.proofs.lemmas.Bool.{or_parts, and_from}
use Rattle.hr_base.specs.Lists.{is_empty}
use Rattle.hr_base.specs.declared.limits.TheConstants.{MAX_ROWS}
use Rattle.hr_rel.specs.declared.value.Value.{Value}
use Rattle.hr_rel.specs.declared.answer.Answer.TheVariants.{Failed}
use Rattle.hr_rel.specs.declared.answer.RunError.{RunError}
use Rattle.hr_rel.specs.declared.answer.RunError.TheVariants.{TooManyRows}
use Rattle.hr_rel.specs.declared.stmt.Item.{Item}
use Rattle.hr_rel.specs.declared.stmt.SelectStmt.{SelectStmt}
use Rattle.hr_rel.specs.Fit.{is_plain, is_grouped}
use Rattle.hr_meaning.specs.Truth.{Tuple}
use Rattle.hr_meaning.specs.Value.{and_then, each}
use Rattle.hr_meaning.specs.Select.{group_row, plain_row, groups_of, few, shown, answer_from}
use Rattle.hr_eval.specs.declared.tally.Tally.{Tally}
use Rattle.hr_eval.specs.Tallies.{tally_shown}
use Rattle.hr_eval.specs.Groups.{steps}
use Rattle.hr_eval.specs.Answerings.{IsWhole}
use Rattle.hr_eval.proofs.GroupLaws.{steps_last, tallies_shown, full_stays}

plain_by : (b : Bool) → not b ≡ false → b ≡ true
plain_by true e = refl
plain_by false e = sym e

all_plain_by : (items : List Item) → list_any (λ (i : Item). not (is_plain i)) items ≡ false → list_all is_plain items ≡ true
all_plain_by [] h = refl
all_plain_by (i ∷ items) h =
    let parts = or_parts (not (is_plain i)) (list_any (λ (j : Item). not (is_plain j)) items) h in
    and_from (is_plain i) (list_all is_plain items) (plain_by (is_plain i) parts.0) (all_plain_by items parts.1)

module _ (s : SelectStmt) where
  pub all_plain : is_grouped s ≡ false → list_all is_plain s.items ≡ true
  all_plain h = all_plain_by s.items (or_parts (not (is_empty s.groups)) (list_any (λ (i : Item). not (is_plain i)) s.items) h).1

  pub whole_one_more : (old new : List Tally) (kept : List Tuple) (t : Tuple) → IsWhole s old kept → new ≡ steps t s.items old → IsWhole s new (kept ++ t ∷ [])
  whole_one_more old new kept t so_far e = record {
    alone = so_far.alone;
    grouped = so_far.grouped;
    tallied = e ∙ ap (steps t s.items) so_far.tallied ∙ steps_last t kept s.items;
  }

  by_kind : (a b : Bool) (kept : List Tuple) → is_empty s.groups ≡ a → is_grouped s ≡ b
      → answer_from s kept ≡ cond (not a) (few (group_row s.items) (groups_of s.groups kept)) (cond b (few (group_row s.items) (kept ∷ [])) (few (plain_row s.items) kept))
  by_kind a b kept e f = λ i. cond (not (e i)) (few (group_row s.items) (groups_of s.groups kept)) (cond (f i) (few (group_row s.items) (kept ∷ [])) (few (plain_row s.items) kept))

  one_shown : (r : Result (List Value) RunError) → shown (and_then r (λ row. Ok (row ∷ []))) ≡ shown (and_then r (λ row. and_then (Ok []) (λ rows. Ok (row ∷ rows))))
  one_shown r = refl

  pub whole_answered : (tallies : List Tally) (kept : List Tuple) → IsWhole s tallies kept → shown (and_then (each tally_shown tallies) (λ row. Ok (row ∷ []))) ≡ answer_from s kept
  whole_answered tallies kept so_far =
      ap (λ l. shown (and_then (each tally_shown l) (λ row. Ok (row ∷ [])))) so_far.tallied
      ∙ ap (λ r. shown (and_then r (λ row. Ok (row ∷ [])))) (tallies_shown kept s.items)
      ∙ sym (by_kind true true kept so_far.alone so_far.grouped)

  pub grouped_full : (kept more : List Tuple) → is_empty s.groups ≡ false → nat_lt MAX_ROWS (length (groups_of s.groups kept)) ≡ true → answer_from s (kept ++ more) ≡ Failed TooManyRows
  grouped_full kept more e h = by_kind false (is_grouped s) (kept ++ more) e refl ∙ full_stays s.groups s.items kept more h
