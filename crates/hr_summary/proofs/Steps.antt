-- One entry more, and one account more.
use Rattle.std.proofs.Common.{◌≡◌, ℕ, zero, suc, pos, ◌+◌, ◌+ℤ◌, ◌<◌, Bool, Option, Some, None, List, [], ◌∷◌, length, take, get_or, slice_get, ap, sym, ◌∙◌, arith, add-one}
use Rattle.std.proofs.Math.IntN.{+ℤ_assoc, +ℤ_comm}
use Rattle.std.proofs.lemmas.List.Filters.{length-filter_more}
use Rattle.std.proofs.lemmas.Option.{slice_get-get_or, get_or_from_slice_get}
use Rattle.hr_rel.specs.declared.value.Value.{Value}
use Rattle.hr_meaning.specs.Select.{number_in}
use Rattle.hr_records.proofs.Options.{some_none}
use Rattle.hr_history.specs.declared.entry.Entry.{Entry}
use Rattle.hr_history.specs.declared.entry.Event.{Event}
use Rattle.hr_summary.specs.Summary.{told, told_in, balance, balances}

pub one_entry_more : (test : Event → Bool) (entries : List Entry) (i : ℕ) (o : Option Entry) → slice_get entries i ≡ o → i < length entries
    → told test (take (i + 1) entries) ≡ told test (take i entries) + told_in test o
one_entry_more test [] i o is within = absurd (omega arith)
one_entry_more test (e ∷ entries) i None is within = absurd (some_none (get_or (e ∷ entries) i e) (sym (slice_get-get_or (e ∷ entries) i e within) ∙ is))
one_entry_more test (e ∷ entries) i (Some x) is within =
    length-filter_more (λ (y : Entry). test y.event) (e ∷ entries) i x within
    ∙ ap (λ (y : Entry). told test (take i (e ∷ entries)) + told_in test (Some y)) (get_or_from_slice_get (e ∷ entries) i x x is)

-- sums are counted from the first account on
account_step : (rows : List (List Value)) (i : ℕ) (row : List Value) → i < length rows → row ≡ get_or rows i row
    → balances (take (suc i) rows) ≡ balances (take i rows) +ℤ number_in (balance row)
account_step [] i row within is = absurd (omega arith)
account_step (first ∷ rows) zero row within is =
    ap (λ (r : List Value). number_in (balance r) +ℤ pos 0) (sym is) ∙ +ℤ_comm (number_in (balance row)) (pos 0)
account_step (first ∷ rows) (suc i) row within is =
    ap (λ s. number_in (balance first) +ℤ s) (account_step rows i row (omega arith) is)
    ∙ sym (+ℤ_assoc (number_in (balance first)) (balances (take i rows)) (number_in (balance row)))

pub one_account_more : (rows : List (List Value)) (i : ℕ) (row : List Value) → i < length rows → row ≡ get_or rows i row
    → balances (take (i + 1) rows) ≡ balances (take i rows) +ℤ number_in (balance row)
one_account_more rows i row within is = rw add-one (account_step rows i row within is)
