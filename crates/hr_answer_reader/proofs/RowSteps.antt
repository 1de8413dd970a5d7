-- One row more of those that lines are.
use Rattle.std.proofs.Common.{◌≡◌, ℕ, zero, suc, ◌+◌, ◌-◌, ◌<◌, List, [], ◌∷◌, ◌++◌, Option, Some, None, refl, ap, sym, ◌∙◌, drop, append_assoc, arith}
use Rattle.hr_base.specs.Texts.{Text}
use Rattle.hr_rel.specs.declared.value.Value.{Value}
use Rattle.hr_line.specs.Words.{first, others}
use Rattle.hr_forms.proofs.Steps.{behind}
use Rattle.hr_answer_reader.specs.Rows.{row_of}
use Rattle.hr_answer_reader.specs.Answers.{rows_in, with_first}

put_first : (front : List (List Value)) (row : List Value) (o : Option (List (List Value)))
    → behind (front ++ row ∷ []) o ≡ behind front (with_first (Some row) o)
put_first front row None = refl
put_first front row (Some rows) = ap (λ (all : List (List Value)). Some all) (append_assoc front (row ∷ []) rows)

pub one_row : (front : List (List Value)) (row : List Value) (line : Text) (lines : List Text) (n : ℕ) → 0 < n → Some line ≡ first lines → Some row ≡ row_of line
    → behind (front ++ row ∷ []) (rows_in (n - 1) (others lines)) ≡ behind front (rows_in n lines)
one_row front row line [] n some is reads = cc
one_row front row line (l ∷ lines) zero some is reads = absurd (omega arith)
one_row front row line (l ∷ lines) (suc n) some is reads =
    let same : line ≡ l = cc in
    let less : suc n - 1 ≡ n = omega arith in
    rw less (put_first front row (rows_in n lines) ∙ ap (λ (o : Option (List Value)). behind front (with_first o (rows_in n lines))) (reads ∙ ap row_of same))

no_more : (front : List (List Value)) (o : Option (List (List Value))) → None ≡ behind front (with_first None o)
no_more front None = refl
no_more front (Some rows) = refl

pub no_row : (front : List (List Value)) (line : Text) (lines : List Text) (n : ℕ) → 0 < n → Some line ≡ first lines → None ≡ row_of line
    → None ≡ behind front (rows_in n lines)
no_row front line [] n some is none = cc
no_row front line (l ∷ lines) zero some is none = absurd (omega arith)
no_row front line (l ∷ lines) (suc n) some is none =
    let same : line ≡ l = cc in
    no_more front (rows_in n lines) ∙ ap (λ (o : Option (List Value)). behind front (with_first o (rows_in n lines))) (none ∙ ap row_of same)

pub no_line : (front : List (List Value)) (lines : List Text) (n : ℕ) → 0 < n → None ≡ first lines → None ≡ behind front (rows_in n lines)
no_line front [] zero some is = absurd (omega arith)
no_line front [] (suc n) some is = refl
no_line front (l ∷ lines) n some is = cc
