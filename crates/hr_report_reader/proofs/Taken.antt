-- The lines of an answer are taken.
use Rattle.std.proofs.Common.{◌≡◌, ℕ, zero, suc, ◌+◌, ◌≤◌, arith, length-append, not, take, List, [], ◌∷◌, ◌++◌, length, drop, Option, Some, None, refl, ap, sym, subst, ◌∙◌}
use Rattle.std.specs.Prelude.{Result, Ok, Err, IfOk}
use Rattle.std.specs.Option.{option_map}
use Rattle.hr_base.specs.Texts.{Text}
use Rattle.hr_rel.specs.declared.value.Value.{Value}
use Rattle.hr_rel.specs.declared.answer.Answer.{Answer}
use Rattle.hr_answer_reader.specs.Answers.{answer_at, Reads}
use Rattle.hr_answer_reader.specs.Lines.{lines_behind}
use Rattle.hr_answer_reader.proofs.AnswerLaws.{answer_said}
use Rattle.hr_answer_reader.specs.Rows.{row_of}
use Rattle.hr_report_reader.specs.Forms.{form_of}
use Rattle.hr_report_reader.specs.declared.form.Form.{Form}
use Rattle.hr_report_reader.specs.Items.{told_answer, answer, answer_behind, numbered, given, agreed, row, formed, plain, Takes}
use Rattle.std.specs.List.{prefix_len}
use Rattle.hr_lines.specs.Lines.{behind}
use Rattle.hr_answer_reader.specs.Numbers.{long}
use Rattle.hr_report_reader.specs.Blank.{is_space}
use Rattle.hr_report_reader.specs.declared.item.Item.{Item}
use Rattle.hr_report_reader.specs.declared.item.Item.TheVariants as item

dropped : (lines rest : List Text) → drop (length lines) (lines ++ rest) ≡ rest
dropped [] rest = refl
dropped (l ∷ lines) rest = dropped lines rest

abbrev fronts : Option (Answer × List Text) → Option Answer
fronts o = option_map (λ (p : Answer × List Text). p.0) o

taken : (first : Text) (lines rest : List Text) (a : Answer) → answer_at first lines ≡ Some (a, rest) → rest ≡ drop (length (lines_behind a)) lines
taken first lines rest a is =
    let all : lines ≡ lines_behind a ++ rest = (answer_said first lines a rest is).2 in
    sym (dropped (lines_behind a) rest) ∙ ap (drop (length (lines_behind a))) (sym all)

few : (first : Text) (lines rest : List Text) (a : Answer) → answer_at first lines ≡ Some (a, rest) → length (lines_behind a) ≤ length lines
few first lines rest a is =
    let all : length lines ≡ length (lines_behind a) + length rest = ap length (answer_said first lines a rest is).2 ∙ length-append (lines_behind a) rest in
    omega (arith, all)

found : (first : Text) (lines rest : List Text) (a : Answer) → answer_at first lines ≡ Some (a, rest) → told_answer first lines ≡ Some a
found first lines rest a is = ap fronts is

pub taken_answer : (number : ℕ) (first : Text) (lines rest : List Text) (a : Answer) → answer_at first lines ≡ Some (a, rest) → Takes (answer number first lines) (Some (item.Answer number a)) lines rest
taken_answer number first lines rest a is = (ap (option_map (λ (x : Answer). item.Answer number x)) (found first lines rest a is), taken first lines rest a is, few first lines rest a is)

pub no_answer : (number : ℕ) (first : Text) (lines : List Text) → answer_at first lines ≡ None → answer number first lines ≡ None
no_answer number first lines is = ap (λ (o : Option (Answer × List Text)). option_map (λ (x : Answer). item.Answer number x) (fronts o)) is

pub taken_given : (first : Text) (lines rest : List Text) (a : Answer) → answer_at first lines ≡ Some (a, rest) → Takes (given first lines) (Some (item.Given a)) lines rest
taken_given first lines rest a is = (ap (option_map item.Given) (found first lines rest a is), taken first lines rest a is, few first lines rest a is)

pub no_given : (first : Text) (lines : List Text) → answer_at first lines ≡ None → given first lines ≡ None
no_given first lines is = ap (λ (o : Option (Answer × List Text)). option_map item.Given (fronts o)) is

pub taken_agreed : (first : Text) (lines rest : List Text) (a : Answer) → answer_at first lines ≡ Some (a, rest) → Takes (agreed first lines) (Some (item.Agreed a)) lines rest
taken_agreed first lines rest a is = (ap (option_map item.Agreed) (found first lines rest a is), taken first lines rest a is, few first lines rest a is)

pub no_agreed : (first : Text) (lines : List Text) → answer_at first lines ≡ None → agreed first lines ≡ None
no_agreed first lines is = ap (λ (o : Option (Answer × List Text)). option_map item.Agreed (fronts o)) is

-- a line without an answer is none that has one
abbrev IsAlone : Option Item → Type 0
IsAlone None = Unit {0}
IsAlone (Some (item.Line f)) = Unit {0}
IsAlone (Some item.Row) = Unit {0}
IsAlone (Some (item.Answer n a)) = ⊥
IsAlone (Some (item.Given a)) = ⊥
IsAlone (Some (item.Agreed a)) = ⊥

row_alone : (o : Option (List Value)) → IsAlone (row o)
row_alone None = tt
row_alone (Some values) = tt

formed_alone : (line : Text) (f : Option Form) → IsAlone (formed line f)
formed_alone line None = row_alone (row_of line)
formed_alone line (Some f) = tt

plain_alone : (line : Text) (o : Option Item) → o ≡ plain line → IsAlone o
plain_alone line o is = subst IsAlone (sym is) (formed_alone line (form_of line))

pub plain_takes : {E : Type 0} (line : Text) (r : Result (Option Item) E) → IfOk r (λ i. i ≡ plain line) → IfOk r (λ i. (lines : List Text) → Takes (plain line) i lines lines)
plain_takes line (Err e) is = tt
plain_takes line (Ok None) is = λ lines. sym is
plain_takes line (Ok (Some (item.Line f))) is = λ lines. (sym is, refl, omega arith)
plain_takes line (Ok (Some item.Row)) is = λ lines. (sym is, refl, omega arith)
plain_takes line (Ok (Some (item.Answer n a))) is = absurd (plain_alone line _ is)
plain_takes line (Ok (Some (item.Given a))) is = absurd (plain_alone line _ is)
plain_takes line (Ok (Some (item.Agreed a))) is = absurd (plain_alone line _ is)

-- of what was read: an answer
read_so : (first : Text) (lines rest : List Text) (o : Option Answer) (a : Answer) → o ≡ Some a → Reads (answer_at first lines) o rest → answer_at first lines ≡ Some (a, rest)
read_so first lines rest o a is reads = subst (λ (x : Option Answer). Reads (answer_at first lines) x rest) is reads

pub takes_answer : (number : ℕ) (first : Text) (lines rest : List Text) (o : Option Answer) (a : Answer) → o ≡ Some a → Reads (answer_at first lines) o rest
    → Takes (answer number first lines) (Some (item.Answer number a)) lines rest
takes_answer number first lines rest o a is reads = taken_answer number first lines rest a (read_so first lines rest o a is reads)

pub takes_given : (first : Text) (lines rest : List Text) (o : Option Answer) (a : Answer) → o ≡ Some a → Reads (answer_at first lines) o rest → Takes (given first lines) (Some (item.Given a)) lines rest
takes_given first lines rest o a is reads = taken_given first lines rest a (read_so first lines rest o a is reads)

pub takes_agreed : (first : Text) (lines rest : List Text) (o : Option Answer) (a : Answer) → o ≡ Some a → Reads (answer_at first lines) o rest → Takes (agreed first lines) (Some (item.Agreed a)) lines rest
takes_agreed first lines rest o a is reads = taken_agreed first lines rest a (read_so first lines rest o a is reads)

-- `I ANSWER`, by its number and what stands behind it
pub numbered_takes : {E : Type 0} (text cut : Text) (lines after : List Text) (len : ℕ) (number : Option ℕ) (first : Option Text) (r : Result (Option Item) E)
    → len ≡ prefix_len (λ b. not (is_space b)) text → number ≡ long cut → first ≡ behind len text → cut ≡ take len text
    → IfOk r (λ i. Takes (answer_behind number first lines) i lines after) → IfOk r (λ i. Takes (numbered text lines) i lines after)
numbered_takes {E} text cut lines after len number first r size reads rest is takes =
    let same : answer_behind number first lines ≡ numbered text lines =
    ap (λ (o : Option ℕ). answer_behind o first lines) (reads ∙ ap long is) ∙ ap (λ (o : Option Text). answer_behind (long (take len text)) o lines) rest
    ∙ ap (λ (k : ℕ). answer_behind (long (take k text)) (behind k text) lines) size in
    subst (λ (due : Option Item). IfOk r (λ i. Takes due i lines after)) same takes
