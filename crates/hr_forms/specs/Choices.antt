-- The lines of a schedule.
use Rattle.std.specs.Prelude.{◌≡◌, ℕ, Bool, true, false, not, ◌&&◌, ◌==◌, if◌then◌else◌, List, [], ◌∷◌, ◌++◌, Option, Some, None, codes}
use Rattle.std.specs.Option.{option_and_then, option_map}
use Rattle.std.specs.Str.{bytes_eq}
use Rattle.hr_base.specs.Texts.{Text}
use Rattle.hr_line.specs.Words.{words_of}
use Rattle.hr_line.specs.Numbers.{number_of}
use Rattle.hr_line.specs.declared.number.Number.{Number}
use Rattle.hr_forms.specs.declared.choice.ChoiceForm.{ChoiceForm}
use Rattle.hr_forms.specs.declared.choice.ChoiceForm.TheVariants as c
use Rattle.hr_forms.specs.declared.choice.ScheduleForm.{ScheduleForm}
use Rattle.hr_forms.specs.declared.choice.ScheduleForm.TheVariants as form

abbrev pub says_rounds : Text → Bool
says_rounds word = bytes_eq word (codes "rounds")

-- s, r, t or g
abbrev pub chosen : ℕ → Number → Option ChoiceForm
chosen letter n =
    if letter == 115 then Some (c.Session n)
    else (if letter == 114 then Some (c.Both n)
    else (if letter == 116 then Some (c.TakeJob n)
    else (if letter == 103 then Some (c.GiveReply n)
    else None)))

-- a letter, and a number behind it
abbrev pub lettered : Text → Option ChoiceForm
lettered [] = None
lettered (letter ∷ digits) = option_and_then (chosen letter) (number_of digits)

-- the choice that a word is, behind `rounds` or not
abbrev pub choice : Bool → Text → Option ChoiceForm
choice true word = option_map c.Rounds (number_of word)
choice false word = lettered word

abbrev pub before : Option ChoiceForm → Option (List ChoiceForm) → Option (List ChoiceForm)
before (Some choice) (Some choices) = Some (choice ∷ choices)
before _ _ = None

-- `rounds`, whose number comes behind it
abbrev pub begins_rounds : Bool → Text → Bool
begins_rounds in_rounds word = not in_rounds && says_rounds word

-- the choices that words are; the first of them stands behind `rounds`, or doesn't
abbrev pub choices_of : Bool → List Text → Option (List ChoiceForm)
choices_of in_rounds [] = if in_rounds then None else Some []
choices_of in_rounds (word ∷ words) =
    if begins_rounds in_rounds word then choices_of true words else before (choice in_rounds word) (choices_of false words)

-- some choices in front of others, where these are there
abbrev pub behind : List ChoiceForm → Option (List ChoiceForm) → Option (List ChoiceForm)
behind front None = None
behind front (Some choices) = Some (front ++ choices)

-- One word more was read: the choices so far, and whether the next word stands behind `rounds`; or it is no choice.
abbrev pub AddsWord : List ChoiceForm → List ChoiceForm → Bool → Text → Option Bool → Type 0
AddsWord old new in_rounds word None = (words : List Text) → None ≡ behind old (choices_of in_rounds (word ∷ words))
AddsWord old new in_rounds word (Some next) = (words : List Text) → behind old (choices_of in_rounds (word ∷ words)) ≡ behind new (choices_of next words)

abbrev pub choices : Option (List ChoiceForm) → Option ScheduleForm
choices all = option_map form.Choices all

-- what a line of a schedule is
abbrev pub schedule_form_of : Text → Option ScheduleForm
schedule_form_of content = if bytes_eq content (codes "end") then Some form.End else choices (choices_of false (words_of content))
