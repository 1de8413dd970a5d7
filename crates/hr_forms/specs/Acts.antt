-- What a backend that lies by a script does, as a line says it.
use Rattle.std.specs.Prelude.{Option, Some, None, List, map, if◌then◌else◌, codes}
use Rattle.std.specs.Option.{option_and_then, option_map}
use Rattle.std.specs.Str.{bytes_eq}
use Rattle.hr_base.specs.Texts.{Text}
use Rattle.hr_line.specs.Words.{first, others, only}
use Rattle.hr_line.specs.Numbers.{number_of}
use Rattle.hr_line.specs.declared.number.Number.{Number}
use Rattle.hr_line.specs.declared.number.Signed.{Signed}
use Rattle.hr_forms.specs.Words.{number_in, signed_in, is_over, all_there}
use Rattle.hr_forms.specs.declared.act.ActForm.{ActForm}
use Rattle.hr_forms.specs.declared.act.ActForm.TheVariants as act
use Rattle.hr_forms.specs.declared.act.ActWord.{ActWord}
use Rattle.hr_forms.specs.declared.act.ActWord.TheVariants as word

abbrev pub act_word : Text → Option ActWord
act_word text =
    if bytes_eq text (codes "wrong") then Some word.Wrong
    else (if bytes_eq text (codes "drop") then Some word.Drop
    else (if bytes_eq text (codes "early") then Some word.Early
    else (if bytes_eq text (codes "block") then Some word.Block
    else (if bytes_eq text (codes "deadlock") then Some word.Deadlock
    else (if bytes_eq text (codes "fail") then Some word.Fail
    else (if bytes_eq text (codes "position") then Some word.Position
    else None))))))

abbrev pub wrong : Option Signed → Option ActForm
wrong n = option_map act.Wrong n

abbrev pub dropped : Option Number → Option ActForm
dropped n = option_map act.Drop n

abbrev pub block : Option (List Number) → Option ActForm
block ns = option_map act.Block ns

abbrev pub deadlock : Option (List Number) → Option ActForm
deadlock ns = option_map act.Deadlock ns

abbrev pub position : Option Number → Option ActForm
position n = option_map act.Position n

-- an act without numbers
abbrev pub alone : List Text → ActForm → Option ActForm
alone words a = if is_over words then Some a else None

-- an act by its word and those behind it
abbrev pub act_of : ActWord → List Text → Option ActForm
act_of word.Wrong words = wrong (signed_in (only words))
act_of word.Drop words = dropped (number_in (only words))
act_of word.Early words = alone words act.Early
act_of word.Block words = block (all_there (map number_of words))
act_of word.Deadlock words = deadlock (all_there (map number_of words))
act_of word.Fail words = alone words act.Fail
act_of word.Position words = position (number_in (only words))

-- the act of a line that lies
unfoldable pub lie_of : List Text → Option ActForm
lie_of words = option_and_then (λ w. act_of w (others words)) (option_and_then act_word (first words))

abbrev pub loss : Text → Option ActForm
loss text =
    if bytes_eq text (codes "before") then Some act.LoseBefore
    else (if bytes_eq text (codes "after") then Some act.LoseAfter
    else None)

-- the act of a line that loses
unfoldable pub loss_of : List Text → Option ActForm
loss_of words = option_and_then loss (only words)
