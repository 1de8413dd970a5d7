use Rattle.std.proofs.Common.{◌∷◌, ◌∙◌, sym, ap, take}
use Rattle.hr_line.specs.Words.{pieces_left}
use Rattle.hr_forms.proofs.PieceLemmas.{piece_split}
use Rattle.hr_report_reader.specs.Blank.{is_space}
use Rattle.hr_report_reader.proofs.words.split_word.Goals as goal

pub returns : goal.returns
returns c =
    piece_split is_space _ _ c.word_len-len.ensures.value
    ∙ ap (λ o. take c.word_len-len.result c.args.text.now ∷ pieces_left is_space o) (sym c.behind.ensures)
