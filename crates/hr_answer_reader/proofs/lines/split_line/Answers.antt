use Rattle.std.proofs.Common.{◌∷◌, ◌∙◌, sym, ap, take}
use Rattle.hr_line.specs.Words.{pieces_left}
use Rattle.hr_forms.proofs.PieceLemmas.{piece_split}
use Rattle.hr_lines.specs.Lines.{is_feed}
use Rattle.hr_answer_reader.proofs.lines.split_line.Goals as goal

pub returns : goal.returns
returns c =
    piece_split is_feed _ _ c.line_len-len.ensures.value
    ∙ ap (λ o. take c.line_len-len.result c.args.text.now ∷ pieces_left is_feed o) (sym c.behind.ensures)
