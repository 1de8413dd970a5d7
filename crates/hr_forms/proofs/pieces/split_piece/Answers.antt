use Rattle.std.proofs.Common.{◌∷◌, ◌∙◌, sym, ap, take}
use Rattle.hr_line.specs.Words.{pieces_left}
use Rattle.hr_forms.specs.Columns.{is_comma}
use Rattle.hr_forms.proofs.PieceLemmas.{piece_split}
use Rattle.hr_forms.proofs.pieces.split_piece.Goals as goal

pub returns : goal.returns
returns c =
    piece_split is_comma _ _ c.piece_len-len.ensures.value
    ∙ ap (λ o. take c.piece_len-len.result c.args.text.now ∷ pieces_left is_comma o) (sym c.behind.ensures)
