use Rattle.std.proofs.Common.{◌∙◌, ap, zero}
use Rattle.std.proofs.lemmas.Result.{IfOk-weaker}
use Rattle.hr_lex.specs.Tokens.{reading, reading_of}
use Rattle.hr_lex.proofs.Tiling.{as_read}
use Rattle.hr_lex.proofs.reading.read.Goals as goal

pub returns-clause-tiles : goal.returns-clause-tiles
returns-clause-tiles c =
    IfOk-weaker c.read_bytes.result _ _ (λ r e few. as_read c.args.text.now (reading_of r) (e ∙ ap (reading zero 0) c.as_bytes-bytes.ensures.value)) c.read_bytes.ensures.value
