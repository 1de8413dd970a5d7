use Rattle.std.proofs.Common.{◌∙◌, arith}
use Rattle.hr_line.proofs.NameLemmas.{name_is_text}
use Rattle.hr_line.proofs.name.named.Goals as goal

pub unreachable-requires : goal.unreachable-requires
unreachable-requires c =
    let same = c.deref.ensures.value ∙ c.in_ok-small.ensures in
    let no = c.in-None.ensures.text.1 (rw same (name_is_text c.args.word.now c.requires (omega (arith, c.if-word-gt-MAX_NAME_BYTES.false)))) in
    cc
