use Rattle.std.proofs.Common.{◌∙◌}
use Rattle.hr_parse.proofs.Names.{name_is_text}
use Rattle.hr_parse.proofs.lexeme.name.Goals as goal

pub unreachable-requires : goal.unreachable-requires
unreachable-requires c =
    let same = c.deref.ensures.value ∙ c.in_ok-lowered.ensures in
    let no = c.in-None.ensures.text.1 (rw same (name_is_text c.args.bytes.now c.requires)) in
    cc
