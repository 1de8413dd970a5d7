use Rattle.std.proofs.Common.{ℕ, List, length, refl, ◌∙◌, sym, subst}
use Rattle.hr_rel.specs.Name.{IsPadded}
use Rattle.hr_rel.proofs.NameLemmas.{front_padded}
use Rattle.hr_rel.proofs.name.Name.new.Goals as goal

pub invariant_of-result : goal.invariant_of-result
invariant_of-result c =
    let text = c.args.bytes.now in
    let printable = sym c.all_printable.ensures ∙ c.if-not-all_printable.false in
    let padded = front_padded text _ 64 c.if-bytes-gt-MAX_TEXT_BYTES.false refl refl printable in
    subst (λ (b : List ℕ). IsPadded record { bytes = b; len = length text }) (sym c.copy_front.ensures) padded
