-- A text's bytes over the front of 64 zeros lie as a text lies.
use Rattle.std.proofs.Common.{◌≡◌, ℕ, ◌-◌, ◌≤◌, List, ◌++◌, length, drop, replicate, true, ap, ◌∙◌, sym, subst, arith, length-append, length-drop}
use Rattle.std.specs.List.{list_all}
use Rattle.std.proofs.lemmas.List.{drop-replicate, length-replicate}
use Rattle.std.proofs.Math.Seq.{drop-append_seam, take-append_seam}
use Rattle.hr_base.specs.Bytes.{is_printable}
use Rattle.hr_rel.specs.Name.{IsPadded}

pub front_padded : (text old : List ℕ) (size : ℕ) → length text ≤ size → size ≡ 64 → old ≡ replicate size 0 → list_all is_printable text ≡ true
    → IsPadded record { bytes = text ++ drop (length text) old; len = length text }
front_padded text old size fits sixty_four zeros printable = record {
  within = omega arith;
  whole = simp (length-append, length-drop) (omega (arith, ap length zeros, length-replicate {A = ℕ} size 0));
  zeros = drop-append_seam text (drop (length text) old) ∙ ap (λ (z : List ℕ). drop (length text) z) zeros ∙ drop-replicate (length text) size 0
      ∙ ap (λ (n : ℕ). replicate (n - length text) 0) sixty_four;
  printable = subst (λ (t : List ℕ). list_all is_printable t ≡ true) (sym (take-append_seam text (drop (length text) old))) printable;
}
