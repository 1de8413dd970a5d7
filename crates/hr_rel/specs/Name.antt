-- Not to be believed: how a text lies in its 64 bytes, which mirrors the code.
use Rattle.std.specs.Prelude.{◌≡◌, ℕ, ◌-◌, ◌≤◌, List, ◌++◌, length, take, drop, replicate, true}
use Rattle.std.specs.List.{list_all}
use Rattle.std.proofs.Common.{take-append-drop, length-take-le, arith, ap, ◌∙◌, sym}
use Rattle.hr_base.specs.Bytes.{is_printable}
use Rattle.hr_rel.specs.declared.name.Name.TheInside.{Inside}

-- 64 bytes: the text, and behind it zeros alone
pub record IsPadded (a : Inside) : Type 0 where
  pub within : a.len ≤ 64
  pub whole : length a.bytes ≡ 64
  pub zeros : drop a.len a.bytes ≡ replicate (64 - a.len) 0
  pub printable : list_all is_printable (take a.len a.bytes) ≡ true

-- the text of these bytes
abbrev pub padded_name : List ℕ → Inside
padded_name bytes = record { bytes = bytes ++ replicate (64 - length bytes) 0; len = length bytes }

-- a text is known by its bytes
pub padded_again : (a : Inside) → IsPadded a → padded_name (take a.len a.bytes) ≡ a
padded_again a h =
    let front = take a.len a.bytes in
    let size : length front ≡ a.len = length-take-le a.len a.bytes (omega (arith, h.within, h.whole)) in
    let zeros = ap (λ (n : ℕ). front ++ replicate (64 - n) 0) size ∙ ap (λ (z : List ℕ). front ++ z) (sym h.zeros) in
    let whole = zeros ∙ take-append-drop a.len a.bytes in
    λ i. record { bytes = whole i; len = size i }
