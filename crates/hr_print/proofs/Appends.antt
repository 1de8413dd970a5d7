-- What is written behind what was written.
use Rattle.std.proofs.Common.{◌≡◌, ℕ, List, ◌++◌, append_assoc, ap, ◌∙◌}

pub append_again : (a b c : List ℕ) → (a ++ b) ++ c ≡ a ++ (b ++ c)
append_again a b c = append_assoc a b c

pub written_two : (o a b x y : List ℕ) → x ≡ o ++ a → y ≡ x ++ b → y ≡ o ++ (a ++ b)
written_two o a b x y e h = h ∙ (ap (λ k. k ++ b) e ∙ append_assoc o a b)

pub written_four : (o a b c d x y z w : List ℕ) → x ≡ o ++ a → y ≡ x ++ b → z ≡ y ++ c → w ≡ z ++ d → w ≡ o ++ (((a ++ b) ++ c) ++ d)
written_four o a b c d x y z w e f g h = written_two o ((a ++ b) ++ c) d z w (written_two o (a ++ b) c y z (written_two o a b x y e f) g) h
