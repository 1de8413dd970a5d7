-- What two calls in a row do to the bytes of a source or a sink.
use Rattle.std.proofs.Common.{◌≡◌, ◌≤◌, ◌+◌, ◌-◌, ℕ, List, ◌++◌, length, take, drop, Option, Some, None, arith, append_assoc, ap}
use Rattle.std.specs.Io.KnownBytes.{Appends}
use Rattle.std.proofs.Math.Seq.{take-add, take-append_seam}
use Rattle.std.proofs.lemmas.List.{take_rest, take-append-drop, drop-drop}
use Rattle.std.proofs.lemmas.Grind.{common_steps}

-- bytes appended twice are appended
pub Appends_twice : (a b c : Option (List ℕ)) (xs ys : List ℕ) → Appends a b xs → Appends b c ys → Appends a c (xs ++ ys)
Appends_twice None b c xs ys p q = tt
Appends_twice (Some a) None c xs ys p q = absurd p
Appends_twice (Some a) (Some b) None xs ys p q = absurd q
Appends_twice (Some a) (Some b) (Some c) xs ys p q = cc (append_assoc a xs ys)

-- the front of a text and then some of its rest is a longer front
pub Appends_front : (a b c : Option (List ℕ)) (text : List ℕ) (done n : ℕ)
    → Appends a b (take done text) → Appends b c (take n (take (length text - done) (drop done text))) → Appends a c (take (done + n) text)
Appends_front a b c text done n p q =
    rw take-add (Appends_twice a b c _ _ p (rw (take_rest text done) at q))

-- what lies from a place on is the next n bytes, put over the front of a buffer, and then the rest
pub next_bytes : (at n : ℕ) (all left moved rest : List ℕ) → left ≡ drop at all → moved ≡ take (at + n - at) (drop at all) → at + n ≤ length all
    → left ≡ take n (moved ++ rest) ++ drop (at + n) all
next_bytes at n all left moved rest is_left is_moved fits =
    let same : at + n - at ≡ n = omega arith in
    let count : length (take n (drop at all)) ≡ n = grind (arith, common_steps) in
    let given : moved ≡ take n (drop at all) = rw same at is_moved in
    let seam : take n (take n (drop at all) ++ rest) ≡ take n (drop at all) = rw count at (take-append_seam (take n (drop at all)) rest) in
    cc (ap (λ xs. take n (xs ++ rest)) given, seam, take-append-drop n (drop at all), drop-drop n at all)
