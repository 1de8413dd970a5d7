-- One item more of a text that is written item by item.
use Rattle.std.proofs.Common.{◌≡◌, ◌≤◌, min, ℕ, zero, suc, ◌+◌, ◌<◌, List, [], ◌∷◌, ◌++◌, take, length, get_or, refl, slice_get, ap, arith, sym, ◌∙◌, Option, Some, None, append_assoc, add-one}
use Rattle.std.proofs.lemmas.List.{append-nil}
use Rattle.hr_base.specs.Texts.{Text, each_from}
use Rattle.hr_base.specs.Lists.{numbered}
use Rattle.std.specs.List.{zip}
use Rattle.hr_records.proofs.Options.{some_none}
use Rattle.std.proofs.lemmas.Slice.Zip.{length-zip}
use Rattle.std.proofs.lemmas.List.{take_all}
use Rattle.std.proofs.lemmas.List.Filters.{length-filter_more}
use Rattle.std.proofs.lemmas.Option.{slice_get-get_or, get_or_from_slice_get}
use Rattle.hr_history.specs.declared.entry.Entry.{Entry}
use Rattle.hr_run_report.specs.Report.{text_if}
use Rattle.hr_run_report.specs.Convictions.{preempted, preempts_in, is_preempt_at}

each_from-take : {X : Type 0} (text : ℕ → X → Text) (n : ℕ) (xs : List X) (i : ℕ) (x : X) → i < length xs → x ≡ get_or xs i x
    → each_from text n (take (suc i) xs) ≡ each_from text n (take i xs) ++ text (n + i) x
each_from-take text n [] i x within is = absurd (omega arith)
each_from-take text n (y ∷ xs) zero x within is =
    let here : n ≡ n + 0 = omega arith in
    append-nil (text n y) ∙ ap (λ (m : ℕ). text m y) here ∙ ap (text (n + 0)) (sym is)
each_from-take text n (y ∷ xs) (suc i) x within is =
    let there : n + 1 + i ≡ n + suc i = omega arith in
    ap (λ (rest : Text). text n y ++ rest) (each_from-take text (n + 1) xs i x (omega arith) is)
    ∙ sym (append_assoc (text n y) (each_from text (n + 1) (take i xs)) (text (n + 1 + i) x))
    ∙ ap (λ (m : ℕ). (text n y ++ each_from text (n + 1) (take i xs)) ++ text m x) there

-- items that are numbered from 1
pub each_more : {X : Type 0} (text : ℕ → X → Text) (xs : List X) (i : ℕ) (x : X) (start before now : Text) → i < length xs → x ≡ get_or xs i x
    → before ≡ start ++ each_from text 1 (take i xs) → now ≡ before ++ text (i + 1) x → now ≡ start ++ each_from text 1 (take (i + 1) xs)
each_more text xs i x start before now within is so_far written =
    let place : i + 1 ≡ 1 + i = omega arith in
    rw add-one
    (written
    ∙ ap (λ (b : Text). b ++ text (i + 1) x) so_far
    ∙ append_assoc start (each_from text 1 (take i xs)) (text (i + 1) x)
    ∙ ap (λ (m : ℕ). start ++ (each_from text 1 (take i xs) ++ text m x)) place
    ∙ ap (λ (t : Text). start ++ t) (sym (each_from-take text 1 xs i x within is)))

-- one item more, or none where there is none
pub each_next : {X : Type 0} (text : ℕ → X → Text) (n : ℕ) (xs : List X) (i : ℕ)
    → each_from text n (take (suc i) xs) ≡ each_from text n (take i xs) ++ text_if text (n + i) (slice_get xs i)
each_next text n [] zero = refl
each_next text n [] (suc i) = refl
each_next text n (x ∷ xs) zero =
    let here : n ≡ n + 0 = omega arith in
    append-nil (text n x) ∙ ap (λ (m : ℕ). text m x) here
each_next text n (x ∷ xs) (suc i) =
    let there : n + 1 + i ≡ n + suc i = omega arith in
    ap (λ (rest : Text). text n x ++ rest) (each_next text (n + 1) xs i)
    ∙ sym (append_assoc (text n x) (each_from text (n + 1) (take i xs)) (text_if text (n + 1 + i) (slice_get xs i)))
    ∙ ap (λ (m : ℕ). (text n x ++ each_from text (n + 1) (take i xs)) ++ text_if text m (slice_get xs i)) there

-- one item more of a text that goes on with it, where there is one; the items are numbered from 1
pub one_more : {X : Type 0} (text : ℕ → X → Text) (xs : List X) (i : ℕ) (start before now : Text)
    → before ≡ start ++ each_from text 1 (take i xs) → now ≡ before ++ text_if text (i + 1) (numbered xs (i + 1)) → now ≡ start ++ each_from text 1 (take (i + 1) xs)
one_more text xs i start before now so_far written =
    let place : i + 1 ≡ 1 + i = omega arith in
    let here : numbered xs (i + 1) ≡ slice_get xs i = rw add-one refl in
    rw add-one
    (written
    ∙ ap (λ (x : Option _). before ++ text_if text (i + 1) x) here
    ∙ ap (λ (b : Text). b ++ text_if text (i + 1) (slice_get xs i)) so_far
    ∙ append_assoc start (each_from text 1 (take i xs)) (text_if text (i + 1) (slice_get xs i))
    ∙ ap (λ (m : ℕ). start ++ (each_from text 1 (take i xs) ++ text_if text m (slice_get xs i))) place
    ∙ ap (λ (t : Text). start ++ t) (sym (each_next text 1 xs i)))

-- an item of two lists side by side, where both have one
pub both_there : {X Y : Type 0} (xs : List X) (ys : List Y) (i : ℕ) (x : X) (y : Y) → slice_get xs i ≡ Some x → slice_get ys i ≡ Some y → slice_get (zip xs ys) i ≡ Some (x, y)
both_there [] ys i x y here there = absurd (some_none x (sym here))
both_there (a ∷ xs) [] i x y here there = absurd (some_none y (sym there))
both_there (a ∷ xs) (b ∷ ys) zero x y here there = cc
both_there (a ∷ xs) (b ∷ ys) (suc i) x y here there = both_there xs ys i x y here there

pub first_missing : {X Y : Type 0} (xs : List X) (ys : List Y) (i : ℕ) → slice_get xs i ≡ None → slice_get (zip xs ys) i ≡ None
first_missing [] ys i gone = refl
first_missing (a ∷ xs) [] i gone = refl
first_missing (a ∷ xs) (b ∷ ys) zero gone = absurd (some_none a gone)
first_missing (a ∷ xs) (b ∷ ys) (suc i) gone = first_missing xs ys i gone

pub second_missing : {X Y : Type 0} (xs : List X) (ys : List Y) (i : ℕ) → slice_get ys i ≡ None → slice_get (zip xs ys) i ≡ None
second_missing [] ys i gone = refl
second_missing (a ∷ xs) [] i gone = refl
second_missing (a ∷ xs) (b ∷ ys) zero gone = absurd (some_none b gone)
second_missing (a ∷ xs) (b ∷ ys) (suc i) gone = second_missing xs ys i gone

-- one item more, where items are numbered from 0
pub one_more_from_0 : {X : Type 0} (text : ℕ → X → Text) (xs : List X) (i : ℕ) (start before now : Text)
    → before ≡ start ++ each_from text 0 (take i xs) → now ≡ before ++ text_if text i (slice_get xs i) → now ≡ start ++ each_from text 0 (take (i + 1) xs)
one_more_from_0 text xs i start before now so_far written =
    let place : i ≡ 0 + i = omega arith in
    rw add-one
    (written
    ∙ ap (λ (b : Text). b ++ text_if text i (slice_get xs i)) so_far
    ∙ append_assoc start (each_from text 0 (take i xs)) (text_if text i (slice_get xs i))
    ∙ ap (λ (m : ℕ). start ++ (each_from text 0 (take i xs) ++ text_if text m (slice_get xs i))) place
    ∙ ap (λ (t : Text). start ++ t) (sym (each_next text 0 xs i)))

-- one entry more
pub preempted_more : (r : ℕ) (entries : List Entry) (i : ℕ) (o : Option Entry) → slice_get entries i ≡ o → i < length entries
    → preempted r (take (i + 1) entries) ≡ preempted r (take i entries) + preempts_in r o
preempted_more r [] i o is within = absurd (omega arith)
preempted_more r (e ∷ entries) i None is within = absurd (some_none (get_or (e ∷ entries) i e) (sym (slice_get-get_or (e ∷ entries) i e within) ∙ is))
preempted_more r (e ∷ entries) i (Some x) is within =
    length-filter_more (λ (y : Entry). is_preempt_at r y.event) (e ∷ entries) i x within
    ∙ ap (λ (y : Entry). preempted r (take i (e ∷ entries)) + preempts_in r (Some y)) (get_or_from_slice_get (e ∷ entries) i x x is)

-- all of two lists side by side
pub all_there : {X Y : Type 0} (xs : List X) (ys : List Y) (n : ℕ) → length xs ≤ n → take n (zip xs ys) ≡ zip xs ys
all_there xs ys n le =
    let size : length (zip xs ys) ≡ min (length xs) (length ys) = length-zip xs ys in
    take_all n (zip xs ys) (omega arith)

-- nothing more is written where there is no item
pub none_written : {X : Type 0} (text : ℕ → X → Text) (n : ℕ) (o : Option X) (start : Text) → o ≡ None → start ≡ start ++ text_if text n o
none_written text n o start is = sym (append-nil start) ∙ ap (λ (x : Option _). start ++ text_if text n x) (sym is)
