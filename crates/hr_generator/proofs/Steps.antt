-- One item more of a text that is written item by item, and draws behind draws.
use Rattle.std.specs.Prelude.{OnOk}
use Rattle.std.proofs.Common.{◌≡◌, Result, Ok, Err, ℕ, zero, suc, ◌+◌, ◌*◌, ◌++◌, sym, ◌∙◌, ap, arith, add-one, append_assoc}
use Rattle.std.proofs.lemmas.List.{append-nil}
use Rattle.std.specs.List.{flat_map, range_with_len}
use Rattle.hr_base.specs.Texts.{Text}
use Rattle.hr_base.specs.Lists.{one_to}
use Rattle.hr_generator.specs.declared.order.Order.{Order}
use Rattle.hr_generator.specs.declared.draws.Transfer.{Transfer}
use Rattle.hr_generator.specs.Draws.{next_state, state_after, transfer_behind}
use Rattle.hr_generator.specs.Made.{row_text, transfer_text, numbered_text, transfers_behind, session_behind, session_text}

one_more : (text : ℕ → Text) (a n : ℕ) → flat_map text (range_with_len a (suc n)) ≡ flat_map text (range_with_len a n) ++ text (a + n)
one_more text a zero =
    let here : a ≡ a + 0 = omega arith in
    append-nil (text a) ∙ ap text here
one_more text a (suc n) =
    let there : a + 1 + n ≡ a + suc n = omega arith in
    ap (λ (rest : Text). text a ++ rest) (one_more text (a + 1) n)
    ∙ sym (append_assoc (text a) (flat_map text (range_with_len (a + 1) n)) (text (a + 1 + n)))
    ∙ ap (λ (m : ℕ). (text a ++ flat_map text (range_with_len (a + 1) n)) ++ text m) there

-- the items numbered from a, written one behind another
next_item : (text : ℕ → Text) (a n : ℕ) (start before now item : Text)
    → before ≡ start ++ flat_map text (range_with_len a n) → now ≡ before ++ item → item ≡ text (a + n)
    → now ≡ start ++ flat_map text (range_with_len a (n + 1))
next_item text a n start before now item was is same =
    is ∙ ap (λ (t : Text). t ++ item) was ∙ ap (λ (t : Text). (start ++ flat_map text (range_with_len a n)) ++ t) same
    ∙ append_assoc start (flat_map text (range_with_len a n)) (text (a + n))
    ∙ ap (λ (t : Text). start ++ t) (sym (rw add-one (one_more text a n)))

pub row_more : (n : ℕ) (start before now : Text)
    → before ≡ start ++ flat_map row_text (one_to n) → now ≡ before ++ row_text (n + 1) → now ≡ start ++ flat_map row_text (one_to (n + 1))
row_more n start before now was is =
    let place : n + 1 ≡ 1 + n = omega arith in
    next_item row_text 1 n start before now (row_text (n + 1)) was is (ap row_text place)

-- n draws behind m draws
behind : (x m n : ℕ) → state_after (state_after x m) n ≡ state_after x (m + n)
behind x m zero =
    let here : m ≡ m + 0 = omega arith in
    ap (state_after x) here
behind x m (suc n) =
    let there : suc (m + n) ≡ m + suc n = omega arith in
    ap next_state (behind x m n) ∙ ap (state_after x) there

pub transfer_more : (x n : ℕ) (t : Transfer) (state : ℕ) (start before now : Text)
    → before ≡ start ++ transfers_behind x n → state ≡ state_after x (4 * n) → t ≡ transfer_behind state → now ≡ before ++ transfer_text t
    → now ≡ start ++ transfers_behind x (n + 1)
unfolding transfers_behind
transfer_more x n t state start before now was at drawn is =
    let place : n ≡ 0 + n = omega arith in
    next_item (numbered_text x) 0 n start before now (transfer_text t) was is
    (ap transfer_text (drawn ∙ ap transfer_behind at) ∙ ap (numbered_text x) place)

pub state_more : (x n state next : ℕ) → state ≡ state_after x (4 * n) → next ≡ state_after state 4 → next ≡ state_after x (4 * (n + 1))
state_more x n state next at is =
    let there : 4 * n + 4 ≡ 4 * (n + 1) = omega arith in
    is ∙ ap (λ (y : ℕ). state_after y 4) at ∙ behind x (4 * n) 4 ∙ ap (state_after x) there

pub session_more : (order : Order) (n state : ℕ) (start before now : Text)
    → before ≡ start ++ flat_map (session_text order) (range_with_len 0 n) → state ≡ state_after order.seed (4 * (n * order.transactions))
    → now ≡ before ++ session_behind state order.transactions → now ≡ start ++ flat_map (session_text order) (range_with_len 0 (n + 1))
session_more order n state start before now was at is =
    let place : n ≡ 0 + n = omega arith in
    next_item (session_text order) 0 n start before now (session_behind state order.transactions) was is
    (ap (λ (y : ℕ). session_behind y order.transactions) at ∙ ap (session_text order) place)

pub session_state : (x n t state next : ℕ) → state ≡ state_after x (4 * (n * t)) → next ≡ state_after state (4 * t) → next ≡ state_after x (4 * ((n + 1) * t))
session_state x n t state next at is =
    let there : 4 * (n * t) + 4 * t ≡ 4 * ((n + 1) * t) = grind arith in
    is ∙ ap (λ (y : ℕ). state_after y (4 * t)) at ∙ behind x (4 * (n * t)) (4 * t) ∙ ap (state_after x) there

-- a text that is written in two pieces
pub two_pieces : {S F : Type 0} (o : Result S F) (start was now first second : Text)
    → was ≡ start ++ first → OnOk o (now ≡ was ++ second) → OnOk o (now ≡ start ++ (first ++ second))
two_pieces (Ok x) start was now first second is next = next ∙ ap (λ (t : Text). t ++ second) is ∙ append_assoc start first second
two_pieces (Err f) start was now first second is next = tt
