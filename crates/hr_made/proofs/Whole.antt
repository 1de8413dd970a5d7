-- What the generator makes is a scenario.
use Rattle.std.proofs.Common.{◌≡◌, ◌≤◌, ◌+◌, ◌*◌, ◌/◌, ℕ, suc, Bool, true, false, nat_lt, nat_le, List, [], ◌∷◌, ◌++◌, length, Result, Ok, Err, codes, refl, sym, ◌∙◌, ap, subst, arith}
use Rattle.std.specs.List.{flat_map, range_with_len, list_all}
use Rattle.std.specs.Fmt.{decimal, digits}
use Rattle.std.proofs.Math.Nat.{suc-mul, mul-add, mul_assoc, div-le_self}
use Rattle.std.proofs.lemmas.Bool.{and_parts}
use Rattle.std.proofs.lemmas.Bool.Decides.{nat_tests}
use Rattle.std.proofs.lemmas.Fmt.{length-decimal-le}
use Rattle.std.proofs.lemmas.List.{length-append, append-nil}
use Rattle.std.proofs.lemmas.List.FromFn.{length-range_with_len}
use Rattle.hr_base.specs.Bytes.{is_printable}
use Rattle.hr_base.specs.Lists.{one_to}
use Rattle.hr_base.specs.Texts.{Text, line}
use Rattle.hr_said.specs.declared.said.Said.{Said}
use Rattle.hr_said.specs.declared.said.Inside.TheVariants as inside
use Rattle.hr_said.specs.declared.error.InputKind.{InputKind}
use Rattle.hr_said.specs.declared.scenario.Scenario.{Scenario}
use Rattle.hr_said.specs.Said.{nothing, scenario}
use Rattle.hr_said.specs.Outcomes.{goes_on}
use Rattle.hr_reader.specs.Reading.{line_says, whole, read_lines, scenario_of}
use Rattle.hr_lines.specs.Lines.{lines_of}
use Rattle.hr_generator.specs.declared.order.Order.{Order}
use Rattle.hr_generator.specs.declared.draws.Transfer.{Transfer}
use Rattle.hr_generator.specs.Draws.{state_after, transfer_behind}
use Rattle.hr_generator.specs.Orders.{IsOrder}
use Rattle.hr_generator.specs.Made.{head_text, row_text, giving_text, getting_text, reading_text, transfer_text, numbered_text, transfers_behind, session_behind, session_text, rounds_text, schedule_text, made}
use Rattle.hr_made.proofs.Base.{all_say, base_lines, base_said, base, starts}
use Rattle.hr_made.proofs.Lines.{Goes, goes_nowhere, goes_line, goes_both}
use Rattle.hr_made.proofs.Sessions.{outside, sessions_read, drawn_small, giving_is, getting_is, read_is, giving_line, getting_line}
use Rattle.hr_made.proofs.Spelling.{change_text, look_text}
use Rattle.hr_made.proofs.Statements.{look_line}
use Rattle.hr_made.proofs.Schedule.{schedule_read}

-- ---- what is said before the sessions

-- lines whose saying is known
lines_go : (ts : List Text) (said next : Said) → all_say said ts ≡ Ok next → list_all (λ t. list_all is_printable t) ts ≡ true → Goes said (flat_map line ts) next
lines_go [] said next is all = let same : said ≡ next = cc in subst (λ z. Goes said [] z) same (goes_nowhere said)
lines_go (t ∷ ts) said next is all =
    let k = and_parts (list_all is_printable t) (list_all (λ t. list_all is_printable t) ts) all in
    let by : (o : Result Said InputKind) → line_says said t ≡ o → goes_on o (λ then. all_say then ts) ≡ Ok next → Goes said (flat_map line (t ∷ ts)) next
    = λ o. elim o as (λ (o : Result Said InputKind). line_says said t ≡ o → goes_on o (λ then. all_say then ts) ≡ Ok next → Goes said (flat_map line (t ∷ ts)) next) [
      | Ok then ↦ λ e rest. goes_both said then next (line t) (flat_map line ts) (goes_line said then t k.0 e) (lines_go ts then next rest k.1)
      | Err why ↦ λ e rest. absurd (cc)
    ] in
    by (line_says said t) refl is

head_is : head_text ++ flat_map row_text (one_to 100) ≡ flat_map line (base_lines 100)
unfolding head_text row_text digits
head_is = refl

head_printed : list_all (λ t. list_all is_printable t) (base_lines 100) ≡ true
unfolding digits
head_printed = refl

pub head_goes : Goes nothing (head_text ++ flat_map row_text (one_to 100)) base
head_goes = subst (λ z. Goes nothing z base) (sym head_is) (lines_go (base_lines 100) nothing base base_said head_printed)

-- ---- how long the text is

flat_short : (f : ℕ → Text) (c : ℕ) → ((j : ℕ) → length (f j) ≤ c) → (js : List ℕ) → length (flat_map f js) ≤ length js * c
flat_short f c each [] = omega arith
flat_short f c each (j ∷ js) =
    let k : length (flat_map f (j ∷ js)) ≡ length (f j) + length (flat_map f js) = length-append (f j) (flat_map f js) in
    let step : suc (length js) * c ≡ length js * c + c = suc-mul (length js) c in
    omega (arith, k, step, each j, flat_short f c each js)

line_length : (t : Text) → length (line t) ≡ length t + 1
line_length t = length-append t (10 ∷ [])

numbered_short : (x j : ℕ) → length (numbered_text x j) ≤ 190
unfolding transfer_text
numbered_short x j =
    let t : Transfer = transfer_behind (state_after x (4 * j)) in
    let few = drawn_small (state_after x (4 * j)) in
    let a : length (giving_text t.amount t.from) ≤ 61 = rw (giving_is t.amount t.from) (omega (arith, line_length (change_text (codes "-") t.amount t.from), (giving_line t.amount t.from (omega (arith, few.amount)) (omega (arith, few.from))).short)) in
    let b : length (getting_text t.amount t.to) ≤ 61 = rw (getting_is t.amount t.to) (omega (arith, line_length (change_text (codes "+") t.amount t.to), (getting_line t.amount t.to (omega (arith, few.amount)) (omega (arith, few.to))).short)) in
    let c : (e : Bool) → length (reading_text e t.from) ≤ 61 = λ e. elim e as (λ (e : Bool). length (reading_text e t.from) ≤ 61) [
      | true ↦ rw (read_is t.from (t.from + 9)) (omega (arith, line_length (look_text t.from (t.from + 9)), (look_line t.from (t.from + 9) (omega (arith, few.from)) (omega (arith, few.from))).short))
      | false ↦ omega arith
    ] in
    let g : Text = giving_text t.amount t.from in
    let h : Text = getting_text t.amount t.to in
    let i : Text = reading_text t.reads t.from in
    let k : length (g ++ h ++ i ++ line (codes "COMMIT")) ≡ length (g ++ h ++ i) + 7 = length-append (g ++ h ++ i) (line (codes "COMMIT")) in
    let l : length (g ++ h ++ i) ≡ length (g ++ h) + length i = length-append (g ++ h) i in
    let m : length (g ++ h) ≡ length g + length h = length-append g h in
    omega (arith, a, b, c t.reads, k, l, m)

session_short : (order : Order) (s : ℕ) → length (session_text order s) ≤ 12 + order.transactions * 190
unfolding session_behind transfers_behind
session_short order s =
    let x : ℕ = state_after order.seed (4 * (s * order.transactions)) in
    let js : List ℕ = range_with_len 0 order.transactions in
    let texts : Text = flat_map (numbered_text x) js in
    let many : length js ≡ order.transactions = length-range_with_len 0 order.transactions in
    let short : length texts ≤ order.transactions * 190 = subst (λ n. length texts ≤ n * 190) many (flat_short (numbered_text x) 190 (numbered_short x) js) in
    let k : length (line (codes "session") ++ texts ++ line (codes "end")) ≡ length (line (codes "session") ++ texts) + 4 = length-append (line (codes "session") ++ texts) (line (codes "end")) in
    let j : length (line (codes "session") ++ texts) ≡ 8 + length texts = length-append (line (codes "session")) texts in
    omega (arith, short, k, j)

schedule_short : (k : ℕ) → length (schedule_text k) ≤ 40
unfolding schedule_text rounds_text
schedule_short k =
    let r : ℕ = 200000 / (k + 3) in
    let most : r ≤ 200000 = div-le_self 200000 (k + 3) in
    let d : length (decimal r) ≤ 6 = length-decimal-le 6 r (omega arith) (omega (arith, most)) (omega (arith, most)) in
    let a : Text = codes "rounds " ++ decimal r in
    let j : length a ≡ 7 + length (decimal r) = length-append (codes "rounds ") (decimal r) in
    let l : length (line a) ≡ length a + 1 = line_length a in
    let m : length (line (codes "schedule") ++ line a) ≡ 9 + length (line a) = length-append (line (codes "schedule")) (line a) in
    let n : length (line (codes "schedule") ++ line a ++ line (codes "end")) ≡ length (line (codes "schedule") ++ line a) + 4 = length-append (line (codes "schedule") ++ line a) (line (codes "end")) in
    omega (arith, d, j, l, m, n)

head_size : nat_le (length (flat_map line (base_lines 100))) 5000 ≡ true
unfolding digits
head_size = refl

head_short : length (head_text ++ flat_map row_text (one_to 100)) ≤ 5000
head_short = rw head_is (grind (arith, nat_tests, head_size))

-- ---- the whole text

-- 333 transactions of sessions that are no more than 64
few_bytes : (s t : ℕ) → s ≤ 64 → s * t ≤ 333 → s * (12 + t * 190) ≤ 64038
few_bytes s t few all =
    let a : s * (12 + t * 190) ≡ s * 12 + s * (t * 190) = mul-add s 12 (t * 190) in
    let b : s * (t * 190) ≡ s * t * 190 = sym (mul_assoc s t 190) in
    omega (arith, a, b, few, all)

few_statements : (s t : ℕ) → s * t ≤ 333 → s * (3 * t) ≤ 999
few_statements s t all =
    let a : 3 * t ≡ t * 3 = omega arith in
    let b : s * (t * 3) ≡ s * t * 3 = sym (mul_assoc s t 3) in
    let c : s * (3 * t) ≡ s * (t * 3) = ap (λ z. s * z) a in
    omega (arith, b, c, all)

ends_whole : (said : Said) (n : ℕ) → said.part ≡ 8 → said.inside ≡ inside.Outside → whole said n ≡ Ok (scenario said)
ends_whole said n part out = rw (part, out) refl

pub made_is : (order : Order) → IsOrder order → (sc : Scenario) × (scenario_of (made order) ≡ Ok sc)
made_is order within =
    let ss : List ℕ = range_with_len 0 order.sessions in
    let many : length ss ≡ order.sessions = length-range_with_len 0 order.sessions in
    let head : Text = head_text ++ flat_map row_text (one_to 100) in
    let texts : Text = flat_map (session_text order) ss in
    let statements : length ss * (3 * order.transactions) ≤ 999 = rw many (few_statements order.sessions order.transactions within.all) in
    let s = sessions_read base starts.catalog starts.retries order ss 5 0 [] refl refl (omega (arith, many, within.sessions)) (omega (arith, statements)) in
    let count : length s.all ≡ order.sessions = omega (arith, s.many, many) in
    let d = schedule_read (outside base starts.catalog starts.retries s.last s.statements s.all) order.sessions s.stands refl count starts.replicas starts.choices within.sessions in
    let first : Goes nothing (head ++ texts) (outside base starts.catalog starts.retries s.last s.statements s.all) = goes_both nothing (outside base starts.catalog starts.retries 5 0 []) (outside base starts.catalog starts.retries s.last s.statements s.all) head texts (subst (λ z. Goes nothing head z) starts.whole head_goes) s.goes in
    let all : Goes nothing (made order) d.next = goes_both nothing (outside base starts.catalog starts.retries s.last s.statements s.all) d.next (head ++ texts) (schedule_text order.sessions) first d.goes in
    let bytes : length texts ≤ 64038 =
    let k : length texts ≤ length ss * (12 + order.transactions * 190) = flat_short (session_text order) (12 + order.transactions * 190) (session_short order) ss in
    let j : length ss * (12 + order.transactions * 190) ≡ order.sessions * (12 + order.transactions * 190) = ap (λ n. n * (12 + order.transactions * 190)) many in
    omega (arith, k, j, few_bytes order.sessions order.transactions within.sessions within.all) in
    let size : length (made order) ≤ 1048576 =
    let k : length (head ++ texts ++ schedule_text order.sessions) ≡ length (head ++ texts) + length (schedule_text order.sessions) = length-append (head ++ texts) (schedule_text order.sessions) in
    let j : length (head ++ texts) ≡ length head + length texts = length-append head texts in
    omega (arith, k, j, bytes, head_short, schedule_short order.sessions) in
    let fits : nat_lt 1048576 (length (made order)) ≡ false = grind (arith, nat_tests, size) in
    let read : read_lines nothing 0 (lines_of (made order)) ≡ Ok (scenario d.next) =
    ap (λ z. read_lines nothing 0 (lines_of z)) (sym (append-nil (made order))) ∙ all.goes 0 [] ∙ ends_whole d.next (0 + all.lines) d.last d.outside in
    (scenario d.next, rw fits read)
