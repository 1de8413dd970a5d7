-- The sessions that are made are read, one after another.
use Rattle.std.proofs.Common.{◌≡◌, ◌≤◌, ◌<◌, ◌+◌, ◌*◌, ℕ, suc, Bool, true, false, nat_lt, nat_le, List, [], ◌∷◌, ◌++◌, length, Ok, codes, refl, sym, ◌∙◌, ap, subst, arith, append_assoc}
use Rattle.std.specs.List.{flat_map, range_with_len}
use Rattle.std.specs.Fmt.{decimal}
use Rattle.std.proofs.lemmas.Bool.Decides.{nat_tests}
use Rattle.std.proofs.lemmas.List.{length-append}
use Rattle.std.proofs.lemmas.List.FromFn.{length-range_with_len}
use Rattle.std.proofs.Math.Nat.{suc-mul}
use Rattle.hr_base.specs.Texts.{Text, line}
use Rattle.hr_line.specs.Words.{only}
use Rattle.hr_forms.specs.Headings.{heading_of}
use Rattle.hr_parse.specs.Grammar.{OneOf}
use Rattle.hr_parse.specs.Trees.{sum, difference}
use Rattle.hr_parse.specs.declared.word.Mark.TheVariants as m
use Rattle.hr_parse.specs.declared.word.Sign.TheVariants as sg
use Rattle.hr_parse.specs.declared.word.Word.TheVariants as w
use Rattle.hr_print.proofs.Spelled.{says_before}
use Rattle.hr_print.proofs.SaidSigns.{said_plus, said_minus}
use Rattle.hr_said.specs.declared.said.Said.{Said}
use Rattle.hr_said.specs.declared.said.Session.{Session}
use Rattle.hr_said.specs.declared.said.Inside.TheVariants as inside
use Rattle.hr_said.specs.declared.scenario.Block.{Block}
use Rattle.hr_said.specs.Said.{no_blocks}
use Rattle.hr_said.specs.Limits.{may_stand}
use Rattle.hr_said.specs.Outcomes.{goes_on}
use Rattle.hr_sessions.specs.Sessions.{statement_in, with_statement, add_statement, ended}
use Rattle.hr_reader.specs.Reading.{line_says}
use Rattle.hr_generator.specs.declared.draws.Transfer.{Transfer}
use Rattle.hr_generator.specs.Draws.{transfer_behind, state_after}
use Rattle.hr_generator.specs.declared.order.Order.{Order}
use Rattle.hr_generator.specs.Made.{giving_text, getting_text, read_text, reading_text, transfer_text, numbered_text, transfers_behind, session_behind, session_text}
use Rattle.hr_made.proofs.Binding.{accounts, sums, differences}
use Rattle.hr_made.proofs.Spelling.{change_text, look_text}
use Rattle.hr_made.proofs.Statements.{IsLine, change_line, look_line}
use Rattle.hr_made.proofs.Lines.{Goes, goes_nowhere, goes_line, goes_both}

-- ---- the lines of a transfer

in_one : (p d q a n : Text) → (p ++ d) ++ (q ++ a ++ n) ≡ (p ++ (d ++ (q ++ a))) ++ n
in_one p d q a n = sym (append_assoc (p ++ d) (q ++ a) n) ∙ ap (λ z. z ++ n) (append_assoc p d (q ++ a))

pub giving_is : (amount from : ℕ) → giving_text amount from ≡ line (change_text (codes "-") amount from)
unfolding giving_text
giving_is amount from = in_one (codes "UPDATE acct SET bal = bal - ") (decimal amount) (codes " WHERE id = ") (decimal from) (10 ∷ [])

pub getting_is : (amount to : ℕ) → getting_text amount to ≡ line (change_text (codes "+") amount to)
unfolding getting_text
getting_is amount to = in_one (codes "UPDATE acct SET bal = bal + ") (decimal amount) (codes " WHERE id = ") (decimal to) (10 ∷ [])

pub read_is : (from last : ℕ) → read_text from last ≡ line (look_text from last)
unfolding read_text
read_is from last = in_one (codes "SELECT bal FROM acct WHERE id BETWEEN ") (decimal from) (codes " AND ") (decimal last) (10 ∷ [])

pub giving_line : (amount account : ℕ) → amount < 1000 → account < 1000 → IsLine (change_text (codes "-") amount account)
giving_line amount account few low =
    change_line (codes "-") (m.Sign sg.Minus) difference amount account (says_before (codes "-") (w.Fixed (m.Sign sg.Minus) ∷ []) said_minus) (OneOf.there OneOf.here) differences refl (omega arith) few low

pub getting_line : (amount account : ℕ) → amount < 1000 → account < 1000 → IsLine (change_text (codes "+") amount account)
getting_line amount account few low =
    change_line (codes "+") (m.Sign sg.Plus) sum amount account (says_before (codes "+") (w.Fixed (m.Sign sg.Plus) ∷ []) said_plus) OneOf.here sums refl (omega arith) few low

-- what is drawn is small
pub record IsSmall (t : Transfer) : Type 0 where
  pub from : t.from ≤ 100
  pub to : t.to ≤ 100
  pub amount : t.amount ≤ 50

pub drawn_small : (x : ℕ) → IsSmall (transfer_behind x)
unfolding transfer_behind
drawn_small x = record { from = omega arith; to = omega arith; amount = omega arith }

-- ---- what is said within a session

module _ (base : Said) (catalog : base.catalog ≡ accounts) (retries : base.retries ≡ 3) where
  -- outside of sessions, behind a line of a part, with these scripts and so many statements
  abbrev pub outside : ℕ → ℕ → List (List Block) → Said
  outside part n scripts = record base { part = part; inside = inside.Outside; scripts = scripts; session = no_blocks; statements = n }

  abbrev within : ℕ → List (List Block) → Session → Said
  within n scripts session = record base { part = 7; inside = inside.Session; scripts = scripts; session = session; statements = n }

  -- between two transactions
  abbrev between : ℕ → List (List Block) → List Block → Said
  between n scripts blocks = within n scripts (record { blocks = blocks; stmts = []; texts = []; is_begun = false })

  statement_says : (t : Text) (l : IsLine t) (n : ℕ) (scripts : List (List Block)) (session : Session) → length session.stmts < 100 → n < 1000
      → line_says (within n scripts session) t ≡ Ok (within (n + 1) scripts (with_statement session l.read.0))
  unfolding line_says
  statement_says t l n scripts session short few =
      let said : Said = within n scripts session in
      let e : nat_le 100 (length session.stmts) ≡ false = grind (arith, nat_tests, short) in
      let k : (n + 1) * (base.retries + 1) ≡ (n + 1) * 4 = ap (λ r. (n + 1) * (r + 1)) retries in
      let under : (n + 1) * 4 ≤ 4000 = omega arith in
      let f : nat_lt 4000 ((n + 1) * (base.retries + 1)) ≡ false = rw k (grind (arith, nat_tests, under)) in
      rw (l.content, l.said, l.is, e, f)
      (ap (λ c. goes_on (statement_in c t) (λ read. add_statement said read)) catalog ∙ ap (λ z. goes_on z (λ read. add_statement said read)) l.read.1)

  commit_says : (n : ℕ) (scripts : List (List Block)) (session : Session) → line_says (within n scripts session) (codes "COMMIT") ≡ Ok (within n scripts (ended session true))
  unfolding line_says only
  commit_says n scripts session = refl

  end_says : (n : ℕ) (scripts : List (List Block)) (blocks : List Block) → line_says (between n scripts blocks) (codes "end") ≡ Ok (outside 7 n (scripts ++ blocks ∷ []))
  unfolding line_says
  end_says n scripts blocks = refl

  -- a line of a statement, the next of its transaction
  statement_goes : (t : Text) (l : IsLine t) (n : ℕ) (scripts : List (List Block)) (session : Session) → length session.stmts < 100 → n < 1000
      → Goes (within n scripts session) (line t) (within (n + 1) scripts (with_statement session l.read.0))
  statement_goes t l n scripts session short few =
      goes_line (within n scripts session) (within (n + 1) scripts (with_statement session l.read.0)) t l.printed (statement_says t l n scripts session short few)

  -- so many statements at most, in further transactions
  pub record Steps (text : Text) (most n : ℕ) (scripts : List (List Block)) (blocks : List Block) : Type 0 where
    used : ℕ
    few : used ≤ most
    after : List Block
    goes : Goes (between n scripts blocks) text (between (n + used) scripts after)

  pub transfer_steps : (t : Transfer) (reads : Bool) (n : ℕ) (scripts : List (List Block)) (blocks : List Block) → IsSmall t → n + 3 ≤ 1000
      → Steps (giving_text t.amount t.from ++ getting_text t.amount t.to ++ reading_text reads t.from ++ line (codes "COMMIT")) 3 n scripts blocks
  transfer_steps t reads n scripts blocks few room =
      let start : Session = record { blocks = blocks; stmts = []; texts = []; is_begun = false } in
      let a = giving_line t.amount t.from (omega (arith, few.amount)) (omega (arith, few.from)) in
      let b = getting_line t.amount t.to (omega (arith, few.amount)) (omega (arith, few.to)) in
      let one : Session = with_statement start a.read.0 in
      let two : Session = with_statement one b.read.0 in
      let first : Goes (within n scripts start) (giving_text t.amount t.from) (within (n + 1) scripts one) =
      subst (λ z. Goes (within n scripts start) z (within (n + 1) scripts one)) (sym (giving_is t.amount t.from)) (statement_goes (change_text (codes "-") t.amount t.from) a n scripts start (omega arith) (omega (arith, room))) in
      let second : Goes (within (n + 1) scripts one) (getting_text t.amount t.to) (within (n + 1 + 1) scripts two) =
      subst (λ z. Goes (within (n + 1) scripts one) z (within (n + 1 + 1) scripts two)) (sym (getting_is t.amount t.to)) (statement_goes (change_text (codes "+") t.amount t.to) b (n + 1) scripts one (omega arith) (omega (arith, room))) in
      let both = goes_both (within n scripts start) (within (n + 1) scripts one) (within (n + 1 + 1) scripts two) (giving_text t.amount t.from) (getting_text t.amount t.to) first second in
      let by : (e : Bool) → Steps (giving_text t.amount t.from ++ getting_text t.amount t.to ++ reading_text e t.from ++ line (codes "COMMIT")) 3 n scripts blocks
      = λ e. elim e as (λ (e : Bool). Steps (giving_text t.amount t.from ++ getting_text t.amount t.to ++ reading_text e t.from ++ line (codes "COMMIT")) 3 n scripts blocks) [
        | true ↦
            let c = look_line t.from (t.from + 9) (omega (arith, few.from)) (omega (arith, few.from)) in
            let three : Session = with_statement two c.read.0 in
            let third : Goes (within (n + 1 + 1) scripts two) (read_text t.from (t.from + 9)) (within (n + 1 + 1 + 1) scripts three) =
            subst (λ z. Goes (within (n + 1 + 1) scripts two) z (within (n + 1 + 1 + 1) scripts three)) (sym (read_is t.from (t.from + 9))) (statement_goes (look_text t.from (t.from + 9)) c (n + 1 + 1) scripts two (omega arith) (omega (arith, room))) in
            let all = goes_both (within n scripts start) (within (n + 1 + 1) scripts two) (within (n + 1 + 1 + 1) scripts three) (giving_text t.amount t.from ++ getting_text t.amount t.to) (read_text t.from (t.from + 9)) both third in
            let done = goes_both (within n scripts start) (within (n + 1 + 1 + 1) scripts three) (within (n + 1 + 1 + 1) scripts (ended three true)) (giving_text t.amount t.from ++ getting_text t.amount t.to ++ read_text t.from (t.from + 9)) (line (codes "COMMIT"))
            all (goes_line (within (n + 1 + 1 + 1) scripts three) (within (n + 1 + 1 + 1) scripts (ended three true)) (codes "COMMIT") refl (commit_says (n + 1 + 1 + 1) scripts three)) in
            let far : n + 1 + 1 + 1 ≡ n + 3 = omega arith in
            record {
              used = 3;
              few = omega arith;
              after = (ended three true).blocks;
              goes = subst (λ k. Goes (between n scripts blocks) (giving_text t.amount t.from ++ getting_text t.amount t.to ++ read_text t.from (t.from + 9) ++ line (codes "COMMIT")) (within k scripts (ended three true))) far done;
            }
        | false ↦
            let none = goes_both (within n scripts start) (within (n + 1 + 1) scripts two) (within (n + 1 + 1) scripts two) (giving_text t.amount t.from ++ getting_text t.amount t.to) [] both (goes_nowhere (within (n + 1 + 1) scripts two)) in
            let done = goes_both (within n scripts start) (within (n + 1 + 1) scripts two) (within (n + 1 + 1) scripts (ended two true)) (giving_text t.amount t.from ++ getting_text t.amount t.to ++ []) (line (codes "COMMIT"))
            none (goes_line (within (n + 1 + 1) scripts two) (within (n + 1 + 1) scripts (ended two true)) (codes "COMMIT") refl (commit_says (n + 1 + 1) scripts two)) in
            let far : n + 1 + 1 ≡ n + 2 = omega arith in
            record {
              used = 2;
              few = omega arith;
              after = (ended two true).blocks;
              goes = subst (λ k. Goes (between n scripts blocks) (giving_text t.amount t.from ++ getting_text t.amount t.to ++ [] ++ line (codes "COMMIT")) (within k scripts (ended two true))) far done;
            }
      ] in
      by reads

  -- ---- transactions one after another

  transfer_text_is : (t : Transfer) → transfer_text t ≡ giving_text t.amount t.from ++ getting_text t.amount t.to ++ reading_text t.reads t.from ++ line (codes "COMMIT")
  unfolding transfer_text
  transfer_text_is t = refl

  numbered_steps : (x j n : ℕ) (scripts : List (List Block)) (blocks : List Block) → n + 3 ≤ 1000 → Steps (numbered_text x j) 3 n scripts blocks
  numbered_steps x j n scripts blocks room =
      let t : Transfer = transfer_behind (state_after x (4 * j)) in
      subst (λ z. Steps z 3 n scripts blocks) (sym (transfer_text_is t)) (transfer_steps t t.reads n scripts blocks (drawn_small (state_after x (4 * j))) room)

  steps_more : (a b : Text) (p q n : ℕ) (scripts : List (List Block)) (blocks : List Block) (s : Steps a p n scripts blocks) → Steps b q (n + s.used) scripts s.after → Steps (a ++ b) (p + q) n scripts blocks
  steps_more a b p q n scripts blocks s r =
      let far : n + s.used + r.used ≡ n + (s.used + r.used) = omega arith in
      record {
        used = s.used + r.used;
        few = omega (arith, s.few, r.few);
        after = r.after;
        goes = subst (λ k. Goes (between n scripts blocks) (a ++ b) (between k scripts r.after)) far
            (goes_both (between n scripts blocks) (between (n + s.used) scripts s.after) (between (n + s.used + r.used) scripts r.after) a b s.goes r.goes);
      }

  numbered_all : (x : ℕ) (js : List ℕ) (n : ℕ) (scripts : List (List Block)) (blocks : List Block) → n + 3 * length js ≤ 1000 → Steps (flat_map (numbered_text x) js) (3 * length js) n scripts blocks
  numbered_all x [] n scripts blocks room =
      let same : n ≡ n + 0 = omega arith in
      record { used = 0; few = omega arith; after = blocks; goes = subst (λ k. Goes (between n scripts blocks) [] (between k scripts blocks)) same (goes_nowhere (between n scripts blocks)) }
  numbered_all x (j ∷ js) n scripts blocks room =
      let first = numbered_steps x j n scripts blocks (omega (arith, room)) in
      let others = numbered_all x js (n + first.used) scripts first.after (omega (arith, room, first.few)) in
      let most : 3 + 3 * length js ≡ 3 * length (j ∷ js) = omega arith in
      subst (λ k. Steps (flat_map (numbered_text x) (j ∷ js)) k n scripts blocks) most
      (steps_more (numbered_text x j) (flat_map (numbered_text x) js) 3 (3 * length js) n scripts blocks first others)

  -- ---- sessions

  session_says : (part n : ℕ) (scripts : List (List Block)) → may_stand part 7 ≡ true → length scripts < 64 → line_says (outside part n scripts) (codes "session") ≡ Ok (between n scripts [])
  unfolding line_says heading_of only
  session_says part n scripts stands room =
      let e : nat_le 64 (length scripts) ≡ false = grind (arith, nat_tests, room) in
      rw (stands, e) refl

  -- a session was read: a script more, and so many statements at most
  pub record ReadSession (text : Text) (most part n : ℕ) (scripts : List (List Block)) : Type 0 where
    used : ℕ
    few : used ≤ most
    script : List Block
    goes : Goes (outside part n scripts) text (outside 7 (n + used) (scripts ++ script ∷ []))

  session_read : (x count part n : ℕ) (scripts : List (List Block)) → may_stand part 7 ≡ true → length scripts < 64 → n + 3 * count ≤ 1000 → ReadSession (session_behind x count) (3 * count) part n scripts
  unfolding session_behind transfers_behind
  session_read x count part n scripts stands room few =
      let js : List ℕ = range_with_len 0 count in
      let many : length js ≡ count = length-range_with_len 0 count in
      let s = numbered_all x js n scripts [] (omega (arith, few, many)) in
      let texts : Text = flat_map (numbered_text x) js in
      let opened = goes_line (outside part n scripts) (between n scripts []) (codes "session") refl (session_says part n scripts stands room) in
      let filled = goes_both (outside part n scripts) (between n scripts []) (between (n + s.used) scripts s.after) (line (codes "session")) texts opened s.goes in
      let closed = goes_line (between (n + s.used) scripts s.after) (outside 7 (n + s.used) (scripts ++ s.after ∷ [])) (codes "end") refl (end_says (n + s.used) scripts s.after) in
      record {
        used = s.used;
        few = omega (arith, s.few, many);
        script = s.after;
        goes = goes_both (outside part n scripts) (between (n + s.used) scripts s.after) (outside 7 (n + s.used) (scripts ++ s.after ∷ [])) (line (codes "session") ++ texts) (line (codes "end")) filled closed;
      }

  -- all sessions were read
  pub record ReadSessions (text : Text) (count part n : ℕ) (scripts : List (List Block)) : Type 0 where
    pub last : ℕ
    pub stands : may_stand last 8 ≡ true
    pub statements : ℕ
    pub all : List (List Block)
    pub many : length all ≡ length scripts + count
    pub goes : Goes (outside part n scripts) text (outside last statements all)

  pub sessions_read : (order : Order) (ss : List ℕ) (part n : ℕ) (scripts : List (List Block)) → may_stand part 7 ≡ true → may_stand part 8 ≡ true → length scripts + length ss ≤ 64
      → n + length ss * (3 * order.transactions) ≤ 1000 → ReadSessions (flat_map (session_text order) ss) (length ss) part n scripts
  sessions_read order [] part n scripts stands last room few =
      record { last = part; stands = last; statements = n; all = scripts; many = omega arith; goes = goes_nowhere (outside part n scripts) }
  sessions_read order (s ∷ ss) part n scripts stands last room few =
      let t : ℕ = 3 * order.transactions in
      let step : suc (length ss) * t ≡ length ss * t + t = suc-mul (length ss) t in
      let x : ℕ = state_after order.seed (4 * (s * order.transactions)) in
      let first = session_read x order.transactions part n scripts stands (omega (arith, room)) (omega (arith, few, step)) in
      let more : List (List Block) = scripts ++ first.script ∷ [] in
      let count : length more ≡ length scripts + 1 = length-append scripts (first.script ∷ []) in
      let others = sessions_read order ss 7 (n + first.used) more refl refl (omega (arith, room, count)) (omega (arith, few, step, first.few)) in
      record {
        last = others.last;
        stands = others.stands;
        statements = others.statements;
        all = others.all;
        many = omega (arith, others.many, count);
        goes = goes_both (outside part n scripts) (outside 7 (n + first.used) more) (outside others.last others.statements others.all) (session_text order s) (flat_map (session_text order) ss) first.goes others.goes;
      }
