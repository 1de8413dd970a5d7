-- What is read tells of blocks of the scenario, with an answer in canonical form for each of their statements.
use Rattle.std.proofs.Common.{◌≡◌, inl, inr, ℕ, zero, suc, ◌+◌, ◌-◌, Bool, true, false, ◌&&◌, ◌==◌, cond, nat_lt, List, [], ◌∷◌, ◌++◌, length, Option, Some, None, refl, ap, sym, subst, ◌∙◌}
use Rattle.std.specs.Prelude.{Result, Ok, Err, IfOk, slice_set, slice_get, codes}
use Rattle.std.specs.List.{AllByRecursion}
use Rattle.std.specs.Option.{option_map, option_and_then}
use Rattle.std.proofs.lemmas.Bool.{eqb-true}
use Rattle.hr_base.specs.Lists.{when}
use Rattle.hr_base.specs.Texts.{Text}
use Rattle.hr_rel.specs.declared.value.Value.{Value}
use Rattle.hr_rel.specs.declared.answer.Answer.{Answer}
use Rattle.hr_rel.specs.declared.stmt.Stmt.{Stmt}
use Rattle.hr_answer.specs.Canonical.{IsCanonical}
use Rattle.hr_answer_reader.specs.Answers.{begins, answer_at}
use Rattle.hr_answer_reader.specs.Answers as answers
use Rattle.hr_answer_reader.specs.Lines.{lines_of}
use Rattle.hr_answer_reader.specs.Rows as rows
use Rattle.hr_answer_reader.proofs.AnswerLaws.{answer_said}
use Rattle.hr_said.specs.declared.scenario.Scenario.{Scenario}
use Rattle.hr_told.specs.declared.ToldCommit.{ToldCommit}
use Rattle.hr_told.specs.declared.Report.{Report}
use Rattle.hr_told.specs.Blocks.{block_of, TellsOf, AreOf}
use Rattle.hr_report_reader.specs.declared.form.Form.{Form}
use Rattle.hr_report_reader.specs.declared.form.Form.TheVariants as form
use Rattle.hr_report_reader.specs.declared.form.CommitLine.{CommitLine}
use Rattle.hr_report_reader.specs.declared.item.Item.{Item}
use Rattle.hr_report_reader.specs.declared.item.Item.TheVariants as item
use Rattle.hr_report_reader.specs.declared.told.Place.{Place}
use Rattle.hr_report_reader.specs.declared.told.Place.TheVariants as place
use Rattle.hr_report_reader.specs.declared.told.Told.{Told}
use Rattle.hr_report_reader.specs.declared.reader.ReportError.{ReportError}
use Rattle.hr_report_reader.specs.Told as spec
use Rattle.hr_report_reader.specs.Items as items
use Rattle.hr_report_reader.specs.Reading.{Outcome, is_end, ended_by, whole, with_item, go_on, read_lines, report_of, told_outcome, IsRead}

all_end : {X : Type 0} (P : X → Type 0) (xs : List X) (x : X) → AllByRecursion P xs → P x → AllByRecursion P (xs ++ x ∷ [])
all_end P [] x all one = (one, tt)
all_end P (y ∷ xs) x all one = (all.0, all_end P xs x all.1 one)

-- ---- an answer that is told is in canonical form

abbrev Canonical : Item → Type 0
Canonical (item.Answer number a) = IsCanonical a
Canonical (item.Given a) = Unit {0}
Canonical (item.Agreed a) = Unit {0}
Canonical (item.Line f) = Unit {0}
Canonical item.Row = Unit {0}

told_canonical : (number : ℕ) (first : Text) (lines : List Text) (o : Option (Answer × List Text)) (i : Item) → answer_at first lines ≡ o
    → option_map (λ (a : Answer). item.Answer number a) (option_map (λ (p : Answer × List Text). p.0) o) ≡ Some i → Canonical i
told_canonical number first lines None i is e = cc
told_canonical number first lines (Some p) i is e =
    let same : item.Answer number p.0 ≡ i = cc in
    subst Canonical same (answer_said first lines p.0 p.1 is).0

behind_canonical : (number : Option ℕ) (first : Option Text) (lines : List Text) (i : Item) → items.answer_behind number first lines ≡ Some i → Canonical i
behind_canonical None first lines i e = cc
behind_canonical (Some n) None lines i e = cc
behind_canonical (Some n) (Some first) lines i e = told_canonical n first lines (answer_at first lines) i refl e

given_canonical : (o : Option Answer) (i : Item) → option_map item.Given o ≡ Some i → Canonical i
given_canonical None i e = cc
given_canonical (Some a) i e = let same : item.Given a ≡ i = cc in subst Canonical same tt

agreed_canonical : (o : Option Answer) (i : Item) → option_map item.Agreed o ≡ Some i → Canonical i
agreed_canonical None i e = cc
agreed_canonical (Some a) i e = let same : item.Agreed a ≡ i = cc in subst Canonical same tt

plain_canonical : (line : Text) (f : Option Form) (i : Item) → items.formed line f ≡ Some i → Canonical i
plain_canonical line (Some f) i e = let same : item.Line f ≡ i = cc in subst Canonical same tt
plain_canonical line None i e = row_canonical (rows.row_of line) i e
  where
    row_canonical : (o : Option (List Value)) (i : Item) → items.row o ≡ Some i → Canonical i
    row_canonical None i e = cc
    row_canonical (Some r) i e = let same : item.Row ≡ i = cc in subst Canonical same tt

item_cases : (line : Text) (lines : List Text) (i : Item) (a b c : Bool) → cond a (items.numbered (answers.behind (codes "answer ") line) lines)
    (cond b (items.given (answers.behind (codes "given ") line) lines) (cond c (items.agreed (answers.behind (codes "agreed ") line) lines) (items.plain line))) ≡ Some i → Canonical i
item_cases line lines i true b c e = behind_canonical _ _ lines i e
item_cases line lines i false true c e = given_canonical _ i e
item_cases line lines i false false true e = agreed_canonical _ i e
item_cases line lines i false false false e = plain_canonical line _ i e

item_canonical : (line : Text) (lines : List Text) (i : Item) → items.item_at line lines ≡ Some i → Canonical i
item_canonical line lines i e = item_cases line lines i (begins (codes "answer ") line) (begins (codes "given ") line) (begins (codes "agreed ") line) e

-- ---- what is told

module _ (sc : Scenario) where
  -- the commit that is being told is a block of the scenario, of so many statements as answers are due, and its answers are canonical
  abbrev Doing : Told → Type 0
  Doing told = (stmts : List Stmt) × (block_of sc told.line.session told.line.block ≡ Some stmts) × (told.due ≡ length stmts) × AllByRecursion IsCanonical told.answers

  abbrev Sound : Told → Type 0
  Sound told = AreOf sc told.commits × (told.place ≡ place.Answers → Doing told)

  same_told : (x t : Told) → Sound x → Some x ≡ Some t → Sound t
  same_told x t sound e = let same : x ≡ t = cc in subst Sound same sound

  if_told : (b : Bool) (x t : Told) → Sound x → when b x ≡ Some t → Sound t
  if_told true x t sound e = same_told x t sound e
  if_told false x t sound e = cc

  ended_cases : (x : Told) (b : Bool) → (length x.answers == x.due) ≡ b → AreOf sc x.commits → Doing x
      → Sound (cond b (record x { place = place.Commits; commits = x.commits ++ spec.commit_with x.line x.answers ∷ []; answers = [] }) (record x { place = place.Answers }))
  ended_cases x true is all (stmts, block, due, canonical) =
      (all_end _ x.commits (spec.commit_with x.line x.answers) all (stmts, (block, eqb-true (length x.answers) x.due is ∙ due, canonical)), λ e. cc)
  ended_cases x false is all doing = (all, λ e. doing)

  ended_sound : (x : Told) → AreOf sc x.commits → Doing x → Sound (spec.ended x)
  ended_sound x all doing = ended_cases x (length x.answers == x.due) refl all doing

  commit_sound : (told t : Told) (line : CommitLine) (b : Bool) (o : Option (List Stmt)) → AreOf sc told.commits → block_of sc line.session line.block ≡ o
      → cond b (option_map (λ (stmts : List Stmt). spec.begun told line (length stmts)) o) None ≡ Some t → Sound t
  commit_sound told t line false o all is e = cc
  commit_sound told t line true None all is e = cc
  commit_sound told t line true (Some stmts) all is e =
      same_told (spec.begun told line (length stmts)) t
      (ended_sound (record told { line = line; blocks = slice_set told.blocks (line.session - 1) line.block; answers = []; due = length stmts }) all (stmts, is, refl, tt)) e

  replica_sound : (told t : Told) (number : ℕ) → AreOf sc told.commits → spec.replica sc told number ≡ Some t → Sound t
  replica_sound told t number all e = if_told _ (record told { place = place.Tables; replicas = told.replicas + 1; tables = 0 }) t (all, λ k. cc) e

  replica_if : (told t : Told) (number : ℕ) (b : Bool) → AreOf sc told.commits → cond b (spec.replica sc told number) None ≡ Some t → Sound t
  replica_if told t number true all e = replica_sound told t number all e
  replica_if told t number false all e = cc

  behind_sound : (told t : Told) (f : Form) → AreOf sc told.commits → spec.behind_commits sc told f ≡ Some t → Sound t
  behind_sound told t (form.Session number) all e = if_told _ (record told { place = place.Tries; sessions = number }) t (all, λ k. cc) e
  behind_sound told t form.Convicted all e = if_told _ (record told { place = place.Convictions }) t (all, λ k. cc) e
  behind_sound told t (form.Replica number) all e = replica_if told t number (told.sessions == length sc.scripts) all e
  behind_sound told t form.Report all e = cc
  behind_sound told t (form.Commits n) all e = cc
  behind_sound told t (form.Commit line) all e = cc
  behind_sound told t (form.Try d) all e = cc
  behind_sound told t (form.Table line) all e = cc
  behind_sound told t form.End all e = cc

  behind_if : (told t : Told) (f : Form) (b : Bool) → AreOf sc told.commits → cond b (spec.behind_commits sc told f) None ≡ Some t → Sound t
  behind_if told t f true all e = behind_sound told t f all e
  behind_if told t f false all e = cc

  commits_sound : (told t : Told) (f : Form) → AreOf sc told.commits → spec.at_commits sc told f ≡ Some t → Sound t
  commits_sound told t (form.Commit line) all e = commit_sound told t line (spec.may_commit told line) (block_of sc line.session line.block) all refl e
  commits_sound told t (form.Session number) all e = behind_if told t (form.Session number) (length told.commits == told.count) all e
  commits_sound told t form.Convicted all e = behind_if told t form.Convicted (length told.commits == told.count) all e
  commits_sound told t (form.Replica number) all e = behind_if told t (form.Replica number) (length told.commits == told.count) all e
  commits_sound told t form.Report all e = behind_if told t form.Report (length told.commits == told.count) all e
  commits_sound told t (form.Commits n) all e = behind_if told t (form.Commits n) (length told.commits == told.count) all e
  commits_sound told t (form.Try d) all e = behind_if told t (form.Try d) (length told.commits == told.count) all e
  commits_sound told t (form.Table line) all e = behind_if told t (form.Table line) (length told.commits == told.count) all e
  commits_sound told t form.End all e = behind_if told t form.End (length told.commits == told.count) all e

  try_place : (b : Bool) → cond b place.Given place.Tries ≡ place.Answers → ⊥
  try_place true e = cc
  try_place false e = cc

  tries_sound : (told t : Told) (f : Form) → AreOf sc told.commits → spec.at_tries sc told f ≡ Some t → Sound t
  tries_sound told t (form.Try d) all e = same_told (record told { place = cond d place.Given place.Tries }) t (all, λ k. absurd (try_place d k)) e
  tries_sound told t (form.Session number) all e = behind_sound told t (form.Session number) all e
  tries_sound told t form.Convicted all e = behind_sound told t form.Convicted all e
  tries_sound told t (form.Replica number) all e = behind_sound told t (form.Replica number) all e
  tries_sound told t form.Report all e = cc
  tries_sound told t (form.Commits n) all e = cc
  tries_sound told t (form.Commit line) all e = cc
  tries_sound told t (form.Table line) all e = cc
  tries_sound told t form.End all e = cc

  rows_place : (told : Told) (b : Bool) → cond b place.Tables place.Rows ≡ place.Answers → ⊥
  rows_place told true e = cc
  rows_place told false e = cc

  in_rows_sound : (told : Told) → AreOf sc told.commits → Sound (spec.in_rows told)
  in_rows_sound told all = (all, λ k. absurd (rows_place told (told.rows == 0) k))

  tables_sound : (told t : Told) (f : Form) → AreOf sc told.commits → spec.at_tables sc told f ≡ Some t → Sound t
  tables_sound told t (form.Table line) all e =
      if_told _ (spec.in_rows (record told { tables = told.tables + 1; rows = line.rows })) t (in_rows_sound (record told { tables = told.tables + 1; rows = line.rows }) all) e
  tables_sound told t (form.Replica number) all e = replica_if told t number (spec.has_tables sc told) all e
  tables_sound told t form.End all e = if_told _ (record told { place = place.End }) t (all, λ k. cc) e
  tables_sound told t (form.Session number) all e = cc
  tables_sound told t form.Convicted all e = cc
  tables_sound told t form.Report all e = cc
  tables_sound told t (form.Commits n) all e = cc
  tables_sound told t (form.Commit line) all e = cc
  tables_sound told t (form.Try d) all e = cc

  start_sound : (told t : Told) (f : Form) → AreOf sc told.commits → spec.at_start told f ≡ Some t → Sound t
  start_sound told t form.Report all e = same_told (record told { place = place.Count }) t (all, λ k. cc) e
  start_sound told t (form.Commits n) all e = cc
  start_sound told t (form.Commit line) all e = cc
  start_sound told t (form.Session number) all e = cc
  start_sound told t (form.Try d) all e = cc
  start_sound told t form.Convicted all e = cc
  start_sound told t (form.Replica number) all e = cc
  start_sound told t (form.Table line) all e = cc
  start_sound told t form.End all e = cc

  count_sound : (told t : Told) (f : Form) → AreOf sc told.commits → spec.at_count told f ≡ Some t → Sound t
  count_sound told t (form.Commits n) all e = same_told (record told { place = place.Commits; count = n }) t (all, λ k. cc) e
  count_sound told t form.Report all e = cc
  count_sound told t (form.Commit line) all e = cc
  count_sound told t (form.Session number) all e = cc
  count_sound told t (form.Try d) all e = cc
  count_sound told t form.Convicted all e = cc
  count_sound told t (form.Replica number) all e = cc
  count_sound told t (form.Table line) all e = cc
  count_sound told t form.End all e = cc

  -- at a place that isn't within a commit's answers
  convictions_sound : (told t : Told) (f : Form) → told.place ≡ place.Convictions → AreOf sc told.commits → spec.at_convictions sc told f ≡ Some t → Sound t
  convictions_sound told t form.Convicted at all e = same_told told t (all, λ k. cc (sym at ∙ k)) e
  convictions_sound told t (form.Replica number) at all e = replica_if told t number (told.sessions == length sc.scripts) all e
  convictions_sound told t form.Report at all e = cc
  convictions_sound told t (form.Commits n) at all e = cc
  convictions_sound told t (form.Commit line) at all e = cc
  convictions_sound told t (form.Session number) at all e = cc
  convictions_sound told t (form.Try d) at all e = cc
  convictions_sound told t (form.Table line) at all e = cc
  convictions_sound told t form.End at all e = cc

  line_sound : (told t : Told) (f : Form) (p : Place) → told.place ≡ p → AreOf sc told.commits → spec.line_at sc told f p ≡ Some t → Sound t
  line_sound told t f place.Start at all e = start_sound told t f all e
  line_sound told t f place.Count at all e = count_sound told t f all e
  line_sound told t f place.Commits at all e = commits_sound told t f all e
  line_sound told t f place.Answers at all e = cc
  line_sound told t f place.Tries at all e = tries_sound told t f all e
  line_sound told t f place.Given at all e = cc
  line_sound told t f place.Agreed at all e = cc
  line_sound told t f place.Convictions at all e = convictions_sound told t f at all e
  line_sound told t f place.Tables at all e = tables_sound told t f all e
  line_sound told t f place.Rows at all e = cc
  line_sound told t f place.End at all e = cc

  answer_sound : (told t : Told) (number : ℕ) (a : Answer) (p : Place) → told.place ≡ p → Sound told → IsCanonical a → spec.answer_at told number a p ≡ Some t → Sound t
  answer_sound told t number a place.Answers at sound canonical e = by (sound.1 at)
    where
      by : Doing told → Sound t
      by (stmts, block, due, all) =
          if_told _ (spec.ended (record told { answers = told.answers ++ a ∷ [] })) t
          (ended_sound (record told { answers = told.answers ++ a ∷ [] }) sound.0 (stmts, block, due, all_end IsCanonical told.answers a all canonical)) e
  answer_sound told t number a place.Start at sound canonical e = cc
  answer_sound told t number a place.Count at sound canonical e = cc
  answer_sound told t number a place.Commits at sound canonical e = cc
  answer_sound told t number a place.Tries at sound canonical e = cc
  answer_sound told t number a place.Given at sound canonical e = cc
  answer_sound told t number a place.Agreed at sound canonical e = cc
  answer_sound told t number a place.Convictions at sound canonical e = cc
  answer_sound told t number a place.Tables at sound canonical e = cc
  answer_sound told t number a place.Rows at sound canonical e = cc
  answer_sound told t number a place.End at sound canonical e = cc

  given_sound : (told t : Told) (p : Place) → AreOf sc told.commits → spec.given_at told p ≡ Some t → Sound t
  given_sound told t place.Given all e = same_told (record told { place = place.Agreed }) t (all, λ k. cc) e
  given_sound told t place.Start all e = cc
  given_sound told t place.Count all e = cc
  given_sound told t place.Commits all e = cc
  given_sound told t place.Answers all e = cc
  given_sound told t place.Tries all e = cc
  given_sound told t place.Agreed all e = cc
  given_sound told t place.Convictions all e = cc
  given_sound told t place.Tables all e = cc
  given_sound told t place.Rows all e = cc
  given_sound told t place.End all e = cc

  agreed_sound : (told t : Told) (p : Place) → AreOf sc told.commits → spec.agreed_at told p ≡ Some t → Sound t
  agreed_sound told t place.Agreed all e = same_told (record told { place = place.Tries }) t (all, λ k. cc) e
  agreed_sound told t place.Start all e = cc
  agreed_sound told t place.Count all e = cc
  agreed_sound told t place.Commits all e = cc
  agreed_sound told t place.Answers all e = cc
  agreed_sound told t place.Tries all e = cc
  agreed_sound told t place.Given all e = cc
  agreed_sound told t place.Convictions all e = cc
  agreed_sound told t place.Tables all e = cc
  agreed_sound told t place.Rows all e = cc
  agreed_sound told t place.End all e = cc

  row_sound : (told t : Told) (p : Place) → AreOf sc told.commits → spec.row_at told p ≡ Some t → Sound t
  row_sound told t place.Rows all e = same_told (spec.in_rows (record told { rows = told.rows - 1 })) t (in_rows_sound (record told { rows = told.rows - 1 }) all) e
  row_sound told t place.Start all e = cc
  row_sound told t place.Count all e = cc
  row_sound told t place.Commits all e = cc
  row_sound told t place.Answers all e = cc
  row_sound told t place.Tries all e = cc
  row_sound told t place.Given all e = cc
  row_sound told t place.Agreed all e = cc
  row_sound told t place.Convictions all e = cc
  row_sound told t place.Tables all e = cc
  row_sound told t place.End all e = cc

  next_sound : (told t : Told) (i : Item) → Sound told → Canonical i → spec.next sc told i ≡ Some t → Sound t
  unfolding spec.next
  next_sound told t (item.Line f) sound canonical e = line_sound told t f told.place refl sound.0 e
  next_sound told t (item.Answer number a) sound canonical e = answer_sound told t number a told.place refl sound canonical e
  next_sound told t (item.Given a) sound canonical e = given_sound told t told.place sound.0 e
  next_sound told t (item.Agreed a) sound canonical e = agreed_sound told t told.place sound.0 e
  next_sound told t item.Row sound canonical e = row_sound told t told.place sound.0 e

  abbrev Tells : Outcome → Type 0
  Tells o = IfOk o (λ (report : Report). AreOf sc report.commits)

  whole_sound : (told : Told) (n : ℕ) (b : Bool) → Sound told → Tells (ended_by b told n)
  whole_sound told n true sound = sound.0
  whole_sound told n false sound = tt

  step_sound : (told : Told) (n : ℕ) (line : Text) (lines : List Text) (o : Option Item) → items.item_at line lines ≡ o → Sound told
      → ((t : Told) (behind : ℕ) → Sound t → Tells (read_lines sc t (n + 1) behind lines)) → Tells (go_on n (with_item sc told o) (λ t behind. read_lines sc t (n + 1) behind lines))
  step_sound told n line lines None is sound rest = tt
  step_sound told n line lines (Some i) is sound rest = by (spec.next sc told i) refl
    where
      by : (o : Option Told) → spec.next sc told i ≡ o → Tells (go_on n (option_map (λ (t : Told). (t, items.lines_in i)) o) (λ t behind. read_lines sc t (n + 1) behind lines))
      by None goes = tt
      by (Some t) goes = rest t (items.lines_in i) (next_sound told t i sound (item_canonical line lines i is) goes)

  lines_sound : (lines : List Text) (told : Told) (n left : ℕ) → Sound told → Tells (read_lines sc told n left lines)
  lines_sound [] told n left sound = whole_sound told n (is_end told.place) sound
  lines_sound (line ∷ lines) told n (suc left) sound = lines_sound lines told (n + 1) left sound
  lines_sound (line ∷ lines) told n zero sound = step_sound told n line lines (items.item_at line lines) refl sound (λ t behind s. lines_sound lines t (n + 1) behind s)

  -- the report that a text is tells of blocks of the scenario
  pub report_sound : (n : ℕ) (text : Text) → Tells (report_of sc n text)
  report_sound n text = lines_sound (lines_of text) (spec.nothing sc) n 0 (tt, λ e. cc)

  outcome_sound : (o : Outcome) → Tells o → IfOk (told_outcome o) (λ (report : Report). AreOf sc report.commits)
  outcome_sound (Ok r) tells = tells
  outcome_sound (Err n) tells = tt

  -- so of what a reader answers
  pub read_sound : (n : ℕ) (text : Text) (r : Result Report ReportError) → IsRead (report_of sc n text) r → IfOk r (λ (report : Report). AreOf sc report.commits)
  read_sound n text r (inl is) = subst (λ (x : Result Report ReportError). IfOk x (λ (report : Report). AreOf sc report.commits)) (sym is) (outcome_sound (report_of sc n text) (report_sound n text))
  read_sound n text r (inr is) = subst (λ (x : Result Report ReportError). IfOk x (λ (report : Report). AreOf sc report.commits)) (sym is) tt
