-- The lines of sessions leave what is good.
use Rattle.std.proofs.Common.{◌≡◌, ℕ, ◌+◌, true, not, nat_le, Option, Some, None, Result, Ok, Err, List, [], ◌∷◌, ◌++◌, length, refl, sym, subst, arith, length-append}
use Rattle.std.specs.List.{list_all}
use Rattle.std.proofs.lemmas.Bool.{and_from, and_parts, leb-true, leb-false, le-leb}
use Rattle.hr_base.specs.Lists.{when}
use Rattle.hr_base.specs.Texts.{Text}
use Rattle.hr_base.specs.declared.limits.TheConstants.{MAX_SESSIONS}
use Rattle.hr_line.specs.Scripts.{script_form_of}
use Rattle.hr_line.specs.declared.script.ScriptForm.{ScriptForm}
use Rattle.hr_line.specs.declared.script.ScriptForm.TheVariants as script
use Rattle.hr_said.specs.declared.scenario.Choice.{Choice}
use Rattle.hr_said.specs.declared.scenario.Choice.TheVariants as choice
use Rattle.hr_said.specs.declared.said.Inside.TheVariants as inside
use Rattle.hr_said.specs.declared.said.Said.{Said}
use Rattle.hr_said.specs.declared.said.Session.{Session}
use Rattle.hr_said.specs.declared.error.InputKind.{InputKind}
use Rattle.hr_said.specs.declared.error.InputKind.TheVariants as kind
use Rattle.hr_said.specs.Limits.{may_stand}
use Rattle.hr_said.specs.Outcomes.{unless, goes_on}
use Rattle.hr_said.specs.Said.{no_blocks}
use Rattle.hr_sessions.specs.declared.statement.Read.{Read}
use Rattle.hr_sessions.specs.Sessions.{session, session_refusal, end_session, end_refusal, add_statement, with_statement, read_statement, statement_refusal, statement_in, line_as, session_line}
use Rattle.hr_runnable.proofs.SoFar.{IsGood, AreChoices, is_of}
use Rattle.hr_runnable.proofs.Refusals.{unless_good, done_good, passes, is_so, behind}
use Rattle.hr_runnable.proofs.HeadLemmas.{later_sized}

-- what is of one of the sessions is of one of more
still_of : (sessions replicas : ℕ) (c : Choice) → is_of sessions replicas c ≡ true → is_of (sessions + 1) replicas c ≡ true
still_of sessions replicas (choice.Session s) e =
    let parts = and_parts (nat_le 1 s) (nat_le s sessions) e in
    let less = leb-true s sessions parts.1 in
    and_from (nat_le 1 s) (nat_le s (sessions + 1)) parts.0 (le-leb s (sessions + 1) (omega (arith, less)))
still_of sessions replicas (choice.Both r) e = e
still_of sessions replicas (choice.TakeJob r) e = e
still_of sessions replicas (choice.GiveReply r) e = e
still_of sessions replicas (choice.Rounds k) e = refl

all_still_of : (sessions replicas : ℕ) (choices : List Choice) → list_all (is_of sessions replicas) choices ≡ true → list_all (is_of (sessions + 1) replicas) choices ≡ true
all_still_of sessions replicas [] h = refl
all_still_of sessions replicas (c ∷ choices) h =
    let parts = and_parts (is_of sessions replicas c) (list_all (is_of sessions replicas) choices) h in
    and_from (is_of (sessions + 1) replicas c) (list_all (is_of (sessions + 1) replicas) choices) (still_of sessions replicas c parts.0) (all_still_of sessions replicas choices parts.1)

module _ (said : Said) (h : IsGood said) where
  pub session_good : (next : Said) → session said ≡ Ok next → IsGood next
  session_good next e = unless_good (session_refusal said) _ next stands e
    where
      stands : session_refusal said ≡ None → IsGood (record said { part = 7; inside = inside.Session; session = no_blocks })
      stands none =
          let place = passes (not (may_stand said.part 7)) kind.Form (when (nat_le MAX_SESSIONS (length said.scripts)) kind.Limit ∷ []) none in
          let limit = passes (nat_le MAX_SESSIONS (length said.scripts)) kind.Limit [] place.1 in
          let free = leb-false MAX_SESSIONS (length said.scripts) limit.0 in
          let late = behind said.part _ (is_so (may_stand said.part 7) place.0) in
          record {
            replicas = later_sized said h 7 late;
            named = h.named;
            sessions = record { few = h.sessions.few; room = λ e. free };
            tables = h.tables;
            schedule = record { begun = λ e. omega arith; none = λ e. absurd (omega (arith, e)); there = h.schedule.there };
          }

  -- ---- lines of a session

  -- what is said of the session alone
  session_only : (session : Session) (statements : ℕ) → IsGood (record said { session = session; statements = statements })
  session_only session statements = record { replicas = h.replicas; named = h.named; sessions = h.sessions; tables = h.tables; schedule = h.schedule }

  end_good : said.inside ≡ inside.Session → (next : Said) → end_session said ≡ Ok next → IsGood next
  end_good within next e = unless_good (end_refusal said) _ next stands e
    where
      one_more : length (said.scripts ++ said.session.blocks ∷ []) ≡ length said.scripts + 1
      one_more = length-append said.scripts (said.session.blocks ∷ [])

      stands : end_refusal said ≡ None → IsGood (record said { inside = inside.Outside; scripts = said.scripts ++ said.session.blocks ∷ []; session = no_blocks })
      stands none =
          let room = h.sessions.room within in
          let choices : AreChoices said.part inside.Outside (length said.scripts + 1) (length said.faults) said.choices = record {
            begun = λ e. cc;
            none = h.schedule.none;
            there = all_still_of (length said.scripts) (length said.faults) said.choices h.schedule.there;
          } in
          record {
            replicas = h.replicas;
            named = h.named;
            sessions = record { few = omega (arith, one_more, room); room = λ e. cc };
            tables = h.tables;
            schedule = subst (λ (n : ℕ). AreChoices said.part inside.Outside n (length said.faults) said.choices) (sym one_more) choices;
          }

  added_good : (next : Said) (read : Result Read InputKind) → goes_on read (λ r. add_statement said r) ≡ Ok next → IsGood next
  added_good next (Ok read) e = done_good (record said { session = with_statement said.session read; statements = said.statements + 1 }) next (session_only _ _) e
  added_good next (Err k) e = cc

  statement_good : (next : Said) (line : Text) (refusal : Option InputKind) → goes_on (unless refusal said) (λ s. read_statement s line) ≡ Ok next → IsGood next
  statement_good next line None e = added_good next (statement_in said.catalog line) e
  statement_good next line (Some k) e = cc

  line_good : said.inside ≡ inside.Session → (next : Said) (line : Text) (f : ScriptForm) → line_as said line f ≡ Ok next → IsGood next
  line_good within next line script.End e = end_good within next e
  line_good within next line script.Begin e = unless_good _ _ next (λ none. session_only _ said.statements) e
  line_good within next line script.Commit e = done_good _ next (session_only _ said.statements) e
  line_good within next line script.Rollback e = done_good _ next (session_only _ said.statements) e
  line_good within next line script.Statement e = statement_good next line (statement_refusal said) e

  pub session_line_good : said.inside ≡ inside.Session → (next : Said) (line : Text) → session_line said line ≡ Ok next → IsGood next
  session_line_good within next line e = line_good within next line (script_form_of line) e
