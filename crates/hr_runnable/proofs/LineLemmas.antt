-- What each line keeps holds of what the lines of a text say, and so the scenario has what comes of it.
use Rattle.std.proofs.Common.{◌≡◌, ℕ, ◌+◌, ◌≤◌, Bool, true, false, not, cond, ◌||◌, nat_lt, Option, Some, None, Result, Ok, Err, List, [], ◌∷◌, length, refl, subst}
use Rattle.std.proofs.lemmas.Bool.{or_parts, ltb-false}
use Rattle.hr_base.specs.Texts.{Text}
use Rattle.hr_base.specs.declared.limits.TheConstants.{MAX_SCENARIO_BYTES}
use Rattle.hr_line.specs.Bytes.{content_of, is_skipped}
use Rattle.hr_line.specs.declared.bytes.LineFault.{LineFault}
use Rattle.hr_lines.specs.Lines.{lines_of}
use Rattle.hr_forms.specs.Forms.{form_of}
use Rattle.hr_forms.specs.declared.line.LineForm.{LineForm}
use Rattle.hr_said.specs.declared.error.InputKind.{InputKind}
use Rattle.hr_said.specs.declared.error.InputKind.TheVariants as kind
use Rattle.hr_said.specs.declared.said.Inside.{Inside}
use Rattle.hr_said.specs.declared.said.Inside.TheVariants as inside
use Rattle.hr_said.specs.declared.said.Said.{Said}
use Rattle.hr_said.specs.declared.scenario.Scenario.{Scenario}
use Rattle.hr_said.specs.Said.{nothing, scenario}
use Rattle.hr_said.specs.Schedule.{schedule_line}
use Rattle.hr_sessions.specs.Sessions.{session_line}
use Rattle.hr_reader.specs.declared.error.InputError.{InputError}
use Rattle.hr_reader.specs.Reading.{form_says, formed, standing, read_content, line_says, at_line, is_outside, read_on, read_lines, scenario_of}
use Rattle.hr_runnable.proofs.Refusals.{done_keeps}

-- What holds of what was said holds behind one line more, wherever it stands: outside, where it has a form, in a session, or
-- in a schedule.
pub record KeptByLines (Holds : Said → Type 0) : Type 0 where
  pub outside : (said next : Said) (content : Text) (f : LineForm) → said.inside ≡ inside.Outside → form_of content ≡ Some f → form_says said content f ≡ Ok next → Holds said → Holds next
  pub session : (said next : Said) (content : Text) → said.inside ≡ inside.Session → session_line said content ≡ Ok next → Holds said → Holds next
  pub schedule : (said next : Said) (content : Text) → said.inside ≡ inside.Schedule → schedule_line said content ≡ Ok next → Holds said → Holds next

module _ (Holds : Said → Type 0) (k : KeptByLines Holds) where
  -- ---- one line

  module _ (said next : Said) (h : Holds said) where
    by_form : (content : Text) → said.inside ≡ inside.Outside → (f : Option LineForm) → form_of content ≡ f → formed said content f ≡ Ok next → Holds next
    by_form content within None is e = cc
    by_form content within (Some f) is e = k.outside said next content f within is e h

    by_place : (content : Text) (at : Inside) → said.inside ≡ at → standing said content at ≡ Ok next → Holds next
    by_place content inside.Outside within e = by_form content within (form_of content) refl e
    by_place content inside.Session within e = k.session said next content within e h
    by_place content inside.Schedule within e = k.schedule said next content within e h

    by_skip : (content : Text) (b : Bool) → cond b (Ok said) (standing said content said.inside) ≡ Ok next → Holds next
    by_skip content true e = done_keeps Holds said next h e
    by_skip content false e = by_place content said.inside refl e

    by_content : (r : Result Text LineFault) → read_content said r ≡ Ok next → Holds next
    by_content (Ok content) e = by_skip content (is_skipped content) e
    by_content (Err f) e = cc

    line_keeps : (line : Text) → line_says said line ≡ Ok next → Holds next
    unfolding line_says
    line_keeps line e = by_content (content_of line) e

  -- ---- all lines

  module _ (Has : Scenario → Type 0) (has : (said : Said) → Holds said → 3 ≤ said.part → Has (scenario said)) (sc : Scenario) where
    at_end : (said : Said) (line : ℕ) (b : Bool) → (nat_lt said.part 3 || not (is_outside said.inside)) ≡ b → Holds said
        → cond b (Err (at_line (line + 1) kind.Unended)) (Ok (scenario said)) ≡ Ok sc → Has sc
    at_end said line true is h e = cc
    at_end said line false is h e =
        let same : scenario said ≡ sc = cc in
        subst Has same (has said h (ltb-false said.part 3 (or_parts (nat_lt said.part 3) (not (is_outside said.inside)) is).0))

    behind_line : (line : ℕ) (r : Result Said InputKind) (rest : Said → Result Scenario InputError) → ((next : Said) → r ≡ Ok next → rest next ≡ Ok sc → Has sc) → read_on r line rest ≡ Ok sc → Has sc
    behind_line line (Ok next) rest so e = so next refl e
    behind_line line (Err k) rest so e = cc

    lines_keep : (lines : List Text) (said : Said) (n : ℕ) → Holds said → read_lines said n lines ≡ Ok sc → Has sc
    lines_keep [] said n h e = at_end said n (nat_lt said.part 3 || not (is_outside said.inside)) refl h e
    lines_keep (text ∷ lines) said n h e =
        behind_line (n + 1) (line_says said text) (λ next. read_lines next (n + 1) lines) (λ next says rest. lines_keep lines next (n + 1) (line_keeps said next h text says) rest) e

    by_size : (text : Text) (b : Bool) → Holds nothing → cond b (Err (at_line 0 kind.TooLong)) (read_lines nothing 0 (lines_of text)) ≡ Ok sc → Has sc
    by_size text true h e = cc
    by_size text false h e = lines_keep (lines_of text) nothing 0 h e

    pub by_lines : (text : Text) → Holds nothing → scenario_of text ≡ Ok sc → Has sc
    by_lines text h e = by_size text (nat_lt MAX_SCENARIO_BYTES (length text)) h e
