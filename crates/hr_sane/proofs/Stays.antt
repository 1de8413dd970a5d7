-- A sane view stays sane, field by field.
use Rattle.std.proofs.Common.{◌≡◌, ℕ, ◌+◌, ◌*◌, ◌<◌, ◌≤◌, false, not, if◌then◌else◌, Option, Some, None, filter, option_and_then, length, refl, ap, sym, ◌∙◌, subst, arith, IsTrue}
use Rattle.std.proofs.lemmas.List.FromFn.{length-map-range_with_len}
use Rattle.hr_base.specs.Lists.{is_empty}
use Rattle.hr_engine.specs.Journal.{Call}
use Rattle.hr_engine.specs.Effects.{effect_of}
use Rattle.hr_engine.specs.Waits.{if_all, next_wait, next_standing}
use Rattle.hr_history.specs.declared.entry.Event.{Event}
use Rattle.hr_history.specs.Attempts.{still_told, told_by}
use Rattle.hr_history.specs.View.{View, Attempt, Progress, is_fresh}
use Rattle.hr_history.specs.Processed.{txn_in, phase_in, replica_in, attempt_in, runs_in, no_attempt}
use Rattle.hr_history.specs.Step.{answers_after, touched_after, commits_after, commits_in, call_in, fresh_after, wait_left, standing_left, runs_after, last_if, last_after, attempt_after, replica_after, view_step}
use Rattle.hr_moves.specs.Sane.{IsSane, cut_to}
use Rattle.hr_moves.specs.Fits.{Fits}
use Rattle.hr_sane.proofs.CallsOut.{replied}
use Rattle.hr_sane.proofs.Next.{replica_at, attempt_at, txn_at, untouched_after}
use Rattle.hr_sane.proofs.Cuts.{wait_is, cycle_is, left_is_cut, cut_again, cut_by_call}
use Rattle.hr_sane.proofs.Commits.{CommitsFit, commits_fit, stopped_by}
use Rattle.hr_sane.proofs.Entries.{known_now, apart_now, few_now, fresh_now}
use Rattle.hr_sane.proofs.Outs.{out_now}
use Rattle.hr_sane.proofs.Primaries.{primary_now, search_next}
use Rattle.hr_sane.proofs.Logs.{AtPlace, log_grows, logged_next, given_next}

module _ (v : View) (place asks : ℕ) (e : Event) (sane : IsSane v) (fits : Fits v e) where
  abbrev now : View
  now = view_step v place asks e

  here : (r : ℕ) → replica_in now r ≡ replica_after v place e r
  here r = replica_at v place asks e sane fits r

  it : (r t : ℕ) → attempt_in now r t ≡ attempt_after v place e r t
  it r t = attempt_at v place asks e sane fits r t

  -- ---- commits

  fit_with : (r : ℕ) (c : Option Call) → call_in v r e ≡ c → CommitsFit (commits_after c (commits_in v r)) (length v.log)
  fit_with r None d = record { position = sane.position r; doubt = sane.doubt r }
  fit_with r (Some c) d =
      let out = replied v r c e d in
      commits_fit v r record { position = sane.position r; doubt = sane.doubt r } out.job c out.its (sane.out r out.job out.out)

  fit : (r : ℕ) → CommitsFit (commits_after (call_in v r e) (commits_in v r)) (length v.log)
  fit r = fit_with r (call_in v r e) refl

  position_now : (r : ℕ) → (replica_in now r).position ≤ length now.log
  position_now r = omega (arith, ap (λ (p : Progress). p.position) (here r), (fit r).position, log_grows e v.log)

  doubt_now : (r : ℕ) → IsTrue (replica_in now r).doubt → IsTrue (replica_in now r).lost × ((replica_in now r).position < length now.log)
  doubt_now r d =
      let its = (fit r).doubt (sym (ap (λ (p : Progress). p.doubt) (here r)) ∙ d) in
      (ap (λ (p : Progress). p.lost) (here r) ∙ its.0, omega (arith, ap (λ (p : Progress). p.position) (here r), its.1, log_grows e v.log))

  -- ---- what is touched

  stopped_with : (r t : ℕ) (c : Option Call) → call_in v r e ≡ c → IsTrue (commits_after c (commits_in v r)).lost → touched_after t c (attempt_in v r t).touched ≡ false
  stopped_with r t None d lost = sane.stopped r t lost
  stopped_with r t (Some c) d lost =
      let out = replied v r c e d in
      stopped_by v r t (attempt_in v r t).touched out.job c out.its (sane.out r out.job out.out) lost

  stopped_now : (r t : ℕ) → IsTrue (replica_in now r).lost → (attempt_in now r t).touched ≡ false
  stopped_now r t lost = ap (λ (a : Attempt). a.touched) (it r t) ∙ stopped_with r t (call_in v r e) refl (sym (ap (λ (p : Progress). p.lost) (here r)) ∙ lost)

  untouched_now : (r t : ℕ) → (attempt_in now r t).touched ≡ false → attempt_in now r t ≡ no_attempt
  untouched_now r t h = it r t ∙ untouched_after v place asks e sane fits r t (sym (ap (λ (a : Attempt). a.touched) (it r t)) ∙ h)

  -- ---- last replies

  runs_now : (r : ℕ) → runs_in now r ≡ (λ u. not (is_empty (answers_after u (call_in v r e) (attempt_in v r u).answers)))
  runs_now r = λ i u. not (is_empty (it r u i).answers)

  cut_with : (r t : ℕ) (c : Option Call) → is_fresh (fresh_after v e) r t ≡ false
      → last_after v e r t c ≡ cut_to (λ u. not (is_empty (answers_after u c (attempt_in v r u).answers))) (last_after v e r t c)
  cut_with r t None stale =
      let still : last_after v e r t None ≡ cut_to (runs_in v r) (attempt_in v r t).last =
      ap (λ b. if b then (attempt_in v r t).last else still_told (wait_left v r t) (standing_left v r t)) stale ∙ left_is_cut v sane r t in
      still ∙ cut_again (runs_in v r) (attempt_in v r t).last ∙ ap (cut_to (runs_in v r)) (sym still)
  cut_with r t (Some c) stale =
      let its = (attempt_in v r t).last in
      let runs = runs_after v r c in
      let still : last_after v e r t (Some c) ≡ still_told (filter runs (next_wait t (effect_of c) (wait_left v r t))) (option_and_then (if_all runs) (next_standing t (effect_of c) (standing_left v r t))) =
      ap (λ b. last_if b (told_by t (effect_of c)) (still_told (filter runs (next_wait t (effect_of c) (wait_left v r t))) (option_and_then (if_all runs) (next_standing t (effect_of c) (standing_left v r t))))) stale in
      let left = still ∙ (λ i. still_told (filter runs (next_wait t (effect_of c) (wait_is v sane r t i))) (option_and_then (if_all runs) (next_standing t (effect_of c) (cycle_is v sane r t i)))) in
      left ∙ cut_by_call (runs_in v r) runs t (effect_of c) its ∙ ap (cut_to runs) (sym left)

  cut_now : (r t : ℕ) → is_fresh now.fresh r t ≡ false → (attempt_in now r t).last ≡ cut_to (runs_in now r) (attempt_in now r t).last
  cut_now r t stale =
      let last = ap (λ (a : Attempt). a.last) (it r t) in
      last ∙ cut_with r t (call_in v r e) stale ∙ sym (λ i. cut_to (runs_now r i) (last i))

  -- ---- the log

  logged_now : (t place_in : ℕ) → AtPlace (phase_in now t) now.log t place_in
  logged_now t p = subst (λ x. AtPlace x now.log t p) (sym (txn_at v place asks e sane fits t).phase) (logged_next v sane e t p asks fits)

  given_now : (t : ℕ) → length (txn_in now t).given ≤ (txn_in now t).statements
  given_now t =
      let its = txn_at v place asks e sane fits t in
      omega (arith, ap length its.given, its.statements, given_next v sane e t)

  pub stays_sane : IsSane now
  stays_sane = record {
    replicas = length-map-range_with_len (replica_after v place e) 0 (2 * v.f + 1);
    search = search_next v e fits sane.search;
    primary = primary_now v place asks e sane fits;
    logged = logged_now;
    given = given_now;
    position = position_now;
    doubt = doubt_now;
    known = known_now v place asks e sane fits;
    apart = apart_now v place asks e sane fits;
    few = few_now v place asks e sane fits;
    untouched = untouched_now;
    stopped = stopped_now;
    fresh = fresh_now v place asks e sane fits;
    cut = cut_now;
    out = out_now v place asks e sane fits;
  }
