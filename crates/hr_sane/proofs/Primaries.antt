-- The primary and the start of the search, after an event.
use Rattle.std.proofs.Common.{◌≡◌, ℕ, ◌+◌, ◌*◌, Bool, true, false, not, ◌||◌, ◌==◌, if◌then◌else◌, Option, Some, None, unwrap_or, refl, ap, sym, ◌∙◌, subst, arith, IsTrue}
use Rattle.std.proofs.lemmas.Bool.{and_parts, and_from}
use Rattle.hr_engine.specs.declared.reply.RunReply.TheVariants as run
use Rattle.hr_engine.specs.declared.reply.EndReply.TheVariants as end
use Rattle.hr_history.specs.declared.entry.Event.{Event}
use Rattle.hr_history.specs.declared.entry.Event.TheVariants as event
use Rattle.hr_history.specs.declared.job.Job.{Job}
use Rattle.hr_history.specs.declared.job.Job.TheVariants as job
use Rattle.hr_history.specs.declared.job.JobReply.{JobReply}
use Rattle.hr_history.specs.declared.job.JobReply.TheVariants as reply
use Rattle.hr_history.specs.ReplicaNumbers.{replica_numbers}
use Rattle.hr_history.specs.Replicas.{any_stmt, next_convicted, call_of, call_if, restart_of, restart_if, tells_loss}
use Rattle.hr_history.specs.Primary.{other_than, next_primary, start_at_suspect, next_search_after}
use Rattle.hr_history.specs.View.{View, Progress}
use Rattle.hr_history.specs.Processed.{replica_in, live_in, candidate_in}
use Rattle.hr_history.specs.Step.{Commits, commits_after, commits_in, out_in, call_in, view_step}
use Rattle.hr_records.proofs.Options.{same_some, find_has, has_round, has_range}
use Rattle.hr_moves.specs.Sane.{IsSane, IsReplica}
use Rattle.hr_moves.specs.Fits.{Fits}
use Rattle.hr_sane.proofs.Next.{true_false, replica_at}

-- who is primary though this replica isn't any more
other_by : (b : Bool) (q m p : ℕ) → (q == m) ≡ b → (if b then None else Some m) ≡ Some p → (Some m ≡ Some p) × ((q == p) ≡ false)
other_by true q m p e h = cc h
other_by false q m p e h = (h, ap (λ x. q == x) (sym (same_some m p h)) ∙ e)

pub other_is : (q p : ℕ) (primary : Option ℕ) → other_than q primary ≡ Some p → (primary ≡ Some p) × ((q == p) ≡ false)
other_is q p None h = cc h
other_is q p (Some m) h = other_by (q == m) q m p refl h

-- a reply that tells of no loss loses no replica
kept_reply : (o : Option Job) (told : JobReply) (s : Commits) → tells_loss told ≡ false → (commits_after (call_of o told (λ t i. any_stmt)) s).lost ≡ s.lost
kept_reply (Some (job.Run t i)) (reply.Ran (run.Done answer)) s h = refl
kept_reply (Some (job.Run t i)) (reply.Ran (run.Blocked named)) s h = refl
kept_reply (Some (job.Run t i)) (reply.Ran (run.Deadlock cycle)) s h = refl
kept_reply (Some (job.Run t i)) (reply.Ran run.Lost) s h = cc h
kept_reply (Some (job.Run t i)) (reply.Ran run.NoMemory) s h = refl
kept_reply (Some (job.Commit t)) (reply.Ended end.Done) s h = refl
kept_reply (Some (job.Commit t)) (reply.Ended end.Lost) s h = cc h
kept_reply (Some (job.Rollback t)) (reply.Ended end.Done) s h = refl
kept_reply (Some (job.Rollback t)) (reply.Ended end.Lost) s h = cc h
kept_reply (Some job.Restart) reply.StillLost s h = cc h
kept_reply _ _ s h = refl

kept_restart : (o : Option Job) (count : ℕ) (s : Commits) → s.lost ≡ false → (commits_after (restart_of o count) s).lost ≡ false
kept_restart (Some job.Restart) count s h = refl
kept_restart (Some (job.Run t i)) count s h = h
kept_restart (Some (job.Commit t)) count s h = h
kept_restart (Some (job.Rollback t)) count s h = h
kept_restart None count s h = h

not_true : (b : Bool) → not b ≡ true → b ≡ false
not_true true h = cc h
not_true false h = refl

module _ (v : View) (sane : IsSane v) (p : ℕ) where
  abbrev Was : Type 0
  Was = IsReplica v p × ((replica_in v p).lost ≡ false) × ((replica_in v p).convicted ≡ false)

  -- it is live after the event
  abbrev Is : Event → Type 0
  Is e = IsReplica v p × ((commits_after (call_in v p e) (commits_in v p)).lost ≡ false) × (next_convicted p e (replica_in v p).convicted ≡ false)

  was : v.primary ≡ Some p → Was
  was h =
      let is = sane.primary p h in
      let live = and_parts (not (replica_in v p).lost) (not (replica_in v p).convicted) is.1 in
      (is.0, not_true (replica_in v p).lost live.0, not_true (replica_in v p).convicted live.1)

  reply_by : (b loss : Bool) (q : ℕ) (told : JobReply) → (q == p) ≡ b → tells_loss told ≡ loss → (if loss then other_than q v.primary else v.primary) ≡ Some p
      → Was × ((commits_after (call_if b p told (out_in v) (λ t i. any_stmt)) (commits_in v p)).lost ≡ false)
  reply_by true true q told e d h = absurd (true_false e (other_is q p v.primary h).1)
  reply_by true false q told e d h = let w = was h in (w, kept_reply (out_in v p) told (commits_in v p) d ∙ w.1)
  reply_by false true q told e d h = let w = was (other_is q p v.primary h).0 in (w, w.1)
  reply_by false false q told e d h = let w = was h in (w, w.1)

  restart_by : (b : Bool) (count : ℕ) → v.primary ≡ Some p → (commits_after (restart_if b p count (out_in v)) (commits_in v p)).lost ≡ false
  restart_by true count h = kept_restart (out_in v p) count (commits_in v p) (was h).1
  restart_by false count h = (was h).1

  pub primary_next : (e : Event) → Fits v e → next_primary e v.primary ≡ Some p → Is e
  primary_next (event.Give q told) fits h = let it = reply_by (q == p) (tells_loss told) q told refl refl h in (it.0.0, it.1, it.0.2)
  primary_next (event.Restarted q count) fits h = let w = was h in (w.0, restart_by (q == p) count h, w.2)
  primary_next event.Suspect fits h = cc h
  primary_next (event.Convict q x) fits h = let o = other_is q p v.primary h in let w = was o.0 in (w.0, w.1, ap (λ b. b || (replica_in v p).convicted) o.1 ∙ w.2)
  primary_next (event.NewPrimary q) fits h =
      let same : q ≡ p = same_some q p h in
      let live = and_parts (not (replica_in v q).lost) (not (replica_in v q).convicted) fits.1 in
      (subst (IsReplica v) same fits.0, ap (λ x. (replica_in v x).lost) (sym same) ∙ not_true (replica_in v q).lost live.0, ap (λ x. (replica_in v x).convicted) (sym same) ∙ not_true (replica_in v q).convicted live.1)
  primary_next (event.Begin session txn) fits h = was h
  primary_next (event.Submit txn index stmt) fits h = was h
  primary_next (event.AskCommit txn) fits h = was h
  primary_next (event.AskRollback txn) fits h = was h
  primary_next (event.Take q j) fits h = was h
  primary_next (event.Decide txn) fits h = was h
  primary_next (event.Refuse txn cause) fits h = was h
  primary_next (event.Preempt q u) fits h = was h

-- ---- the search

candidate_near : (v : View) (r : ℕ) → candidate_in v ≡ Some r → IsReplica v r
candidate_near v r h =
    let found = find_has (live_in v) _ r h in
    let at = has_range 0 (2 * v.f + 1) r (has_round (v.search_after + 1) (replica_numbers v.f) r found.0) in
    omega (arith, at.1)

or_near : (v : View) (o : Option ℕ) → candidate_in v ≡ o → IsReplica v v.search_after → IsReplica v (unwrap_or o v.search_after)
or_near v None e near = near
or_near v (Some r) e near = candidate_near v r e

suspect_near : (v : View) (o : Option ℕ) → IsReplica v v.search_after → IsReplica v (start_at_suspect o (candidate_in v) v.search_after)
suspect_near v (Some p) near = near
suspect_near v None near = or_near v (candidate_in v) refl near

pub search_next : (v : View) (e : Event) → Fits v e → IsReplica v v.search_after → IsReplica v (next_search_after e v.primary (candidate_in v) v.search_after)
search_next v event.Suspect fits near = suspect_near v v.primary near
search_next v (event.NewPrimary q) fits near = fits.0
search_next v _ fits near = near

module _ (v : View) (place asks : ℕ) (e : Event) (sane : IsSane v) (fits : Fits v e) where
  abbrev now : View
  now = view_step v place asks e

  pub primary_now : (p : ℕ) → now.primary ≡ Some p → IsReplica now p × IsTrue (live_in now p)
  primary_now p h =
      let is = primary_next v sane p e fits h in
      let here = replica_at v place asks e sane fits p in (
        is.0,
        and_from (not (replica_in now p).lost) (not (replica_in now p).convicted)
            (ap not (ap (λ (x : Progress). x.lost) here ∙ is.1)) (ap not (ap (λ (x : Progress). x.convicted) here ∙ is.2)),
      )
