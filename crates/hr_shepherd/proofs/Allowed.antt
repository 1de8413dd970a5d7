-- Which calls of replicas are allowed.
use Rattle.std.proofs.Common.{◌≡◌, ℕ, ◌*◌, ◌≤◌, true, ◌==◌, nat_le, Option, Some, None, is_none, [], IsTrue, refl, ap}
use Rattle.std.proofs.lemmas.Bool.{and_from, and_parts, eq-eqb, le-leb}
use Rattle.hr_history.specs.declared.entry.Event.{Event}
use Rattle.hr_history.specs.declared.entry.Event.TheVariants as event
use Rattle.hr_history.proofs.TurnLemmas.{faithful_by_turns}
use Rattle.hr_history.specs.declared.job.JobReply.{JobReply}
use Rattle.hr_history.specs.Faithful.{is_begun, is_replica, replica_caller, fits_job, is_restart}
use Rattle.hr_history.specs.Replicas.{out_at}
use Rattle.hr_history.specs.Rules.{due}
use Rattle.hr_ledger.specs.Chronicle.{Chronicle, history_in, HasBegun, IsFaithful, IsQuiet, IsAllowed}

replica_is : (f caller r : ℕ) → r ≤ 2 * f → caller ≡ replica_caller r → is_replica f caller r ≡ true
replica_is f caller r near its = and_from (nat_le r (2 * f)) (caller == replica_caller r) (le-leb r (2 * f) near) (eq-eqb caller (replica_caller r) its)

module _ (s : Chronicle) (caller r : ℕ) (near : r ≤ 2 * s.f) (its : caller ≡ replica_caller r) where
  pub give_allowed : (told : JobReply) → IsTrue (fits_job told (out_at r (history_in s))) → IsAllowed caller (event.Give r told) s
  give_allowed told fits = and_from (is_replica s.f caller r) (fits_job told (out_at r (history_in s))) (replica_is s.f caller r near its) fits

  pub restart_allowed : (count : ℕ) → IsTrue (is_restart (out_at r (history_in s))) → IsAllowed caller (event.Restarted r count) s
  restart_allowed count out = and_from (is_replica s.f caller r) (is_restart (out_at r (history_in s))) (replica_is s.f caller r near its) out

-- a history that has begun, and in which nothing is due, follows the rules
pub quiet_faithful : (s : Chronicle) → HasBegun s → IsQuiet s → IsFaithful s
quiet_faithful s begun quiet = and_from (is_begun s.f s.sessions (history_in s)) (is_none (due s.f (history_in s))) begun (ap is_none quiet)

none_of : (o : Option Event) → is_none o ≡ true → o ≡ None
none_of None e = refl
none_of (Some x) e = cc e

-- before anything happened nothing is due
pub quiet_first : (f sessions : ℕ) → due f [] ≡ None
quiet_first f sessions = none_of (due f []) (and_parts (is_begun f sessions []) (is_none (due f [])) ((faithful_by_turns f sessions []).1 ([], tt, refl))).1
