-- The search for a candidate starts after the primary.
use Rattle.std.proofs.Common.{◌≡◌, ℕ, Some, [], ◌∷◌, sym}
use Rattle.hr_history.specs.declared.entry.Event.{Event}
use Rattle.hr_history.specs.declared.entry.Event.TheVariants as event
use Rattle.hr_history.specs.History.{History}
use Rattle.hr_history.specs.Replicas.{tells_loss}
use Rattle.hr_history.specs.Primary.{primary_of, search_after}
use Rattle.hr_records.proofs.Options.{some_none, same_some}
use Rattle.hr_records.proofs.PrimaryWords.{other_is, if_lost}

search_by : (f c p : ℕ) (e : Event) (h : History) → primary_of (record { caller = c; event = e } ∷ h) ≡ Some p → (primary_of h ≡ Some p → search_after f h ≡ p) → search_after f (record { caller = c; event = e } ∷ h) ≡ p
search_by f c p (event.Give q told) h is rest = rest (if_lost (tells_loss told) q p (primary_of h) is)
search_by f c p (event.Convict q x) h is rest = rest (other_is q p (primary_of h) is).0
search_by f c p event.Suspect h is rest = absurd (some_none p (sym is))
search_by f c p (event.NewPrimary q) h is rest = same_some q p is
search_by f c p (event.Begin session txn) h is rest = rest is
search_by f c p (event.Submit txn index stmt) h is rest = rest is
search_by f c p (event.AskCommit txn) h is rest = rest is
search_by f c p (event.AskRollback txn) h is rest = rest is
search_by f c p (event.Take q j) h is rest = rest is
search_by f c p (event.Restarted q n) h is rest = rest is
search_by f c p (event.Decide txn) h is rest = rest is
search_by f c p (event.Refuse txn x) h is rest = rest is
search_by f c p (event.Preempt q txn) h is rest = rest is

pub goes_on : (f p : ℕ) (h : History) → primary_of h ≡ Some p → search_after f h ≡ p
goes_on f p [] is = same_some 0 p is
goes_on f p (e ∷ h) is = search_by f e.caller p e.event h is (λ before. goes_on f p h before)
