-- The view of a history, which the shepherd keeps in place of it.
pub use Rattle.hr_history.specs.View.{View, TxnState, Attempt, Progress, view_of}
