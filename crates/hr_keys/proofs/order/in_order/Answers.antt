use Rattle.std.proofs.Common.{sym, ◌∙◌}
use Rattle.hr_statement_laws.proofs.StillHolds.{fitting_is_ordered}
use Rattle.hr_keys.proofs.order.in_order.Goals as goal

pub returns-then-is_sound : goal.returns-then-is_sound
returns-then-is_sound c e = fitting_is_ordered record { catalog = c.args.catalog.now; tables = c.args.rows.now } (c.is_sound.ensures c.if-is_sound.true) (sym c.holds.ensures ∙ e)
