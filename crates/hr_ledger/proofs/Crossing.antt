-- A ledger may go from thread to thread: each of its fields may.
use denote.Param.Send.{IsSend, AllSend, sendable, view_send, recorded_send, struct_send}
use denote.Struct.Declared.{shape}
use Rattle.std.proofs.Crossing.{crosses, Vec-send}
use Rattle.std.proofs.option.Option.TheSendSync as option
use Rattle.hr_rel.specs.contracts.stmt.Stmt as Stmt
use Rattle.hr_rel.proofs.expr.Expr.TheLaws.TheKnot as expr
use Rattle.hr_rel.proofs.expr.Pred.TheLaws.TheKnot as pred
use Rattle.hr_rel.proofs.expr.ColRef.TheSendSync as column
use Rattle.hr_rel.proofs.expr.Op.TheSendSync as op
use Rattle.hr_rel.proofs.expr.Operand.TheSendSync as operand
use Rattle.hr_rel.proofs.name.Name.TheSendSync as name
use Rattle.hr_rel.proofs.seq.Seq.TheSendSync as seq
use Rattle.hr_rel.proofs.value.Value.TheSendSync as value
use Rattle.hr_rel.proofs.stmt.InsertStmt.TheSendSync as insert
use Rattle.hr_entries.proofs.stored.Stored.TheSendSync as stored
use Rattle.hr_progress.proofs.view.View.TheSendSync as view
use Rattle.hr_due.proofs.turn.Turn.TheSendSync as turn
use Rattle.hr_ledger.specs.contracts.ledger.Ledger as Ledger
use Rattle.hr_ledger.specs.contracts.ledger.Ledger.TheInside as Inside
use Rattle.hr_ledger.proofs.script.Script.TheSendSync as script

ruleset in_statements = (sendable, crosses, option.the_send, option.the_field_send, expr.crosses, pred.crosses, column.the_send, column.the_field_send, op.the_send, op.the_field_send, operand.the_send, operand.the_field_send, name.the_send, seq.the_send, value.the_send, value.the_field_send, insert.the_send, insert.the_field_send)

stmt_send : IsSend Stmt.the_row
stmt_send = search in_statements depth 60 fits 4000

-- the fields in their order: a search through all of them at once breaks off
fields_send : AllSend (shape Inside.the_type).fields
fields_send = (search sendable, (Vec-send _ stored.the_send, (Vec-send _ stmt_send, (Vec-send _ script.the_send, (search sendable, (turn.the_field_send, (view.the_send, tt)))))))

inside_send : IsSend Inside.the_row
inside_send = recorded_send Inside.the_field.row _ _ Inside.the_type.to_one (struct_send (shape Inside.the_type) fields_send)

pub ledger_send : IsSend Ledger.the_row
ledger_send = view_send _ _ _ _ _ inside_send
