-- A core may go from thread to thread: each of its fields may.
use denote.Param.Send.{IsSend, AllSend, sendable, view_send, recorded_send, struct_send}
use denote.Struct.Declared.{shape}
use Rattle.std.proofs.Crossing.{crosses, Vec-send}
use Rattle.std.proofs.option.Option.TheSendSync as option
use Rattle.hr_ledger.proofs.Crossing.{ledger_send}
use Rattle.hr_core.specs.contracts.whole.Core as Core
use Rattle.hr_core.specs.contracts.whole.Core.TheInside as Inside
use Rattle.hr_core.proofs.seat.Seat.TheSendSync as seat
use Rattle.hr_core.proofs.seat.Shown.TheSendSync as shown

ruleset in_causes = (sendable, crosses, option.the_send, option.the_field_send, shown.the_send, shown.the_field_send)

-- the fields in their order
fields_send : AllSend (shape Inside.the_type).fields
fields_send = (ledger_send, (Vec-send _ seat.the_send, (search in_causes depth 20, (search sendable, tt))))

inside_send : IsSend Inside.the_row
inside_send = recorded_send Inside.the_field.row _ _ Inside.the_type.to_one (struct_send (shape Inside.the_type) fields_send)

pub core_send : IsSend Core.the_row
core_send = view_send _ _ _ _ _ inside_send
