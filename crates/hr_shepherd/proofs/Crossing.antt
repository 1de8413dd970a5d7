-- A shepherd may go from thread to thread, as its core may.
use denote.Param.Send.{IsSend, AllSend, view_send, recorded_send, struct_send}
use denote.Struct.Declared.{shape}
use Rattle.std.proofs.Crossing.{Box-send}
use Rattle.hr_core.proofs.Crossing.{core_send}
use Rattle.hr_shepherd.specs.contracts.shepherd.Shepherd as Shepherd
use Rattle.hr_shepherd.specs.contracts.shepherd.Shepherd.TheInside as Inside

fields_send : AllSend (shape Inside.the_type).fields
fields_send = (Box-send _ core_send, tt)

inside_send : IsSend Inside.the_row
inside_send = recorded_send Inside.the_field.row _ _ Inside.the_type.to_one (struct_send (shape Inside.the_type) fields_send)

pub shepherd_send : IsSend Shepherd.the_row
shepherd_send = view_send _ _ _ _ _ inside_send
