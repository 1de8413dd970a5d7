-- What a person is told of how a run ended, and the program's exit status.
use Rattle.std.specs.Prelude.{ℕ, Option, Some, None}
use Rattle.hr_command.specs.declared.status.Status.{Status}
use Rattle.hr_command.specs.declared.status.Status.TheVariants as status
use Rattle.hr_command.specs.declared.fault.Fault.{Fault}
use Rattle.hr_command.specs.declared.fault.Fault.TheVariants as fault

-- the fault that is told; none where there is nothing to tell
abbrev pub fault_of : Status → Option Fault
fault_of status.Ok = None
fault_of status.Differs = None
fault_of status.Usage = Some fault.Usage
fault_of (status.Input line kind) = Some (fault.Input line kind)
fault_of status.ReadFault = Some fault.Read
fault_of status.WriteFault = Some fault.Write
fault_of status.Memory = Some fault.Memory

-- the exit status
abbrev pub exit_of : Status → ℕ
exit_of status.Ok = 0
exit_of status.Differs = 1
exit_of status.Usage = 2
exit_of (status.Input line kind) = 3
exit_of status.ReadFault = 4
exit_of status.WriteFault = 5
exit_of status.Memory = 6
