-- The status with which the program ends.
use Rattle.std.specs.Prelude.{ℕ}
use Rattle.assembler.specs.declared.fault.AsmFault.TheVariants as asm
use Rattle.insn.specs.declared.fault.InsnFault.TheVariants as insn
use Rattle.insn.specs.declared.verify_fault.VerifyFault.TheVariants as verify
use Rattle.hook_commands.specs.declared.answer.HookAnswer.TheVariants as hook_answers
use Rattle.hook_commands.specs.declared.fault.HookCommandFault.{HookCommandFault}
use Rattle.hook_commands.specs.declared.fault.HookCommandFault.TheVariants as hook
use Rattle.transcript.specs.declared.fault.ReplayFault.TheVariants as replay
use Rattle.commands.specs.declared.fault.CommandFault.{CommandFault}
use Rattle.commands.specs.declared.fault.CommandFault.TheVariants.{HookCommand, Replay, OutOfMemory}
use Rattle.commands.specs.declared.answer.Answer.{Answer}
use Rattle.commands.specs.declared.answer.Answer.TheVariants as answers
use Rattle.commands.specs.declared.status.Status.{Status}
use Rattle.commands.specs.declared.status.Status.TheVariants.{Done, Refused, BadUse, NoMemory}

-- 0 done, 1 refused, 2 bad use, 3 no memory
abbrev pub exit_code : Status → ℕ
exit_code Done = 0
exit_code Refused = 1
exit_code BadUse = 2
exit_code NoMemory = 3

-- a hook or a text that is refused is one thing, bad use another
abbrev pub status_of_hook_command : HookCommandFault → Status
status_of_hook_command hook.BadArguments = BadUse
status_of_hook_command hook.BadRecord = BadUse
status_of_hook_command (hook.CannotRead path) = BadUse
status_of_hook_command (hook.IsElf path) = BadUse
status_of_hook_command (hook.IsNotHex path) = BadUse
status_of_hook_command (hook.Text asm.Memory word) = NoMemory
status_of_hook_command (hook.Text fault word) = Refused
status_of_hook_command (hook.Insn insn.Memory) = NoMemory
status_of_hook_command (hook.Insn fault) = Refused
status_of_hook_command (hook.Verify verify.Memory) = NoMemory
status_of_hook_command (hook.Verify fault) = Refused
status_of_hook_command hook.OutOfMemory = NoMemory

-- so it is with an event that is refused; all else, as a service that does not serve, or stopped, is bad use
abbrev pub status_of_command_fault : CommandFault → Status
status_of_command_fault (HookCommand fault) = status_of_hook_command fault
status_of_command_fault (Replay (replay.Refused line fault)) = Refused
status_of_command_fault OutOfMemory = NoMemory
status_of_command_fault fault = BadUse

-- an answer that tells why a program is refused ends as a refusal, every other one is done
abbrev pub status_of_answer : Answer → Status
status_of_answer (answers.Hook (hook_answers.Looked fault jump help)) = Refused
status_of_answer (answers.Hook (hook_answers.Refused told)) = Refused
status_of_answer answer = Done
