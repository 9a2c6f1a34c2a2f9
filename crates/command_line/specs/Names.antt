-- The names of types and of other crates that more than one file of these definitions uses.
pub use Rattle.clients.specs.RegistryRecord.{RegistryRecord}
pub use Rattle.command_line.specs.declared.call.Call.{Call}
pub use Rattle.command_line.specs.declared.call.Call.TheVariants.{Command, State}
pub use Rattle.command_line.specs.declared.call.Call.TheVariants.{List as OnList}
pub use Rattle.command_line.specs.declared.service.Service.TheVariants.{Serve, Start}
pub use Rattle.command_line.specs.declared.state_command.StateCommand.{StateCommand}
pub use Rattle.command_line.specs.declared.state_command.StateCommand.TheVariants.{New, Trial}
pub use Rattle.commands.specs.Config.{HoldsNoRegistry, HoldsRegistry}
pub use Rattle.commands.specs.Outputs.{Outputs, IsUntouched, Output, Prints}
pub use Rattle.commands.specs.Performed.{EndsCommand, TellsFault}
pub use Rattle.commands.specs.Words.{file_named_by, IsCommand, Arguments}
pub use Rattle.commands.specs.declared.fault.CommandFault.{CommandFault}
pub use Rattle.commands.specs.declared.fault.CommandFault.TheVariants.{BadArguments, OutOfMemory, CannotListen, CannotWrite, ClockAhead, NoSeed, NoSocket, Stopped, Unaudited, Unopened, CannotRead, Hook, BadWord, BadCommand, NoAddress, NoConfig}
pub use Rattle.commands.specs.declared.status.Status.{Status}
pub use Rattle.commands.specs.declared.status.Status.TheVariants.{Done}
pub use Rattle.daemon.specs.Listening.{IsToldBy}
pub use Rattle.ports.specs.Listening.{Announces}
pub use Rattle.ports.specs.declared.fault.ListenFault.{ListenFault}
pub use Rattle.hook_chain.specs.Chains.{IsInstalled, Named, RefusesInstall}
pub use Rattle.hook_commands.specs.HexText.{IsHexOf}
pub use Rattle.rules_codec.specs.Facts.{HookFact, hook_fact}
pub use Rattle.lifetime.specs.declared.life.LifeEnd.{LifeEnd}
pub use Rattle.start_words.specs.Options.{HookSaid, hook_said, Said, wrong, clock_limit}
pub use Rattle.start_words.specs.declared.words.StartWords.{StartWords}
pub use Rattle.std.specs.String.{string_bytes}
