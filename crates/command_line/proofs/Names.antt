-- The names of other crates that more than one file of these proofs uses.
pub use Rattle.command_line.specs.Names.{RegistryRecord, Serve, Start, Output, Prints, IsUntouched, Outputs, CommandFault, HookFact, hook_fact, hook_said, string_bytes}
pub use Rattle.command_line.specs.Hooks.{AreFactsOf, hook_fact_of, in_file, IsFactOf, RefusesHooks, TakesHook, TakesHooks, said_of}
pub use Rattle.command_line.specs.Listening.{EndsService, FailsService, ServiceFiles, HasAll, HasEnded, HasFiles, IsMute, ServeEnded, handed, registry_bytes, files_in}
pub use Rattle.command_line.specs.Services.{GiveServe, GiveStart, NameService, address_of, pace_of}
pub use Rattle.command_line.specs.Startings.{Startings, EndsAnew, EndsOn, EndsStart}
pub use Rattle.command_line.specs.declared.hook_files.HookRead.{HookRead}
pub use Rattle.command_line.specs.declared.service.ServeWords.{ServeWords}
pub use Rattle.command_line.specs.declared.service.Service.{Service}
pub use Rattle.commands.specs.Outputs.{output, outputs}
pub use Rattle.std.proofs.lemmas.List.{map-append, drop_all}
