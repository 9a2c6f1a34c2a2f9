-- The names of types and of other crates that more than one file of these definitions uses.
pub use Rattle.batch_file.specs.Frames.{recovered, frames_size, torn_of, RefusesFile}
pub use Rattle.consent.specs.History.{Happened}
pub use Rattle.change_codec.specs.Keeping.{Basis, Until, Rules}
pub use Rattle.change_codec.specs.Rules.{ClientFact, RulesFact}
pub use Rattle.change_codec.specs.Spelling.{HaveSpelling, batch_spelling}
pub use Rattle.clients.specs.RegistryRecord.{RegistryRecord}
pub use Rattle.consent.specs.History.{is_within, Event, Change, with_change, Change as happens}
pub use Rattle.endpoints.specs.Hosts.{HostStep, HostRun}
pub use Rattle.endpoints.specs.Layouts.{layout_of}
pub use Rattle.endpoints.specs.Server.{Outset, SeenServer, FitsServer, Notes, AreNoted}
pub use Rattle.hook_chain.specs.Chains.{Named, IsAcceptedCode, IsInstalled, without_name}
pub use Rattle.hook_host.specs.declared.host.HookHost.{Ghosts as Hosting}
pub use Rattle.rules_codec.specs.Facts.{HookFact}
pub use Rattle.rules_codec.specs.Spelling.{rules_reading, RulesCount, rules_spelling, RulesFit}
pub use Rattle.state_file.specs.declared.fault.StateFault.{StateFault}
pub use Rattle.state_file.specs.declared.fault.StateFault.TheVariants.{NoRules, Spelling, ScopeMoved, OwnerMoved, FormerOwner, ClientMoved, ClientNarrowed, LifeNarrowed, NotState, Version, Damaged, Follows}
pub use Rattle.state_file.specs.declared.fault.StateFault.TheVariants.{HookDiffers, Hook}
pub use Rattle.std.specs.Option.{option_or}
pub use Rattle.std.specs.Str.{bytes_eq}
pub use Rattle.wire.specs.declared.fault.Fault.{Fault}
