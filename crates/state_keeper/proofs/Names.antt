-- The names of other crates that more than one file of these proofs uses.
pub use Rattle.batch_file.specs.Crashes.{LeavesOnly}
pub use Rattle.batch_file.specs.Frames.{IsOnDisk, frames_size}
pub use Rattle.state_keeper.specs.Names.{recovered, Device, Event}
pub use Rattle.batch_file.specs.declared.appending.BatchFile.{BatchFile}
pub use Rattle.change_codec.specs.Keeping.{HoldsBasis, KeepsBasis, TellsBasis, Until}
pub use Rattle.change_codec.specs.Rules.{RulesFact}
pub use Rattle.change_codec.specs.Spelling.{HaveSpelling, batch_spelling, dated_fact, dated_facts}
pub use Rattle.change_codec.specs.declared.dated.DatedChange.{DatedChange}
pub use Rattle.state_file.specs.Knowing.{IsKnown, IsLong, end_of, shortened_size, tells_number}
pub use Rattle.state_file.specs.Renewing.{left_numbered}
pub use Rattle.state_file.specs.Standing.{AreTold, StandFor, horizon, until_of}
pub use Rattle.state_file.specs.StandingLaws.{AreTold-changes, AreTold-horizon, AreTold-joined, AreTold-split, one_told, until_of-append, until_of-more}
pub use Rattle.state_file.specs.Telling.{Tell, last_rules}
pub use Rattle.state_file.specs.TellingLaws.{last_rules-push}
pub use Rattle.state_file.specs.declared.known.Known.{Known}
pub use Rattle.state_keeper.specs.Seen.{AreDrafted, IsDraft, IsLongFile, SeenKeeper, file_crashes}
pub use Rattle.state_keeper.specs.Starting.{IsOldOr, IsPutOn}
pub use Rattle.std.proofs.lemmas.List.{append-nil, map-append, take_all}
pub use Rattle.std.specs.Prelude.{if◌then◌else◌}
