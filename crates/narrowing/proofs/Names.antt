-- The names of other crates that more than one file of these proofs uses.
pub use Rattle.batch_file.specs.Frames.{recovered, lists}
pub use Rattle.change_codec.specs.Rules.{RulesFact, ClientFact}
pub use Rattle.consent.specs.declared.kept_record.KeptRecord.{KeptRecord}
pub use Rattle.rules_codec.specs.Facts.{StandingFact, rules_fact, standing_fact}
pub use Rattle.rules_beside.specs.Places.{client_names, first_moved}
pub use Rattle.state_file.specs.Comparing.{IsUnread, KeepClients}
pub use Rattle.state_file.specs.Standing.{AreTold, StandFor, StandsFor, until_of}
pub use Rattle.state_file.specs.Telling.{last_rules, IsOfRules, client_told, rules_of}
pub use Rattle.state_file.specs.TellingLaws.{tell_in, tells_none, tell_one}
pub use Rattle.state_file.specs.declared.fault.StateFault.{StateFault}
pub use Rattle.narrowing.specs.Narrowing.{AreNarrower, HasLeftOfEach, IsNarrower, AreLess, under_in}
pub use Rattle.narrowing.specs.NarrowingParts.{less_by, EndsOfEach, TellLeft}
pub use Rattle.std.specs.Prelude.{IfOk, IsTrue, is_some, slice_get, map, IfSome}
pub use Rattle.token_store.specs.Fits.{FitsHistory}
pub use Rattle.token_store.specs.Image.{kept_told, as_kept}
