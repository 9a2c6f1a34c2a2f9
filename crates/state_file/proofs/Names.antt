-- The names of other crates that more than one file of these proofs uses.
pub use Rattle.state_file.specs.Names.{recovered, frames_size, torn_of, Happened, ClientFact, RulesFact, batch_spelling, RegistryRecord, Event, is_within}
pub use Rattle.state_file.specs.Names.{with_change, happens, Outset, SeenServer, FitsServer, Notes, AreNoted, Hosting, HookFact, rules_spelling, RulesFit}
pub use Rattle.state_file.specs.Names.{StateFault, bytes_eq}
pub use Rattle.batch_file.specs.Frames.{lists}
pub use Rattle.change_codec.specs.Happened.{all_dated}
pub use Rattle.consent.specs.HistoryLaws.{Happened-joined, Happened-none, Happened-nothing}
pub use Rattle.change_codec.specs.Spelling.{dated_fact, dated_facts}
pub use Rattle.change_codec.specs.declared.dated.DatedChange.{DatedChange}
pub use Rattle.clients.specs.ClientRecord.{ClientRecord}
pub use Rattle.consent.specs.Changes.{change_of}
pub use Rattle.consent.specs.History.{event_at, last_moment, greatest_family}
pub use Rattle.consent.specs.declared.change.Changes.TheVariants.{One}
pub use Rattle.consent.specs.declared.record_version.RecordVersion.TheVariants.{First}
pub use Rattle.endpoints.specs.Bounded.{AllRight, token_life_limit}
pub use Rattle.endpoints.specs.Noting.{with_notes}
pub use Rattle.endpoints.specs.Server.{AreUnkept, outset_of, NowNotes}
pub use Rattle.rules_codec.specs.Facts.{client_fact, hook_fact, rules_fact}
pub use Rattle.rules_codec.specs.Spelling.{rules_fields}
pub use Rattle.rules_codec.specs.SpellingLaws.{one_rules}
pub use Rattle.rules_codec.specs.declared.standing.KeptHook.{KeptHook}
pub use Rattle.rules_beside.specs.Places.{client_names, first_moved, first_narrowed}
pub use Rattle.state_file.specs.Comparing.{AreAsWide, IsUnread, RefuseBeside, TakesRules}
pub use Rattle.state_file.specs.Hooks.{hooks_after, hooks_set_in, hooks_with, AreSet, with_hooks, hook_named, with_hook, without_hook}
pub use Rattle.state_file.specs.Knowing.{shortened_size, tells_number}
pub use Rattle.state_file.specs.Making.{AreTooLong, MakesFrom, OnBytes, RefusesMaking, on_bytes}
pub use Rattle.state_file.specs.MakingParts.{AreToldBehind, AreAdded, IsUnadded}
pub use Rattle.state_file.specs.Listing.{IsUnlisted}
pub use Rattle.state_file.specs.Remaking.{FinishesAs, FitsRemade, MakesAgain, RefusesAgain, RefusesBatches, RefusesOne, TellsAgain}
pub use Rattle.state_file.specs.Renewing.{left_numbered, AreTooMuch}
pub use Rattle.state_file.specs.Resuming.{AnswersFor, AnswersForBatches, FitsRestored, IsRight, ListsItself, Replays, WasRun, Sets, RefusesList, RefuseServer}
pub use Rattle.state_file.specs.Resuming.{RefusesResume, RefusesSettings, RefusesToRedo}
pub use Rattle.state_file.specs.Standing.{AreTold, IsMomentTold, StandFor, StandsFor, until_of}
pub use Rattle.state_file.specs.StandingLaws.{AreTold-changes, AreTold-joined, AreTold-split, until_of-append, AreTold-rules}
pub use Rattle.state_file.specs.Telling.{client_told, rules_of, Tell, last_rules, IsOfRules, rules_in}
pub use Rattle.state_file.specs.TellingLaws.{last_rules-push, tell_in}
pub use Rattle.state_file.specs.declared.known.Known.{Known}
pub use Rattle.state_file.specs.declared.remade.Remade.{Remade}
pub use Rattle.state_file.specs.declared.restored.Restored.{Restored}
pub use Rattle.std.proofs.lemmas.Bool.{ne_eqb, iff_false}
pub use Rattle.std.proofs.lemmas.Grind.{common_steps}
pub use Rattle.std.proofs.lemmas.List.{map_push, append-nil, map-append, take-append-drop, take_all}
pub use Rattle.std.proofs.lemmas.Slice.Eq.{bytes_eq-Decides}
pub use Rattle.std.specs.List.{slice_get}
pub use Rattle.std.specs.Option.{option_copied}
pub use Rattle.std.specs.Prelude.{max, if◌then◌else◌, option_map, unwrap_or, IfErr, IsTrue}
