-- The names of other crates that more than one file of these proofs uses.
pub use Rattle.consent.specs.Changes.{change_of, changes_of, parties_of, token_issued, rest_of_use}
pub use Rattle.consent.specs.Growth.{may_end}
pub use Rattle.consent.specs.GrowthLaws.{grant_at-push, unexpired_count-push, is_spent-push_other, is_spent-unnamed, has_ended-push_other, code_terms-push, code_terms-push_other, grant_at-push_none}
pub use Rattle.consent.specs.GrowthLaws.{unexpired_count-push_none, code_terms-push_none, is_spent-push, has_ended-push, greatest_family-append, with_changes-cons}
pub use Rattle.consent.specs.History.{Event, Grant, Terms, grant_of, grant_at, is_named, is_unexpired, spends, has_ended, code_terms, IsHistory, terms_of, with_change, CanFollow, grants, is_spent}
pub use Rattle.consent.specs.History.{is_beyond, event_at, is_code, is_code_of, is_new, is_home, is_host, is_live_in, lives, greatest_family, family_of, with_changes, AllFollow, CanStand}
pub use Rattle.consent.specs.History.{Change as told}
pub use Rattle.consent.specs.HistoryLaws.{grant_at-old, code_terms-new, has_ended-new, is_history-push, can_stand, grant_at-now, is_history-push_none, code_terms-kin, found-named, found_kin}
pub use Rattle.consent.specs.HistoryLaws.{host_of, Host}
pub use Rattle.consent.specs.ListLaws.{count_by-none, find-some, find-passes, count_by-cons, find-map, find-one, find-uncounted, any-found, any-found_by}
pub use Rattle.consent.specs.declared.change.Change.{Change as Made}
pub use Rattle.consent.specs.declared.change.Change.TheVariants.{CodeGiven, Issued}
pub use Rattle.std.proofs.lemmas.Bool.{ne_eqb, eq-eqb, and_parts, and_from, lt-ltb, eqb-true, ltb-true}
pub use Rattle.std.proofs.lemmas.Bool.Decides.{nat_tests}
pub use Rattle.std.proofs.lemmas.Cmp.{nat_list_eq_equiv}
pub use Rattle.std.proofs.lemmas.Fn.{filter_same}
pub use Rattle.std.proofs.lemmas.List.{take-append-drop, map-append, length-map, nil_from_length, same_from_push, with_items_is, take_more, take_more_set, drop_more, drop-set-lt, length-set}
pub use Rattle.std.proofs.lemmas.List.{take_all}
pub use Rattle.std.proofs.lemmas.List.Elements.{filter-append, All-rest}
pub use Rattle.std.proofs.lemmas.List.Folds.{find-append, list_any-append}
pub use Rattle.std.proofs.lemmas.List.Sums.{sum_by_push, sum_by-append, count_by-le-length}
pub use Rattle.std.proofs.lemmas.Map.{lookup-none, lookup-remove_entry, keys-set_value}
pub use Rattle.std.proofs.lemmas.Map.Entries.{sum_by-remove_entry, sum_by_values_permutation, none_past_head, sum_by-set_value}
pub use Rattle.std.proofs.lemmas.Map.Keys.{IsDistinct-tail, IsDistinct-head, IsDistinct-cons}
pub use Rattle.std.proofs.lemmas.Option.{same_Some}
pub use Rattle.std.proofs.lemmas.Result.{IfOk-weaker, on_ok_weaker}
pub use Rattle.std.proofs.lemmas.Slice.Eq.{bytes_eq-Decides}
pub use Rattle.std.specs.BTreeMap.{is_at}
pub use Rattle.std.specs.BTreeMap.Range.{IsFromStart}
pub use Rattle.std.specs.List.{IsDistinct, AllByRecursion, list_any, list_all}
pub use Rattle.std.specs.List.Sorted.{IsPermutation}
pub use Rattle.std.specs.Map.{lookup, remove_entry, values_of, keys_of, set_value}
pub use Rattle.std.specs.Option.{option_or, MatchOption, option_copied}
pub use Rattle.std.specs.Ordering.{is_gt}
pub use Rattle.std.specs.Prelude.{count_by, ◌==◌, is_some, unwrap_or, nat_le, if◌then◌else◌, ◌||◌, find, nat_eq, not, min, All}
pub use Rattle.std.specs.Str.{bytes_eq}
pub use Rattle.std.specs.Vec.{with_items, vec_len}
pub use Rattle.shelf.specs.Shelved.{AllLast, HasGone, HasTaken, Puts}
pub use Rattle.shelf.specs.Standing.{stand_entries, IsStanding}
pub use Rattle.token_store.specs.Fits.{to_keep, FitsHistory, FitsStore, MakesChanges}
pub use Rattle.token_store.specs.FitsParts.{MakesChange}
pub use Rattle.token_store.specs.Image.{as_kept, kept_record, kind_told, owner_told, terms_by}
pub use Rattle.token_store.specs.Kept.{Kept, kept_at, kept_lives, kept_unexpired, Room, Held}
pub use Rattle.token_store.specs.Records.{shared_at, all_kept, Ties, kept_of, IsTied, kept_in, kept_under, member_count, IsCounted, is_coded, IsOwned, home_shared, family_numbered, shared_seen}
pub use Rattle.token_store.specs.Records.{code_scope, fact_in, expiry, turned, used}
pub use Rattle.token_store.specs.Records.{client_of, expiry_of, is_member_at, AllHomed, IsBelow, IsLasting, or_nothing, has_owner, OwnerKey, owner_cmp, code_shared, texts_given}
pub use Rattle.token_store.specs.RecordsParts.{code_kept, TellsSame, is_live_at, HasLeft, RecordChange, changed, HasEnded, HasLowered, HasIndexed, HasStruck, key_of, is_past, start_of, IsNextOwned, lowered_shared}
pub use Rattle.token_store.specs.RecordsParts.{token_kept}
pub use Rattle.token_store.specs.RecordsParts.{HasEntered, SharesSame, spent_in, shared_or, where_peopled, BecomesKnown, SeenSame, HasAltered, altered}
pub use Rattle.token_store.specs.RecordsParts.{AllLive}
pub use Rattle.token_store.specs.Room.{Waits, HasRoomFor, IsExpected, IsPeopled, held_of, room_of, records_of}
pub use Rattle.token_store.specs.declared.record.Record.{Record}
pub use Rattle.token_store.specs.declared.record.Shared.{Shared}
pub use Rattle.token_store.specs.declared.tables.Coming.{Coming}
pub use Rattle.token_store.specs.declared.tables.Tables.{Tables}
