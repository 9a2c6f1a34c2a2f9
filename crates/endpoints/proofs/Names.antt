-- The names of other crates that more than one file of these proofs uses.
pub use Rattle.endpoints.specs.Names.{Halts, Outcome, bare, only, refuse, unavailable, point, need, unless_taken, Parameters, KnownClient, client_named, form_of, owner_of_key, scope_asked}
pub use Rattle.endpoints.specs.Names.{scope_within, with_authenticated, Setting, digest_told, where_passes, live_token, outcome_told, Decides, Halt, Refuse, NoMemory, ClientRecord}
pub use Rattle.endpoints.specs.Names.{client_at, has_grant, RegistryRecord, AuthorizationCode, changes_of, as_list, AllFollowAt, change_of, parties_of, KeptConsents, FitsConsents, is_within-trans, Event}
pub use Rattle.endpoints.specs.Names.{with_changes, Grant, grant_at, with_change, IsHistory, is_within, is_code, consented_scope, live_grant, has_consent_room, code_terms, grants}
pub use Rattle.endpoints.specs.Names.{has_ended, is_code_of, CanFollow, grant_by, unexpired_count, Changes, NewToken, Kind, Code, Token, Checked, HookFault, Hosting, Asked}
pub use Rattle.endpoints.specs.Names.{plain, refused_body, consent_body, sent_back, Empty, Inactive, Told, Active, path_of, query_of, Written, in_writing, error_text, ErrorName, InvalidRequest}
pub use Rattle.endpoints.specs.Names.{InvalidGrant, InvalidScope, UnauthorizedClient, UnsupportedResponseType, AccessDenied, Draws, read_params, value_sent, option_map_or, result_ok}
pub use Rattle.endpoints.specs.Names.{FitsStore, refusal, Held}
pub use Rattle.answers.specs.Found.{grant_found}
pub use Rattle.answers.specs.Outcomes.{Extent, status_of, unless_denied}
pub use Rattle.answers.specs.Paths.{endpoint_at, method_at}
pub use Rattle.answers.specs.Replies.{reply_of, id_of}
pub use Rattle.answers.specs.Requesters.{known_client, with_client, with_credentials}
pub use Rattle.answers.specs.Tokens.{is_refresh, code_of_client, refresh_of_client, is_own}
pub use Rattle.answers.specs.Views.{setting_of}
pub use Rattle.clients.specs.Grants.{grant_named}
pub use Rattle.clients.specs.declared.grant.GrantType.TheVariants.{RefreshToken, ClientCredentials}
pub use Rattle.consent.specs.ConsentLaws.{fits_consents-push_other}
pub use Rattle.consent.specs.CoveredLaws.{is_within-self}
pub use Rattle.consent.specs.Growth.{is_consent}
pub use Rattle.consent.specs.GrowthLaws.{is_taken-parts, code_terms-keep, has_ended-push_other, with_changes-cons}
pub use Rattle.consent.specs.History.{Change as happening, event_at}
pub use Rattle.answers.specs.Quotas.{records_of}
pub use Rattle.consent.specs.History.{has_room, has_client_room, is_taken, Terms, terms_of, is_spent}
pub use Rattle.consent.specs.History.{where_good, Change as told}
pub use Rattle.consent.specs.HistoryLaws.{opener-new, code_terms-of_code, grant_at-given, home_of, lives_of}
pub use Rattle.consent.specs.declared.change.Change.TheVariants.{Spent}
pub use Rattle.consent.specs.declared.change.Changes.TheVariants.{Nothing, One, Used, Left}
pub use Rattle.endpoints.specs.Authorize.{HasShortState}
pub use Rattle.endpoints.specs.Bounded.{AllRightAfter, MayHave, allowed_to, IsOfCode, IsOwn, IsRightChange, is_of_code, token_life_limit, AllRight}
pub use Rattle.endpoints.specs.BoundedLaws.{own-later, all_right-at}
pub use Rattle.endpoints.specs.ConsentPath.{consent_given}
pub use Rattle.endpoints.specs.HookPaths.{hook_change_at, by_fault, hook_gone, hook_set_by, is_operator, with_operator}
pub use Rattle.endpoints.specs.Hosts.{HostRun, IsHostFault, says_with, HostStep}
pub use Rattle.endpoints.specs.Introspect.{introspect, told_of}
pub use Rattle.endpoints.specs.Making.{IsSame, Makes, MakesHost, HasRooms}
pub use Rattle.endpoints.specs.Noting.{with_notes, noted_in, prepared_in}
pub use Rattle.endpoints.specs.OwnerPath.{end_owner, owner_asked, owner_ended}
pub use Rattle.endpoints.specs.Parts.{hook_points, live_of, with_presented, authorize_known, query_points}
pub use Rattle.endpoints.specs.Redo.{RedoesChange, RefusesRedo, list_refusal, or_not_right}
pub use Rattle.endpoints.specs.Remaking.{SeenRemaking, FitsRemaking}
pub use Rattle.endpoints.specs.Revoke.{revoke_token, revoked}
pub use Rattle.endpoints.specs.Right.{comes_of, comes_of_family, is_right, may_have, may_have_token}
pub use Rattle.endpoints.specs.Ruling.{CanMakeAll, CanMake, CanTake}
pub use Rattle.endpoints.specs.RulingParts.{IsHookRefused, RulesHooks}
pub use Rattle.endpoints.specs.Rulings.{Asking, FitsNow, IsRuling, comes_to, setting_now, IsRuled, asking_of}
pub use Rattle.endpoints.specs.RulingsParts.{AnswersRequest, before_now, IsAlone}
pub use Rattle.endpoints.specs.Server.{SeenServer, Outset, Before, FitsServer, AreUnkept, AreNoted, IsStep, outset_of}
pub use Rattle.endpoints.specs.Steps.{Arrival, IsSwept, Steps, Sweeps}
pub use Rattle.endpoints.specs.declared.revoke.Presented.{Presented}
pub use Rattle.endpoints.specs.declared.ruling.Checked.TheVariants.{NoHook, Installs, Removes}
pub use Rattle.endpoints.specs.declared.ruling.Ruling.{Ruling}
pub use Rattle.hook_record.specs.declared.Narrowed.TheVariants.{Allowed, Denied, EmptyScope}
pub use Rattle.messages.specs.Asked.{asked_of}
pub use Rattle.messages.specs.Reply.{Reply}
pub use Rattle.messages.specs.Reply.Body.{Failure}
pub use Rattle.messages.specs.declared.error.ErrorName.TheVariants.{InvalidClient}
pub use Rattle.messages.specs.declared.error.ErrorName.TheVariants.{UnsupportedGrantType}
pub use Rattle.sha2.specs.Sha256.{sha256}
pub use Rattle.std.proofs.lemmas.Bool.{not-false, and_parts, eqb-true, leb-true, not-true, false≢true, eq-eqb, eqb-false, ne_eqb, and_from, le-leb}
pub use Rattle.std.proofs.lemmas.Bool.Decides.{nat_tests}
pub use Rattle.std.proofs.lemmas.Option.{same_Some, slice_get_cases}
pub use Rattle.std.specs.List.{position_or_len}
pub use Rattle.std.specs.Prelude.{option_map, is_some, find, nat_le, ◌≢◌, IfOk, option_copied, slice_get}
pub use Rattle.token_endpoint.specs.ClientCredentials.{client_credentials, own_ask}
pub use Rattle.token_endpoint.specs.Exchange.{ends_family}
pub use Rattle.token_endpoint.specs.Grants.{access_for, access_issued, both_digests, both_for, left_by_host, new_token, ask_for}
pub use Rattle.token_store.specs.FitsLaws.{fits_later, store_history}
