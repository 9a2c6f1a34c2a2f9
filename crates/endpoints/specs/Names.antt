-- The names of types and of other crates that more than one file of these definitions uses.
pub use Rattle.answers.specs.Halts.{LeadsOrHalts, Halts}
pub use Rattle.answers.specs.Outcomes.{Outcome, point, need, only, refuse, unless_taken, unavailable, bare, chosen}
pub use Rattle.answers.specs.Requesters.{Parameters, client_named, owner_of_key, scope_within, with_form, scope_asked, form_of, with_authenticated, KnownClient}
pub use Rattle.answers.specs.Setting.{Setting, Situation, HostSays, situation_of}
pub use Rattle.answers.specs.Short.{state_limit, IsShortReply}
pub use Rattle.answers.specs.Texts.{where_passes, digest_told}
pub use Rattle.answers.specs.Tokens.{live_token}
pub use Rattle.answers.specs.Told.{outcome_told, Decides}
pub use Rattle.answers.specs.declared.endpoint.Endpoint.{Endpoint}
pub use Rattle.answers.specs.declared.halt.Halt.{Halt}
pub use Rattle.answers.specs.declared.halt.Halt.TheVariants.{Refuse, NoMemory}
pub use Rattle.consent.specs.History.{Happened}
pub use Rattle.change_codec.specs.Happened.{all_dated}
pub use Rattle.clients.specs.ClientRecord.{ClientRecord}
pub use Rattle.clients.specs.Clients.{has_redirect, client_at}
pub use Rattle.clients.specs.Grants.{has_grant}
pub use Rattle.clients.specs.RegistryRecord.{RegistryRecord}
pub use Rattle.clients.specs.declared.grant.GrantType.TheVariants.{AuthorizationCode}
pub use Rattle.consent.specs.Changes.{changes_of, as_list, change_of, parties_of}
pub use Rattle.consent.specs.Consents.{KeptConsents, FitsConsents, kept_consents}
pub use Rattle.consent.specs.CoveredLaws.{is_covered-start, is_covered-push, is_within-trans}
pub use Rattle.consent.specs.Facts.{GivenCode, code_of}
pub use Rattle.consent.specs.History.{is_within, consented_scope, Event, Grant, is_code, has_ended, opener, code_terms, with_change, grant_by, grants, is_code_of, IsHistory, has_consent_room}
pub use Rattle.consent.specs.History.{Change as Happening, with_changes, live_grant, grant_at, AllFollowAt, CanFollow, greatest_family, unexpired_count}
pub use Rattle.consent.specs.History.Change.{Spent}
pub use Rattle.consent.specs.declared.change.Changes.{Changes}
pub use Rattle.consent.specs.declared.change.NewToken.{NewToken}
pub use Rattle.consent.specs.declared.grant.Kind.{Kind}
pub use Rattle.consent.specs.declared.grant.Kind.TheVariants.{Code, Token}
pub use Rattle.consent.specs.declared.grant.TokenKind.{TokenKind}
pub use Rattle.consent.specs.declared.record_version.RecordVersion.{RecordVersion}
pub use Rattle.consent.specs.declared.record_version.RecordVersion.TheVariants.{First, Second}
pub use Rattle.endpoints.specs.declared.reading.Reading.{Reading}
pub use Rattle.endpoints.specs.declared.redo.RedoFault.{RedoFault}
pub use Rattle.endpoints.specs.declared.redo.RedoFault.TheVariants.{Hook, MomentBack, Unknown, DrawTaken}
pub use Rattle.endpoints.specs.declared.ruling.Checked.{Checked}
pub use Rattle.hook_host.specs.declared.fault.HookFault.{HookFault}
pub use Rattle.hook_host.specs.declared.host.HookHost.{Ghosts as Hosting}
pub use Rattle.messages.specs.Asked.{Asked}
pub use Rattle.messages.specs.Reply.{sent_back, consent_body, plain, hook_body, refused_body, Body}
pub use Rattle.messages.specs.Reply.Body.{Told, Active, Inactive, Empty}
pub use Rattle.messages.specs.Target.{query_of, path_of}
pub use Rattle.messages.specs.Written.{error_text, Written, in_writing}
pub use Rattle.messages.specs.declared.error.ErrorName.{ErrorName}
pub use Rattle.messages.specs.declared.error.ErrorName.TheVariants.{InvalidRequest, InvalidScope, UnauthorizedClient, UnsupportedResponseType, AccessDenied, InvalidGrant}
pub use Rattle.messages.specs.declared.request.Draws.{Draws}
pub use Rattle.params.specs.Form.{read_params, value_sent}
pub use Rattle.params.specs.Scope.{scope_text}
pub use Rattle.std.specs.List.{cons_option}
pub use Rattle.std.specs.Option.{option_map_or}
pub use Rattle.std.specs.Result.{result_ok}
pub use Rattle.token_store.specs.Fits.{FitsStore, refusal, FitsHistory}
pub use Rattle.token_store.specs.Kept.{Held}
