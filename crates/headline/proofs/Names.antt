-- The names of other crates that more than one file of these proofs uses.
pub use Rattle.headline.specs.Names.{Outcome, form_of, Parameters, digest_told, client_at, RegistryRecord, Grant, grant_at, grants, live_grant, is_code}
pub use Rattle.headline.specs.Names.{is_single_use, is_spent, Change, event_at, Terms, code_terms, has_ended, with_changes, is_within, consented_scope, last_consent, CodeGiven, Issued, Spent}
pub use Rattle.headline.specs.Names.{FamilyEnded, Consented, Token, token_life_limit, Outset, Hosting, Ask, Allowed, AnsweredRequest, IsOutcomeOfRequest, AreAskedBy, replies_of, Happening, Came}
pub use Rattle.headline.specs.Names.{Taken, Resumed, Happens, Run, World, first_world, Opened, HasEnded, Forgotten, connection_at, piece_of, untaken, Connection, is_closing_phase, faulty_if}
pub use Rattle.headline.specs.Names.{Redirection, Failure, query_of, path_of, value_sent, read_params, sha256, flat_map, list_any}
pub use Rattle.answers.specs.FoundLaws.{under_digest}
pub use Rattle.answers.specs.Outcomes.{point, only, bare, chosen, Extent, need, unavailable}
pub use Rattle.answers.specs.Paths.{endpoint_at, method_at}
pub use Rattle.answers.specs.Requesters.{owner_of_key}
pub use Rattle.answers.specs.Setting.{Setting}
pub use Rattle.answers.specs.Texts.{where_passes}
pub use Rattle.answers.specs.Tokens.{live_token, is_own, is_refresh}
pub use Rattle.answers.specs.declared.endpoint.Endpoint.{Endpoint}
pub use Rattle.answers.specs.declared.endpoint.Endpoint.TheVariants.{IssueToken, RevokeToken, Authorize, GiveConsent, Introspect, InstallHook, RemoveHook, Read, EndOwner}
pub use Rattle.authentication.specs.Authentication.{authenticated}
pub use Rattle.clients.specs.ClientRecord.{ClientRecord}
pub use Rattle.clients.specs.Grants.{grant_named}
pub use Rattle.clients.specs.declared.grant.GrantType.TheVariants.{AuthorizationCode, RefreshToken}
pub use Rattle.consent.specs.CoveredLaws.{is_within-self}
pub use Rattle.consent.specs.GrowthLaws.{has_ended-push, has_ended-push_other, with_changes-cons, grants-append, is_taken-parts, grant_at-append, has_ended-before}
pub use Rattle.consent.specs.History.{is_named, is_unexpired, IsHistory}
pub use Rattle.consent.specs.History.{ends, is_beyond, with_change, grant_by, spends, is_taken, is_good}
pub use Rattle.consent.specs.History.Change.{HookSet, HookGone}
pub use Rattle.consent.specs.HistoryLaws.{grant_at-past, grant_at-given}
pub use Rattle.consent.specs.declared.grant.Kind.{Kind}
pub use Rattle.consent.specs.declared.grant.Kind.TheVariants.{Code}
pub use Rattle.endpoints.specs.Bounded.{AllRight, IsBounded, IsAllowed, IsConsentedAt}
pub use Rattle.endpoints.specs.BoundedLaws.{tokens_keep_their_bounds}
pub use Rattle.endpoints.specs.HookPaths.{is_operator, installation, removal}
pub use Rattle.endpoints.specs.Hosts.{HostStep, HostRun, says_with}
pub use Rattle.endpoints.specs.Introspect.{IsActive, introspect, told_of}
pub use Rattle.endpoints.specs.Replies.{outcome_at}
pub use Rattle.endpoints.specs.Server.{outset_of}
pub use Rattle.headline.specs.Activity.{IsLive, Shows, TellsOf, TellsWithin, IsActiveWhereLive, TellsLive}
pub use Rattle.headline.specs.Bearers.{BearsCredentials, BearsOwnerKey, BearsOperatorKey, BearsWith}
pub use Rattle.headline.specs.Grants.{KeepsScope, IsSince}
pub use Rattle.headline.specs.Headline.{IsMade}
pub use Rattle.headline.specs.Hooked.{without_hooks, IsNarrowed, WidensNothing}
pub use Rattle.headline.specs.Occasions.{Occasion, GoesTo, outcome_of, reply_on, setting_on, history_after}
pub use Rattle.headline.specs.Uses.{Presents, Exchanges, IsDead, UsesUp, Replays}
pub use Rattle.hook_host.specs.DecisionLaws.{met_with_narrows}
pub use Rattle.hook_host.specs.Decisions.{met_with}
pub use Rattle.hook_record.specs.Narrowing.{met, IsNarrowing}
pub use Rattle.hook_record.specs.declared.Narrowed.{Narrowed}
pub use Rattle.hook_record.specs.declared.Narrowed.TheVariants.{Denied, EmptyScope}
pub use Rattle.http_edge.specs.Answers.{AreAnswered, changes_made, draws_in, mishaps_in}
pub use Rattle.http_edge.specs.Schedule.{AnsweredPiece, PieceComes}
pub use Rattle.http_edge.specs.Schedule.{Kept, Opens, StreamEnds, TakesOutput, ForgetsConnection, with_connection, fresh, heard}
pub use Rattle.messages.specs.Asked.{Asked}
pub use Rattle.messages.specs.Reply.{plain}
pub use Rattle.messages.specs.Reply.Body.{Empty}
pub use Rattle.messages.specs.declared.error.ErrorName.TheVariants.{InvalidGrant}
pub use Rattle.pkce.specs.Proof.{challenge_of, is_verifier}
pub use Rattle.std.proofs.lemmas.Bool.{and_parts, ltb-true, false≢true, not-true, eq-eqb, and_from}
pub use Rattle.std.proofs.lemmas.Bool.Decides.{nat_tests}
pub use Rattle.std.proofs.lemmas.List.{map-append, take_all, take_more}
pub use Rattle.std.proofs.lemmas.List.Elements.{All-nil, All-cons, All-contains, All-weaker, All-head, All-append, All-filter}
pub use Rattle.std.proofs.lemmas.List.Folds.{list_any-append}
pub use Rattle.std.proofs.lemmas.Slice.Eq.{bytes_eq-Decides}
pub use Rattle.std.specs.List.{list_all, fold}
pub use Rattle.std.specs.Prelude.{codes, not, Contains, find, ◌||◌, is_some, unwrap_or, bit_and, ◌==◌, if◌then◌else◌}
pub use Rattle.std.specs.Result.{result_ok}
pub use Rattle.token_endpoint.specs.ClientCredentials.{own_ask}
pub use Rattle.token_endpoint.specs.Grants.{access_issued, refresh_issued, new_token, both_digests}
pub use Rattle.token_endpoint.specs.TokenPath.{issue_token}
