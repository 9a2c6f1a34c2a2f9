-- The names that the page takes as known.
pub use Rattle.answers.specs.Requesters.{Parameters, KnownClient, known_client, client_named, form_of, owner_of_key, is_operator, scope_asked, scope_within}
pub use Rattle.answers.specs.Setting.{Setting}
pub use Rattle.answers.specs.Texts.{where_passes, digest_told}
pub use Rattle.answers.specs.Tokens.{is_refresh}
pub use Rattle.authentication.specs.Authentication.{basic_credentials}
pub use Rattle.clients.specs.Clients.{client_at, ids, has_secret, has_redirect}
pub use Rattle.clients.specs.Gateway.{number_in}
pub use Rattle.clients.specs.Grants.{has_grant, grant_named}
pub use Rattle.clients.specs.Numbers.{number_among}
pub use Rattle.clients.specs.Owners.{sub_of}
pub use Rattle.clients.specs.declared.grant.GrantType.TheVariants.{AuthorizationCode, RefreshToken, ClientCredentials}
pub use Rattle.clients.specs.declared.grant.GrantType.{GrantType}
pub use Rattle.consent.specs.History.Change.{Consented, CodeGiven, Issued, Spent, FamilyEnded, HookSet, HookGone}
pub use Rattle.consent.specs.History.{Event, Change, consent_of, consented_scope, spends, is_unexpired, Grant, grants, is_code, next_family}
pub use Rattle.consent.specs.declared.change.NewToken.{NewToken}
pub use Rattle.consent.specs.declared.grant.Kind.{Kind}
pub use Rattle.consent.specs.declared.grant.TokenKind.TheVariants.{Access, Refresh}
pub use Rattle.consent.specs.declared.parties.Parties.{Parties}
pub use Rattle.consent.specs.declared.record_version.RecordVersion.TheVariants.{First, Second}
pub use Rattle.consent.specs.declared.record_version.RecordVersion.{RecordVersion}
pub use Rattle.form_urlencoded.specs.Form.{extend_pairs}
pub use Rattle.hook_host.specs.Faults.{hook_fault_text}
pub use Rattle.hook_host.specs.declared.fault.HookFault.TheVariants.{Memory}
pub use Rattle.hook_host.specs.declared.fault.HookFault.{HookFault}
pub use Rattle.hook_record.specs.declared.Ask.{Ask}
pub use Rattle.hook_record.specs.declared.Narrowed.TheVariants.{Allowed, EmptyScope, Denied}
pub use Rattle.hook_record.specs.declared.Narrowed.{Narrowed}
pub use Rattle.messages.specs.Asked.{Asked}
pub use Rattle.messages.specs.Target.{path_of, query_of}
pub use Rattle.messages.specs.Written.{string_items}
pub use Rattle.params.specs.Form.{read_params, value_sent}
pub use Rattle.params.specs.Scope.{scope_text}
pub use Rattle.pkce.specs.Proof.{is_challenge, proves}
pub use Rattle.pkce.specs.Token.{token_text}
pub use Rattle.registry_json.specs.Faults.{◌>>=◌}
pub use Rattle.serde_json.specs.Data.{Data, boolean, number, unsigned, string, array, object, Members, no_members, member}
pub use Rattle.sha2.specs.Sha256.{sha256}
pub use Rattle.token_endpoint.specs.ClientCredentials.{own_ask}
pub use Rattle.token_endpoint.specs.Grants.{ask_for}
