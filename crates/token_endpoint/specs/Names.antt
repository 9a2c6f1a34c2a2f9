-- The names of types and of other crates that more than one file of these definitions uses.
pub use Rattle.answers.specs.Outcomes.{Extent, Outcome, need, refuse, unless_denied, unless_taken, point}
pub use Rattle.answers.specs.Replies.{access_reply, both_reply}
pub use Rattle.answers.specs.Requesters.{Parameters, KnownClient, scope_within, with_authenticated}
pub use Rattle.answers.specs.Setting.{Setting}
pub use Rattle.answers.specs.Texts.{digest_told}
pub use Rattle.answers.specs.Tokens.{code_of_client, refresh_of_client}
pub use Rattle.clients.specs.ClientRecord.{ClientRecord}
pub use Rattle.clients.specs.Grants.{has_grant, grant_named}
pub use Rattle.clients.specs.declared.grant.GrantType.{GrantType}
pub use Rattle.clients.specs.declared.grant.GrantType.TheVariants.{RefreshToken, AuthorizationCode, ClientCredentials}
pub use Rattle.consent.specs.History.{Grant, is_spent, has_ended, Change, consented_scope}
pub use Rattle.consent.specs.History.Change.{Spent, FamilyEnded}
pub use Rattle.consent.specs.declared.change.NewToken.{NewToken}
pub use Rattle.consent.specs.declared.grant.TokenKind.TheVariants.{Access}
pub use Rattle.hook_record.specs.declared.Ask.{Ask}
pub use Rattle.hook_record.specs.declared.Kind.TheVariants.{Code}
pub use Rattle.hook_record.specs.declared.Narrowed.{Narrowed}
pub use Rattle.messages.specs.declared.error.ErrorName.TheVariants.{InvalidScope, UnauthorizedClient, InvalidRequest, InvalidGrant, UnsupportedGrantType}
pub use Rattle.messages.specs.declared.request.Draws.{Draws}
pub use Rattle.params.specs.Form.{value_sent}
pub use Rattle.pkce.specs.Proof.{proves}
pub use Rattle.sha2.specs.Sha256.{sha256}
