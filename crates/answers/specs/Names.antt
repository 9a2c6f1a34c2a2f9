-- The names of types and of other crates that more than one file of these definitions uses.
pub use Rattle.answers.specs.declared.answer.Answer.{Answer}
pub use Rattle.answers.specs.declared.answer.Answer.TheVariants.{Done, Unavailable, Access, Both, Consented, CodeSent, TurnedBack, Active, Inactive, HookDone, HookRefused, Ended}
pub use Rattle.answers.specs.declared.endpoint.Endpoint.{Endpoint}
pub use Rattle.answers.specs.declared.halt.Halt.{Halt}
pub use Rattle.answers.specs.declared.want.Want.{Want}
pub use Rattle.answers.specs.declared.want.Want.TheVariants.{Memory, StoreRoom, ClientRoom, FreshDraw, ConsentRoom}
pub use Rattle.authentication.specs.declared.authentication.AuthFault.{AuthFault}
pub use Rattle.clients.specs.Clients.{client_at, ids}
pub use Rattle.clients.specs.Owners.{sub_of, owner_with}
pub use Rattle.clients.specs.RegistryRecord.{RegistryRecord}
pub use Rattle.consent.specs.Changes.{changes_of, as_list}
pub use Rattle.consent.specs.History.{has_room, has_client_room, is_taken, Event, Grant, grant_at, is_spent, has_ended, grants, is_named, is_unexpired, Change, is_within}
pub use Rattle.consent.specs.Seen.{Seen, seen_at, told_at}
pub use Rattle.hook_host.specs.declared.fault.HookFault.{HookFault}
pub use Rattle.hook_record.specs.declared.Ask.{Ask}
pub use Rattle.hook_record.specs.declared.Narrowed.{Narrowed}
pub use Rattle.hook_record.specs.declared.Narrowed.TheVariants.{Allowed, EmptyScope}
pub use Rattle.messages.specs.Reply.{Reply, plain, Body as body, consent_body, ended_body, hook_body, refused_body, sent_back}
pub use Rattle.messages.specs.Reply.Body.{Empty}
pub use Rattle.messages.specs.Written.{error_text, Written, reply_bytes}
pub use Rattle.messages.specs.declared.error.ErrorName.{ErrorName}
pub use Rattle.messages.specs.declared.error.ErrorName.TheVariants.{InvalidRequest, InvalidClient, AccessDenied}
pub use Rattle.messages.specs.declared.request.Draws.{Draws}
pub use Rattle.params.specs.Scope.{scope_text, scope_mask}
pub use Rattle.pkce.specs.Token.{token_text}
pub use Rattle.std.specs.Option.{option_map_or}
pub use Rattle.consent.specs.Owners.{owner_number}
pub use Rattle.token_store.specs.Found.{found_seen}
pub use Rattle.token_store.specs.declared.found.Found.{Found}
