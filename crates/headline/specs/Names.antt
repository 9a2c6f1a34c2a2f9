-- The names of types and of other crates that more than one file of these definitions uses.
pub use Rattle.answers.specs.Outcomes.{Outcome}
pub use Rattle.answers.specs.Requesters.{Parameters, form_of, KnownClient, client_named}
pub use Rattle.answers.specs.Texts.{digest_told}
pub use Rattle.clients.specs.Clients.{client_at, has_redirect}
pub use Rattle.clients.specs.Owners.{sub_of}
pub use Rattle.clients.specs.RegistryRecord.{RegistryRecord}
pub use Rattle.consent.specs.History.{Grant, grant_at, has_ended, is_code, is_single_use, is_spent, Change, Terms, code_terms, grants, event_at, live_grant, is_within, consented_scope, last_consent}
pub use Rattle.consent.specs.History.{with_changes}
pub use Rattle.consent.specs.History.Change.{Consented, CodeGiven, Issued, Spent, FamilyEnded}
pub use Rattle.consent.specs.declared.grant.Kind.TheVariants.{Token}
pub use Rattle.consent.specs.declared.grant.TokenKind.{TokenKind}
pub use Rattle.consent.specs.declared.grant.TokenKind.TheVariants.{Access, Refresh}
pub use Rattle.endpoints.specs.Bounded.{token_life_limit, IsOwn, MayHave}
pub use Rattle.endpoints.specs.Server.{Outset, SeenServer, FitsServer}
pub use Rattle.headline.specs.declared.call.EdgeCall.{EdgeCall}
pub use Rattle.headline.specs.declared.call.EdgeCall.TheVariants.{Take, Forget}
pub use Rattle.headline.specs.declared.call.Upshot.{Upshot}
pub use Rattle.headline.specs.declared.call.Upshot.TheVariants.{Done, Refused}
pub use Rattle.hook_chain.specs.Exits.{narrowed_by, narrowed_by_hook, Exit, IsRunTo, exit_within}
pub use Rattle.hook_host.specs.declared.host.HookHost.{Ghosts as Hosting}
pub use Rattle.hook_record.specs.declared.Ask.{Ask}
pub use Rattle.hook_record.specs.declared.Narrowed.TheVariants.{Allowed}
pub use Rattle.http_edge.specs.Answers.{Mishap, AnsweredRequest, IsOutcomeOfRequest, AreAskedBy, replies_of}
pub use Rattle.http_edge.specs.Edges.{SeenEdge, output_of}
pub use Rattle.http_edge.specs.Reached.{Journey, led_on, Reached, new_journey, HappeningLeads, InEach}
pub use Rattle.http_edge.specs.Schedule.{World, Connection, Happening, Opened, Came, HasEnded, Taken, Forgotten, Happens, connection_at, piece_of, untaken, Run, faulty_if, first_world}
pub use Rattle.http_edge.specs.Schedule.{is_closing_phase, Resumed}
pub use Rattle.messages.specs.Reply.{Body, Reply, Redirection, state_pair}
pub use Rattle.messages.specs.Reply.Body.{Active, Tokens, Failure}
pub use Rattle.messages.specs.Target.{path_of, query_of}
pub use Rattle.params.specs.Form.{value_sent, read_params}
pub use Rattle.params.specs.Scope.{scope_text}
pub use Rattle.sha2.specs.Sha256.{sha256}
pub use Rattle.std.specs.List.{flat_map, list_any}
pub use Rattle.verifier.specs.Verdicts.{Checked}
