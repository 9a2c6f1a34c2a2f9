-- The names of other crates that more than one file of these proofs uses.
pub use Rattle.answers.specs.Names.{plain, Reply, sent_back, consent_body, refused_body, hook_body, Empty, Written, error_text, scope_text, token_text}
pub use Rattle.answers.specs.Outcomes.{status_of}
pub use Rattle.answers.specs.Replies.{access_reply, both_reply}
pub use Rattle.hook_host.specs.Faults.{hook_fault_text}
pub use Rattle.hook_host.specs.Names.{AreHookNames, IsHookName, name_limit}
pub use Rattle.messages.specs.Members.Member.{Texts}
pub use Rattle.messages.specs.Reply.Body.{Told, Failure, Inactive}
pub use Rattle.messages.specs.Small.{IsSmallReply, texts_size, is_reply_status}
pub use Rattle.messages.specs.Written.{in_writing}
pub use Rattle.params.specs.Limits.{scope_text_limit}
pub use Rattle.pkce.specs.TokenLaws.{length-token_text}
pub use Rattle.std.specs.Prelude.{◌*◌, All, slice_get, Result, IfOk}
