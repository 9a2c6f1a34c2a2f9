-- What a response of a member tells.
use Rattle.std.specs.Prelude.{◌≡◌, ◌≢◌, Some, true}
use Rattle.etcd_json.specs.Replies.{code_told}
use Rattle.http_call.specs.declared.call.Response.{Response}
use Rattle.etcd_client.specs.Told.{is_refusal}
use Rattle.etcd_client.specs.declared.asking.Heard.{Heard}
use Rattle.etcd_client.specs.declared.asking.Heard.TheVariants.{Done, Forgotten, Refused, Unclear, Unread}

-- Something was done only where the status is 200; that nothing was is told by a code.
abbrev pub IsHeardOf : Response → Heard → Type 0
IsHeardOf response (Done text) = (response.status ≡ 200) × (text.items ≡ response.body.items)
IsHeardOf response (Refused code) = (response.status ≢ 200) × (code_told response.body.items ≡ Some code) × (is_refusal code ≡ true)
IsHeardOf response Forgotten = (response.status ≢ 200) × (code_told response.body.items ≡ Some 16)
IsHeardOf response Unclear = (response.status ≢ 200) × (code_told response.body.items ≢ Some 16)
IsHeardOf response Unread = response.status ≢ 200
