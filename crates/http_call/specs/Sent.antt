-- The bytes of a request, as the client of `http1` spells them.
use Rattle.std.specs.Prelude.{List, ℕ, [], ◌∷◌, ◌++◌, codes, length, Option, None, Some}
use Rattle.std.specs.Borrow.{Bor}
use Rattle.http1.specs.declared.client.Client.{Client}
use Rattle.http1.specs.declared.conn.BodySize.TheVariants.{Known}
use Rattle.http1.specs.Client.{after_end, after_request, planned_request, with_writing, writing}
use Rattle.http1.specs.Conn.{after_data, data_text, finish_text}
use Rattle.http1.specs.Fields.{Header}
use Rattle.http_call.specs.declared.call.Request.{Request}

-- what proves who asks, if anything does
abbrev pub proof_line : Option (Bor (List ℕ)) → List Header
proof_line None = []
proof_line (Some token) = (codes "Authorization", token.now) ∷ []

-- the lines of its head that are not the client's own
abbrev pub lines : Request → List Header
lines request = (codes "Host", request.host.now) ∷ (codes "Content-Type", codes "application/json") ∷ proof_line request.token

-- the client once the head is written, and once the body is
abbrev pub with_head : Client → Request → Client
with_head client request = after_request client (codes "POST") (Known (length request.body.now)) (lines request)

abbrev pub with_body : Client → Request → Client
with_body client request =
    with_writing (with_head client request) (after_data (writing (with_head client request)) (length request.body.now))

-- POST, with a body of known size
abbrev pub head_text : Client → Request → List ℕ
head_text client request = planned_request client (codes "POST") request.path.now (Known (length request.body.now)) (lines request)

abbrev pub spelled : Client → Request → List ℕ
spelled client request =
    head_text client request
    ++ (data_text (writing (with_head client request)) request.body.now ++ finish_text (writing (with_body client request)) [])

-- the client once the request is written to its end
abbrev pub asked : Client → Request → Client
asked client request = after_end (with_body client request)
