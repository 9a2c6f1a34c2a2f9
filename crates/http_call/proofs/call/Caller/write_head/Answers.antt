use Rattle.http_call.proofs.Spelled.{head_is, headed, lines_none, lines_some}
use Rattle.http_call.proofs.call.Caller.write_head.Goals as goal

pub returns-in_default-clause-text : goal.returns-in_default-clause-text
returns-in_default-clause-text g c =
    let request = c.args.request.now in
    head_is c.args.self.now.client request c.as_bytes-path.result.now _ c.as_bytes-path.ensures.value
    (lines_none request c.as_bytes.result.now c.as_bytes.ensures.value c.in_default.is)
    c.args.text.now.items c.write_request.new.output.items c.in_ok-write_request.ensures.ok

pub returns-in_default-clause-client : goal.returns-in_default-clause-client
returns-in_default-clause-client g c =
    let request = c.args.request.now in
    headed c.args.self.now.client request c.as_bytes-path.result.now _ c.as_bytes-path.ensures.value
    (lines_none request c.as_bytes.result.now c.as_bytes.ensures.value c.in_default.is)
    c.write_request.new.self c.in_ok-write_request.ensures.next

pub returns-clause-text : goal.returns-clause-text
returns-clause-text g c =
    let request = c.args.request.now in
    head_is c.args.self.now.client request c.as_bytes-path.result.now _ c.as_bytes-path.ensures.value
    (lines_some request c.as_bytes.result.now c.as_bytes-2.result.now c.in-Some.token c.as_bytes.ensures.value c.as_bytes-2.ensures.value c.in-Some.is)
    c.args.text.now.items c.write_request-2.new.output.items c.in_ok-write_request-2.ensures.ok

pub returns-clause-client : goal.returns-clause-client
returns-clause-client g c =
    let request = c.args.request.now in
    headed c.args.self.now.client request c.as_bytes-path.result.now _ c.as_bytes-path.ensures.value
    (lines_some request c.as_bytes.result.now c.as_bytes-2.result.now c.in-Some.token c.as_bytes.ensures.value c.as_bytes-2.ensures.value c.in-Some.is)
    c.write_request-2.new.self c.in_ok-write_request-2.ensures.next
