use Rattle.http_call.proofs.Spelled.{all_spelled, is_asked}
use Rattle.http_call.proofs.call.Caller.spelled.Goals as goal

pub returns-clause-text : goal.returns-clause-text
returns-clause-text g c =
    all_spelled c.args.self.now.client c.args.request.now c.write_head.new.self.client c.write_data.new.self c.in_ok-write_head.ensures.client c.in_ok-write_data.ensures.counted
    c.new-text.result.items c.write_head.new.text.items c.write_data.new.output.items c.write_end.new.output.items c.new-text.ensures.items c.in_ok-write_head.ensures.text
    c.in_ok-write_data.ensures.ok c.in_ok-write_end.ensures.ok

pub returns-clause-client : goal.returns-clause-client
returns-clause-client g c =
    is_asked c.args.self.now.client c.args.request.now c.write_head.new.self.client c.write_data.new.self c.in_ok-write_head.ensures.client c.in_ok-write_data.ensures.counted
    c.write_end.new.self c.in_ok-write_end.ensures.done
