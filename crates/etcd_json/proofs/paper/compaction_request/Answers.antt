use Rattle.etcd_json.proofs.paper.compaction_request.Goals as goal

pub returns : goal.returns
returns c = rw (c.in_ok-number.ensures, c.in_ok-paper.ensures) at c.finish.ensures
