use Rattle.etcd_json.proofs.paper.login_request.Goals as goal

pub returns : goal.returns
returns c = rw (c.in_ok-text-2.ensures, c.in_ok-text.ensures, c.in_ok-paper.ensures) at c.finish.ensures
