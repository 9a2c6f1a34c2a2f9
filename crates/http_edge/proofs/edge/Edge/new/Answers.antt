use Rattle.http_edge.proofs.Going.{begun, goes_on_from}
use Rattle.http_edge.proofs.edge.Edge.new.Goals as goal

pub returns : goal.returns
returns g c = record {
  begun = begun g.H.HookHost (record { server = c.args.server; lanes = c.new.result.items }) c.new.ensures.items;
  resumed = goes_on_from g.H.HookHost (record { server = c.args.server; lanes = c.new.result.items }) c.new.ensures.items;
}
