use Rattle.daemon.proofs.by_count.serve.Goals as goal

pub returns-clause-served : goal.returns-clause-served
returns-clause-served g c = record {
  edge = c.new_edge-edge.result;
  new = rw c.new.ensures at c.new_edge-edge.ensures;
  clock = _;
  left = _;
  served = rw c.from_seed-rng.ensures at c.in_ok-serve_each.ensures;
}
