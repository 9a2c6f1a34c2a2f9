use Rattle.std.proofs.Common.{length}
use Rattle.http_edge.specs.Edges.{output_of}
use Rattle.serving.specs.Served.{WritesFronts, edge_stream, stream_service}
use Rattle.serving.proofs.serve.write_output.Given as goal

abbrev pub decreases-writes : goal.decreases-writes
decreases-writes g l = length (output_of l.edge l.c)

abbrev pub invariant-writes : goal.invariant-writes
invariant-writes g l = WritesFronts (stream_service g.H.HookHost g.S.Stream.does l.c) (edge_stream l.fn.edge l.fn.stream) (edge_stream l.edge l.stream)
