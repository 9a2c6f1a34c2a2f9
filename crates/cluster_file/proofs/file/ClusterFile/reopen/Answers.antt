use Rattle.cluster_file.proofs.InTurn.{fresh_opened, fresh_unread}
use Rattle.cluster_file.proofs.file.ClusterFile.reopen.Goals as goal

pub returns-clause-opened : goal.returns-clause-opened
returns-clause-opened g c =
    let forgot = c.forget_pieces.ensures in
    λ working.
    fresh_opened g.C.Cluster c.args.self.now c.forget_pieces.new.cluster c.clear.new.self c.clear-2.new.self c.end.new.self c.clear.ensures.items c.clear-2.ensures.items
    c.end.ensures forgot.called forgot.leads forgot.unbegun forgot.read forgot.knows forgot.stand forgot.server (c.requires working)

pub returns-clause-read : goal.returns-clause-read
returns-clause-read g c =
    λ are.
    fresh_unread g.C.Cluster c.args.self.now c.forget_pieces.new.cluster c.clear.new.self c.clear-2.new.self c.end.new.self c.clear.ensures.items c.clear-2.ensures.items
    c.end.ensures
