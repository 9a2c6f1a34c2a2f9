use Rattle.http_edge.proofs.Names.{on_ok_weaker, IsBytesRefusal, IsPieceRefusal}
use Rattle.http_edge.proofs.RefusingWorlds.{refuses, piece_refused}
use Rattle.http_edge.proofs.edge.Edge.hear.Goals as goal

pub returns-clause-given : goal.returns-clause-given
returns-clause-given g c = on_ok_weaker c.hear_piece.result (λ more. more.given) c.hear_piece.ensures.given

pub returns-clause-refused : goal.returns-clause-refused
returns-clause-refused g c =
    let supply = g.S.DrawSource.supply c.args.source.now in
    refuses g.H.HookHost c.args.self.now c.hear_piece.result (λ fault. IsBytesRefusal fault c.args.self.now.lanes c.args.c c.args.piece.now supply)
    (λ fault ks. IsPieceRefusal fault ks c.args.c c.args.piece.now supply)
    (λ fault ks shows x. piece_refused c.args.self.now.lanes ks c.args.c shows fault c.args.piece.now supply x) c.hear_piece.ensures.refused
