use Rattle.std.proofs.Common.{Some, length}
use Rattle.http_edge.proofs.Names.{on_ok_weaker, IsOpenRefusal, IsEndRefusal, IsBytesRefusal, IsOpeningRefusal, IsEndingRefusal, IsPieceRefusal, piece_of}
use Rattle.http_edge.proofs.Going.{list_leads}
use Rattle.http_edge.proofs.RefusingWorlds.{refuses, opening_refused, ending_refused, piece_refused}
use Rattle.http_edge.proofs.edge.Edge.event.Goals as goal

pub returns-in-Open-clause-refused : goal.returns-in-Open-clause-refused
returns-in-Open-clause-refused g c =
    let lanes = c.args.self.now.lanes in
    let k = c.in-Open.c in
    rw c.in-Open.is
    (refuses g.H.HookHost c.args.self.now c.open.result (λ fault. IsOpenRefusal fault lanes k) (λ fault ks. IsOpeningRefusal fault ks k)
    (λ fault ks shows x. opening_refused lanes ks k shows fault x) c.open.ensures.refused)

pub returns-in-Bytes-clause-refused : goal.returns-in-Bytes-clause-refused
returns-in-Bytes-clause-refused g c =
    let lanes = c.args.self.now.lanes in
    let k = c.in-Bytes.connection in
    let piece = c.in-Bytes.piece.now in
    let supply = Some (length c.in-Bytes.draws.now) in
    rw c.in-Bytes.is
    (refuses g.H.HookHost c.args.self.now c.hear_piece.result (λ fault. IsBytesRefusal fault lanes k piece supply) (λ fault ks. IsPieceRefusal fault ks k piece supply)
    (λ fault ks shows x. piece_refused lanes ks k shows fault piece supply x) (rw c.new.ensures at c.hear_piece.ensures.refused))

pub returns-in-Bytes-clause-done : goal.returns-in-Bytes-clause-done
returns-in-Bytes-clause-done g c =
    let piece = piece_of c.in-Bytes.connection c.in-Bytes.piece.now c.in-Bytes.moment in
    rw c.in-Bytes.is
    (on_ok_weaker c.hear_piece.result (λ more. list_leads g.H.HookHost c.args.self.now c.hear_piece.new.self piece c.in-Bytes.draws.now c.hear_piece.new.source _ _ more)
    (rw c.new.ensures at c.hear_piece.ensures.given))

pub returns-in-End-clause-refused : goal.returns-in-End-clause-refused
returns-in-End-clause-refused g c =
    let lanes = c.args.self.now.lanes in
    let k = c.in-End.c in
    rw c.in-End.is
    (refuses g.H.HookHost c.args.self.now c.end.result (λ fault. IsEndRefusal fault lanes k) (λ fault ks. IsEndingRefusal fault ks k)
    (λ fault ks shows x. ending_refused lanes ks k shows fault x) c.end.ensures.refused)
