use Rattle.std.proofs.Common.{◌≡◌, List, ℕ, [], length, length-append, arith, rules, refl, ap}
use Rattle.etcd_client.specs.Past.{nothing}
use Rattle.standby.proofs.Listed.{first_more, first_none, reads_on}
use Rattle.standby.proofs.reading.pieced.Goals as goal

pub pieces-init : goal.pieces-init
pieces-init g c =
    let none : c.new-bytes.result.items ≡ [] = search rules in
    let size = ap (λ (l : List ℕ). length l) none in
    record {
      reads = nothing;
      first = rw none (first_none c.args.names.now.prefix.items c.args.cluster c.args.standing _);
      within = omega (arith, size);
    }

pub pieces-preserved : goal.pieces-preserved
pieces-preserved g c =
    let D = g.M.Members in
    let was = c.pieces.invariant in
    let pieces = c.in_ok-pieces.pieces in
    let given : c.deref.result.now ≡ pieces.items = c.deref.ensures.value in
    let adds = c.in_ok-add_piece.ensures.added in
    record {
      reads = reads_on _ _ _ was.reads c.in_ok-pieces.ensures.reads;
      first = first_more c.pieces_that_were_told_stood_there.ensures c.args.names.now.prefix.items c.args.cluster c.args.standing _ (D.exchanges c.pieces.members)
          (D.exchanges c.pieces_again.new.members) pieces c.args.standing.head.end c.pieces.bytes.items _ was.first c.in_ok-pieces.ensures.reads c.in_ok-pieces.ensures.told refl refl
          (rw given at adds);
      within = adds.within;
    }

pub returns-in_err-pieces-clause-reads : goal.returns-in_err-pieces-clause-reads
returns-in_err-pieces-clause-reads g c = reads_on _ _ _ c.pieces.invariant.reads c.in_err-pieces.ensures.reads

pub returns-in_err-add_piece-clause-reads : goal.returns-in_err-add_piece-clause-reads
returns-in_err-add_piece-clause-reads g c = reads_on _ _ _ c.pieces.invariant.reads c.in_ok-pieces.ensures.reads

pub pieces-smaller : goal.pieces-smaller
pieces-smaller g c =
    let adds = c.in_ok-add_piece.ensures.added in
    let size = ap (λ (l : List ℕ). length l) adds.is in
    let long = length-append c.pieces.bytes.items adds.piece.bytes in
    let some = adds.some in
    let within = adds.within in
    omega (arith, size, long, some, within)
