use Rattle.std.proofs.Common.{◌∙◌, ◌≤◌, List, ℕ, length, refl, ap, arith, rules}
use Rattle.std.proofs.lemmas.List.{length-drop}
use Rattle.std.specs.Prelude.{Some}
use Rattle.cluster_file.proofs.Dropping.{goes_then, seen_then}
use Rattle.cluster_file.proofs.Going.{goes_same, keeps_same}
use Rattle.cluster_file.proofs.Nexts.{goes_next, seen_next}
use Rattle.cluster_file.proofs.file.ClusterFile.lay_full.Goals as goal

pub pieces-init : goal.pieces-init
pieces-init g c =
    record {
      working = c.requires.working;
      none = c.requires.none;
      begun = c.requires.begun;
      same = refl;
      seen = keeps_same g.C.Cluster c.args.self.now;
      goes_on = goes_same g.C.Cluster c.args.self.now c.requires.well;
    }

pub lay_beside-requires-clause-well : goal.lay_beside-requires-clause-well
lay_beside-requires-clause-well g c =
    c.pieces.invariant.goes_on.well

pub pieces-preserved : goal.pieces-preserved
pieces-preserved g c =
    let D = g.C.Cluster in
    let old = c.args.self.now in
    let mid = c.pieces.self in
    let was = c.pieces.invariant in
    let new = c.lay_beside.new.self in
    record {
      working = c.in_ok-lay_beside.ensures.working;
      none = c.lay_beside.ensures.none;
      begun = c.in_ok-lay_beside.ensures.begun;
      same = c.in_ok-lay_beside.ensures.same ∙ was.same;
      seen = seen_then D old mid new was.seen c.lay_beside.ensures.seen;
      goes_on = goes_then D g.met.C.Cluster.counts_now old mid new was.seen was.goes_on c.lay_beside.ensures.goes_on;
    }

pub returns-in_err-lay_beside-clause-seen : goal.returns-in_err-lay_beside-clause-seen
returns-in_err-lay_beside-clause-seen g c =
    let D = g.C.Cluster in
    let old = c.args.self.now in
    let mid = c.pieces.self in
    let was = c.pieces.invariant in
    seen_then D old mid c.lay_beside.new.self was.seen c.lay_beside.ensures.seen

pub returns-in_err-lay_beside-clause-goes_on : goal.returns-in_err-lay_beside-clause-goes_on
returns-in_err-lay_beside-clause-goes_on g c =
    let D = g.C.Cluster in
    let old = c.args.self.now in
    let mid = c.pieces.self in
    let was = c.pieces.invariant in
    goes_then D g.met.C.Cluster.counts_now old mid c.lay_beside.new.self was.seen was.goes_on c.lay_beside.ensures.goes_on

pub returns-clause-same : goal.returns-clause-same
returns-clause-same g c =
    let D = g.C.Cluster in
    let old = c.args.self.now in
    let mid = c.pieces.self in
    let was = c.pieces.invariant in
    ap (λ l. Some l) was.same

pub returns-clause-seen : goal.returns-clause-seen
returns-clause-seen g c =
    let D = g.C.Cluster in
    let old = c.args.self.now in
    let mid = c.pieces.self in
    let was = c.pieces.invariant in
    seen_next D old mid (Some c.pieces.next) was.seen

pub returns-clause-goes_on : goal.returns-clause-goes_on
returns-clause-goes_on g c =
    let D = g.C.Cluster in
    let old = c.args.self.now in
    let mid = c.pieces.self in
    let was = c.pieces.invariant in
    goes_next D old mid (Some c.pieces.next) c.requires.working was.goes_on (λ none. was.begun)

pub pieces-smaller : goal.pieces-smaller
pieces-smaller g c =
    let left = length-drop 131072 c.pieces.next.rest.items in
    let size = ap (λ (l : List ℕ). length l) c.in_ok-lay_beside.ensures.rest in
    let enough : 131072 ≤ length c.pieces.next.rest.items = search rules in
    omega (arith, left, size, enough)
