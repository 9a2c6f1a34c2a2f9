use Rattle.std.proofs.Common.{◌≡◌, ◌∙◌, inl, refl, sym, subst}
use Rattle.std.specs.Prelude.{Some}
use Rattle.batch_file.specs.Crashes.{Only}
use Rattle.etcd_cluster.specs.declared.change.Head.{Head}
use Rattle.etcd_cluster.specs.declared.settling.SettleFault.TheVariants.{Refused}
use Rattle.cluster_file.specs.Devices.{GoesOn, LeavesOrThis, leaves}
use Rattle.cluster_file.specs.Files.{seen_of, written_beside}
use Rattle.cluster_file.specs.declared.file.ClusterFile.{ClusterFile}
use Rattle.cluster_file.proofs.Going.{gives_up}
use Rattle.cluster_file.proofs.Placing.{placed_crash, placed_goes, placed_only, placed_seen, unplaced_crash, unplaced_goes}
use Rattle.cluster_file.proofs.Written.{lose_leaves}
use Rattle.cluster_file.proofs.file.ClusterFile.place.Goals as goal

pub returns-in_default-clause-crash : goal.returns-in_default-clause-crash
returns-in_default-clause-crash g c =
    λ left is. inl (lose_leaves g.C.Cluster c.args.self.now (Some Refused) left is)

pub returns-in_default-clause-goes_on : goal.returns-in_default-clause-goes_on
returns-in_default-clause-goes_on g c =
    gives_up g.C.Cluster c.args.self.now c.requires.well c.requires.working Refused

pub returns-in-Ok-clause-replaced : goal.returns-in-Ok-clause-replaced
returns-in-Ok-clause-replaced g c =
    let D = g.C.Cluster in
    let L = g.met.C.Cluster in
    let old = c.args.self.now in
    let new = c.change.new.self in
    let next = c.args.next in
    let well = c.requires.well in
    let working = c.requires.working in
    let put = written_beside D old.cluster next in
    let head : Head = record c.next_head.result { generation = c.in-Some.generation; end = next.laid; room = c.len-room.result } in
    let room = c.len-room.ensures ∙ next.rest.ok.0 in
    let tried = c.change.ensures.tried working in
    let meanwhile = c.change.ensures.meanwhile working in
    let held = c.hold_placed.new.self in
    subst (λ (x : ClusterFile _). seen_of D x ≡ put) (sym c.hold_placed.ensures.same)
    (placed_seen D L.counts_now L.counts_calls L.true_calls L.by_calls old new well working c.requires.none head next c.requires.begun c.requires.zeros c.in-Some.ensures
    refl room c.change.ensures.same tried meanwhile c.in-Ok.ensures.made held.starts held.unsynced next.laid c.hold_placed.ensures.starts refl c.hold_placed.ensures.none held.run
    c.hold_placed.ensures.run)

pub returns-in-Ok-clause-durable : goal.returns-in-Ok-clause-durable
returns-in-Ok-clause-durable g c =
    let D = g.C.Cluster in
    let L = g.met.C.Cluster in
    let old = c.args.self.now in
    let new = c.change.new.self in
    let next = c.args.next in
    let well = c.requires.well in
    let working = c.requires.working in
    let put = written_beside D old.cluster next in
    let head : Head = record c.next_head.result { generation = c.in-Some.generation; end = next.laid; room = c.len-room.result } in
    let room = c.len-room.ensures ∙ next.rest.ok.0 in
    let tried = c.change.ensures.tried working in
    let meanwhile = c.change.ensures.meanwhile working in
    let held = c.hold_placed.new.self in
    subst (λ (x : ClusterFile _). Only put (leaves D x)) (sym c.hold_placed.ensures.same)
    (placed_only D L.counts_now L.counts_calls L.true_calls L.by_calls old new well working c.requires.none head next c.requires.begun c.requires.zeros c.in-Some.ensures
    refl room c.change.ensures.same tried meanwhile c.in-Ok.ensures.made held.starts held.unsynced next.laid c.hold_placed.ensures.starts refl c.hold_placed.ensures.none held.run
    c.hold_placed.ensures.run)

pub returns-in-Ok-clause-crash : goal.returns-in-Ok-clause-crash
returns-in-Ok-clause-crash g c =
    let D = g.C.Cluster in
    let L = g.met.C.Cluster in
    let old = c.args.self.now in
    let new = c.change.new.self in
    let next = c.args.next in
    let well = c.requires.well in
    let working = c.requires.working in
    let put = written_beside D old.cluster next in
    let head : Head = record c.next_head.result { generation = c.in-Some.generation; end = next.laid; room = c.len-room.result } in
    let room = c.len-room.ensures ∙ next.rest.ok.0 in
    let tried = c.change.ensures.tried working in
    let meanwhile = c.change.ensures.meanwhile working in
    let held = c.hold_placed.new.self in
    subst (λ (x : ClusterFile _). LeavesOrThis D old x put) (sym c.hold_placed.ensures.same)
    (placed_crash D L.counts_now L.counts_calls L.true_calls L.by_calls old new well working c.requires.none head next c.requires.begun c.requires.zeros c.in-Some.ensures
    refl room c.change.ensures.same tried meanwhile c.in-Ok.ensures.made held.starts held.unsynced next.laid c.hold_placed.ensures.starts refl c.hold_placed.ensures.none held.run
    c.hold_placed.ensures.run)

pub returns-in-Ok-clause-goes_on : goal.returns-in-Ok-clause-goes_on
returns-in-Ok-clause-goes_on g c =
    let D = g.C.Cluster in
    let L = g.met.C.Cluster in
    let old = c.args.self.now in
    let new = c.change.new.self in
    let next = c.args.next in
    let well = c.requires.well in
    let working = c.requires.working in
    let put = written_beside D old.cluster next in
    let head : Head = record c.next_head.result { generation = c.in-Some.generation; end = next.laid; room = c.len-room.result } in
    let room = c.len-room.ensures ∙ next.rest.ok.0 in
    let tried = c.change.ensures.tried working in
    let meanwhile = c.change.ensures.meanwhile working in
    let held = c.hold_placed.new.self in
    subst (λ (x : ClusterFile _). GoesOn D old x) (sym c.hold_placed.ensures.same)
    (placed_goes D L.counts_now L.counts_calls L.true_calls L.by_calls old new well working c.requires.none head next c.requires.begun c.requires.zeros c.in-Some.ensures
    refl room c.change.ensures.same tried meanwhile c.in-Ok.ensures.made held.starts held.unsynced next.laid c.hold_placed.ensures.starts refl c.hold_placed.ensures.none held.run
    c.hold_placed.ensures.run)

pub returns-in-Err-clause-crash : goal.returns-in-Err-clause-crash
returns-in-Err-clause-crash g c =
    let D = g.C.Cluster in
    let L = g.met.C.Cluster in
    let old = c.args.self.now in
    let new = c.change.new.self in
    let next = c.args.next in
    let well = c.requires.well in
    let working = c.requires.working in
    let put = written_beside D old.cluster next in
    let head : Head = record c.next_head.result { generation = c.in-Some.generation; end = next.laid; room = c.len-room.result } in
    let room = c.len-room.ensures ∙ next.rest.ok.0 in
    let tried = c.change.ensures.tried working in
    let meanwhile = c.change.ensures.meanwhile working in
    unplaced_crash D L.counts_now L.counts_calls L.true_calls L.by_calls old new well working c.requires.none head next c.requires.begun c.requires.zeros c.in-Some.ensures
    refl room c.change.ensures.same tried meanwhile c.in-Err.ensures.given_up

pub returns-in-Err-clause-goes_on : goal.returns-in-Err-clause-goes_on
returns-in-Err-clause-goes_on g c =
    let D = g.C.Cluster in
    let L = g.met.C.Cluster in
    let old = c.args.self.now in
    let new = c.change.new.self in
    let next = c.args.next in
    let well = c.requires.well in
    let working = c.requires.working in
    let put = written_beside D old.cluster next in
    let head : Head = record c.next_head.result { generation = c.in-Some.generation; end = next.laid; room = c.len-room.result } in
    let room = c.len-room.ensures ∙ next.rest.ok.0 in
    let tried = c.change.ensures.tried working in
    let meanwhile = c.change.ensures.meanwhile working in
    unplaced_goes D L.counts_now L.counts_calls L.true_calls L.by_calls old new well working c.requires.none head next c.requires.begun c.requires.zeros c.in-Some.ensures
    refl room c.change.ensures.same tried meanwhile c.in-Err.ensures.given_up

pub returns-in-Err-clause-loses : goal.returns-in-Err-clause-loses
returns-in-Err-clause-loses g c =
    c.in-Err.ensures.given_up.lost
