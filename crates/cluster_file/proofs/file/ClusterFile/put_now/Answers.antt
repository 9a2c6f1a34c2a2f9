use Rattle.std.proofs.Common.{◌≡◌, ◌∙◌, List, ℕ, inl, sym, ap, subst, arith}
use Rattle.std.specs.Prelude.{None, OnOk}
use Rattle.batch_file.specs.Crashes.{IsWrittenAt, Only}
use Rattle.cluster_file.specs.Devices.{IsSoleSince, LeavesOrPut, LeavesOrSeen, Proceeds, leaves}
use Rattle.cluster_file.specs.Files.{IsSound, IsWhole, seen_of}
use Rattle.cluster_file.specs.Runs.{IsRunOf}
use Rattle.cluster_file.specs.declared.file.ClusterFile.{ClusterFile}
use Rattle.cluster_file.proofs.Kept.{ok_then}
use Rattle.cluster_file.proofs.Putting.{lose_proceeds_any}
use Rattle.cluster_file.proofs.Written.{lose_leaves, ok_any, proceeds_from, put_or, sound_beside}
use Rattle.cluster_file.proofs.file.ClusterFile.put_now.Goals as goal

pub write_behind-requires-clause-whole : goal.write_behind-requires-clause-whole
write_behind-requires-clause-whole g c =
    (c.requires.well.sound c.requires.working, c.requires.well.whole c.requires.working)

pub write_behind-requires-clause-synced : goal.write_behind-requires-clause-synced
write_behind-requires-clause-synced g c =
    (c.requires.well.synced c.requires.working).none

pub sync_all-requires-clause-run : goal.sync_all-requires-clause-run
sync_all-requires-clause-run g c = λ still.
    subst (λ (x : ClusterFile _). IsRunOf (g.C.Cluster.stand x.cluster) x.run) (sym c.in_ok-write_behind.ensures.same) (c.requires.well.run c.requires.working)

pub sync_all-requires-clause-known : goal.sync_all-requires-clause-known
sync_all-requires-clause-known g c =
    let D = g.C.Cluster in
    let L = g.met.C.Cluster in
    let old = c.args.self.now in
    let working = c.requires.working in
    let well = c.requires.well in
    let mid = c.write_behind.new.self in
    λ still.
    subst (λ (x : ClusterFile _). IsSound D x × IsWhole D x) (sym c.in_ok-write_behind.ensures.same)
    (sound_beside D old mid.unsynced mid.room (well.sound working), well.whole working)

pub returns-in_err-write_behind-clause-proceeds : goal.returns-in_err-write_behind-clause-proceeds
returns-in_err-write_behind-clause-proceeds g c =
    let D = g.C.Cluster in
    let L = g.met.C.Cluster in
    let old = c.args.self.now in
    let working = c.requires.working in
    let well = c.requires.well in
    let mid = c.write_behind.new.self in
    subst (λ (x : ClusterFile _). Proceeds D old x) (sym c.in_err-write_behind.ensures.not) (lose_proceeds_any D old mid.lost)

pub returns-in_err-write_behind-clause-crash : goal.returns-in_err-write_behind-clause-crash
returns-in_err-write_behind-clause-crash g c =
    let D = g.C.Cluster in
    let L = g.met.C.Cluster in
    let old = c.args.self.now in
    let working = c.requires.working in
    let well = c.requires.well in
    let mid = c.write_behind.new.self in
    subst (λ (x : ClusterFile _). LeavesOrPut D old x c.args.at c.args.bytes.now) (sym c.in_err-write_behind.ensures.not)
    (λ left is. inl (lose_leaves D old mid.lost left is))

pub returns-in_err-write_behind-clause-whole : goal.returns-in_err-write_behind-clause-whole
returns-in_err-write_behind-clause-whole g c =
    let D = g.C.Cluster in
    let L = g.met.C.Cluster in
    let old = c.args.self.now in
    let working = c.requires.working in
    let well = c.requires.well in
    let mid = c.write_behind.new.self in
    λ still.
    subst (λ (x : ClusterFile _). IsSound D x × IsWhole D x) (sym c.in_err-write_behind.ensures.not) (
      record {
        server = (well.sound working).server;
        version = (well.sound working).version;
        head = (well.sound working).head;
        settled = (well.sound working).settled;
        so = (well.sound working).so;
      },
      well.whole working,
    )

pub returns-clause-written : goal.returns-clause-written
returns-clause-written g c =
    let D = g.C.Cluster in
    let L = g.met.C.Cluster in
    let old = c.args.self.now in
    let working = c.requires.working in
    let well = c.requires.well in
    let mid = c.write_behind.new.self in
    ok_any c.sync_all.result (IsWrittenAt (seen_of D old) c.args.at c.args.bytes.now (seen_of D c.sync_all.new.self))
    (c.sync_all.ensures.seen ∙ c.in_ok-write_behind.ensures.written)

pub returns-clause-sole : goal.returns-clause-sole
returns-clause-sole g c =
    let D = g.C.Cluster in
    let L = g.met.C.Cluster in
    let old = c.args.self.now in
    let working = c.requires.working in
    let well = c.requires.well in
    let mid = c.write_behind.new.self in
    let same = ap (λ (x : ClusterFile _). D.moment x.cluster) c.in_ok-write_behind.ensures.same in
    ok_then c.sync_all.result (IsSoleSince D mid c.sync_all.new.self) (IsSoleSince D old c.sync_all.new.self) c.sync_all.ensures.sole
    (λ sole t le. sole t (omega (arith, le, same)))

pub returns-clause-proceeds : goal.returns-clause-proceeds
returns-clause-proceeds g c =
    let D = g.C.Cluster in
    let L = g.met.C.Cluster in
    let old = c.args.self.now in
    let working = c.requires.working in
    let well = c.requires.well in
    let mid = c.write_behind.new.self in
    let still : mid.lost ≡ None = ap (λ (x : ClusterFile _). x.lost) c.in_ok-write_behind.ensures.same ∙ working in
    proceeds_from D old mid.unsynced mid.room c.sync_all.new.self
    (subst (λ (x : ClusterFile _). Proceeds D x c.sync_all.new.self) c.in_ok-write_behind.ensures.same (c.sync_all.ensures.proceeds still))

pub returns-clause-durable : goal.returns-clause-durable
returns-clause-durable g c =
    let D = g.C.Cluster in
    let L = g.met.C.Cluster in
    let old = c.args.self.now in
    let working = c.requires.working in
    let well = c.requires.well in
    let mid = c.write_behind.new.self in
    subst (λ (seen : List ℕ). OnOk c.sync_all.result (Only seen (leaves D c.sync_all.new.self))) (sym c.sync_all.ensures.seen) c.sync_all.ensures.durable

pub returns-clause-crash : goal.returns-clause-crash
returns-clause-crash g c =
    let D = g.C.Cluster in
    let L = g.met.C.Cluster in
    let old = c.args.self.now in
    let working = c.requires.working in
    let well = c.requires.well in
    let mid = c.write_behind.new.self in
    let still : mid.lost ≡ None = ap (λ (x : ClusterFile _). x.lost) c.in_ok-write_behind.ensures.same ∙ working in
    put_or D old c.sync_all.new.self mid.unsynced mid.room c.args.at c.args.bytes.now
    (subst (λ (x : ClusterFile _). IsWrittenAt (seen_of D old) c.args.at c.args.bytes.now (seen_of D x)) c.in_ok-write_behind.ensures.same c.in_ok-write_behind.ensures.written)
    (subst (λ (x : ClusterFile _). LeavesOrSeen D x c.sync_all.new.self) c.in_ok-write_behind.ensures.same (c.sync_all.ensures.crash still))
