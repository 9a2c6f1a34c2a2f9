use Rattle.std.proofs.Common.{◌≡◌, ◌∙◌, ◌++◌, List, ℕ, inl, take, sym, ap, subst}
use Rattle.std.specs.Prelude.{None, OnOk}
use Rattle.batch_file.specs.Crashes.{Only}
use Rattle.cluster_file.specs.Devices.{LeavesOrSeen, LeavesOrThis, Proceeds, leaves}
use Rattle.cluster_file.specs.Files.{IsSound, IsWhole, seen_of}
use Rattle.cluster_file.specs.Runs.{IsRunOf}
use Rattle.cluster_file.specs.declared.file.ClusterFile.{ClusterFile}
use Rattle.cluster_file.proofs.Putting.{lose_proceeds_any}
use Rattle.cluster_file.proofs.Written.{cut_behind, lose_leaves, ok_any, proceeds_from, sound_beside, this_or}
use Rattle.cluster_file.proofs.file.ClusterFile.put_begun.Goals as goal

pub write_behind-requires-clause-whole : goal.write_behind-requires-clause-whole
write_behind-requires-clause-whole g c = (c.requires.well.sound c.requires.working, c.requires.well.whole c.requires.working)

pub write_behind-requires-clause-synced : goal.write_behind-requires-clause-synced
write_behind-requires-clause-synced g c = (c.requires.well.synced c.requires.working).none

pub sync_all-requires-clause-known : goal.sync_all-requires-clause-known
sync_all-requires-clause-known g c = λ still.
    let D = g.C.Cluster in
    let old = c.args.self.now in
    let mid = c.write_behind.new.self in
    subst (λ (x : ClusterFile _). IsSound D (record x { room = 0 }) × IsWhole D (record x { room = 0 })) (sym c.in_ok-write_behind.ensures.same)
    (sound_beside D old mid.unsynced 0 (c.requires.well.sound c.requires.working), c.requires.well.whole c.requires.working)

pub sync_all-requires-clause-run : goal.sync_all-requires-clause-run
sync_all-requires-clause-run g c = λ still.
    subst (λ (x : ClusterFile _). IsRunOf (g.C.Cluster.stand x.cluster) x.run) (sym c.in_ok-write_behind.ensures.same) (c.requires.well.run c.requires.working)

pub returns-in_err-write_behind-clause-proceeds : goal.returns-in_err-write_behind-clause-proceeds
returns-in_err-write_behind-clause-proceeds g c =
    let D = g.C.Cluster in
    let old = c.args.self.now in
    subst (λ (x : ClusterFile _). Proceeds D old x) (sym c.in_err-write_behind.ensures.not) (lose_proceeds_any D old c.write_behind.new.self.lost)

pub returns-in_err-write_behind-clause-crash : goal.returns-in_err-write_behind-clause-crash
returns-in_err-write_behind-clause-crash g c =
    let D = g.C.Cluster in
    let old = c.args.self.now in
    subst (λ (x : ClusterFile _). LeavesOrThis D old x (take c.args.end (seen_of D old) ++ c.args.bytes.now)) (sym c.in_err-write_behind.ensures.not)
    (λ left is. inl (lose_leaves D old c.write_behind.new.self.lost left is))

pub returns-in_err-write_behind-clause-whole : goal.returns-in_err-write_behind-clause-whole
returns-in_err-write_behind-clause-whole g c =
    let D = g.C.Cluster in
    let old = c.args.self.now in
    let sound = c.requires.well.sound c.requires.working in
    λ still.
    subst (λ (x : ClusterFile _). IsSound D x × IsWhole D x) (sym c.in_err-write_behind.ensures.not)
    (record { server = sound.server; version = sound.version; head = sound.head; settled = sound.settled; so = sound.so }, c.requires.well.whole c.requires.working)

pub returns-clause-settled : goal.returns-clause-settled
returns-clause-settled g c =
    let D = g.C.Cluster in
    let old = c.args.self.now in
    let mid = c.write_behind.new.self in
    let well = c.requires.well in
    let working = c.requires.working in
    let cut = cut_behind D old (well.sound working) (well.whole working) (well.synced working).none c.args.end c.args.bytes.now mid.unsynced
    c.in_ok-write_behind.ensures.behind c.requires.within c.in_ok-write_behind.ensures.items in
    ok_any c.sync_all.result (seen_of D c.sync_all.new.self ≡ take c.args.end (seen_of D old) ++ c.args.bytes.now)
    (c.sync_all.ensures.seen ∙ ap (λ (x : ClusterFile _). seen_of D (record x { room = 0 })) c.in_ok-write_behind.ensures.same ∙ cut)

pub returns-clause-proceeds : goal.returns-clause-proceeds
returns-clause-proceeds g c =
    let D = g.C.Cluster in
    let old = c.args.self.now in
    let mid = c.write_behind.new.self in
    let still : mid.lost ≡ None = ap (λ (x : ClusterFile _). x.lost) c.in_ok-write_behind.ensures.same ∙ c.requires.working in
    proceeds_from D old mid.unsynced 0 c.sync_all.new.self
    (subst (λ (x : ClusterFile _). Proceeds D (record x { room = 0 }) c.sync_all.new.self) c.in_ok-write_behind.ensures.same (c.sync_all.ensures.proceeds still))

pub returns-clause-durable : goal.returns-clause-durable
returns-clause-durable g c =
    let D = g.C.Cluster in
    subst (λ (seen : List ℕ). OnOk c.sync_all.result (Only seen (leaves D c.sync_all.new.self))) (sym c.sync_all.ensures.seen) c.sync_all.ensures.durable

pub returns-clause-crash : goal.returns-clause-crash
returns-clause-crash g c =
    let D = g.C.Cluster in
    let old = c.args.self.now in
    let mid = c.write_behind.new.self in
    let well = c.requires.well in
    let working = c.requires.working in
    let still : mid.lost ≡ None = ap (λ (x : ClusterFile _). x.lost) c.in_ok-write_behind.ensures.same ∙ working in
    let cut = cut_behind D old (well.sound working) (well.whole working) (well.synced working).none c.args.end c.args.bytes.now mid.unsynced
    c.in_ok-write_behind.ensures.behind c.requires.within c.in_ok-write_behind.ensures.items in
    this_or D old c.sync_all.new.self mid.unsynced 0 (take c.args.end (seen_of D old) ++ c.args.bytes.now) cut
    (subst (λ (x : ClusterFile _). LeavesOrSeen D (record x { room = 0 }) c.sync_all.new.self) c.in_ok-write_behind.ensures.same (c.sync_all.ensures.crash still))
