use Rattle.std.proofs.Common.{refl}
use Rattle.std.specs.Prelude.{Some}
use Rattle.etcd_cluster.specs.declared.settling.SettleFault.TheVariants.{Overtaken}
use Rattle.cluster_file.proofs.Going.{begun_so, heard_lost, heard_seen, heard_well, kept_onward, kept_settled, kept_true, next_by}
use Rattle.cluster_file.proofs.file.ClusterFile.keep_alone.Goals as goal

pub returns-in-Ok-clause-seen : goal.returns-in-Ok-clause-seen
returns-in-Ok-clause-seen g c =
    let D = g.C.Cluster in
    let L = g.met.C.Cluster in
    let old = c.args.self.now in
    let working = c.requires.working in
    let well = c.requires.well in
    let version = old.standing.version in
    let so = begun_so D old (well.sound working) c.requires.begun in
    let calls = c.keep_lease.ensures.called in
    heard_seen D L.counts_now L.counts_calls L.by_calls old well working c.requires.begun c.keep_lease.new.cluster old.lost
    (kept_true (D.calls old.cluster) (D.calls c.keep_lease.new.cluster) calls)
    (λ P was now. kept_onward P (D.calls old.cluster) (D.calls c.keep_lease.new.cluster) calls was now)
    (kept_settled (D.calls old.cluster) (D.calls c.keep_lease.new.cluster) calls) c.keep_lease.ensures.stand
    (c.keep_lease.ensures.stays version so.0) (c.keep_lease.ensures.meanwhile version so.0)

pub returns-in-Ok-clause-goes_on : goal.returns-in-Ok-clause-goes_on
returns-in-Ok-clause-goes_on g c =
    let D = g.C.Cluster in
    let L = g.met.C.Cluster in
    let old = c.args.self.now in
    let working = c.requires.working in
    let well = c.requires.well in
    let version = old.standing.version in
    let so = begun_so D old (well.sound working) c.requires.begun in
    let calls = c.keep_lease.ensures.called in
    heard_well D L.counts_now L.counts_calls L.by_calls old well working c.requires.begun c.keep_lease.new.cluster old.lost
    (kept_true (D.calls old.cluster) (D.calls c.keep_lease.new.cluster) calls)
    (λ P was now. kept_onward P (D.calls old.cluster) (D.calls c.keep_lease.new.cluster) calls was now)
    (kept_settled (D.calls old.cluster) (D.calls c.keep_lease.new.cluster) calls) c.keep_lease.ensures.stand
    (c.keep_lease.ensures.stays version so.0) (c.keep_lease.ensures.meanwhile version so.0)
    c.keep_lease.ensures.server (c.keep_lease.ensures.leads version so.0) (c.keep_lease.ensures.knows version so.0 so.1)

pub returns-in-Ok-clause-next : goal.returns-in-Ok-clause-next
returns-in-Ok-clause-next g c =
    next_by g.C.Cluster c.keep_lease.ensures.stand c.args.self.now.next

pub returns-in-Err-clause-seen : goal.returns-in-Err-clause-seen
returns-in-Err-clause-seen g c =
    let D = g.C.Cluster in
    let L = g.met.C.Cluster in
    let old = c.args.self.now in
    let working = c.requires.working in
    let well = c.requires.well in
    let version = old.standing.version in
    let so = begun_so D old (well.sound working) c.requires.begun in
    let calls = c.keep_lease.ensures.called in
    heard_seen D L.counts_now L.counts_calls L.by_calls old well working c.requires.begun c.keep_lease.new.cluster (Some Overtaken)
    (kept_true (D.calls old.cluster) (D.calls c.keep_lease.new.cluster) calls)
    (λ P was now. kept_onward P (D.calls old.cluster) (D.calls c.keep_lease.new.cluster) calls was now)
    (kept_settled (D.calls old.cluster) (D.calls c.keep_lease.new.cluster) calls) c.keep_lease.ensures.stand
    (c.keep_lease.ensures.stays version so.0) (c.keep_lease.ensures.meanwhile version so.0)

pub returns-in-Err-clause-goes_on : goal.returns-in-Err-clause-goes_on
returns-in-Err-clause-goes_on g c =
    let D = g.C.Cluster in
    let L = g.met.C.Cluster in
    let old = c.args.self.now in
    let working = c.requires.working in
    let well = c.requires.well in
    let version = old.standing.version in
    let so = begun_so D old (well.sound working) c.requires.begun in
    let calls = c.keep_lease.ensures.called in
    heard_lost D L.counts_now L.counts_calls L.by_calls old well working c.requires.begun c.keep_lease.new.cluster (Some Overtaken)
    (kept_true (D.calls old.cluster) (D.calls c.keep_lease.new.cluster) calls)
    (λ P was now. kept_onward P (D.calls old.cluster) (D.calls c.keep_lease.new.cluster) calls was now)
    (kept_settled (D.calls old.cluster) (D.calls c.keep_lease.new.cluster) calls) c.keep_lease.ensures.stand
    (c.keep_lease.ensures.stays version so.0) (c.keep_lease.ensures.meanwhile version so.0) refl

pub returns-in-Err-clause-next : goal.returns-in-Err-clause-next
returns-in-Err-clause-next g c =
    next_by g.C.Cluster c.keep_lease.ensures.stand c.args.self.now.next
