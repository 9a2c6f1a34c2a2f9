use Rattle.cluster_file.proofs.Going.{begun_so, heard_seen, heard_well, next_by}
use Rattle.cluster_file.proofs.LetGo.{let_onward, let_settled, let_true}
use Rattle.cluster_file.proofs.file.ClusterFile.compact.Goals as goal

pub returns-clause-seen : goal.returns-clause-seen
returns-clause-seen g c =
    let D = g.C.Cluster in
    let L = g.met.C.Cluster in
    let old = c.args.self.now in
    let working = c.requires.working in
    let well = c.requires.well in
    let version = old.standing.version in
    let begun = c.requires.begun in
    let so = begun_so D old (well.sound working) begun in
    let new = c.compact_older.new.cluster in
    let calls = c.compact_older.ensures.called in
    heard_seen D L.counts_now L.counts_calls L.by_calls old well working begun new old.lost (let_true version (D.calls old.cluster) (D.calls new) calls)
    (λ P was now. let_onward P version (D.calls old.cluster) (D.calls new) calls was now) (let_settled version (D.calls old.cluster) (D.calls new) calls)
    c.compact_older.ensures.stand (c.compact_older.ensures.stays version so.0) (c.compact_older.ensures.meanwhile version so.0)

pub returns-clause-goes_on : goal.returns-clause-goes_on
returns-clause-goes_on g c =
    let D = g.C.Cluster in
    let L = g.met.C.Cluster in
    let old = c.args.self.now in
    let working = c.requires.working in
    let well = c.requires.well in
    let version = old.standing.version in
    let begun = c.requires.begun in
    let so = begun_so D old (well.sound working) begun in
    let new = c.compact_older.new.cluster in
    let calls = c.compact_older.ensures.called in
    heard_well D L.counts_now L.counts_calls L.by_calls old well working begun new old.lost (let_true version (D.calls old.cluster) (D.calls new) calls)
    (λ P was now. let_onward P version (D.calls old.cluster) (D.calls new) calls was now) (let_settled version (D.calls old.cluster) (D.calls new) calls)
    c.compact_older.ensures.stand (c.compact_older.ensures.stays version so.0) (c.compact_older.ensures.meanwhile version so.0)
    c.compact_older.ensures.server (c.compact_older.ensures.leads version so.0) (c.compact_older.ensures.knows version so.0 so.1)

pub returns-clause-next : goal.returns-clause-next
returns-clause-next g c =
    next_by g.C.Cluster c.compact_older.ensures.stand c.args.self.now.next
