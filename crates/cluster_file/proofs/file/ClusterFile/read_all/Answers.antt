use Rattle.std.proofs.Common.{◌≡◌, List, ℕ, drop, sym, subst, take, rules}
use Rattle.std.specs.Prelude.{IfOk, None}
use Rattle.etcd_cluster.specs.Calls.{AreTrue}
use Rattle.cluster_file.proofs.Going.{goes_same, keeps_same}
use Rattle.cluster_file.proofs.Parting.{learns_goes, learns_next, learns_seen}
use Rattle.cluster_file.proofs.file.ClusterFile.read_all.Goals as goal

pub returns-then-is_some-clause-seen : goal.returns-then-is_some-clause-seen
returns-then-is_some-clause-seen g c = keeps_same g.C.Cluster c.args.self.now

pub returns-then-is_some-clause-goes_on : goal.returns-then-is_some-clause-goes_on
returns-then-is_some-clause-goes_on g c = goes_same g.C.Cluster c.args.self.now c.requires

pub read_on-requires-clause-working : goal.read_on-requires-clause-working
read_on-requires-clause-working g c = search rules

pub read_on-requires-clause-sound : goal.read_on-requires-clause-sound
read_on-requires-clause-sound g c =
    let working : c.args.self.now.lost ≡ None = search rules in
    c.requires.sound working

pub read_on-requires-clause-whole : goal.read_on-requires-clause-whole
read_on-requires-clause-whole g c =
    let working : c.args.self.now.lost ≡ None = search rules in
    c.requires.whole working

pub read_on-requires-clause-read : goal.read_on-requires-clause-read
read_on-requires-clause-read g c = c.requires.read

pub returns-clause-seen : goal.returns-clause-seen
returns-clause-seen g c =
    let old = c.args.self.now in
    let working : old.lost ≡ None = search rules in
    let learns = c.read_on.ensures.learns in
    record { seen = learns_seen g.C.Cluster old c.read_on.new.self (c.requires.whole working) learns; crash = (learns.looks (c.requires.whole working)).crash }

pub returns-clause-goes_on : goal.returns-clause-goes_on
returns-clause-goes_on g c =
    let old = c.args.self.now in
    let working : old.lost ≡ None = search rules in
    learns_goes g.C.Cluster old c.read_on.new.self c.requires working c.read_on.ensures.learns

pub returns-clause-next : goal.returns-clause-next
returns-clause-next g c =
    let old = c.args.self.now in
    let working : old.lost ≡ None = search rules in
    learns_next g.C.Cluster old c.read_on.new.self c.requires working c.read_on.ensures.learns

pub returns-clause-read : goal.returns-clause-read
returns-clause-read g c =
    let D = g.C.Cluster in
    let old = c.args.self.now in
    let new = c.read_on.new.self in
    let working : old.lost ≡ None = search rules in
    subst (λ (seen : List ℕ). IfOk c.read_on.result (λ bytes. AreTrue (D.calls new.cluster) → bytes.items ≡ take c.args.size (drop c.args.at seen)))
    (sym (learns_seen D old new (c.requires.whole working) c.read_on.ensures.learns)) c.read_on.ensures.read
