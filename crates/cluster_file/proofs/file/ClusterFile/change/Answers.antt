use Rattle.std.proofs.Common.{◌≡◌, ◌∙◌, inl, inr, refl, sym, ap, subst, rules}
use Rattle.std.specs.Prelude.{Err, None, Ok, map}
use Rattle.batch_file.specs.Crashes.{IsFailure}
use Rattle.batch_file.specs.declared.device.DeviceFault.{DeviceFault}
use Rattle.etcd_cluster.specs.Stands.{ChangeFact, Stand, write_fact}
use Rattle.cluster_file.specs.Files.{IsGivenUp, IsSameBut, IsTried, MayHaveMade, change_of}
use Rattle.cluster_file.specs.Causes.{FailsAtChange}
use Rattle.cluster_file.specs.declared.file.ClusterFile.{ClusterFile}
use Rattle.cluster_file.proofs.Causes.{settled_told}
use Rattle.cluster_file.proofs.Laying.{lost_not}
use Rattle.cluster_file.proofs.Made.{failed_is, may_make, read_before}
use Rattle.cluster_file.proofs.Since.{settled_done, settled_longer}
use Rattle.cluster_file.proofs.file.ClusterFile.change.Goals as goal

pub make-requires-clause-may : goal.make-requires-clause-may
make-requires-clause-may g c =
    let file = c.args.self.now in
    let working : file.lost ≡ None = search rules in
    may_make g.C.Cluster file c.args.head (map write_fact c.args.writes.now) (c.requires.sound working) c.requires.fresh

pub make-requires-clause-mine : goal.make-requires-clause-mine
make-requires-clause-mine g c =
    let working : c.args.self.now.lost ≡ None = search rules in
    c.requires.mine ∙ sym (c.requires.sound working).server

pub returns-in-Ok-clause-made : goal.returns-in-Ok-clause-made
returns-in-Ok-clause-made g c =
    let D = g.C.Cluster in
    let file = c.args.self.now in
    let working : file.lost ≡ None = search rules in
    let sound = c.requires.sound working in
    let stand = c.in-Ok.ensures.stand in
    record {
      by = c.in-Ok.ensures.made;
      stand = stand;
      head = refl;
      later = c.in-Ok.ensures.later;
      begun = refl;
      sound = record {
        server = c.make.ensures.server ∙ sound.server;
        version = ap (λ (s : Stand). s.version) stand;
        head = ap (λ (s : Stand). s.head) stand;
        settled = settled_done 30 (change_of file c.args.head (map write_fact c.args.writes.now)) c.in-Ok.version (D.calls file.cluster) (D.calls c.make.new.cluster) c.in-Ok.ensures.asked;
        so = (c.in-Ok.ensures.leads, c.in-Ok.ensures.knows, c.requires.mine, read_before D file c.in-Ok.version sound c.in-Ok.ensures.later);
      };
    }

pub returns-in-Err-clause-given_up : goal.returns-in-Err-clause-given_up
returns-in-Err-clause-given_up g c =
    let D = g.C.Cluster in
    let file = c.args.self.now in
    let change : ChangeFact = change_of file c.args.head (map write_fact c.args.writes.now) in
    subst (λ (x : ClusterFile _). IsGivenUp D file x change) (sym c.lose.ensures.lost)
    (record { stand = c.in-Err.ensures.stays; lost = refl; may = inr c.in-Err.ensures.may_be })

pub returns-in-Err-clause-same : goal.returns-in-Err-clause-same
returns-in-Err-clause-same g c = subst (λ (x : ClusterFile _). IsSameBut c.args.self.now x) (sym c.lose.ensures.lost) refl

pub returns-in-Ok-clause-tried : goal.returns-in-Ok-clause-tried
returns-in-Ok-clause-tried g c = λ working. record { told = Ok c.in-Ok.version; asked = c.in-Ok.ensures.asked; says = (refl, working) }

pub returns-in-Err-clause-tried : goal.returns-in-Err-clause-tried
returns-in-Err-clause-tried g c =
    let D = g.C.Cluster in
    let file = c.args.self.now in
    let change : ChangeFact = change_of file c.args.head (map write_fact c.args.writes.now) in
    λ working. subst (λ (x : ClusterFile _). IsTried D file x change) (sym c.lose.ensures.lost)
    (record { told = Err c.in-Err.fault; asked = c.in-Err.ensures.asked; says = refl })

pub returns-in-Ok-clause-meanwhile : goal.returns-in-Ok-clause-meanwhile
returns-in-Ok-clause-meanwhile g c = λ working. c.make.ensures.meanwhile

pub returns-in-Err-clause-meanwhile : goal.returns-in-Err-clause-meanwhile
returns-in-Err-clause-meanwhile g c =
    let D = g.C.Cluster in
    let file = c.args.self.now in
    let change : ChangeFact = change_of file c.args.head (map write_fact c.args.writes.now) in
    λ working. subst (λ (x : ClusterFile _). MayHaveMade D file.cluster x.cluster change file.has_begun) (sym c.lose.ensures.lost) c.make.ensures.meanwhile

pub returns-then-is_some-clause-why : goal.returns-then-is_some-clause-why
returns-then-is_some-clause-why g c = λ working. absurd (lost_not c.args.self.now.lost (sym c.is_some.ensures ∙ c.if-is_some.true) working)

pub returns-in-Ok-clause-why : goal.returns-in-Ok-clause-why
returns-in-Ok-clause-why g c = λ working. tt

pub returns-in-Err-clause-why : goal.returns-in-Err-clause-why
returns-in-Err-clause-why g c = λ working failure. (c.in-Err.fault, ap (λ (x : ClusterFile _). x.lost) c.lose.ensures.lost, c.lose.ensures.told)

pub returns-in-Err-clause-failed : goal.returns-in-Err-clause-failed
returns-in-Err-clause-failed g c = subst (λ (f : DeviceFault). IsFailure f) (sym c.lose.ensures.told) (failed_is c.in-Err.fault)

pub returns-then-is_some-clause-cause : goal.returns-then-is_some-clause-cause
returns-then-is_some-clause-cause g c = λ working. absurd (lost_not c.args.self.now.lost (sym c.is_some.ensures ∙ c.if-is_some.true) working)

pub returns-in-Ok-clause-cause : goal.returns-in-Ok-clause-cause
returns-in-Ok-clause-cause g c = λ working. tt

pub returns-in-Err-clause-cause : goal.returns-in-Err-clause-cause
returns-in-Err-clause-cause g c =
    let D = g.C.Cluster in
    let file = c.args.self.now in
    let change : ChangeFact = change_of file c.args.head (map write_fact c.args.writes.now) in
    let sent = settled_longer 30 change (Err c.in-Err.fault) (D.calls file.cluster) (D.calls c.make.new.cluster) c.in-Err.ensures.asked in
    let told = settled_told 30 change c.in-Err.fault (D.calls file.cluster) (D.calls c.make.new.cluster) c.in-Err.ensures.asked in
    λ working failure. inl (subst (λ (x : ClusterFile _). FailsAtChange D file x c.lose.result) (sym c.lose.ensures.lost)
    (record { reason = c.in-Err.fault; lost = refl; is = c.lose.ensures.told; sent = sent; told = told }))
