use Rattle.std.proofs.Common.{◌≡◌, ◌∙◌, List, ℕ, sym, subst, rules}
use Rattle.std.specs.Prelude.{IfSome, None, OnOk, Option}
use Rattle.batch_file.specs.Crashes.{ComesOfStep, IsUnplaced, Only, Swapped}
use Rattle.cluster_file.specs.Devices.{KeepsSeen, LeavesOrThis, leaves}
use Rattle.cluster_file.specs.Files.{next_of, seen_of}
use Rattle.cluster_file.proofs.Dropping.{goes_then, seen_then, swapped_none, swapped_of, this_on}
use Rattle.cluster_file.proofs.Going.{goes_same}
use Rattle.cluster_file.proofs.Kept.{fault_then, if_any, if_then}
use Rattle.cluster_file.proofs.file.ClusterFile.place_beside.Goals as goal

pub returns-then-is_some-clause-crash : goal.returns-then-is_some-clause-crash
returns-then-is_some-clause-crash g c =
    let D = g.C.Cluster in
    let old = c.args.self.now in
    if_any (next_of D old) (λ bytes. ComesOfStep (Swapped bytes) (leaves D old) (leaves D old)) (λ bytes. swapped_none D old old bytes (λ left is. is))

pub returns-then-is_some-clause-loses : goal.returns-then-is_some-clause-loses
returns-then-is_some-clause-loses g c =
    λ failure. sym c.is_some.ensures ∙ c.if-is_some.true

pub returns-then-is_some-clause-goes_on : goal.returns-then-is_some-clause-goes_on
returns-then-is_some-clause-goes_on g c =
    goes_same g.C.Cluster c.args.self.now c.requires

pub place_held-requires-clause-well : goal.place_held-requires-clause-well
place_held-requires-clause-well g c =
    c.sync_beside.ensures.goes_on.well

pub returns-in-Ok-clause-replaced : goal.returns-in-Ok-clause-replaced
returns-in-Ok-clause-replaced g c =
    let D = g.C.Cluster in
    let old = c.args.self.now in
    let mid = c.sync_beside.new.self in
    let new = c.place_held.new.self in
    let working : old.lost ≡ None = search rules in
    let same = c.in-Ok.ensures.same in
    subst (λ (o : Option (List ℕ)). OnOk c.place_held.result (IfSome o (λ bytes. seen_of D new ≡ bytes))) same c.place_held.ensures.replaced

pub returns-in-Ok-clause-durable : goal.returns-in-Ok-clause-durable
returns-in-Ok-clause-durable g c =
    let D = g.C.Cluster in
    let old = c.args.self.now in
    let mid = c.sync_beside.new.self in
    let new = c.place_held.new.self in
    let working : old.lost ≡ None = search rules in
    let same = c.in-Ok.ensures.same in
    subst (λ (o : Option (List ℕ)). OnOk c.place_held.result (IfSome o (λ bytes. Only bytes (leaves D new)))) same c.place_held.ensures.durable

pub returns-in-Ok-clause-crash : goal.returns-in-Ok-clause-crash
returns-in-Ok-clause-crash g c =
    let D = g.C.Cluster in
    let old = c.args.self.now in
    let mid = c.sync_beside.new.self in
    let new = c.place_held.new.self in
    let working : old.lost ≡ None = search rules in
    let same = c.in-Ok.ensures.same in
    if_then (next_of D old) (LeavesOrThis D mid new) (λ bytes. ComesOfStep (Swapped bytes) (leaves D old) (leaves D new))
    (λ bytes then_left. swapped_of D g.met.C.Cluster.by_calls old new c.requires working bytes
    (this_on D old mid new bytes c.sync_beside.ensures.seen.crash c.sync_beside.ensures.goes_on.truth then_left))
    (subst (λ (o : Option (List ℕ)). IfSome o (LeavesOrThis D mid new)) same c.place_held.ensures.crash)

pub returns-in-Ok-clause-unplaced : goal.returns-in-Ok-clause-unplaced
returns-in-Ok-clause-unplaced g c =
    let D = g.C.Cluster in
    let old = c.args.self.now in
    let mid = c.sync_beside.new.self in
    let new = c.place_held.new.self in
    let working : old.lost ≡ None = search rules in
    let same = c.in-Ok.ensures.same in
    fault_then c.place_held.result (λ fault. IsUnplaced fault → KeepsSeen D mid new) (λ fault. IsUnplaced fault → KeepsSeen D old new) c.place_held.ensures.unplaced
    (λ fault seen unplaced. seen_then D old mid new c.sync_beside.ensures.seen (seen unplaced))

pub returns-in-Ok-clause-goes_on : goal.returns-in-Ok-clause-goes_on
returns-in-Ok-clause-goes_on g c =
    let D = g.C.Cluster in
    let old = c.args.self.now in
    let mid = c.sync_beside.new.self in
    let new = c.place_held.new.self in
    let working : old.lost ≡ None = search rules in
    let same = c.in-Ok.ensures.same in
    goes_then D g.met.C.Cluster.counts_now old mid new c.sync_beside.ensures.seen c.sync_beside.ensures.goes_on c.place_held.ensures.goes_on

pub returns-in-Err-clause-crash : goal.returns-in-Err-clause-crash
returns-in-Err-clause-crash g c =
    let D = g.C.Cluster in
    let old = c.args.self.now in
    let mid = c.sync_beside.new.self in
    if_any (next_of D old) (λ bytes. ComesOfStep (Swapped bytes) (leaves D old) (leaves D mid)) (λ bytes. swapped_none D old mid bytes c.sync_beside.ensures.seen.crash)

pub returns-in-Err-clause-unplaced : goal.returns-in-Err-clause-unplaced
returns-in-Err-clause-unplaced g c =
    λ unplaced. c.sync_beside.ensures.seen

pub returns-in-Err-clause-loses : goal.returns-in-Err-clause-loses
returns-in-Err-clause-loses g c =
    c.not_placed.ensures
