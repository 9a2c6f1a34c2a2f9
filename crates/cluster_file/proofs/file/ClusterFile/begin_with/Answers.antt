use Rattle.std.proofs.Common.{◌≡◌, ◌≤◌, ◌∙◌, ◌++◌, List, ℕ, take, length, true, sym, ap, subst, rules}
use Rattle.std.specs.Prelude.{None, Some, is_some}
use Rattle.batch_file.specs.Crashes.{ComesOfStep, IsFailure, Swapped}
use Rattle.etcd_cluster.specs.declared.settling.SettleFault.TheVariants.{Refused}
use Rattle.cluster_file.specs.Devices.{GoesOn, LeavesOrThis, leaves}
use Rattle.cluster_file.specs.Files.{seen_of}
use Rattle.cluster_file.specs.declared.file.ClusterFile.{ClusterFile}
use Rattle.cluster_file.proofs.Dropping.{goes_by, goes_lost, goes_then, swapped_none, swapped_of, this_on}
use Rattle.cluster_file.proofs.Going.{gives_seen, gives_up, goes_same}
use Rattle.cluster_file.proofs.Kept.{fault_any}
use Rattle.cluster_file.proofs.Written.{lose_leaves, proceeds_lose}
use Rattle.cluster_file.proofs.file.ClusterFile.begin_with.Goals as goal

pub returns-then-is_some-clause-goes_on : goal.returns-then-is_some-clause-goes_on
returns-then-is_some-clause-goes_on g c = goes_same g.C.Cluster c.args.self.now c.requires.well

pub returns-then-is_some-clause-crash : goal.returns-then-is_some-clause-crash
returns-then-is_some-clause-crash g c = swapped_none g.C.Cluster c.args.self.now c.args.self.now _ (λ left is. is)

pub returns-then-is_some-clause-loses : goal.returns-then-is_some-clause-loses
returns-then-is_some-clause-loses g c = λ failure. sym c.is_some.ensures ∙ c.if-is_some.true

pub returns-then-end-stood-clause-goes_on : goal.returns-then-end-stood-clause-goes_on
returns-then-end-stood-clause-goes_on g c =
    let D = g.C.Cluster in
    let old = c.args.self.now in
    let working : old.lost ≡ None = search rules in
    subst (λ (x : ClusterFile _). GoesOn D old x) (sym c.lose.ensures.lost) (gives_up D old c.requires.well working Refused)

pub returns-then-end-stood-clause-crash : goal.returns-then-end-stood-clause-crash
returns-then-end-stood-clause-crash g c =
    let D = g.C.Cluster in
    let old = c.args.self.now in
    let working : old.lost ≡ None = search rules in
    let bytes : List ℕ = take c.args.end (seen_of D old) ++ c.args.bytes.now in
    subst (λ (x : ClusterFile _). ComesOfStep (Swapped bytes) (leaves D old) (leaves D x)) (sym c.lose.ensures.lost)
    (swapped_none D old (record old { lost = Some Refused }) bytes (gives_seen D old c.requires.well working Refused).crash)

pub returns-then-end-stood-clause-loses : goal.returns-then-end-stood-clause-loses
returns-then-end-stood-clause-loses g c = λ failure. ap (λ (x : ClusterFile _). is_some x.lost) c.lose.ensures.lost

pub take_over-requires-clause-well : goal.take_over-requires-clause-well
take_over-requires-clause-well g c =
    c.requires.well

pub returns-in_err-take_over-clause-goes_on : goal.returns-in_err-take_over-clause-goes_on
returns-in_err-take_over-clause-goes_on g c =
    c.take_over.ensures.goes_on

pub returns-in_err-take_over-clause-crash : goal.returns-in_err-take_over-clause-crash
returns-in_err-take_over-clause-crash g c =
    swapped_none g.C.Cluster c.args.self.now c.take_over.new.self _ c.take_over.ensures.seen.crash

pub returns-in_err-take_over-clause-loses : goal.returns-in_err-take_over-clause-loses
returns-in_err-take_over-clause-loses g c =
    fault_any c.from_residual.result (λ fault. IsFailure fault → is_some c.take_over.new.self.lost ≡ true) (λ fault failure. c.in_err-take_over.ensures.lost)

pub put_begun-requires-clause-well : goal.put_begun-requires-clause-well
put_begun-requires-clause-well g c =
    c.take_over.ensures.goes_on.well

pub put_begun-requires-clause-within : goal.put_begun-requires-clause-within
put_begun-requires-clause-within g c =
    subst (λ (l : List ℕ). c.args.end ≤ length l) (sym c.take_over.ensures.seen.seen) c.requires.within

pub returns-in-Ok-clause-settled : goal.returns-in-Ok-clause-settled
returns-in-Ok-clause-settled g c =
    let D = g.C.Cluster in
    let L = g.met.C.Cluster in
    let old = c.args.self.now in
    let working : old.lost ≡ None = search rules in
    let well = c.requires.well in
    let mid = c.take_over.new.self in
    let seen = c.take_over.ensures.seen in
    let begun = c.take_over.ensures.goes_on in
    let new = c.put_begun.new.self in
    let bytes : List ℕ = take c.args.end (seen_of D old) ++ c.args.bytes.now in
    let put : List ℕ = take c.args.end (seen_of D mid) ++ c.args.bytes.now in
    let same : put ≡ bytes = ap (λ (l : List ℕ). take c.args.end l ++ c.args.bytes.now) seen.seen in
    let step = swapped_of D L.by_calls old new well working bytes
    (this_on D old mid new bytes seen.crash begun.truth (subst (λ (l : List ℕ). LeavesOrThis D mid new l) same c.put_begun.ensures.crash)) in
    c.in-Ok.ensures.settled ∙ same

pub returns-in-Ok-clause-crash : goal.returns-in-Ok-clause-crash
returns-in-Ok-clause-crash g c =
    let D = g.C.Cluster in
    let L = g.met.C.Cluster in
    let old = c.args.self.now in
    let working : old.lost ≡ None = search rules in
    let well = c.requires.well in
    let mid = c.take_over.new.self in
    let seen = c.take_over.ensures.seen in
    let begun = c.take_over.ensures.goes_on in
    let new = c.put_begun.new.self in
    let bytes : List ℕ = take c.args.end (seen_of D old) ++ c.args.bytes.now in
    let put : List ℕ = take c.args.end (seen_of D mid) ++ c.args.bytes.now in
    let same : put ≡ bytes = ap (λ (l : List ℕ). take c.args.end l ++ c.args.bytes.now) seen.seen in
    let step = swapped_of D L.by_calls old new well working bytes
    (this_on D old mid new bytes seen.crash begun.truth (subst (λ (l : List ℕ). LeavesOrThis D mid new l) same c.put_begun.ensures.crash)) in
    step

pub returns-in-Ok-clause-goes_on : goal.returns-in-Ok-clause-goes_on
returns-in-Ok-clause-goes_on g c =
    let D = g.C.Cluster in
    let L = g.met.C.Cluster in
    let old = c.args.self.now in
    let working : old.lost ≡ None = search rules in
    let well = c.requires.well in
    let mid = c.take_over.new.self in
    let seen = c.take_over.ensures.seen in
    let begun = c.take_over.ensures.goes_on in
    let new = c.put_begun.new.self in
    let bytes : List ℕ = take c.args.end (seen_of D old) ++ c.args.bytes.now in
    let put : List ℕ = take c.args.end (seen_of D mid) ++ c.args.bytes.now in
    let same : put ≡ bytes = ap (λ (l : List ℕ). take c.args.end l ++ c.args.bytes.now) seen.seen in
    let step = swapped_of D L.by_calls old new well working bytes
    (this_on D old mid new bytes seen.crash begun.truth (subst (λ (l : List ℕ). LeavesOrThis D mid new l) same c.put_begun.ensures.crash)) in
    let still = c.in_ok-take_over.ensures.working in
    goes_then D L.counts_now old mid new seen begun
    (goes_by D mid new begun.well still c.put_begun.ensures.proceeds c.put_begun.ensures.whole (λ none. c.in-Ok.ensures.synced))

pub returns-in-Err-clause-crash : goal.returns-in-Err-clause-crash
returns-in-Err-clause-crash g c =
    let D = g.C.Cluster in
    let L = g.met.C.Cluster in
    let old = c.args.self.now in
    let working : old.lost ≡ None = search rules in
    let well = c.requires.well in
    let mid = c.take_over.new.self in
    let seen = c.take_over.ensures.seen in
    let begun = c.take_over.ensures.goes_on in
    let new = c.put_begun.new.self in
    let bytes : List ℕ = take c.args.end (seen_of D old) ++ c.args.bytes.now in
    let put : List ℕ = take c.args.end (seen_of D mid) ++ c.args.bytes.now in
    let same : put ≡ bytes = ap (λ (l : List ℕ). take c.args.end l ++ c.args.bytes.now) seen.seen in
    let step = swapped_of D L.by_calls old new well working bytes
    (this_on D old mid new bytes seen.crash begun.truth (subst (λ (l : List ℕ). LeavesOrThis D mid new l) same c.put_begun.ensures.crash)) in
    subst (λ (x : ClusterFile _). ComesOfStep (Swapped bytes) (leaves D old) (leaves D x)) (sym c.lose_any.ensures.same)
    (λ left is. step left (lose_leaves D new c.lose_any.new.self.lost left is))

pub returns-in-Err-clause-goes_on : goal.returns-in-Err-clause-goes_on
returns-in-Err-clause-goes_on g c =
    let D = g.C.Cluster in
    let L = g.met.C.Cluster in
    let old = c.args.self.now in
    let working : old.lost ≡ None = search rules in
    let well = c.requires.well in
    let mid = c.take_over.new.self in
    let seen = c.take_over.ensures.seen in
    let begun = c.take_over.ensures.goes_on in
    let new = c.put_begun.new.self in
    let bytes : List ℕ = take c.args.end (seen_of D old) ++ c.args.bytes.now in
    let put : List ℕ = take c.args.end (seen_of D mid) ++ c.args.bytes.now in
    let same : put ≡ bytes = ap (λ (l : List ℕ). take c.args.end l ++ c.args.bytes.now) seen.seen in
    let step = swapped_of D L.by_calls old new well working bytes
    (this_on D old mid new bytes seen.crash begun.truth (subst (λ (l : List ℕ). LeavesOrThis D mid new l) same c.put_begun.ensures.crash)) in
    let still = c.in_ok-take_over.ensures.working in
    let lost = c.lose_any.new.self.lost in
    subst (λ (x : ClusterFile _). GoesOn D old x) (sym c.lose_any.ensures.same)
    (goes_then D L.counts_now old mid (record new { lost = lost }) seen begun
    (goes_lost D mid (record new { lost = lost }) begun.well still (proceeds_lose D mid new lost c.put_begun.ensures.proceeds) c.lose_any.ensures.lost))

pub returns-in-Err-clause-loses : goal.returns-in-Err-clause-loses
returns-in-Err-clause-loses g c =
    λ failure. c.lose_any.ensures.lost
