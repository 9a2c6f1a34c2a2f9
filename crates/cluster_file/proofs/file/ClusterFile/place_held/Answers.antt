use Rattle.std.proofs.Common.{◌≡◌, length, true, sym, ap, subst}
use Rattle.std.specs.Prelude.{IfSome, Option, Some, is_some, replicate}
use Rattle.batch_file.specs.Crashes.{IsReplaceFailure, IsUnplaced, Only}
use Rattle.cluster_file.specs.Devices.{KeepsSeen, LeavesOrThis, leaves}
use Rattle.cluster_file.specs.Files.{next_of, seen_of, written_beside}
use Rattle.cluster_file.specs.declared.beside.NextFile.{NextFile}
use Rattle.cluster_file.proofs.Kept.{fault_as, fault_then, if_none, if_some, ok_then}
use Rattle.cluster_file.proofs.Made.{not_both}
use Rattle.cluster_file.proofs.Nexts.{taken_begun, taken_goes, taken_none, taken_on, taken_out, taken_same, taken_this, taken_well, taken_working}
use Rattle.cluster_file.proofs.file.ClusterFile.place_held.Goals as goal

pub place_and_compact-requires-clause-well : goal.place_and_compact-requires-clause-well
place_and_compact-requires-clause-well g c =
    let D = g.C.Cluster in
    let old = c.args.self.now in
    let mid = c.take_next.new.self in
    let well = c.requires.well in
    let working = c.requires.working in
    let none = c.take_next.ensures.none in
    taken_well D old mid well working none

pub place_and_compact-requires-clause-working : goal.place_and_compact-requires-clause-working
place_and_compact-requires-clause-working g c =
    let D = g.C.Cluster in
    let old = c.args.self.now in
    let mid = c.take_next.new.self in
    let well = c.requires.well in
    let working = c.requires.working in
    let none = c.take_next.ensures.none in
    taken_working D old mid well working none

pub place_and_compact-requires-clause-none : goal.place_and_compact-requires-clause-none
place_and_compact-requires-clause-none g c =
    let D = g.C.Cluster in
    let old = c.args.self.now in
    let mid = c.take_next.new.self in
    let well = c.requires.well in
    let working = c.requires.working in
    let none = c.take_next.ensures.none in
    taken_none D old mid well working none

pub place_and_compact-requires-clause-begun : goal.place_and_compact-requires-clause-begun
place_and_compact-requires-clause-begun g c =
    let D = g.C.Cluster in
    let old = c.args.self.now in
    let mid = c.take_next.new.self in
    let well = c.requires.well in
    let working = c.requires.working in
    let none = c.take_next.ensures.none in
    taken_begun D old mid well working none c.in-Some.next (sym c.in-Some.ensures.taken)

pub place_and_compact-requires-clause-zeros : goal.place_and_compact-requires-clause-zeros
place_and_compact-requires-clause-zeros g c =
    subst (λ (o : Option NextFile). IfSome o (λ next. next.rest.items ≡ replicate (length next.rest.items) 0)) (sym c.in-Some.ensures.taken) c.requires.zeros

pub returns-in-Some-clause-replaced : goal.returns-in-Some-clause-replaced
returns-in-Some-clause-replaced g c =
    let D = g.C.Cluster in
    let old = c.args.self.now in
    let mid = c.take_next.new.self in
    let well = c.requires.well in
    let working = c.requires.working in
    let none = c.take_next.ensures.none in
    let next = c.in-Some.next in
    let is = sym c.in-Some.ensures.taken in
    let put = written_beside D mid.cluster next in
    let same : next_of D old ≡ Some put = taken_same D old mid well working none next is in
    ok_then c.place_and_compact.result (seen_of D c.place_and_compact.new.self ≡ put) (IfSome (next_of D old) (λ bytes. seen_of D c.place_and_compact.new.self ≡ bytes))
    c.place_and_compact.ensures.replaced
    (λ so. if_some (next_of D old) put (λ bytes. seen_of D c.place_and_compact.new.self ≡ bytes) same so)

pub returns-in-Some-clause-durable : goal.returns-in-Some-clause-durable
returns-in-Some-clause-durable g c =
    let D = g.C.Cluster in
    let old = c.args.self.now in
    let mid = c.take_next.new.self in
    let well = c.requires.well in
    let working = c.requires.working in
    let none = c.take_next.ensures.none in
    let next = c.in-Some.next in
    let is = sym c.in-Some.ensures.taken in
    let put = written_beside D mid.cluster next in
    let same : next_of D old ≡ Some put = taken_same D old mid well working none next is in
    ok_then c.place_and_compact.result (Only put (leaves D c.place_and_compact.new.self)) (IfSome (next_of D old) (λ bytes. Only bytes (leaves D c.place_and_compact.new.self)))
    c.place_and_compact.ensures.durable
    (λ so. if_some (next_of D old) put (λ bytes. Only bytes (leaves D c.place_and_compact.new.self)) same so)

pub returns-in-Some-clause-crash : goal.returns-in-Some-clause-crash
returns-in-Some-clause-crash g c =
    let D = g.C.Cluster in
    let old = c.args.self.now in
    let mid = c.take_next.new.self in
    let well = c.requires.well in
    let working = c.requires.working in
    let none = c.take_next.ensures.none in
    let next = c.in-Some.next in
    let is = sym c.in-Some.ensures.taken in
    let put = written_beside D mid.cluster next in
    let same : next_of D old ≡ Some put = taken_same D old mid well working none next is in
    if_some (next_of D old) put (LeavesOrThis D old c.place_and_compact.new.self) same (taken_this D old mid well working none c.place_and_compact.new.self put c.place_and_compact.ensures.crash)

pub returns-in-Some-clause-unplaced : goal.returns-in-Some-clause-unplaced
returns-in-Some-clause-unplaced g c =
    let D = g.C.Cluster in
    let old = c.args.self.now in
    let mid = c.take_next.new.self in
    let well = c.requires.well in
    let working = c.requires.working in
    let none = c.take_next.ensures.none in
    let next = c.in-Some.next in
    let is = sym c.in-Some.ensures.taken in
    let put = written_beside D mid.cluster next in
    let same : next_of D old ≡ Some put = taken_same D old mid well working none next is in
    fault_then c.place_and_compact.result IsReplaceFailure (λ fault. IsUnplaced fault → KeepsSeen D old c.place_and_compact.new.self) c.place_and_compact.ensures.failed
    (λ fault failed unplaced. absurd (not_both fault failed unplaced))

pub returns-in-Some-clause-loses : goal.returns-in-Some-clause-loses
returns-in-Some-clause-loses g c =
    fault_as c.place_and_compact.result (is_some c.place_and_compact.new.self.lost ≡ true) (λ fault. IsReplaceFailure fault → is_some c.place_and_compact.new.self.lost ≡ true)
    c.place_and_compact.ensures.loses (λ fault lost failed. lost)

pub returns-in-Some-clause-goes_on : goal.returns-in-Some-clause-goes_on
returns-in-Some-clause-goes_on g c =
    let D = g.C.Cluster in
    let old = c.args.self.now in
    let mid = c.take_next.new.self in
    let well = c.requires.well in
    let working = c.requires.working in
    let none = c.take_next.ensures.none in
    taken_goes D old mid well working none c.place_and_compact.new.self c.place_and_compact.ensures.goes_on

pub returns-in-None-clause-crash : goal.returns-in-None-clause-crash
returns-in-None-clause-crash g c =
    let D = g.C.Cluster in
    let old = c.args.self.now in
    let mid = c.take_next.new.self in
    let well = c.requires.well in
    let working = c.requires.working in
    let none = c.take_next.ensures.none in
    if_none (next_of D old) (LeavesOrThis D old mid) (ap (λ (o : Option NextFile). next_of D (record old { next = o })) (sym c.in-None.ensures.taken))

pub returns-in-None-clause-unplaced : goal.returns-in-None-clause-unplaced
returns-in-None-clause-unplaced g c =
    let D = g.C.Cluster in
    let old = c.args.self.now in
    let mid = c.take_next.new.self in
    let well = c.requires.well in
    let working = c.requires.working in
    let none = c.take_next.ensures.none in
    λ unplaced. taken_out D old mid well working none

pub returns-in-None-clause-goes_on : goal.returns-in-None-clause-goes_on
returns-in-None-clause-goes_on g c =
    let D = g.C.Cluster in
    let old = c.args.self.now in
    let mid = c.take_next.new.self in
    let well = c.requires.well in
    let working = c.requires.working in
    let none = c.take_next.ensures.none in
    taken_on D old mid well working none
