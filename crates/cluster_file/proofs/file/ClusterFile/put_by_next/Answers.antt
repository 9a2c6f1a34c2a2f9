use Rattle.std.proofs.Common.{◌≡◌, ◌∙◌, ◌++◌, List, ℕ, ap, subst}
use Rattle.std.specs.Prelude.{IfSome, OnOk, Option, Some, option_map}
use Rattle.batch_file.specs.Crashes.{ComesOfStep, Only, Swapped}
use Rattle.cluster_file.specs.Devices.{leaves}
use Rattle.cluster_file.specs.Files.{next_of, seen_of}
use Rattle.cluster_file.proofs.Dropping.{goes_then, seen_then, swapped_none}
use Rattle.cluster_file.proofs.file.ClusterFile.put_by_next.Goals as goal

pub returns-in_err-begin_beside-clause-crash : goal.returns-in_err-begin_beside-clause-crash
returns-in_err-begin_beside-clause-crash g c =
    swapped_none g.C.Cluster c.args.self.now c.begin_beside.new.self c.args.bytes.now c.begin_beside.ensures.seen.crash

pub add_beside-requires : goal.add_beside-requires
add_beside-requires g c =
    c.begin_beside.ensures.goes_on.well

pub place_beside-requires : goal.place_beside-requires
place_beside-requires g c =
    c.add_beside.ensures.goes_on.well

pub returns-in_err-add_beside-clause-crash : goal.returns-in_err-add_beside-clause-crash
returns-in_err-add_beside-clause-crash g c =
    let D = g.C.Cluster in
    let counts = g.met.C.Cluster.counts_now in
    let old = c.args.self.now in
    let first = c.begin_beside.new.self in
    let second = c.add_beside.new.self in
    let seen = seen_then D old first second c.begin_beside.ensures.seen c.add_beside.ensures.seen in
    let on = goes_then D counts old first second c.begin_beside.ensures.seen c.begin_beside.ensures.goes_on c.add_beside.ensures.goes_on in
    swapped_none D old second c.args.bytes.now seen.crash

pub returns-in_err-add_beside-clause-goes_on : goal.returns-in_err-add_beside-clause-goes_on
returns-in_err-add_beside-clause-goes_on g c =
    let D = g.C.Cluster in
    let counts = g.met.C.Cluster.counts_now in
    let old = c.args.self.now in
    let first = c.begin_beside.new.self in
    let second = c.add_beside.new.self in
    let seen = seen_then D old first second c.begin_beside.ensures.seen c.add_beside.ensures.seen in
    let on = goes_then D counts old first second c.begin_beside.ensures.seen c.begin_beside.ensures.goes_on c.add_beside.ensures.goes_on in
    on

pub returns-clause-replaced : goal.returns-clause-replaced
returns-clause-replaced g c =
    let D = g.C.Cluster in
    let counts = g.met.C.Cluster.counts_now in
    let old = c.args.self.now in
    let first = c.begin_beside.new.self in
    let second = c.add_beside.new.self in
    let seen = seen_then D old first second c.begin_beside.ensures.seen c.add_beside.ensures.seen in
    let on = goes_then D counts old first second c.begin_beside.ensures.seen c.begin_beside.ensures.goes_on c.add_beside.ensures.goes_on in
    let new = c.place_beside.new.self in
    let bytes = c.args.bytes.now in
    let is : next_of D second ≡ Some bytes =
    c.in_ok-add_beside.ensures.added ∙ ap (λ (o : Option (List ℕ)). option_map (λ written. written ++ bytes) o) c.in_ok-begin_beside.ensures.begun in
    subst (λ (o : Option (List ℕ)). OnOk c.place_beside.result (IfSome o (λ b. seen_of D new ≡ b))) is c.place_beside.ensures.replaced

pub returns-clause-durable : goal.returns-clause-durable
returns-clause-durable g c =
    let D = g.C.Cluster in
    let counts = g.met.C.Cluster.counts_now in
    let old = c.args.self.now in
    let first = c.begin_beside.new.self in
    let second = c.add_beside.new.self in
    let seen = seen_then D old first second c.begin_beside.ensures.seen c.add_beside.ensures.seen in
    let on = goes_then D counts old first second c.begin_beside.ensures.seen c.begin_beside.ensures.goes_on c.add_beside.ensures.goes_on in
    let new = c.place_beside.new.self in
    let bytes = c.args.bytes.now in
    let is : next_of D second ≡ Some bytes =
    c.in_ok-add_beside.ensures.added ∙ ap (λ (o : Option (List ℕ)). option_map (λ written. written ++ bytes) o) c.in_ok-begin_beside.ensures.begun in
    subst (λ (o : Option (List ℕ)). OnOk c.place_beside.result (IfSome o (λ b. Only b (leaves D new)))) is c.place_beside.ensures.durable

pub returns-clause-crash : goal.returns-clause-crash
returns-clause-crash g c =
    let D = g.C.Cluster in
    let counts = g.met.C.Cluster.counts_now in
    let old = c.args.self.now in
    let first = c.begin_beside.new.self in
    let second = c.add_beside.new.self in
    let seen = seen_then D old first second c.begin_beside.ensures.seen c.add_beside.ensures.seen in
    let on = goes_then D counts old first second c.begin_beside.ensures.seen c.begin_beside.ensures.goes_on c.add_beside.ensures.goes_on in
    let new = c.place_beside.new.self in
    let bytes = c.args.bytes.now in
    let is : next_of D second ≡ Some bytes =
    c.in_ok-add_beside.ensures.added ∙ ap (λ (o : Option (List ℕ)). option_map (λ written. written ++ bytes) o) c.in_ok-begin_beside.ensures.begun in
    let step : ComesOfStep (Swapped bytes) (leaves D second) (leaves D new) =
    subst (λ (o : Option (List ℕ)). IfSome o (λ b. ComesOfStep (Swapped b) (leaves D second) (leaves D new))) is c.place_beside.ensures.crash in
    λ left there. (let was = step left there in (was.0, seen.crash was.0 was.1, was.2))

pub returns-clause-goes_on : goal.returns-clause-goes_on
returns-clause-goes_on g c =
    let D = g.C.Cluster in
    let counts = g.met.C.Cluster.counts_now in
    let old = c.args.self.now in
    let first = c.begin_beside.new.self in
    let second = c.add_beside.new.self in
    let seen = seen_then D old first second c.begin_beside.ensures.seen c.add_beside.ensures.seen in
    let on = goes_then D counts old first second c.begin_beside.ensures.seen c.begin_beside.ensures.goes_on c.add_beside.ensures.goes_on in
    let new = c.place_beside.new.self in
    let bytes = c.args.bytes.now in
    let is : next_of D second ≡ Some bytes =
    c.in_ok-add_beside.ensures.added ∙ ap (λ (o : Option (List ℕ)). option_map (λ written. written ++ bytes) o) c.in_ok-begin_beside.ensures.begun in
    goes_then D counts old second new seen on c.place_beside.ensures.goes_on
