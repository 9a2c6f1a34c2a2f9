use Rattle.std.proofs.Common.{◌≡◌, ◌+◌, ◌++◌, ◌∙◌, List, ℕ, length, sym, ap, subst, arith, rules}
use Rattle.cluster_device.specs.Sources.{IsTelling, Telling}
use Rattle.cluster_device.proofs.Telling.{over_more, telling_lost, telling_more}
use Rattle.cluster_device.proofs.source.ClusterSourceByteSource.read_some.Goals as goal

pub read_next-requires-clause-opened : goal.read_next-requires-clause-opened
read_next-requires-clause-opened g c = c.self.invariant.opened

pub read_next-requires-clause-read : goal.read_next-requires-clause-read
read_next-requires-clause-read g c = c.self.invariant.read

pub invariant_of-self : goal.invariant_of-self
invariant_of-self g c = telling_lost g.C.Cluster c.read_next.new.self c.self.inside.at c.self.inside.log.told c.in_err-bytes.ensures.lost c.read_next.ensures.read

pub invariant_of-self-2 : goal.invariant_of-self-2
invariant_of-self-2 g c =
    let D = g.C.Cluster in
    let file = c.read_next.new.self in
    let told = c.in_ok-bytes.ensures in
    let bytes = c.in_ok-bytes.bytes.items in
    let to : c.in_ok-to.to ≡ c.self.inside.at + length bytes = search rules in
    let more = telling_more D c.self.inside.file file c.self.inside.at c.self.inside.log.told bytes c.self.invariant told.working.0
    told.opened c.read_next.ensures.read told.front told.reaches told.part in
    let seen : c.deref.result.now ≡ bytes = search rules in
    subst (λ (n : ℕ). IsTelling D file n c.add.new.self.told) (sym to)
    (subst (λ (l : List ℕ). IsTelling D file (c.self.inside.at + length bytes) l) (sym (c.add.ensures ∙ ap (λ (l : List ℕ). c.self.inside.log.told ++ l) seen)) more)

pub returns-clause-told : goal.returns-clause-told
returns-clause-told g c =
    let bytes = c.in_ok-bytes.bytes.items in
    let seen : c.deref.result.now ≡ bytes = search rules in
    c.add.ensures ∙ ap (λ (l : List ℕ). c.self.inside.log.told ++ l) seen ∙ ap (λ (t : Telling _). t.told ++ bytes) c.self.view_is

pub returns-clause-few : goal.returns-clause-few
returns-clause-few g c = c.in_ok-bytes.ensures.few

pub returns-clause-over : goal.returns-clause-over
returns-clause-over g c =
    let to : c.in_ok-to.to ≡ c.self.inside.at + length c.in_ok-bytes.bytes.items = search rules in
    λ more none. (
      c.in_ok-bytes.ensures.working.1,
      over_more c.read_next.new.self c.self.inside.at c.in_ok-to.to (c.in_ok-bytes.ensures.end more none) (omega (arith, to)),
    )
