use Rattle.std.proofs.Common.{◌≡◌, ◌≤◌, inl, inr, ◌∙◌, sym, ap, arith, rules}
use Rattle.std.specs.Prelude.{None}
use Rattle.cluster_file.specs.declared.file.ClusterFile.{ClusterFile}
use Rattle.cluster_file.proofs.Laying.{lost_not}
use Rattle.cluster_file.proofs.Learning.{learns_on}
use Rattle.cluster_file.proofs.Parting.{behind_ends, behind_reaches, behind_reads, front_none, held_ends, held_reaches, held_reads, learns_front}
use Rattle.cluster_file.proofs.file.ClusterFile.read_part.Goals as goal

pub returns-then-is_some-clause-learns : goal.returns-then-is_some-clause-learns
returns-then-is_some-clause-learns g c =
    λ working. absurd (lost_not c.args.self.now.lost (sym c.is_some.ensures ∙ c.if-is_some.true) working)

pub returns-then-is_some-clause-front : goal.returns-then-is_some-clause-front
returns-then-is_some-clause-front g c =
    front_none g.C.Cluster c.args.self.now

pub learn_to-requires-clause-working : goal.learn_to-requires-clause-working
learn_to-requires-clause-working g c =
    search rules

pub learn_to-requires-clause-sound : goal.learn_to-requires-clause-sound
learn_to-requires-clause-sound g c =
    let D = g.C.Cluster in
    let old = c.args.self.now in
    let working : old.lost ≡ None = search rules in
    c.requires.sound working

pub learn_to-requires-clause-read : goal.learn_to-requires-clause-read
learn_to-requires-clause-read g c =
    c.requires.read

pub returns-in_err-learn_to-clause-learns : goal.returns-in_err-learn_to-clause-learns
returns-in_err-learn_to-clause-learns g c =
    λ working. c.learn_to.ensures.learns

pub returns-in_err-learn_to-clause-front : goal.returns-in_err-learn_to-clause-front
returns-in_err-learn_to-clause-front g c =
    let D = g.C.Cluster in
    let old = c.args.self.now in
    let working : old.lost ≡ None = search rules in
    let mid = c.learn_to.new.self in
    learns_front D old mid (c.requires.sound working) c.requires.read c.learn_to.ensures.learns

pub fetch-requires-clause-working : goal.fetch-requires-clause-working
fetch-requires-clause-working g c =
    let D = g.C.Cluster in
    let old = c.args.self.now in
    let working : old.lost ≡ None = search rules in
    let mid = c.learn_to.new.self in
    ap (λ (f : ClusterFile _). f.lost) c.learn_to.ensures.learns.same ∙ working

pub fetch-requires-clause-sound : goal.fetch-requires-clause-sound
fetch-requires-clause-sound g c =
    c.learn_to.ensures.learns.sound

pub fetch-requires-clause-read : goal.fetch-requires-clause-read
fetch-requires-clause-read g c =
    c.learn_to.ensures.learns.read

pub returns-in_err-fetch-clause-learns : goal.returns-in_err-fetch-clause-learns
returns-in_err-fetch-clause-learns g c =
    let D = g.C.Cluster in
    let old = c.args.self.now in
    let working : old.lost ≡ None = search rules in
    let mid = c.learn_to.new.self in
    let new = c.fetch.new.self in
    let learns = learns_on D g.met.C.Cluster.counts_now old mid new c.learn_to.ensures.learns c.fetch.ensures.learns in
    λ _. learns

pub returns-in_err-fetch-clause-front : goal.returns-in_err-fetch-clause-front
returns-in_err-fetch-clause-front g c =
    let D = g.C.Cluster in
    let old = c.args.self.now in
    let working : old.lost ≡ None = search rules in
    let mid = c.learn_to.new.self in
    let new = c.fetch.new.self in
    let learns = learns_on D g.met.C.Cluster.counts_now old mid new c.learn_to.ensures.learns c.fetch.ensures.learns in
    learns_front D old new (c.requires.sound working) c.requires.read learns

pub returns-then-at-end-clause-learns : goal.returns-then-at-end-clause-learns
returns-then-at-end-clause-learns g c =
    let D = g.C.Cluster in
    let old = c.args.self.now in
    let working : old.lost ≡ None = search rules in
    let mid = c.learn_to.new.self in
    let new = c.fetch.new.self in
    let learns = learns_on D g.met.C.Cluster.counts_now old mid new c.learn_to.ensures.learns c.fetch.ensures.learns in
    λ _. learns

pub returns-then-at-end-clause-front : goal.returns-then-at-end-clause-front
returns-then-at-end-clause-front g c =
    let D = g.C.Cluster in
    let old = c.args.self.now in
    let working : old.lost ≡ None = search rules in
    let mid = c.learn_to.new.self in
    let new = c.fetch.new.self in
    let learns = learns_on D g.met.C.Cluster.counts_now old mid new c.learn_to.ensures.learns c.fetch.ensures.learns in
    learns_front D old new (c.requires.sound working) c.requires.read learns

pub returns-then-at-end-clause-part : goal.returns-then-at-end-clause-part
returns-then-at-end-clause-part g c =
    let D = g.C.Cluster in
    let old = c.args.self.now in
    let working : old.lost ≡ None = search rules in
    let mid = c.learn_to.new.self in
    let new = c.fetch.new.self in
    let learns = learns_on D g.met.C.Cluster.counts_now old mid new c.learn_to.ensures.learns c.fetch.ensures.learns in
    held_reads D new c.args.at c.args.most learns.read c.held.result c.in_ok-fetch.ensures.byte c.held.ensures.part

pub returns-then-at-end-clause-reaches : goal.returns-then-at-end-clause-reaches
returns-then-at-end-clause-reaches g c =
    let D = g.C.Cluster in
    let old = c.args.self.now in
    let working : old.lost ≡ None = search rules in
    let mid = c.learn_to.new.self in
    let new = c.fetch.new.self in
    let learns = learns_on D g.met.C.Cluster.counts_now old mid new c.learn_to.ensures.learns c.fetch.ensures.learns in
    held_reaches D new c.args.at c.args.most learns.read c.held.result c.in_ok-fetch.ensures.byte c.held.ensures.part

pub returns-then-at-end-clause-end : goal.returns-then-at-end-clause-end
returns-then-at-end-clause-end g c =
    let D = g.C.Cluster in
    let old = c.args.self.now in
    let working : old.lost ≡ None = search rules in
    let mid = c.learn_to.new.self in
    let new = c.fetch.new.self in
    let learns = learns_on D g.met.C.Cluster.counts_now old mid new c.learn_to.ensures.learns c.fetch.ensures.learns in
    held_ends D new c.args.at c.args.most learns.read c.held.result c.held.ensures.some

pub returns-clause-learns : goal.returns-clause-learns
returns-clause-learns g c =
    λ _. c.learn_to.ensures.learns

pub returns-clause-front : goal.returns-clause-front
returns-clause-front g c =
    let D = g.C.Cluster in
    let old = c.args.self.now in
    let working : old.lost ≡ None = search rules in
    let mid = c.learn_to.new.self in
    learns_front D old mid (c.requires.sound working) c.requires.read c.learn_to.ensures.learns

pub returns-clause-part : goal.returns-clause-part
returns-clause-part g c =
    let D = g.C.Cluster in
    let old = c.args.self.now in
    let working : old.lost ≡ None = search rules in
    let mid = c.learn_to.new.self in
    let learns = c.learn_to.ensures.learns in
    let behind : mid.standing.head.end ≤ c.args.at = omega arith in
    let reached : mid.standing.head.end ≤ mid.known =
    elim c.in_ok-learn_to.ensures.reaches [
      | inl below ↦ omega (arith, behind, below)
      | inr all ↦ all
    ] in
    behind_reads D mid c.args.at c.args.most learns.read learns.sound reached behind c.behind_pieces.result c.behind_pieces.ensures.part

pub returns-clause-reaches : goal.returns-clause-reaches
returns-clause-reaches g c =
    let D = g.C.Cluster in
    let old = c.args.self.now in
    let working : old.lost ≡ None = search rules in
    let mid = c.learn_to.new.self in
    let learns = c.learn_to.ensures.learns in
    let behind : mid.standing.head.end ≤ c.args.at = omega arith in
    let reached : mid.standing.head.end ≤ mid.known =
    elim c.in_ok-learn_to.ensures.reaches [
      | inl below ↦ omega (arith, behind, below)
      | inr all ↦ all
    ] in
    behind_reaches D mid c.args.at c.args.most learns.read learns.sound reached behind c.behind_pieces.result

pub returns-clause-end : goal.returns-clause-end
returns-clause-end g c =
    let D = g.C.Cluster in
    let old = c.args.self.now in
    let working : old.lost ≡ None = search rules in
    let mid = c.learn_to.new.self in
    let learns = c.learn_to.ensures.learns in
    let behind : mid.standing.head.end ≤ c.args.at = omega arith in
    let reached : mid.standing.head.end ≤ mid.known =
    elim c.in_ok-learn_to.ensures.reaches [
      | inl below ↦ omega (arith, behind, below)
      | inr all ↦ all
    ] in
    behind_ends D mid c.args.at c.args.most learns.read learns.sound reached behind c.behind_pieces.result c.behind_pieces.ensures.end
