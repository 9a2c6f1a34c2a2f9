use Rattle.std.proofs.Common.{◌≡◌, ◌+◌, ◌++◌, ◌∙◌, List, ℕ, [], drop, length, length-append, take, refl, sym, ap, subst, arith, rules}
use Rattle.std.specs.Prelude.{None}
use Rattle.cluster_file.specs.Files.{seen_of}
use Rattle.cluster_file.specs.declared.file.ClusterFile.{ClusterFile}
use Rattle.cluster_file.proofs.Learning.{learns_none, learns_on}
use Rattle.cluster_file.proofs.Parting.{learns_seen, parts_on}
use Rattle.cluster_file.proofs.file.ClusterFile.read_on.Goals as goal

pub parts-init : goal.parts-init
parts-init g c =
    let none_read : c.in_ok-out.out.items ≡ [] = search rules in
    let size = ap (λ (l : List ℕ). length l) none_read in
    record {
      learns = learns_none g.C.Cluster c.args.self.now c.requires.sound c.requires.read;
      few = omega (arith, size);
      read = λ are. subst (λ (l : List ℕ). l ≡ take (length l) (drop c.args.at (seen_of g.C.Cluster c.args.self.now))) (sym none_read) refl;
    }

pub parts-preserved : goal.parts-preserved
parts-preserved g c =
    let D = g.C.Cluster in
    let L = g.met.C.Cluster in
    let old = c.args.self.now in
    let mid = c.parts.self in
    let new = c.read_part.new.self in
    let was = c.parts.invariant in
    let working : mid.lost ≡ None = ap (λ (f : ClusterFile _). f.lost) was.learns.same ∙ c.requires.working in
    let learns = learns_on D L.counts_now old mid new was.learns (c.read_part.ensures.learns working) in
    let out = c.parts.out.items in
    let part = c.in_ok-part.part.items in
    let place : c.in_ok-place.place ≡ c.args.at + length out = search rules in
    let slice : c.deref.result.now ≡ part = search rules in
    let grown : c.extend_from_slice.new.self.items ≡ out ++ c.deref.result.now = c.in_ok-extend_from_slice.ensures.items in
    let items : c.extend_from_slice.new.self.items ≡ out ++ part = grown ∙ ap (λ (l : List ℕ). out ++ l) slice in
    let size = ap (λ (l : List ℕ). length l) items in
    let both = length-append out part in
    let few = c.in_ok-part.ensures.few in
    let within = was.few in
    record {
      learns = learns;
      few = omega (arith, size, both, few, within);
      read = λ are.
          let before = was.read ((c.read_part.ensures.learns working).kept.truth are) in
          let seen = learns_seen D old new c.requires.whole learns in
          let next : part ≡ take (length part) (drop (c.args.at + length out) (seen_of D old)) =
          c.in_ok-part.ensures.part are ∙ ap (λ (n : ℕ). take (length part) (drop n (seen_of D new))) place
          ∙ ap (λ (s : List ℕ). take (length part) (drop (c.args.at + length out) s)) seen in
          subst (λ (l : List ℕ). l ≡ take (length l) (drop c.args.at (seen_of D old))) (sym items) (parts_on (seen_of D old) c.args.at out part before next);
    }

pub read_part-requires-clause-sound : goal.read_part-requires-clause-sound
read_part-requires-clause-sound g c = λ working. c.parts.invariant.learns.sound

pub read_part-requires-clause-read : goal.read_part-requires-clause-read
read_part-requires-clause-read g c = c.parts.invariant.learns.read

pub returns-in_err-out-clause-learns : goal.returns-in_err-out-clause-learns
returns-in_err-out-clause-learns g c = learns_none g.C.Cluster c.args.self.now c.requires.sound c.requires.read

pub returns-in_err-place-clause-learns : goal.returns-in_err-place-clause-learns
returns-in_err-place-clause-learns g c = c.parts.invariant.learns

pub returns-in_err-part-clause-learns : goal.returns-in_err-part-clause-learns
returns-in_err-part-clause-learns g c =
    let D = g.C.Cluster in
    let L = g.met.C.Cluster in
    let old = c.args.self.now in
    let mid = c.parts.self in
    let new = c.read_part.new.self in
    let was = c.parts.invariant in
    let working : mid.lost ≡ None = ap (λ (f : ClusterFile _). f.lost) was.learns.same ∙ c.requires.working in
    let learns = learns_on D L.counts_now old mid new was.learns (c.read_part.ensures.learns working) in
    learns

pub returns-then-is_empty-clause-learns : goal.returns-then-is_empty-clause-learns
returns-then-is_empty-clause-learns g c =
    let D = g.C.Cluster in
    let L = g.met.C.Cluster in
    let old = c.args.self.now in
    let mid = c.parts.self in
    let new = c.read_part.new.self in
    let was = c.parts.invariant in
    let working : mid.lost ≡ None = ap (λ (f : ClusterFile _). f.lost) was.learns.same ∙ c.requires.working in
    let learns = learns_on D L.counts_now old mid new was.learns (c.read_part.ensures.learns working) in
    learns

pub returns-in_err-extend_from_slice-clause-learns : goal.returns-in_err-extend_from_slice-clause-learns
returns-in_err-extend_from_slice-clause-learns g c =
    let D = g.C.Cluster in
    let L = g.met.C.Cluster in
    let old = c.args.self.now in
    let mid = c.parts.self in
    let new = c.read_part.new.self in
    let was = c.parts.invariant in
    let working : mid.lost ≡ None = ap (λ (f : ClusterFile _). f.lost) was.learns.same ∙ c.requires.working in
    let learns = learns_on D L.counts_now old mid new was.learns (c.read_part.ensures.learns working) in
    learns

pub returns-clause-learns : goal.returns-clause-learns
returns-clause-learns g c = c.parts.invariant.learns

pub returns-clause-read : goal.returns-clause-read
returns-clause-read g c =
    let D = g.C.Cluster in
    let old = c.args.self.now in
    let was = c.parts.invariant in
    let few = was.few in
    let size : length c.parts.out.items ≡ c.args.size = omega arith in
    λ are. was.read are ∙ ap (λ (n : ℕ). take n (drop c.args.at (seen_of D old))) size
