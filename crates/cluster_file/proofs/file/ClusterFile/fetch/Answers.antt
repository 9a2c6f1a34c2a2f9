use Rattle.std.proofs.Common.{◌≡◌, List, ℕ, sym, ap, subst, rules}
use Rattle.std.specs.Prelude.{Some}
use Rattle.cluster_file.specs.Places.{IsOneOf}
use Rattle.cluster_file.specs.declared.file.ClusterFile.{ClusterFile}
use Rattle.cluster_file.proofs.Learning.{fetched, learns_none, learns_on}
use Rattle.cluster_file.proofs.file.ClusterFile.fetch.Goals as goal

pub returns-then-has_byte-clause-learns : goal.returns-then-has_byte-clause-learns
returns-then-has_byte-clause-learns g c = learns_none g.C.Cluster c.args.self.now c.requires.sound c.requires.read

pub returns-then-has_byte-2-clause-learns : goal.returns-then-has_byte-2-clause-learns
returns-then-has_byte-2-clause-learns g c =
    let D = g.C.Cluster in
    let old = c.args.self.now in
    let mid = c.piece_at.new.self in
    let slice : c.as_slice.result.now ≡ old.starts.items = search rules in
    let one = subst (λ (l : List ℕ). IsOneOf c.in-Some.place l) (sym (ap (λ (f : ClusterFile _). f.starts.items) c.piece_at.ensures.same))
    (subst (λ (l : List ℕ). IsOneOf c.in-Some.place l) slice c.in-Some.ensures) in
    learns_on D g.met.C.Cluster.counts_now old mid (record mid { piece = Some c.in_ok-piece.piece }) c.piece_at.ensures.learns
    (fetched D mid c.in_ok-piece.piece c.in-Some.place c.piece_at.ensures.learns.sound c.piece_at.ensures.learns.read one c.in_ok-piece.ensures.told)

pub returns-clause-learns : goal.returns-clause-learns
returns-clause-learns g c =
    let D = g.C.Cluster in
    let old = c.args.self.now in
    let mid = c.piece_at.new.self in
    let slice : c.as_slice.result.now ≡ old.starts.items = search rules in
    let one = subst (λ (l : List ℕ). IsOneOf c.in-Some.place l) (sym (ap (λ (f : ClusterFile _). f.starts.items) c.piece_at.ensures.same))
    (subst (λ (l : List ℕ). IsOneOf c.in-Some.place l) slice c.in-Some.ensures) in
    learns_on D g.met.C.Cluster.counts_now old mid (record mid { piece = Some c.in_ok-piece.piece }) c.piece_at.ensures.learns
    (fetched D mid c.in_ok-piece.piece c.in-Some.place c.piece_at.ensures.learns.sound c.piece_at.ensures.learns.read one c.in_ok-piece.ensures.told)
