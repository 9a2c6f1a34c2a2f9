use Rattle.std.proofs.Common.{◌≡◌, ◌+◌, ◌∙◌, ℕ, length, ap, rules}
use Rattle.std.specs.Prelude.{Some}
use Rattle.cluster_file.specs.declared.file.ClusterFile.{ClusterFile}
use Rattle.cluster_file.proofs.Learning.{learned, learned_not, learns_on}
use Rattle.cluster_file.proofs.InTurn.{opened_more}
use Rattle.cluster_file.proofs.file.ClusterFile.learn.Goals as goal

pub returns-in_err-note-clause-learns : goal.returns-in_err-note-clause-learns
returns-in_err-note-clause-learns g c =
    let D = g.C.Cluster in
    let mid = c.piece_at.new.self in
    let new = c.note.new.self in
    learns_on D g.met.C.Cluster.counts_now c.args.self.now mid new c.piece_at.ensures.learns
    (learned_not D mid new c.piece_at.ensures.learns.sound c.piece_at.ensures.learns.read c.in_err-note.ensures.not c.in_err-note.ensures.starts_not)

pub returns-clause-learns : goal.returns-clause-learns
returns-clause-learns g c =
    let D = g.C.Cluster in
    let mid = c.piece_at.new.self in
    let piece = c.in_ok-piece.piece in
    let noted = c.note.new.self in
    let new : ClusterFile _ = record noted { piece = Some piece } in
    let long : c.len.result ≡ length piece.bytes.items = search rules in
    let same = c.in_ok-note.ensures.noted ∙ ap (λ (n : ℕ). record mid { starts = noted.starts; known = mid.known + n }) long in
    learns_on D g.met.C.Cluster.counts_now c.args.self.now mid new c.piece_at.ensures.learns
    (learned D mid noted piece c.piece_at.ensures.learns.sound c.piece_at.ensures.learns.read same c.args.self.now.known c.in_ok-note.ensures.starts
    c.in_ok-note.ensures.within (ap (λ (f : ClusterFile _). f.known) c.piece_at.ensures.same) c.in_ok-piece.ensures.told)

pub returns-clause-opened : goal.returns-clause-opened
returns-clause-opened g c =
    let D = g.C.Cluster in
    let old = c.args.self.now in
    let mid = c.piece_at.new.self in
    let piece = c.in_ok-piece.piece in
    let noted = c.note.new.self in
    let new : ClusterFile _ = record noted { piece = Some piece } in
    let long : c.len.result ≡ length piece.bytes.items = search rules in
    let same = c.in_ok-note.ensures.noted ∙ ap (λ (n : ℕ). record mid { starts = noted.starts; known = mid.known + n }) long in
    let learns = learned D mid noted piece c.piece_at.ensures.learns.sound c.piece_at.ensures.learns.read same old.known c.in_ok-note.ensures.starts
    c.in_ok-note.ensures.within (ap (λ (f : ClusterFile _). f.known) c.piece_at.ensures.same) c.in_ok-piece.ensures.told in
    λ opened. opened_more D old mid noted piece opened c.piece_at.ensures.same c.piece_at.ensures.learns.kept c.in_ok-piece.ensures.told c.in_ok-piece.ensures.anew
    same c.in_ok-note.ensures.starts c.in_ok-note.ensures.within learns.sound
