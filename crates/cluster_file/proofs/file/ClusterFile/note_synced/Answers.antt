use Rattle.std.proofs.Common.{◌≡◌, ◌∙◌, List, ℕ, ap, drop, subst, rules}
use Rattle.cluster_file.specs.Runs.{IsNoted}
use Rattle.cluster_file.proofs.Noting.{run_after}
use Rattle.cluster_file.proofs.file.ClusterFile.note_synced.Goals as goal

pub returns-clause-run : goal.returns-clause-run
returns-clause-run g c =
    let old = c.args.self.now in
    let items = old.unsynced.items in
    let slice : c.deref.result.now ≡ items = search rules in
    run_after (g.C.Cluster.stand old.cluster) old.run c.note.new.self c.args.start c.args.from items c.requires.run c.requires.last c.requires.end
    (subst (λ (l : List ℕ). IsNoted c.args.start c.args.from l old.run c.note.new.self) (c.behind-piece.ensures ∙ ap (λ (l : List ℕ). drop c.args.from l) slice) c.note.ensures.noted)
