use Rattle.std.proofs.Common.{rules, refl}
use Rattle.cluster_file.proofs.InTurn.{found_opened, unread}
use Rattle.cluster_file.proofs.file.ClusterFile.find.Goals.{in-Ok-Some, in-Ok-None}
use Rattle.cluster_file.proofs.file.ClusterFile.find.Goals as goal

pub returns-clause-read : goal.returns-clause-read
returns-clause-read g c = λ are. unread g.C.Cluster _ c.new.ensures.items refl refl

pub returns-clause-opened : goal.returns-clause-opened
returns-clause-opened g c =
    elim c.match-find_head-2.branch [
      | in-Ok-Some w ↦ found_opened g.C.Cluster _ (search rules) c.new.ensures.items refl refl c.new-2.ensures.items refl refl c.new-3.ensures (λ p. search rules)
      | in-Ok-None w ↦ found_opened g.C.Cluster _ (search rules) c.new.ensures.items refl refl c.new-2.ensures.items refl refl c.new-3.ensures (λ p. search rules)
    ]
