use Rattle.std.proofs.Common.{◌≤◌, refl, arith}
use Rattle.cluster_file.proofs.InTurn.{if_done, opened_behind, opened_front, opened_reaches, opened_reads}
use Rattle.cluster_file.proofs.Parting.{behind_ends, held_ends}
use Rattle.cluster_file.proofs.file.ClusterFile.next_part.Goals as goal

pub returns-then-at-end-clause-part : goal.returns-then-at-end-clause-part
returns-then-at-end-clause-part g c =
    let D = g.C.Cluster in
    let file = c.learn_next.new.self in
    let opened = c.in_ok-learn_next.ensures.opened in
    opened_reads D file c.args.at opened c.held.result (c.if-not-has_byte.ensures.0 refl) c.held.ensures.part

pub returns-then-at-end-clause-end : goal.returns-then-at-end-clause-end
returns-then-at-end-clause-end g c =
    let D = g.C.Cluster in
    let file = c.learn_next.new.self in
    let opened = c.in_ok-learn_next.ensures.opened in
    held_ends D file c.args.at c.args.most (λ are. opened.read) c.held.result c.held.ensures.some

pub returns-then-at-end-clause-reaches : goal.returns-then-at-end-clause-reaches
returns-then-at-end-clause-reaches g c =
    let D = g.C.Cluster in
    let file = c.learn_next.new.self in
    let opened = c.in_ok-learn_next.ensures.opened in
    opened_reaches D file c.args.at opened c.held.result (c.if-not-has_byte.ensures.0 refl) c.held.ensures.part

pub returns-then-at-end-clause-front : goal.returns-then-at-end-clause-front
returns-then-at-end-clause-front g c =
    let D = g.C.Cluster in
    let file = c.learn_next.new.self in
    if_done c.held.result _ (opened_front D c.args.self.now file c.requires.opened c.learn_next.ensures.learns)

pub returns-clause-part : goal.returns-clause-part
returns-clause-part g c =
    let D = g.C.Cluster in
    let file = c.learn_next.new.self in
    let opened = c.in_ok-learn_next.ensures.opened in
    let behind : file.standing.head.end ≤ c.args.at = omega arith in
    let reached : file.standing.head.end ≤ file.known = omega arith in
    opened_behind D file c.args.at opened reached behind c.behind_pieces.result c.behind_pieces.ensures.part

pub returns-clause-end : goal.returns-clause-end
returns-clause-end g c =
    let D = g.C.Cluster in
    let file = c.learn_next.new.self in
    let opened = c.in_ok-learn_next.ensures.opened in
    let behind : file.standing.head.end ≤ c.args.at = omega arith in
    let reached : file.standing.head.end ≤ file.known = omega arith in
    behind_ends D file c.args.at c.args.most (λ are. opened.read) opened.sound reached behind c.behind_pieces.result c.behind_pieces.ensures.end

pub returns-clause-front : goal.returns-clause-front
returns-clause-front g c =
    let D = g.C.Cluster in
    let file = c.learn_next.new.self in
    if_done c.behind_pieces.result _ (opened_front D c.args.self.now file c.requires.opened c.learn_next.ensures.learns)
