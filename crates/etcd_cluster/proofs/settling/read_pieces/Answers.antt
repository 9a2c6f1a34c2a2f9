use Rattle.std.proofs.Common.{◌≡◌, ◌≢◌, ◌≤◌, ◌∙◌, ℕ, sym, subst, ap, arith}
use Rattle.etcd_cluster.specs.Knowing.{AreKnown}
use Rattle.etcd_cluster.specs.Stands.{Stand}
use Rattle.etcd_cluster.specs.Worlds.{seen_pieces}
use Rattle.etcd_cluster.proofs.Moved.{rest_moves}
use Rattle.etcd_cluster.proofs.Looked.{read_known, seen_head, seen_version, still_foreign, still_moves, still_older, still_same, there_by}
use Rattle.etcd_cluster.specs.Leading.{IsResting}
use Rattle.etcd_cluster.specs.Moves.{Moves}
use Rattle.etcd_cluster.proofs.Waited.{meanwhile_as}
use Rattle.etcd_cluster.proofs.settling.read_pieces.Goals as goal

pub returns-clause-unbegun : goal.returns-clause-unbegun
returns-clause-unbegun g c =
    let D = g.C.Cluster in
    let old = c.args.cluster.now in
    let new = c.look_again.new.cluster in
    let version = c.args.wanted.version in
    let was = c.requires.unbegun in
    record {
      spent = λ one is. was.spent one (c.look_again.ensures.sent one is);
      no_older = λ w may.
          let it = c.look_again.ensures.silent w may in
          still_older (D.server old) version it.0 w (was.no_older it.0 it.1)
          (still_moves (D.server old) (D.moment old) version (D.sent old) it.0 w was.spent (was.no_older it.0 it.1) it.2);
      foreign = λ w may some.
          let it = c.look_again.ensures.silent w may in
          subst (λ (s : ℕ). w.stand.head.server ≢ s) (sym c.look_again.ensures.server)
          (still_foreign (D.server old) it.0 w (was.foreign it.0 it.1)
          (still_moves (D.server old) (D.moment old) version (D.sent old) it.0 w was.spent (was.no_older it.0 it.1) it.2) some);
    }

pub returns-clause-read : goal.returns-clause-read
returns-clause-read g c =
    let D = g.C.Cluster in
    let old = c.args.cluster.now in
    let new = c.look_again.new.cluster in
    let wanted = c.args.wanted in
    let was = c.requires.unbegun in
    let read = c.requires.read in
    let of = c.requires.version in
    let told = seen_pieces c.look_again.result in
    let version : (D.stand new).version ≡ (D.stand old).version =
    ap (λ (s : Stand). s.version) c.look_again.ensures.stand ∙ seen_version wanted told (D.stand old) in
    let head : (D.stand new).head ≡ (D.stand old).head =
    ap (λ (s : Stand). s.head) c.look_again.ensures.stand ∙ seen_head wanted told (D.stand old) in
    record {
      no_older = λ w may.
          let it = c.look_again.ensures.silent w may in
          let older : wanted.version ≤ w.stand.version =
          still_older (D.server old) wanted.version it.0 w (was.no_older it.0 it.1)
          (still_moves (D.server old) (D.moment old) wanted.version (D.sent old) it.0 w was.spent (was.no_older it.0 it.1) it.2) in
          omega (arith, older, version, of);
      head = λ w may is.
          let it = c.look_again.ensures.silent w may in
          let above = was.no_older it.0 it.1 in
          let same = still_same (D.server old) it.0 w (omega (arith, is, version, of, above))
          (still_moves (D.server old) (D.moment old) wanted.version (D.sent old) it.0 w was.spent above it.2) in
          let first = ap (λ (s : Stand). s.version) same in
          ap (λ (s : Stand). s.head) same ∙ read.head it.0 it.1 (omega (arith, first, is, version)) ∙ sym head;
      pieces = λ w may is.
          let it = c.look_again.ensures.silent w may in
          let there = there_by (D.server old) (D.moment old) (D.sent old) wanted (D.may_be old) (D.may_be new) c.look_again.result c.look_again.ensures.told w may
          (omega (arith, is, version, of)) in
          subst (λ (s : Stand). AreKnown s.pieces w.stand.pieces) (sym c.look_again.ensures.stand)
          (read_known (D.server old) (D.moment old) (D.sent old) wanted told (D.stand old) it.0 there.0 w was.spent of (was.no_older it.0 it.1)
          (λ first. read.pieces it.0 it.1 first) it.2 there.1 there.2 there.3 (is ∙ version));
    }

pub returns-clause-rests : goal.returns-clause-rests
returns-clause-rests g c =
    let D = g.C.Cluster in
    let old = c.args.cluster.now in
    let was = c.requires.unbegun in
    λ w may.
    let it = c.look_again.ensures.silent w may in
    (it.0, it.1, rest_moves (D.server old) (D.moment old) c.args.wanted.version (D.sent old) it.0 w was.spent (was.no_older it.0 it.1) it.2)

pub returns-clause-meanwhile : goal.returns-clause-meanwhile
returns-clause-meanwhile g c =
    let D = g.C.Cluster in
    let old = c.args.cluster.now in
    let new = c.look_again.new.cluster in
    meanwhile_as (D.moment old) (D.may_be old) (D.been_since old) (D.been_since new) (Moves (D.server old) (D.moment old) (D.sent old))
    (IsResting (D.server old) (D.moment old) c.args.wanted.version) c.look_again.ensures.meanwhile
    (λ first w was moved. rest_moves (D.server old) (D.moment old) c.args.wanted.version (D.sent old) first w c.requires.unbegun.spent (c.requires.unbegun.no_older first was) moved)
