use Rattle.std.proofs.Common.{◌∙◌, Bool, true, false, ap, subst, sym}
use Rattle.etcd_cluster.specs.Stands.{Stand}
use Rattle.etcd_cluster.specs.Worlds.{seen_pieces}
use Rattle.etcd_cluster.proofs.Looked.{seen_version}
use Rattle.cluster_file.specs.Looks.{HasLooked, MayHaveLooked}
use Rattle.cluster_file.specs.Places.{MayLook}
use Rattle.cluster_file.proofs.pieces.look.Goals as goal

pub look_up-requires-clause-leads : goal.look_up-requires-clause-leads
look_up-requires-clause-leads g c =
    let may = subst (λ (b : Bool). MayLook g.C.Cluster c.args.cluster.now c.args.wanted.version b) c.if-has_begun.true c.requires in
    may.0

pub look_up-requires-clause-knows : goal.look_up-requires-clause-knows
look_up-requires-clause-knows g c =
    let may = subst (λ (b : Bool). MayLook g.C.Cluster c.args.cluster.now c.args.wanted.version b) c.if-has_begun.true c.requires in
    may.1

pub look_up-requires-clause-version : goal.look_up-requires-clause-version
look_up-requires-clause-version g c =
    let may = subst (λ (b : Bool). MayLook g.C.Cluster c.args.cluster.now c.args.wanted.version b) c.if-has_begun.true c.requires in
    may.2

pub returns-then-has_begun-clause-may : goal.returns-then-has_begun-clause-may
returns-then-has_begun-clause-may g c =
    let D = g.C.Cluster in
    let may = subst (λ (b : Bool). MayLook D c.args.cluster.now c.args.wanted.version b) c.if-has_begun.true c.requires in
    let version = ap (λ (s : Stand). s.version) c.look_up.ensures.stand ∙ seen_version c.args.wanted (seen_pieces c.look_up.result) (D.stand c.args.cluster.now) ∙ may.2 in
    subst (λ (b : Bool). MayLook D c.look_up.new.cluster c.args.wanted.version b) (sym c.if-has_begun.true) (c.look_up.ensures.leads, c.look_up.ensures.knows, version)

pub read_pieces-requires-clause-unbegun : goal.read_pieces-requires-clause-unbegun
read_pieces-requires-clause-unbegun g c =
    let may = subst (λ (b : Bool). MayLook g.C.Cluster c.args.cluster.now c.args.wanted.version b) c.if-has_begun.false c.requires in
    may.0

pub read_pieces-requires-clause-read : goal.read_pieces-requires-clause-read
read_pieces-requires-clause-read g c =
    let may = subst (λ (b : Bool). MayLook g.C.Cluster c.args.cluster.now c.args.wanted.version b) c.if-has_begun.false c.requires in
    may.1

pub read_pieces-requires-clause-version : goal.read_pieces-requires-clause-version
read_pieces-requires-clause-version g c =
    let may = subst (λ (b : Bool). MayLook g.C.Cluster c.args.cluster.now c.args.wanted.version b) c.if-has_begun.false c.requires in
    may.2

pub returns-else-has_begun-clause-may : goal.returns-else-has_begun-clause-may
returns-else-has_begun-clause-may g c =
    let D = g.C.Cluster in
    let may = subst (λ (b : Bool). MayLook D c.args.cluster.now c.args.wanted.version b) c.if-has_begun.false c.requires in
    let version = ap (λ (s : Stand). s.version) c.read_pieces.ensures.stand ∙ seen_version c.args.wanted (seen_pieces c.read_pieces.result) (D.stand c.args.cluster.now) ∙ may.2 in
    subst (λ (b : Bool). MayLook D c.read_pieces.new.cluster c.args.wanted.version b) (sym c.if-has_begun.false)
    (c.read_pieces.ensures.unbegun, c.read_pieces.ensures.read, version)

pub returns-then-has_begun-clause-looked : goal.returns-then-has_begun-clause-looked
returns-then-has_begun-clause-looked g c =
    subst (λ (b : Bool). HasLooked g.C.Cluster c.args.cluster.now c.look_up.new.cluster c.args.wanted.version b) (sym c.if-has_begun.true) c.look_up.ensures.stays

pub returns-then-has_begun-clause-meanwhile : goal.returns-then-has_begun-clause-meanwhile
returns-then-has_begun-clause-meanwhile g c =
    subst (λ (b : Bool). MayHaveLooked g.C.Cluster c.args.cluster.now c.look_up.new.cluster c.args.wanted.version b) (sym c.if-has_begun.true) c.look_up.ensures.meanwhile

pub returns-else-has_begun-clause-looked : goal.returns-else-has_begun-clause-looked
returns-else-has_begun-clause-looked g c =
    subst (λ (b : Bool). HasLooked g.C.Cluster c.args.cluster.now c.read_pieces.new.cluster c.args.wanted.version b) (sym c.if-has_begun.false) c.read_pieces.ensures.rests

pub returns-else-has_begun-clause-meanwhile : goal.returns-else-has_begun-clause-meanwhile
returns-else-has_begun-clause-meanwhile g c =
    subst (λ (b : Bool). MayHaveLooked g.C.Cluster c.args.cluster.now c.read_pieces.new.cluster c.args.wanted.version b) (sym c.if-has_begun.false) c.read_pieces.ensures.meanwhile
