use Rattle.std.proofs.Common.{refl}
use Rattle.etcd_cluster.specs.Worlds.{seen_pieces}
use Rattle.cluster_file.specs.Files.{wanted_of}
use Rattle.cluster_file.specs.declared.file.ClusterFile.{ClusterFile}
use Rattle.cluster_file.proofs.Learning.{look_learns}
use Rattle.cluster_file.proofs.Looking.{may_look, told_one}
use Rattle.cluster_file.proofs.InTurn.{told_anew}
use Rattle.cluster_file.proofs.file.ClusterFile.piece_at.Goals as goal

pub look-requires : goal.look-requires
look-requires g c =
    may_look g.C.Cluster c.args.self.now c.requires.sound

pub returns-in-Ok-Some-clause-told : goal.returns-in-Ok-Some-clause-told
returns-in-Ok-Some-clause-told g c =
    let D = g.C.Cluster in
    let old = c.args.self.now in
    let new : ClusterFile _ = record old { cluster = c.look.new.cluster } in
    told_one D g.met.C.Cluster.by_calls old new 30 c.args.place c.in-Ok-Some.pieces c.only_of.result c.requires.sound
    (rw c.in-Ok-Some.field-0-is at c.in-Ok-Some.ensures.asked) (rw c.in-Ok-Some.field-0-is at c.in-Ok-Some.ensures.stand) c.only_of.ensures

pub returns-in-Ok-Some-clause-anew : goal.returns-in-Ok-Some-clause-anew
returns-in-Ok-Some-clause-anew g c =
    let D = g.C.Cluster in
    let old = c.args.self.now in
    let new : ClusterFile _ = record old { cluster = c.look.new.cluster } in
    told_anew D old new c.args.place c.in-Ok-Some.pieces c.only_of.result c.requires.sound (rw c.in-Ok-Some.field-0-is at c.in-Ok-Some.ensures.stand) c.only_of.ensures

pub returns-in-Ok-Some-clause-learns : goal.returns-in-Ok-Some-clause-learns
returns-in-Ok-Some-clause-learns g c =
    let D = g.C.Cluster in
    let L = g.met.C.Cluster in
    let old = c.args.self.now in
    let new : ClusterFile _ = record old { cluster = c.look.new.cluster } in
    look_learns D L.counts_now L.counts_calls L.by_calls old new refl 30 (wanted_of old c.args.place 1) (seen_pieces c.look.result) c.look.ensures.asked c.look.ensures.stand
    c.requires.sound c.look.ensures.looked c.look.ensures.meanwhile c.look.ensures.server refl c.look.ensures.may c.requires.read

pub returns-in-Ok-None-clause-learns : goal.returns-in-Ok-None-clause-learns
returns-in-Ok-None-clause-learns g c =
    let D = g.C.Cluster in
    let L = g.met.C.Cluster in
    let old = c.args.self.now in
    let new : ClusterFile _ = record old { cluster = c.look.new.cluster } in
    look_learns D L.counts_now L.counts_calls L.by_calls old new refl 30 (wanted_of old c.args.place 1) (seen_pieces c.look.result) c.look.ensures.asked c.look.ensures.stand
    c.requires.sound c.look.ensures.looked c.look.ensures.meanwhile c.look.ensures.server refl c.look.ensures.may c.requires.read

pub returns-in-Err-clause-learns : goal.returns-in-Err-clause-learns
returns-in-Err-clause-learns g c =
    let D = g.C.Cluster in
    let L = g.met.C.Cluster in
    let old = c.args.self.now in
    let new : ClusterFile _ = record old { cluster = c.look.new.cluster } in
    look_learns D L.counts_now L.counts_calls L.by_calls old new refl 30 (wanted_of old c.args.place 1) (seen_pieces c.look.result) c.look.ensures.asked c.look.ensures.stand
    c.requires.sound c.look.ensures.looked c.look.ensures.meanwhile c.look.ensures.server refl c.look.ensures.may c.requires.read
