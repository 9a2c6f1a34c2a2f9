use Rattle.std.proofs.Common.{◌≡◌, ◌∙◌, ℕ, List, [], ◌∷◌, inl, inr, refl, sym, ap, subst, arith, rules}
use Rattle.std.specs.Prelude.{OnErr, OnOk}
use Rattle.etcd_cluster.specs.Stands.{ChangeFact, Lays, WriteFact}
use Rattle.cluster_file.specs.Files.{IsGivenUp, IsMade, IsNotMade, IsSent, change_of, last_writes, piece_of}
use Rattle.cluster_file.proofs.Kept.{err_any, err_then, keeps_written}
use Rattle.cluster_file.proofs.Laying.{last_none, last_some, piece_long}
use Rattle.cluster_file.proofs.Proceeding.{reading_by, reading_same}
use Rattle.cluster_file.proofs.Written.{given_loses}
use Rattle.cluster_file.proofs.file.ClusterFile.put_last.Goals as goal

pub returns-then-from-to-clause-made : goal.returns-then-from-to-clause-made
returns-then-from-to-clause-made g c =
    let D = g.C.Cluster in
    let old = c.args.self.now in
    let new = c.change.new.self in
    let head = c.args.head in
    let is = last_none head c.args.at c.args.from c.args.to old.unsynced.items c.if-from-to.true in
    subst (λ (ws : List WriteFact). OnOk c.change.result (IsMade D old new (change_of old head ws))) (sym is) c.change.ensures.made

pub returns-then-from-to-clause-not : goal.returns-then-from-to-clause-not
returns-then-from-to-clause-not g c =
    let D = g.C.Cluster in
    let old = c.args.self.now in
    let new = c.change.new.self in
    let head = c.args.head in
    let is = last_none head c.args.at c.args.from c.args.to old.unsynced.items c.if-from-to.true in
    err_then c.change.result (IsGivenUp D old new (change_of old head [])) (IsNotMade D old new (change_of old head (last_writes head c.args.at (piece_of old c.args.from c.args.to))))
    c.change.ensures.given_up (λ given. subst (λ (ws : List WriteFact). IsNotMade D old new (change_of old head ws)) (sym is) (inr given))

pub returns-then-from-to-clause-kept : goal.returns-then-from-to-clause-kept
returns-then-from-to-clause-kept g c = keeps_written c.args.self.now c.change.new.self c.change.ensures.same

pub returns-in_err-bytes-clause-not : goal.returns-in_err-bytes-clause-not
returns-in_err-bytes-clause-not g c =
    let D = g.C.Cluster in
    let old = c.args.self.now in
    err_any c.from_residual.result (IsNotMade D old old (change_of old c.args.head (last_writes c.args.head c.args.at (piece_of old c.args.from c.args.to))))
    (inl (record { cluster = refl; lost = refl; standing = refl; begun = refl }))

pub returns-clause-made : goal.returns-clause-made
returns-clause-made g c =
    let D = g.C.Cluster in
    let old = c.args.self.now in
    let mid = old in
    let new = c.change-2.new.self in
    let head = c.args.head in
    let piece = piece_of old c.args.from c.args.to in
    let long = piece_long c.args.from c.args.to old.unsynced.items c.requires.within in
    let ordered = c.requires.ordered in
    let other = c.if-from-to.false in
    let is = last_some head c.args.at piece (omega (arith, long, ordered, other)) in
    let cut : c.deref-2.result.now ≡ piece = search rules in
    let same : Lays head.generation c.args.at c.deref-2.result.now ∷ [] ≡ last_writes head c.args.at piece =
    ap (λ (p : List ℕ). Lays head.generation c.args.at p ∷ []) cut ∙ sym is in
    subst (λ (ws : List WriteFact). OnOk c.change-2.result (IsMade D old new (change_of old head ws))) same c.change-2.ensures.made

pub returns-clause-not : goal.returns-clause-not
returns-clause-not g c =
    let D = g.C.Cluster in
    let old = c.args.self.now in
    let mid = old in
    let new = c.change-2.new.self in
    let head = c.args.head in
    let piece = piece_of old c.args.from c.args.to in
    let long = piece_long c.args.from c.args.to old.unsynced.items c.requires.within in
    let ordered = c.requires.ordered in
    let other = c.if-from-to.false in
    let is = last_some head c.args.at piece (omega (arith, long, ordered, other)) in
    let cut : c.deref-2.result.now ≡ piece = search rules in
    let same : Lays head.generation c.args.at c.deref-2.result.now ∷ [] ≡ last_writes head c.args.at piece =
    ap (λ (p : List ℕ). Lays head.generation c.args.at p ∷ []) cut ∙ sym is in
    let change : ChangeFact = change_of old head (Lays head.generation c.args.at c.deref-2.result.now ∷ []) in
    subst (λ (ws : List WriteFact). OnErr c.change-2.result (IsNotMade D old new (change_of old head ws))) same
    (err_then c.change-2.result (IsGivenUp D mid new change) (IsNotMade D old new change) c.change-2.ensures.given_up (λ given. inr given))

pub returns-clause-kept : goal.returns-clause-kept
returns-clause-kept g c = keeps_written c.args.self.now c.change-2.new.self c.change-2.ensures.same

pub returns-then-from-to-clause-reading : goal.returns-then-from-to-clause-reading
returns-then-from-to-clause-reading g c = reading_by c.args.self.now c.change.new.self c.change.ensures.same

pub returns-then-from-to-clause-sent : goal.returns-then-from-to-clause-sent
returns-then-from-to-clause-sent g c =
    let D = g.C.Cluster in
    let old = c.args.self.now in
    let new = c.change.new.self in
    let head = c.args.head in
    let is = last_none head c.args.at c.args.from c.args.to old.unsynced.items c.if-from-to.true in
    subst (λ (ws : List WriteFact). IsSent D old new (change_of old head ws)) (sym is)
    (inr (c.change.ensures.tried c.requires.working, c.change.ensures.meanwhile c.requires.working))

pub returns-in_err-bytes-clause-reading : goal.returns-in_err-bytes-clause-reading
returns-in_err-bytes-clause-reading g c = reading_same c.args.self.now

pub returns-in_err-bytes-clause-sent : goal.returns-in_err-bytes-clause-sent
returns-in_err-bytes-clause-sent g c = inl refl

pub returns-clause-reading : goal.returns-clause-reading
returns-clause-reading g c = reading_by c.args.self.now c.change-2.new.self c.change-2.ensures.same

pub returns-clause-sent : goal.returns-clause-sent
returns-clause-sent g c =
    let D = g.C.Cluster in
    let old = c.args.self.now in
    let new = c.change-2.new.self in
    let head = c.args.head in
    let piece = piece_of old c.args.from c.args.to in
    let long = piece_long c.args.from c.args.to old.unsynced.items c.requires.within in
    let ordered = c.requires.ordered in
    let other = c.if-from-to.false in
    let is = last_some head c.args.at piece (omega (arith, long, ordered, other)) in
    let cut : c.deref-2.result.now ≡ piece = search rules in
    let same : Lays head.generation c.args.at c.deref-2.result.now ∷ [] ≡ last_writes head c.args.at piece =
    ap (λ (p : List ℕ). Lays head.generation c.args.at p ∷ []) cut ∙ sym is in
    subst (λ (ws : List WriteFact). IsSent D old new (change_of old head ws)) same
    (inr (c.change-2.ensures.tried c.requires.working, c.change-2.ensures.meanwhile c.requires.working))

pub returns-then-from-to-clause-loses : goal.returns-then-from-to-clause-loses
returns-then-from-to-clause-loses g c = given_loses g.C.Cluster c.change.result c.args.self.now c.change.new.self _ c.change.ensures.given_up

pub returns-clause-loses : goal.returns-clause-loses
returns-clause-loses g c = given_loses g.C.Cluster c.change-2.result c.args.self.now c.change-2.new.self _ c.change-2.ensures.given_up

pub returns-then-from-to-clause-cause : goal.returns-then-from-to-clause-cause
returns-then-from-to-clause-cause g c = c.change.ensures.cause c.requires.working

pub returns-clause-cause : goal.returns-clause-cause
returns-clause-cause g c = c.change-2.ensures.cause c.requires.working
