use Rattle.std.proofs.Common.{◌≡◌, List, ℕ, [], ◌∷◌, refl, sym, ap, subst, arith, rules}
use Rattle.std.specs.Prelude.{None, OnErr, OnOk}
use Rattle.etcd_cluster.specs.Stands.{ChangeFact, Lays, Stand}
use Rattle.etcd_cluster.specs.declared.change.Head.{Head}
use Rattle.cluster_file.specs.Devices.{LeavesNoMore, Proceeds}
use Rattle.cluster_file.specs.Places.{OthersStay}
use Rattle.cluster_file.specs.Files.{CountsSame, FindsSame, IsGivenUp, IsMade, IsSound, IsTried, IsWhole, LaysMore, MayHaveMade, change_of, piece_of, seen_of}
use Rattle.cluster_file.proofs.Kept.{either, given_found, given_seen, keeps_written, made_found, made_has, made_seen, ok_both}
use Rattle.cluster_file.proofs.After.{others_laid}
use Rattle.cluster_file.proofs.Laying.{counts_known, laid_has, laying, lays_more, lost_not}
use Rattle.cluster_file.proofs.Proceeding.{given_no_more, given_proceeds, made_no_more, made_proceeds, proceeds_same}
use Rattle.cluster_file.proofs.Written.{given_loses}
use Rattle.cluster_file.proofs.file.ClusterFile.lay.Goals as goal

pub returns-clause-kept : goal.returns-clause-kept
returns-clause-kept g c = keeps_written c.args.self.now c.change.new.self c.change.ensures.same

pub returns-clause-laid : goal.returns-clause-laid
returns-clause-laid g c =
    let D = g.C.Cluster in
    let L = g.met.C.Cluster in
    let old = c.args.self.now in
    let new = c.change.new.self in
    let head = c.next_head-head.result in
    let from = c.args.from in
    let to = c.args.to in
    let place = c.args.place in
    let counts : CountsSame old.standing.head head = (c.next_head-head.ensures.end, c.next_head-head.ensures.room, c.next_head-head.ensures.generation) in
    let sound : IsSound D old = c.requires.sound in
    let working = c.requires.working in
    let change : ChangeFact = laying D old sound head counts place from to c.requires.place c.requires.some c.requires.within in
    let kept = keeps_written old new c.change.ensures.same in
    let has = laid_has D old sound head counts place from to c.requires.place c.requires.some c.requires.within c.requires.whole.0 c.requires.whole.1 in
    let piece : c.deref-2.result.now ≡ piece_of old from to = search rules in
    let made : OnOk c.change.result (IsMade D old new change) =
    subst (λ (p : List ℕ). OnOk c.change.result (IsMade D old new (change_of old head (Lays head.generation place p ∷ [])))) piece c.change.ensures.made in
    let given : OnErr c.change.result (IsGivenUp D old new change) =
    subst (λ (p : List ℕ). OnErr c.change.result (IsGivenUp D old new (change_of old head (Lays head.generation place p ∷ [])))) piece c.change.ensures.given_up in
    ok_both c.change.result (IsMade D old new change) (new.lost ≡ None) (LaysMore D old new from to) made c.change.ensures.kept
    (λ made still. lays_more D old sound head counts place from to c.requires.place c.requires.some c.requires.within new made still)

pub returns-clause-found : goal.returns-clause-found
returns-clause-found g c =
    let D = g.C.Cluster in
    let L = g.met.C.Cluster in
    let old = c.args.self.now in
    let new = c.change.new.self in
    let head = c.next_head-head.result in
    let from = c.args.from in
    let to = c.args.to in
    let place = c.args.place in
    let counts : CountsSame old.standing.head head = (c.next_head-head.ensures.end, c.next_head-head.ensures.room, c.next_head-head.ensures.generation) in
    let sound : IsSound D old = c.requires.sound in
    let working = c.requires.working in
    let change : ChangeFact = laying D old sound head counts place from to c.requires.place c.requires.some c.requires.within in
    let kept = keeps_written old new c.change.ensures.same in
    let has = laid_has D old sound head counts place from to c.requires.place c.requires.some c.requires.within c.requires.whole.0 c.requires.whole.1 in
    let piece : c.deref-2.result.now ≡ piece_of old from to = search rules in
    let made : OnOk c.change.result (IsMade D old new change) =
    subst (λ (p : List ℕ). OnOk c.change.result (IsMade D old new (change_of old head (Lays head.generation place p ∷ [])))) piece c.change.ensures.made in
    let given : OnErr c.change.result (IsGivenUp D old new change) =
    subst (λ (p : List ℕ). OnErr c.change.result (IsGivenUp D old new (change_of old head (Lays head.generation place p ∷ [])))) piece c.change.ensures.given_up in
    either c.change.result (IsMade D old new change) (IsGivenUp D old new change) (FindsSame D old new) made given
    (made_found D old new change sound kept refl c.requires.whole.0 c.requires.whole.1 counts has)
    (given_found D old new change sound kept refl c.requires.whole.0 c.requires.whole.1 counts has)

pub returns-clause-seen : goal.returns-clause-seen
returns-clause-seen g c =
    let D = g.C.Cluster in
    let L = g.met.C.Cluster in
    let old = c.args.self.now in
    let new = c.change.new.self in
    let head = c.next_head-head.result in
    let from = c.args.from in
    let to = c.args.to in
    let place = c.args.place in
    let counts : CountsSame old.standing.head head = (c.next_head-head.ensures.end, c.next_head-head.ensures.room, c.next_head-head.ensures.generation) in
    let sound : IsSound D old = c.requires.sound in
    let working = c.requires.working in
    let change : ChangeFact = laying D old sound head counts place from to c.requires.place c.requires.some c.requires.within in
    let kept = keeps_written old new c.change.ensures.same in
    let has = laid_has D old sound head counts place from to c.requires.place c.requires.some c.requires.within c.requires.whole.0 c.requires.whole.1 in
    let piece : c.deref-2.result.now ≡ piece_of old from to = search rules in
    let made : OnOk c.change.result (IsMade D old new change) =
    subst (λ (p : List ℕ). OnOk c.change.result (IsMade D old new (change_of old head (Lays head.generation place p ∷ [])))) piece c.change.ensures.made in
    let given : OnErr c.change.result (IsGivenUp D old new change) =
    subst (λ (p : List ℕ). OnErr c.change.result (IsGivenUp D old new (change_of old head (Lays head.generation place p ∷ [])))) piece c.change.ensures.given_up in
    either c.change.result (IsMade D old new change) (IsGivenUp D old new change) (seen_of D new ≡ seen_of D old) made given
    (made_seen D old new change sound kept refl c.requires.whole.0 c.requires.whole.1 counts has)
    (given_seen D old new change sound kept refl c.requires.whole.0 c.requires.whole.1 counts has)

pub returns-clause-whole : goal.returns-clause-whole
returns-clause-whole g c =
    let D = g.C.Cluster in
    let L = g.met.C.Cluster in
    let old = c.args.self.now in
    let new = c.change.new.self in
    let head = c.next_head-head.result in
    let from = c.args.from in
    let to = c.args.to in
    let place = c.args.place in
    let counts : CountsSame old.standing.head head = (c.next_head-head.ensures.end, c.next_head-head.ensures.room, c.next_head-head.ensures.generation) in
    let sound : IsSound D old = c.requires.sound in
    let working = c.requires.working in
    let change : ChangeFact = laying D old sound head counts place from to c.requires.place c.requires.some c.requires.within in
    let kept = keeps_written old new c.change.ensures.same in
    let has = laid_has D old sound head counts place from to c.requires.place c.requires.some c.requires.within c.requires.whole.0 c.requires.whole.1 in
    let piece : c.deref-2.result.now ≡ piece_of old from to = search rules in
    let made : OnOk c.change.result (IsMade D old new change) =
    subst (λ (p : List ℕ). OnOk c.change.result (IsMade D old new (change_of old head (Lays head.generation place p ∷ [])))) piece c.change.ensures.made in
    let given : OnErr c.change.result (IsGivenUp D old new change) =
    subst (λ (p : List ℕ). OnErr c.change.result (IsGivenUp D old new (change_of old head (Lays head.generation place p ∷ [])))) piece c.change.ensures.given_up in
    λ still.
    either c.change.result (IsMade D old new change) (IsGivenUp D old new change) (IsSound D new × IsWhole D new) made given
    (λ done. (done.sound, (c.requires.whole.0, made_has D old new change sound kept refl c.requires.whole.0 c.requires.whole.1 counts has done)))
    (λ not. absurd (lost_not new.lost not.lost still))

pub returns-in_err-bytes-clause-proceeds : goal.returns-in_err-bytes-clause-proceeds
returns-in_err-bytes-clause-proceeds g c = proceeds_same g.C.Cluster c.args.self.now

pub returns-clause-proceeds : goal.returns-clause-proceeds
returns-clause-proceeds g c =
    let D = g.C.Cluster in
    let L = g.met.C.Cluster in
    let old = c.args.self.now in
    let new = c.change.new.self in
    let head = c.next_head-head.result in
    let from = c.args.from in
    let to = c.args.to in
    let place = c.args.place in
    let counts : CountsSame old.standing.head head = (c.next_head-head.ensures.end, c.next_head-head.ensures.room, c.next_head-head.ensures.generation) in
    let sound : IsSound D old = c.requires.sound in
    let working = c.requires.working in
    let change : ChangeFact = laying D old sound head counts place from to c.requires.place c.requires.some c.requires.within in
    let kept = keeps_written old new c.change.ensures.same in
    let has = laid_has D old sound head counts place from to c.requires.place c.requires.some c.requires.within c.requires.whole.0 c.requires.whole.1 in
    let piece : c.deref-2.result.now ≡ piece_of old from to = search rules in
    let made : OnOk c.change.result (IsMade D old new change) =
    subst (λ (p : List ℕ). OnOk c.change.result (IsMade D old new (change_of old head (Lays head.generation place p ∷ [])))) piece c.change.ensures.made in
    let given : OnErr c.change.result (IsGivenUp D old new change) =
    subst (λ (p : List ℕ). OnErr c.change.result (IsGivenUp D old new (change_of old head (Lays head.generation place p ∷ [])))) piece c.change.ensures.given_up in
    let tried : IsTried D old new change =
    subst (λ (p : List ℕ). IsTried D old new (change_of old head (Lays head.generation place p ∷ []))) piece (c.change.ensures.tried working) in
    let meanwhile : MayHaveMade D old.cluster new.cluster change old.has_begun =
    subst (λ (p : List ℕ). MayHaveMade D old.cluster new.cluster (change_of old head (Lays head.generation place p ∷ [])) old.has_begun) piece (c.change.ensures.meanwhile working) in
    let known = counts_known D old head sound counts in
    either c.change.result (IsMade D old new change) (IsGivenUp D old new change) (Proceeds D old new) made given
    (λ done. made_proceeds D L.counts_now L.counts_calls L.true_calls L.by_calls old new sound change refl c.requires.whole.0 c.requires.whole.1 counts has
    c.change.ensures.same kept tried meanwhile done
    (subst (λ (s : Stand). OthersStay (D.stand old.cluster) s) (sym done.stand)
    (others_laid (D.stand old.cluster) new.standing.version change place (piece_of old from to) known.2 refl
    (let at = c.requires.place in let end = ap (λ (h : Head). h.end) sound.head in omega (arith, at, end)))))
    (given_proceeds D L.counts_now L.counts_calls L.true_calls L.by_calls old new sound change refl c.requires.whole.0 c.requires.whole.1 counts has
    c.change.ensures.same kept tried meanwhile)

pub returns-in_err-bytes-clause-left : goal.returns-in_err-bytes-clause-left
returns-in_err-bytes-clause-left g c = λ left is. is

pub returns-clause-left : goal.returns-clause-left
returns-clause-left g c =
    let D = g.C.Cluster in
    let L = g.met.C.Cluster in
    let old = c.args.self.now in
    let new = c.change.new.self in
    let head = c.next_head-head.result in
    let from = c.args.from in
    let to = c.args.to in
    let place = c.args.place in
    let counts : CountsSame old.standing.head head = (c.next_head-head.ensures.end, c.next_head-head.ensures.room, c.next_head-head.ensures.generation) in
    let sound : IsSound D old = c.requires.sound in
    let working = c.requires.working in
    let change : ChangeFact = laying D old sound head counts place from to c.requires.place c.requires.some c.requires.within in
    let kept = keeps_written old new c.change.ensures.same in
    let has = laid_has D old sound head counts place from to c.requires.place c.requires.some c.requires.within c.requires.whole.0 c.requires.whole.1 in
    let piece : c.deref-2.result.now ≡ piece_of old from to = search rules in
    let made : OnOk c.change.result (IsMade D old new change) =
    subst (λ (p : List ℕ). OnOk c.change.result (IsMade D old new (change_of old head (Lays head.generation place p ∷ [])))) piece c.change.ensures.made in
    let given : OnErr c.change.result (IsGivenUp D old new change) =
    subst (λ (p : List ℕ). OnErr c.change.result (IsGivenUp D old new (change_of old head (Lays head.generation place p ∷ [])))) piece c.change.ensures.given_up in
    let tried : IsTried D old new change =
    subst (λ (p : List ℕ). IsTried D old new (change_of old head (Lays head.generation place p ∷ []))) piece (c.change.ensures.tried working) in
    let meanwhile : MayHaveMade D old.cluster new.cluster change old.has_begun =
    subst (λ (p : List ℕ). MayHaveMade D old.cluster new.cluster (change_of old head (Lays head.generation place p ∷ [])) old.has_begun) piece (c.change.ensures.meanwhile working) in
    either c.change.result (IsMade D old new change) (IsGivenUp D old new change) (LeavesNoMore D old new) made given
    (made_no_more D L.counts_now L.counts_calls L.true_calls L.by_calls old new sound change refl c.requires.whole.0 c.requires.whole.1 counts has
    c.change.ensures.same kept tried meanwhile)
    (given_no_more D L.counts_now L.counts_calls L.true_calls L.by_calls old new sound change refl c.requires.whole.0 c.requires.whole.1 counts has
    c.change.ensures.same kept tried meanwhile)

pub returns-clause-loses : goal.returns-clause-loses
returns-clause-loses g c = given_loses g.C.Cluster c.change.result c.args.self.now c.change.new.self _ c.change.ensures.given_up

pub returns-clause-cause : goal.returns-clause-cause
returns-clause-cause g c = c.change.ensures.cause c.requires.working
