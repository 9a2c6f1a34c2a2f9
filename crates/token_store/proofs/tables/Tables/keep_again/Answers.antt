use Rattle.std.proofs.Common.{◌≡◌, ◌∙◌, ◌∷◌, ◌++◌, [], List, Option, Some, None, ap, subst, arith}
use Rattle.token_store.proofs.Names.{family_numbered, Kept, kept_at, kept_of, kept_under, or_nothing, Shared, shared_or, TellsSame, stand_entries}
use Rattle.token_store.proofs.Looking.{shown, found, same_push, same_on}
use Rattle.token_store.proofs.tables.Tables.keep_again.Goals as goal

pub returns-clause-keeps : goal.returns-clause-keeps
returns-clause-keeps c = λ m none.
    let t = c.args.self.now in
    let t1 = c.make_room.new.self in
    let t2 = c.open_home.new.self in
    let t4 = c.put.new.self in
    let d = c.args.digest.now in
    let r = c.args.new in
    let s = shared_or t.families.entries r.family c.args.shared in
    let room = c.make_room.ensures.same m in
    let gone : kept_at (kept_of t2) d m ≡ None =
    ap (λ (ks : List Kept). kept_at ks d m) c.open_home.ensures.same ∙ room.finds d m (omega arith)
    ∙ found t.families.entries (stand_entries t.records) d m c.requires.tied.ties.once ∙ ap (shown t.families.entries d m) none in
    let here : family_numbered t2.families.entries r.family ≡ Some s = rw c.make_room.ensures.families at c.in_ok-open_home.ensures.here in
    let put : TellsSame (kept_of t2 ++ kept_under (or_nothing (family_numbered t2.families.entries r.family)) d r ∷ []) (kept_of t4) m =
    (rw c.pass.ensures.same at (c.put.ensures.keeps m)) gone in
    let known = subst (λ (o : Option Shared). TellsSame (kept_of t2 ++ kept_under (or_nothing o) d r ∷ []) (kept_of t4) m) here put in
    let keeps = subst (λ (ks : List Kept). TellsSame (ks ++ kept_under s d r ∷ []) (kept_of t4) m) c.open_home.ensures.same known in
    same_on _ _ _ m (same_push (kept_of t) (kept_of t1) (kept_under s d r) m room) keeps
