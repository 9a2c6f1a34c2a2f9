use Rattle.std.proofs.Common.{◌++◌, ℕ, List, subst, arith}
use Rattle.std.specs.Prelude.{IfErr, IfOk}
use Rattle.batch_file.specs.Crashes.{IsUnplaced}
use Rattle.state_keeper.proofs.Names.{IsOldOr, LeavesOnly}
use Rattle.state_keeper.proofs.Put.{beside_self, puts, puts_not}
use Rattle.state_keeper.proofs.Sliced.{if_err, if_ok}
use Rattle.state_keeper.specs.Starting.{IsPut}
use Rattle.state_keeper.proofs.starting.put_all.Goals as goal

pub returns-in-Ok-clause-put : goal.returns-in-Ok-clause-put
returns-in-Ok-clause-put g c =
    let device = g.D.Device in
    let r = c.place.result in
    subst (λ (bs : List (List ℕ)). IfOk r (IsPut device c.args.device bs)) c.in-Ok.ensures.added
    (puts device c.args.device c.add_all.new.frames r c.place.ensures.settled (if_ok r (λ file is true. is) c.place.ensures.placed) (if_ok r (λ file end. omega (arith, end)) c.place.ensures.end) c.place.ensures.any_moment)

pub returns-in-Ok-clause-lost : goal.returns-in-Ok-clause-lost
returns-in-Ok-clause-lost g c =
    let device = g.D.Device in
    let r = c.place.result in
    subst (λ (bs : List (List ℕ)). IfErr r (λ not. LeavesOnly device.moment device.left_since c.args.device not.device (IsOldOr device c.args.device bs))) c.in-Ok.ensures.added
    (puts_not device c.args.device c.add_all.new.frames r c.place.ensures.any_moment_lost)

pub returns-in-Ok-clause-untouched : goal.returns-in-Ok-clause-untouched
returns-in-Ok-clause-untouched g c =
    if_err c.place.result (λ lost same unplaced. rw (same unplaced) (beside_self g.D.Device c.args.device)) c.place.ensures.untouched
