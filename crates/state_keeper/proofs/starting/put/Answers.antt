use Rattle.std.proofs.Common.{◌≡◌, ◌++◌, ℕ, List, sym, subst, arith}
use Rattle.std.specs.Prelude.{IfErr, IfOk}
use Rattle.batch_file.specs.Frames.{IsReadable, header, last_of, lists}
use Rattle.batch_file.specs.FramesLaws.{frames_size-append}
use Rattle.state_keeper.proofs.Names.{IsOldOr, LeavesOnly, end_of, recovered}
use Rattle.state_keeper.proofs.Put.{puts, puts_not}
use Rattle.state_keeper.proofs.Sliced.{if_ok}
use Rattle.state_keeper.specs.Starting.{IsPut, IsReadIn, front_in}
use Rattle.state_keeper.specs.declared.starting.Origin.{Origin}
use Rattle.state_keeper.proofs.starting.put.Goals as goal

pub returns-in-Device-clause-put : goal.returns-in-Device-clause-put
returns-in-Device-clause-put g c =
    let device = g.D.Device in
    let seen = device.seen c.args.device in
    let r = c.place_behind.result in
    let front = recovered seen in
    let behind = lists c.args.behind.now in
    let size = frames_size-append front behind in
    let at : c.args.front.end ≡ end_of front = subst (λ (o : Origin). c.args.front.end ≡ end_of (front_in seen o)) c.in-Device.is c.requires.end in
    subst (λ (o : Origin). IfOk r (IsPut device c.args.device (front_in seen o ++ behind))) (sym c.in-Device.is)
    (puts device c.args.device (front ++ behind) r c.place_behind.ensures.settled c.place_behind.ensures.placed (if_ok r (λ file end. omega (arith, size, at, end)) c.place_behind.ensures.end) c.place_behind.ensures.any_moment)

pub returns-in-Device-clause-lost : goal.returns-in-Device-clause-lost
returns-in-Device-clause-lost g c =
    let device = g.D.Device in
    let seen = device.seen c.args.device in
    let r = c.place_behind.result in
    let behind = lists c.args.behind.now in
    subst (λ (o : Origin). IfErr r (λ not. LeavesOnly device.moment device.left_since c.args.device not.device (IsOldOr device c.args.device (front_in seen o ++ behind)))) (sym c.in-Device.is)
    (puts_not device c.args.device (recovered seen ++ behind) r c.place_behind.ensures.any_moment_lost)

pub place_behind-requires-clause-readable : goal.place_behind-requires-clause-readable
place_behind-requires-clause-readable g c = subst (λ (o : Origin). IsReadIn (g.D.Device.seen c.args.device) o) c.in-Device.is c.requires.readable

pub place_behind-requires-clause-end : goal.place_behind-requires-clause-end
place_behind-requires-clause-end g c = subst (λ (o : Origin). c.args.front.end ≡ end_of (front_in (g.D.Device.seen c.args.device) o)) c.in-Device.is c.requires.end

pub place_behind-requires-clause-last : goal.place_behind-requires-clause-last
place_behind-requires-clause-last g c = subst (λ (o : Origin). c.args.front.last ≡ last_of header (front_in (g.D.Device.seen c.args.device) o)) c.in-Device.is c.requires.last

pub returns-in-Memory-clause-put : goal.returns-in-Memory-clause-put
returns-in-Memory-clause-put g c =
    let device = g.D.Device in
    subst (λ (o : Origin). IfOk c.put_all.result (IsPut device c.args.device (front_in (device.seen c.args.device) o ++ lists c.args.behind.now))) (sym c.in-Memory.is) c.put_all.ensures.put

pub returns-in-Memory-clause-lost : goal.returns-in-Memory-clause-lost
returns-in-Memory-clause-lost g c =
    let device = g.D.Device in
    subst (λ (o : Origin). IfErr c.put_all.result (λ not. LeavesOnly device.moment device.left_since c.args.device not.device
    (IsOldOr device c.args.device (front_in (device.seen c.args.device) o ++ lists c.args.behind.now)))) (sym c.in-Memory.is) c.put_all.ensures.lost
