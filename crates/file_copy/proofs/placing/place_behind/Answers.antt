use Rattle.std.proofs.Common.{◌∙◌, Ok, refl, ap}
use Rattle.batch_file.specs.Frames.{lists}
use Rattle.file_copy.proofs.Begun.{begun_batches, begun_end, begun_leaves, begun_settled, ends_within, if_err, if_ok, placed_aside, true_further}
use Rattle.file_copy.proofs.Copying.{aside_here, aside_on}
use Rattle.file_copy.proofs.placing.place_behind.Goals as goal

pub returns-in-Ok-Settled-clause-settled : goal.returns-in-Ok-Settled-clause-settled
returns-in-Ok-Settled-clause-settled g c =
    let D = g.D.Device in
    let old = c.args.device in
    let front = c.args.front in
    let behind = lists c.args.behind.now in
    let new = c.begin.new.self in
    let put = ap Ok c.in-Ok-Settled.field-0-is in
    begun_settled D old front behind c.in-Ok.gathered c.deref.result.now c.requires.readable c.requires.end c.requires.last c.in-Ok.ensures.gathered c.deref.ensures.value _ refl refl refl (c.in-Ok-Settled.ensures.settled put) (c.in-Ok-Settled.ensures.durable put) (c.in-Ok-Settled.ensures.cause.faultless ∙ c.requires.faultless)

pub returns-in-Ok-Settled-clause-placed : goal.returns-in-Ok-Settled-clause-placed
returns-in-Ok-Settled-clause-placed g c = λ told.
    let D = g.D.Device in
    let old = c.args.device in
    let front = c.args.front in
    let behind = lists c.args.behind.now in
    begun_batches D old front behind c.in-Ok.gathered c.deref.result.now c.requires.readable c.requires.end c.requires.last c.in-Ok.ensures.gathered c.deref.ensures.value c.begin.new.self (c.in-Ok-Settled.ensures.settled (ap Ok c.in-Ok-Settled.field-0-is))

pub returns-in-Ok-Settled-clause-end : goal.returns-in-Ok-Settled-clause-end
returns-in-Ok-Settled-clause-end g c =
    let D = g.D.Device in
    let old = c.args.device in
    let front = c.args.front in
    let behind = lists c.args.behind.now in
    begun_end D old front behind c.in-Ok.gathered c.deref.result.now c.requires.readable c.requires.end c.requires.last c.in-Ok.ensures.gathered c.deref.ensures.value

pub returns-in-Ok-Settled-clause-any_moment : goal.returns-in-Ok-Settled-clause-any_moment
returns-in-Ok-Settled-clause-any_moment g c =
    let D = g.D.Device in
    let old = c.args.device in
    let front = c.args.front in
    let behind = lists c.args.behind.now in
    begun_leaves D old front behind c.in-Ok.gathered c.deref.result.now c.requires.readable c.requires.end c.requires.last c.in-Ok.ensures.gathered c.deref.ensures.value c.begin.new.self (g.met.D.Device.only_now old) c.begin.ensures.crash c.begin.ensures.time

pub returns-clause-any_moment_lost : goal.returns-clause-any_moment_lost
returns-clause-any_moment_lost g c =
    let D = g.D.Device in
    let old = c.args.device in
    let front = c.args.front in
    let behind = lists c.args.behind.now in
    begun_leaves D old front behind c.in-Ok.gathered c.deref.result.now c.requires.readable c.requires.end c.requires.last c.in-Ok.ensures.gathered c.deref.ensures.value c.begin.new.self (g.met.D.Device.only_now old) c.begin.ensures.crash c.begin.ensures.time

pub returns-in-Ok-Copy-clause-any_moment : goal.returns-in-Ok-Copy-clause-any_moment
returns-in-Ok-Copy-clause-any_moment g c =
    let D = g.D.Device in
    let old = c.args.device in
    let front = c.args.front in
    let behind = lists c.args.behind.now in
    let mid = c.begin.new.self in
    let aside = aside_on D old old mid (aside_here D old (g.met.D.Device.only_now old)) (c.in-Ok-Copy.ensures.copy (ap Ok c.in-Ok-Copy.field-0-is)) c.begin.ensures.time c.begin.ensures.truth in
    if_ok c.place_copy.result (λ file leaves. placed_aside D old mid aside file.device behind leaves) c.place_copy.ensures.any_moment

pub returns-in-Ok-Copy-clause-any_moment_lost : goal.returns-in-Ok-Copy-clause-any_moment_lost
returns-in-Ok-Copy-clause-any_moment_lost g c =
    let D = g.D.Device in
    let old = c.args.device in
    let front = c.args.front in
    let behind = lists c.args.behind.now in
    let mid = c.begin.new.self in
    let aside = aside_on D old old mid (aside_here D old (g.met.D.Device.only_now old)) (c.in-Ok-Copy.ensures.copy (ap Ok c.in-Ok-Copy.field-0-is)) c.begin.ensures.time c.begin.ensures.truth in
    if_err c.place_copy.result (λ file leaves. placed_aside D old mid aside file.device behind leaves) c.place_copy.ensures.any_moment_lost

pub returns-in-Ok-Copy-clause-true_before : goal.returns-in-Ok-Copy-clause-true_before
returns-in-Ok-Copy-clause-true_before g c =
    let D = g.D.Device in
    let old = c.args.device in
    let front = c.args.front in
    let behind = lists c.args.behind.now in
    let mid = c.begin.new.self in
    let aside = aside_on D old old mid (aside_here D old (g.met.D.Device.only_now old)) (c.in-Ok-Copy.ensures.copy (ap Ok c.in-Ok-Copy.field-0-is)) c.begin.ensures.time c.begin.ensures.truth in
    if_ok c.place_copy.result (λ file leaves. true_further D old mid aside g.met.D.Device.only_true file.device leaves) c.place_copy.ensures.true_before

pub returns-in-Ok-Copy-clause-true_before_lost : goal.returns-in-Ok-Copy-clause-true_before_lost
returns-in-Ok-Copy-clause-true_before_lost g c =
    let D = g.D.Device in
    let old = c.args.device in
    let front = c.args.front in
    let behind = lists c.args.behind.now in
    let mid = c.begin.new.self in
    let aside = aside_on D old old mid (aside_here D old (g.met.D.Device.only_now old)) (c.in-Ok-Copy.ensures.copy (ap Ok c.in-Ok-Copy.field-0-is)) c.begin.ensures.time c.begin.ensures.truth in
    if_err c.place_copy.result (λ file leaves. true_further D old mid aside g.met.D.Device.only_true file.device leaves) c.place_copy.ensures.true_before_lost

pub begin-requires : goal.begin-requires
begin-requires g c = ends_within (g.D.Device.seen c.args.device) c.args.front c.requires.readable c.requires.end
