use Rattle.std.proofs.Common.{◌++◌, ◌∙◌, refl}
use Rattle.batch_file.specs.Frames.{lists, recovered}
use Rattle.file_copy.proofs.Copying.{aside_here, aside_on, both_beside, copy_placed, not_placed, settled, true_aside, true_placed}
use Rattle.file_copy.proofs.placing.place_copy.Goals as goal

pub returns-in-Ok-place_next-clause-settled : goal.returns-in-Ok-place_next-clause-settled
returns-in-Ok-place_next-clause-settled g c =
    let D = g.D.Device in
    let aside = c.copy.ensures.aside c.args.device (aside_here D c.args.device (g.met.D.Device.only_now c.args.device)) in
    settled D (D.seen c.args.device) (lists c.args.behind.now) c.copy.new.device c.in-Ok.next _ c.in-Ok.ensures.copied refl refl refl c.in-Ok-place_next.ensures.replaced
    c.in-Ok-place_next.ensures.durable
    (c.in-Ok-place_next.ensures.cause.faultless ∙ aside.beside.no_fault ∙ c.requires.faultless)

pub returns-in-Ok-place_next-clause-any_moment : goal.returns-in-Ok-place_next-clause-any_moment
returns-in-Ok-place_next-clause-any_moment g c =
    let D = g.D.Device in
    let aside = c.copy.ensures.aside c.args.device (aside_here D c.args.device (g.met.D.Device.only_now c.args.device)) in
    copy_placed D c.args.device c.copy.new.device c.place_next.new.self (lists c.args.behind.now) c.in-Ok.next aside c.in-Ok.ensures.copied g.met.D.Device.only_true c.place_next.ensures.crash
    c.place_next.ensures.time

pub returns-in-Ok-place_next-clause-true_before : goal.returns-in-Ok-place_next-clause-true_before
returns-in-Ok-place_next-clause-true_before g c =
    let D = g.D.Device in
    let aside = c.copy.ensures.aside c.args.device (aside_here D c.args.device (g.met.D.Device.only_now c.args.device)) in
    true_placed D c.args.device c.copy.new.device c.place_next.new.self g.met.D.Device.only_true aside c.place_next.ensures.time c.place_next.ensures.truth

pub returns-in-Err-place_next-clause-any_moment_lost : goal.returns-in-Err-place_next-clause-any_moment_lost
returns-in-Err-place_next-clause-any_moment_lost g c =
    let D = g.D.Device in
    let aside = c.copy.ensures.aside c.args.device (aside_here D c.args.device (g.met.D.Device.only_now c.args.device)) in
    copy_placed D c.args.device c.copy.new.device c.place_next.new.self (lists c.args.behind.now) c.in-Ok.next aside c.in-Ok.ensures.copied g.met.D.Device.only_true c.place_next.ensures.crash
    c.place_next.ensures.time

pub returns-in-Err-place_next-clause-true_before_lost : goal.returns-in-Err-place_next-clause-true_before_lost
returns-in-Err-place_next-clause-true_before_lost g c =
    let D = g.D.Device in
    let aside = c.copy.ensures.aside c.args.device (aside_here D c.args.device (g.met.D.Device.only_now c.args.device)) in
    true_placed D c.args.device c.copy.new.device c.place_next.new.self g.met.D.Device.only_true aside c.place_next.ensures.time c.place_next.ensures.truth

pub returns-in-Err-place_next-clause-unplaced : goal.returns-in-Err-place_next-clause-unplaced
returns-in-Err-place_next-clause-unplaced g c = λ is.
    let D = g.D.Device in
    let aside = c.copy.ensures.aside c.args.device (aside_here D c.args.device (g.met.D.Device.only_now c.args.device)) in
    both_beside D c.args.device c.copy.new.device c.place_next.new.self aside.beside (c.in-Err-place_next.ensures.unplaced is)

pub returns-in-Err-clause-any_moment_lost : goal.returns-in-Err-clause-any_moment_lost
returns-in-Err-clause-any_moment_lost g c =
    let D = g.D.Device in
    let aside = c.copy.ensures.aside c.args.device (aside_here D c.args.device (g.met.D.Device.only_now c.args.device)) in
    let dropped = aside_on D c.args.device c.copy.new.device c.drop_next.new.self aside c.drop_next.ensures.beside c.drop_next.ensures.time c.drop_next.ensures.truth in
    not_placed D c.args.device c.drop_next.new.self (recovered (D.seen c.args.device) ++ lists c.args.behind.now) dropped

pub returns-in-Err-clause-true_before_lost : goal.returns-in-Err-clause-true_before_lost
returns-in-Err-clause-true_before_lost g c =
    let D = g.D.Device in
    let aside = c.copy.ensures.aside c.args.device (aside_here D c.args.device (g.met.D.Device.only_now c.args.device)) in
    let dropped = aside_on D c.args.device c.copy.new.device c.drop_next.new.self aside c.drop_next.ensures.beside c.drop_next.ensures.time c.drop_next.ensures.truth in
    true_aside D c.args.device c.drop_next.new.self g.met.D.Device.only_true dropped

pub returns-in-Err-clause-unplaced : goal.returns-in-Err-clause-unplaced
returns-in-Err-clause-unplaced g c = λ is.
    let D = g.D.Device in
    let aside = c.copy.ensures.aside c.args.device (aside_here D c.args.device (g.met.D.Device.only_now c.args.device)) in
    let dropped = aside_on D c.args.device c.copy.new.device c.drop_next.new.self aside c.drop_next.ensures.beside c.drop_next.ensures.time c.drop_next.ensures.truth in
    dropped.beside

pub returns-in-Ok-place_next-clause-truth : goal.returns-in-Ok-place_next-clause-truth
returns-in-Ok-place_next-clause-truth g c = λ told.
    let D = g.D.Device in
    let aside = c.copy.ensures.aside c.args.device (aside_here D c.args.device (g.met.D.Device.only_now c.args.device)) in
    aside.truth (c.place_next.ensures.truth told)

pub returns-in-Err-place_next-clause-truth_lost : goal.returns-in-Err-place_next-clause-truth_lost
returns-in-Err-place_next-clause-truth_lost g c = λ told.
    let D = g.D.Device in
    let aside = c.copy.ensures.aside c.args.device (aside_here D c.args.device (g.met.D.Device.only_now c.args.device)) in
    aside.truth (c.place_next.ensures.truth told)

pub returns-in-Err-clause-truth_lost : goal.returns-in-Err-clause-truth_lost
returns-in-Err-clause-truth_lost g c = λ told.
    let D = g.D.Device in
    let aside = c.copy.ensures.aside c.args.device (aside_here D c.args.device (g.met.D.Device.only_now c.args.device)) in
    aside.truth (c.drop_next.ensures.truth told)
