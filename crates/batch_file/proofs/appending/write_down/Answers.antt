use Rattle.std.proofs.Common.{List, ℕ}
use Rattle.batch_file.specs.Tears.{Torn}
use Rattle.batch_file.proofs.Steps.{called, not_torn, synced}
use Rattle.batch_file.proofs.appending.write_down.Goals as goal

pub returns-in_err-write_at-clause-any_moment : goal.returns-in_err-write_at-clause-any_moment
returns-in_err-write_at-clause-any_moment g c =
    let D = g.D.Device in
    let at = c.args.at in
    let bytes = c.args.bytes.now in
    let file = D.seen c.args.device.now in
    (called D.moment D.left_since D.may_leave file (Torn at bytes file) (Torn at bytes) c.args.device.now c.write_at.new.self (not_torn at bytes file) (λ left torn. torn) (g.met.D.Device.only_now c.args.device.now) c.requires.durable c.write_at.ensures.crash c.write_at.ensures.time).0

pub returns-in_err-sync-clause-any_moment : goal.returns-in_err-sync-clause-any_moment
returns-in_err-sync-clause-any_moment g c =
    let D = g.D.Device in
    let at = c.args.at in
    let bytes = c.args.bytes.now in
    let file = D.seen c.args.device.now in
    let first = called D.moment D.left_since D.may_leave file (Torn at bytes file) (Torn at bytes) c.args.device.now c.write_at.new.self (not_torn at bytes file) (λ left torn. torn) (g.met.D.Device.only_now c.args.device.now) c.requires.durable c.write_at.ensures.crash c.write_at.ensures.time in
    synced D.moment D.left_since D.may_leave file (Torn at bytes file) (Torn at bytes) c.args.device.now c.write_at.new.self c.sync.new.self first c.sync.ensures.crash c.sync.ensures.time

pub returns-clause-any_moment : goal.returns-clause-any_moment
returns-clause-any_moment g c =
    let D = g.D.Device in
    let at = c.args.at in
    let bytes = c.args.bytes.now in
    let file = D.seen c.args.device.now in
    let first = called D.moment D.left_since D.may_leave file (Torn at bytes file) (Torn at bytes) c.args.device.now c.write_at.new.self (not_torn at bytes file) (λ left torn. torn) (g.met.D.Device.only_now c.args.device.now) c.requires.durable c.write_at.ensures.crash c.write_at.ensures.time in
    synced D.moment D.left_since D.may_leave file (Torn at bytes file) (Torn at bytes) c.args.device.now c.write_at.new.self c.sync.new.self first c.sync.ensures.crash c.sync.ensures.time

pub returns-clause-sole : goal.returns-clause-sole
returns-clause-sole g c = λ t le. c.sync.ensures.sole t (c.in_ok-write_at.ensures.sole t le)
