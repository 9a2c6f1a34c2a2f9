use Rattle.std.proofs.Common.{◌≡◌, List, ℕ, ◌∙◌, sym, ap, subst}
use Rattle.batch_file.specs.Crashes.{Only}
use Rattle.batch_file.specs.Frames.{recovered, IsAtRest}
use Rattle.batch_file.proofs.Following.{if_known, moving, next_rests, on_disk, shut}
use Rattle.batch_file.proofs.Staying.{reads_there, reads_beside, reads_further}
use Rattle.batch_file.proofs.appending.BatchFile.place_next.Goals as goal

pub returns-then-not-is_in_place-clause-readable : goal.returns-then-not-is_in_place-clause-readable
returns-then-not-is_in_place-clause-readable g c =
    let D = g.D.Device in
    let old = c.args.self.now in
    reads_there D.moment D.left_since D.may_leave old.end old.room old.last (D.seen old.device) c.requires.stands.at_rest old.device (g.met.D.Device.only_now old.device) c.requires.stands.durable

pub returns-in_err-add_to_next-clause-readable : goal.returns-in_err-add_to_next-clause-readable
returns-in_err-add_to_next-clause-readable g c =
    let D = g.D.Device in
    let old = c.args.self.now in
    reads_beside D.moment D.left_since D.may_leave old.end old.room old.last (D.seen old.device) c.requires.stands.at_rest old.device (g.met.D.Device.only_now old.device) c.requires.stands.durable c.add_to_next.new.self c.add_to_next.ensures.beside.crash c.add_to_next.ensures.time

pub returns-in_err-sync_next-clause-readable : goal.returns-in_err-sync_next-clause-readable
returns-in_err-sync_next-clause-readable g c =
    let D = g.D.Device in
    let old = c.args.self.now in
    reads_further D.moment D.left_since D.may_leave old.end old.room old.last (D.seen old.device) c.requires.stands.at_rest old.device (g.met.D.Device.only_now old.device) c.requires.stands.durable c.add_to_next.new.self c.sync_next.new.self c.add_to_next.ensures.beside.crash c.add_to_next.ensures.time c.sync_next.ensures.beside.crash c.sync_next.ensures.time

pub returns-in_err-place_next-clause-any_moment : goal.returns-in_err-place_next-clause-any_moment
returns-in_err-place_next-clause-any_moment g c = λ batches a.
    let D = g.D.Device in
    let old = c.args.self.now in
    let told = D.next_on_disk c.sync_next.new.self in
    let known = on_disk a c.add_to_next.new.self told c.in_ok-add_to_next.ensures.added c.in_ok-sync_next.ensures.durable in
    (moving D.moment D.left_since D.may_leave a (D.seen old.device) c.requires.stands.at_rest c.add_to_next.new.self c.sync_next.new.self c.place_next.new.self told known (g.met.D.Device.only_now old.device) c.requires.stands.durable c.add_to_next.ensures.beside.crash c.add_to_next.ensures.time c.sync_next.ensures.beside.crash c.sync_next.ensures.time c.place_next.ensures.crash c.place_next.ensures.time).0

pub returns-in_err-place_next-clause-readable : goal.returns-in_err-place_next-clause-readable
returns-in_err-place_next-clause-readable g c =
    let a = c.requires.written.1 in
    let D = g.D.Device in
    let old = c.args.self.now in
    let told = D.next_on_disk c.sync_next.new.self in
    let known = on_disk a c.add_to_next.new.self told c.in_ok-add_to_next.ensures.added c.in_ok-sync_next.ensures.durable in
    (moving D.moment D.left_since D.may_leave a (D.seen old.device) c.requires.stands.at_rest c.add_to_next.new.self c.sync_next.new.self c.place_next.new.self told known (g.met.D.Device.only_now old.device) c.requires.stands.durable c.add_to_next.ensures.beside.crash c.add_to_next.ensures.time c.sync_next.ensures.beside.crash c.sync_next.ensures.time c.place_next.ensures.crash c.place_next.ensures.time).1

pub returns-clause-any_moment : goal.returns-clause-any_moment
returns-clause-any_moment g c = λ batches a.
    let D = g.D.Device in
    let old = c.args.self.now in
    let told = D.next_on_disk c.sync_next.new.self in
    let known = on_disk a c.add_to_next.new.self told c.in_ok-add_to_next.ensures.added c.in_ok-sync_next.ensures.durable in
    (moving D.moment D.left_since D.may_leave a (D.seen old.device) c.requires.stands.at_rest c.add_to_next.new.self c.sync_next.new.self c.place_next.new.self told known (g.met.D.Device.only_now old.device) c.requires.stands.durable c.add_to_next.ensures.beside.crash c.add_to_next.ensures.time c.sync_next.ensures.beside.crash c.sync_next.ensures.time c.place_next.ensures.crash c.place_next.ensures.time).0

pub returns-clause-readable : goal.returns-clause-readable
returns-clause-readable g c =
    let a = c.requires.written.1 in
    let D = g.D.Device in
    let old = c.args.self.now in
    let told = D.next_on_disk c.sync_next.new.self in
    let known = on_disk a c.add_to_next.new.self told c.in_ok-add_to_next.ensures.added c.in_ok-sync_next.ensures.durable in
    (moving D.moment D.left_since D.may_leave a (D.seen old.device) c.requires.stands.at_rest c.add_to_next.new.self c.sync_next.new.self c.place_next.new.self told known (g.met.D.Device.only_now old.device) c.requires.stands.durable c.add_to_next.ensures.beside.crash c.add_to_next.ensures.time c.sync_next.ensures.beside.crash c.sync_next.ensures.time c.place_next.ensures.crash c.place_next.ensures.time).1

pub returns-clause-replaced : goal.returns-clause-replaced
returns-clause-replaced g c = λ batches a.
    let D = g.D.Device in
    let told = D.next_on_disk c.sync_next.new.self in
    let known = on_disk a c.add_to_next.new.self told c.in_ok-add_to_next.ensures.added c.in_ok-sync_next.ensures.durable in
    let seen_is : D.seen c.place_next.new.self ≡ shut a = if_known (λ b. D.seen c.place_next.new.self ≡ b) told (shut a) known c.in_ok-place_next.ensures.replaced in
    ap recovered seen_is ∙ (next_rests a).1

pub returns-clause-settled : goal.returns-clause-settled
returns-clause-settled g c =
    let a = c.requires.written.1 in
    let D = g.D.Device in
    let told = D.next_on_disk c.sync_next.new.self in
    let known = on_disk a c.add_to_next.new.self told c.in_ok-add_to_next.ensures.added c.in_ok-sync_next.ensures.durable in
    let seen_is : D.seen c.place_next.new.self ≡ shut a = if_known (λ b. D.seen c.place_next.new.self ≡ b) told (shut a) known c.in_ok-place_next.ensures.replaced in
    record {
      at_rest = subst (λ (l : List ℕ). IsAtRest c.args.next.now.end 1 c.args.next.now.last l) (sym seen_is) (next_rests a).0;
      durable = λ left may. if_known (λ b. Only b (D.may_leave c.place_next.new.self)) told (shut a) known c.in_ok-place_next.ensures.durable left may ∙ sym seen_is;
      faultless = c.in_ok-place_next.ensures.cause.faultless ∙ c.sync_next.ensures.beside.no_fault ∙ c.add_to_next.ensures.beside.no_fault ∙ c.requires.stands.faultless;
    }
