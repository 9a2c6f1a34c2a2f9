use Rattle.std.proofs.Common.{◌+◌, ◌∙◌, List, ℕ, sym, ap, subst}
use Rattle.batch_file.specs.Frames.{recovered, zeros, IsAtRest, IsFileOf}
use Rattle.batch_file.proofs.Going.{none_told, some_told}
use Rattle.batch_file.specs.Tears.{Torn}
use Rattle.batch_file.proofs.Steps.{as_it_was, called, synced}
use Rattle.batch_file.proofs.Tearing.{grows, longer}
use Rattle.batch_file.proofs.Wholes.{length-at_rest}
use Rattle.batch_file.proofs.appending.BatchFile.grow.Goals as goal

pub grow-requires : goal.grow-requires
grow-requires g c =
    let old = c.args.self.now in
    sym (length-at_rest old.end old.room old.last (g.D.Device.seen old.device) c.requires.stands.at_rest)

pub returns-in_err-refused-clause-any_moment : goal.returns-in_err-refused-clause-any_moment
returns-in_err-refused-clause-any_moment g c =
    let D = g.D.Device in
    let old = c.args.self.now in
    let file = D.seen old.device in
    let r = c.requires.stands.at_rest in
    (called D.moment D.left_since D.may_leave file (IsFileOf (recovered file)) (Torn (old.end + old.room) (zeros c.args.more)) old.device c.grow.new.self (as_it_was old.end old.room old.last file r) (grows old.end old.room c.args.more old.last file r c.requires.few) (g.met.D.Device.only_now old.device) c.requires.stands.durable c.grow.ensures.crash c.grow.ensures.time).0

pub returns-in_err-sync-clause-any_moment : goal.returns-in_err-sync-clause-any_moment
returns-in_err-sync-clause-any_moment g c =
    let D = g.D.Device in
    let old = c.args.self.now in
    let file = D.seen old.device in
    let r = c.requires.stands.at_rest in
    let first = called D.moment D.left_since D.may_leave file (IsFileOf (recovered file)) (Torn (old.end + old.room) (zeros c.args.more)) old.device c.grow.new.self (as_it_was old.end old.room old.last file r) (grows old.end old.room c.args.more old.last file r c.requires.few) (g.met.D.Device.only_now old.device) c.requires.stands.durable c.grow.ensures.crash c.grow.ensures.time in
    synced D.moment D.left_since D.may_leave file (IsFileOf (recovered file)) (Torn (old.end + old.room) (zeros c.args.more)) old.device c.grow.new.self c.sync.new.self first c.sync.ensures.crash c.sync.ensures.time

pub returns-in_default-clause-any_moment : goal.returns-in_default-clause-any_moment
returns-in_default-clause-any_moment g c =
    let D = g.D.Device in
    let old = c.args.self.now in
    let file = D.seen old.device in
    let r = c.requires.stands.at_rest in
    let first = called D.moment D.left_since D.may_leave file (IsFileOf (recovered file)) (Torn (old.end + old.room) (zeros c.args.more)) old.device c.grow.new.self (as_it_was old.end old.room old.last file r) (grows old.end old.room c.args.more old.last file r c.requires.few) (g.met.D.Device.only_now old.device) c.requires.stands.durable c.grow.ensures.crash c.grow.ensures.time in
    synced D.moment D.left_since D.may_leave file (IsFileOf (recovered file)) (Torn (old.end + old.room) (zeros c.args.more)) old.device c.grow.new.self c.sync.new.self first c.sync.ensures.crash c.sync.ensures.time

pub returns-clause-any_moment : goal.returns-clause-any_moment
returns-clause-any_moment g c =
    let D = g.D.Device in
    let old = c.args.self.now in
    let file = D.seen old.device in
    let r = c.requires.stands.at_rest in
    let first = called D.moment D.left_since D.may_leave file (IsFileOf (recovered file)) (Torn (old.end + old.room) (zeros c.args.more)) old.device c.grow.new.self (as_it_was old.end old.room old.last file r) (grows old.end old.room c.args.more old.last file r c.requires.few) (g.met.D.Device.only_now old.device) c.requires.stands.durable c.grow.ensures.crash c.grow.ensures.time in
    synced D.moment D.left_since D.may_leave file (IsFileOf (recovered file)) (Torn (old.end + old.room) (zeros c.args.more)) old.device c.grow.new.self c.sync.new.self first c.sync.ensures.crash c.sync.ensures.time

pub returns-in_default-clause-settled : goal.returns-in_default-clause-settled
returns-in_default-clause-settled g c =
    let D = g.D.Device in
    let old = c.args.self.now in
    let seen_is = c.sync.ensures.seen ∙ none_told c.in_ok-refused.refused c.in_default.is c.in_ok-refused.ensures.longer in
    let faultless = c.in_ok-refused.ensures.cause.faultless ∙ c.requires.stands.faultless in
    record {
      at_rest = (longer old.end old.room c.args.more old.last (D.seen old.device) c.requires.stands.at_rest c.requires.few (D.seen c.sync.new.self) seen_is).0;
      durable = λ left may. c.in_ok-sync.ensures.durable faultless left may ∙ sym c.sync.ensures.seen;
      faultless = c.in_ok-sync.ensures.cause.faultless ∙ faultless;
    }

pub returns-in_default-clause-batches : goal.returns-in_default-clause-batches
returns-in_default-clause-batches g c =
    let D = g.D.Device in
    let old = c.args.self.now in
    let seen_is = c.sync.ensures.seen ∙ none_told c.in_ok-refused.refused c.in_default.is c.in_ok-refused.ensures.longer in
    (longer old.end old.room c.args.more old.last (D.seen old.device) c.requires.stands.at_rest c.requires.few (D.seen c.sync.new.self) seen_is).1

pub returns-clause-settled : goal.returns-clause-settled
returns-clause-settled g c =
    let D = g.D.Device in
    let old = c.args.self.now in
    let seen_is = c.sync.ensures.seen ∙ some_told _ c.in_ok-refused.refused c.in-Some.reason c.in-Some.is c.in_ok-refused.ensures.same in
    let faultless = c.in_ok-refused.ensures.cause.faultless ∙ c.requires.stands.faultless in
    record {
      at_rest = subst (λ (l : List ℕ). IsAtRest old.end old.room old.last l) (sym seen_is) c.requires.stands.at_rest;
      durable = λ left may. c.in_ok-sync.ensures.durable faultless left may ∙ sym c.sync.ensures.seen;
      faultless = c.in_ok-sync.ensures.cause.faultless ∙ faultless;
    }

pub returns-clause-batches : goal.returns-clause-batches
returns-clause-batches g c =
    ap recovered (c.sync.ensures.seen ∙ some_told _ c.in_ok-refused.refused c.in-Some.reason c.in-Some.is c.in_ok-refused.ensures.same)
