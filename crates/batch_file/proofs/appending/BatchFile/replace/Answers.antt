use Rattle.std.proofs.Common.{◌≡◌, ◌-◌, ◌+◌, ◌∙◌, List, ℕ, length, ⊎_elim, refl, sym, ap, subst, arith, rules}
use Rattle.batch_file.specs.Frames.{IsReadable, IsWhole}
use Rattle.batch_file.specs.FramesLaws.{readable_is}
use Rattle.batch_file.specs.CrashesLaws.{weaker}
use Rattle.batch_file.proofs.Staying.{reads_there}
use Rattle.batch_file.proofs.Steps.{placing, stands_whole}
use Rattle.batch_file.proofs.Tearing.{at_rest_file}
use Rattle.batch_file.proofs.appending.BatchFile.replace.Goals as goal

pub returns-then-not-is_in_place-clause-readable : goal.returns-then-not-is_in_place-clause-readable
returns-then-not-is_in_place-clause-readable g c =
    let D = g.D.Device in
    let old = c.args.self.now in
    reads_there D.moment D.left_since D.may_leave old.end old.room old.last (D.seen old.device) c.requires.at_rest old.device (g.met.D.Device.only_now old.device) c.requires.durable

pub returns-in_err-replace-clause-readable : goal.returns-in_err-replace-clause-readable
returns-in_err-replace-clause-readable g c =
    let D = g.D.Device in
    let old = c.args.self.now in
    let parts = c.into_parts-bytes in
    weaker {R = IsReadable}
    (placing D.moment D.left_since D.may_leave parts.result.1 parts.result.0.items c.deref.result.now c.args.frames parts.ensures.whole parts.ensures.batches c.deref.ensures.value old.device c.replace.new.self (g.met.D.Device.only_now old.device) c.replace.ensures.crash c.replace.ensures.time)
    (λ left. ⊎_elim (λ was. subst (λ (l : List ℕ). IsReadable l) (sym (c.requires.durable left was)) (at_rest_file old.end old.room old.last (D.seen old.device) c.requires.at_rest)) (readable_is c.args.frames left))

pub returns-clause-readable : goal.returns-clause-readable
returns-clause-readable g c =
    let D = g.D.Device in
    let old = c.args.self.now in
    let parts = c.into_parts-bytes in
    weaker {R = IsReadable}
    (placing D.moment D.left_since D.may_leave parts.result.1 parts.result.0.items c.deref.result.now c.args.frames parts.ensures.whole parts.ensures.batches c.deref.ensures.value old.device c.replace.new.self (g.met.D.Device.only_now old.device) c.replace.ensures.crash c.replace.ensures.time)
    (λ left. ⊎_elim (λ was. subst (λ (l : List ℕ). IsReadable l) (sym (c.requires.durable left was)) (at_rest_file old.end old.room old.last (D.seen old.device) c.requires.at_rest)) (readable_is c.args.frames left))

pub returns-clause-settled : goal.returns-clause-settled
returns-clause-settled g c =
    let D = g.D.Device in
    let parts = c.into_parts-bytes in
    let bytes = c.deref.result.now in
    let len : c.len.result ≡ length parts.result.0.items = search rules in
    let long : c.len.result - 1 + 1 ≡ length bytes = omega (arith, ap length c.deref.ensures.value, len, parts.ensures.size) in
    stands_whole D.seen D.may_leave D.faults _ parts.result.1 bytes (subst (λ (l : List ℕ). IsWhole parts.result.1 l) (sym c.deref.ensures.value) parts.ensures.whole) long refl refl c.in_ok-replace.ensures.replaced c.in_ok-replace.ensures.durable
    (c.in_ok-replace.ensures.cause.faultless ∙ c.requires.faultless)
