use Rattle.std.proofs.Common.{◌≡◌, ◌-◌, ◌+◌, ◌∙◌, List, ℕ, length, refl, sym, ap, subst, arith, rules}
use Rattle.batch_file.specs.Frames.{IsWhole}
use Rattle.batch_file.proofs.Steps.{placing, stands_whole}
use Rattle.batch_file.proofs.appending.BatchFile.place.Goals as goal

pub returns-in-Ok-clause-any_moment : goal.returns-in-Ok-clause-any_moment
returns-in-Ok-clause-any_moment g c =
    let D = g.D.Device in
    let parts = c.into_parts-bytes in
    placing D.moment D.left_since D.may_leave parts.result.1 parts.result.0.items c.deref.result.now c.args.frames parts.ensures.whole parts.ensures.batches c.deref.ensures.value c.args.device c.replace.new.self (g.met.D.Device.only_now c.args.device) c.replace.ensures.crash c.replace.ensures.time

pub returns-clause-any_moment_lost : goal.returns-clause-any_moment_lost
returns-clause-any_moment_lost g c =
    let D = g.D.Device in
    let parts = c.into_parts-bytes in
    placing D.moment D.left_since D.may_leave parts.result.1 parts.result.0.items c.deref.result.now c.args.frames parts.ensures.whole parts.ensures.batches c.deref.ensures.value c.args.device c.replace.new.self (g.met.D.Device.only_now c.args.device) c.replace.ensures.crash c.replace.ensures.time

pub returns-in-Ok-clause-settled : goal.returns-in-Ok-clause-settled
returns-in-Ok-clause-settled g c =
    let D = g.D.Device in
    let parts = c.into_parts-bytes in
    let bytes = c.deref.result.now in
    let len : c.len.result ≡ length parts.result.0.items = search rules in
    let long : c.len.result - 1 + 1 ≡ length bytes = omega (arith, ap length c.deref.ensures.value, len, parts.ensures.size) in
    stands_whole D.seen D.may_leave D.faults _ parts.result.1 bytes (subst (λ (l : List ℕ). IsWhole parts.result.1 l) (sym c.deref.ensures.value) parts.ensures.whole) long refl refl c.in-Ok.ensures.replaced c.in-Ok.ensures.durable
    (c.in-Ok.ensures.cause.faultless ∙ c.requires.faultless)
