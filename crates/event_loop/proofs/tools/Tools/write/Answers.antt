use Rattle.std.proofs.Common.{◌≡◌, ◌<◌, ◌≤◌, ◌∷◌, [], ℕ, List, length, length-take, take, ap, arith, refl, sym, subst, ◌∙◌}
use Rattle.event_loop.proofs.Names.{MayWrite, World, Taken, connection_at, untaken, led_on, Call, Place, Transfer, to_offer, to_write, sends, finds_no_room}
use Rattle.event_loop.specs.Writing.{fails}
use Rattle.outside.specs.Calls as call
use Rattle.event_loop.proofs.Acting.{idle_acts, write_acts}
use Rattle.event_loop.proofs.Resting.{none_there, some_there}
use Rattle.event_loop.proofs.Rooming.{front_offered}
use Rattle.event_loop.proofs.tools.Tools.write.Goals as goal

-- all that is to be written at the place was offered
abbrev offered_at : ℕ → Place → World → Transfer → Call
offered_at k place world took = call.Wrote k (length (to_offer place.stage (untaken (connection_at world.connections k)))) took

pub returns-in-Bytes-clause-acts : goal.returns-in-Bytes-clause-acts
returns-in-Bytes-clause-acts g c = λ first found past undone kept h reached.
    let place = c.place_at-place.result in
    let out = rw c.new-connection.ensures at (c.output.ensures.output past.journey reached) in
    let offer = c.offer-offer.ensures.offer ∙ ap (to_offer place.stage) out in
    let may : MayWrite place (connection_at past.journey.world.connections c.args.k) = record { served = c.may_take.ensures.served c.if-not-may_take.false; some_left = subst (λ l. 0 < length l) offer (some_there c.is_empty.result c.offer-offer.result.now c.is_empty.ensures c.if-is_empty.false) } in
    let on = rw c.new-connection.ensures at (c.take.ensures.taken past.journey reached) in
    let front = take c.in-Bytes.count c.offer-offer.result.now in
    let within : c.in-Bytes.count ≤ length (to_offer place.stage (untaken (connection_at past.journey.world.connections c.args.k))) = subst (λ l. c.in-Bytes.count ≤ length l) offer c.in-Bytes.ensures.within.1 in
    rw c.taken.ensures
    (write_acts _ c.args.k place first _ c.place_at-place.ensures _
    (record { calls = offered_at c.args.k place past.journey.world (call.Bytes front) ∷ past.calls; journey = led_on past.journey (Taken c.args.k c.in-Bytes.count ∷ []) on.world }) refl
    (c.may_take.ensures.writable c.if-not-may_take.false) undone kept may h
    (sends c.in-Bytes.count front c.write.new.self c.take.new.self on c.in-Bytes.ensures.within.0 within (ap (take c.in-Bytes.count) offer ∙ front_offered place.stage (untaken (connection_at past.journey.world.connections c.args.k)) c.in-Bytes.count within)
    (subst (λ n. g.N.Sockets.does c.args.self.now.sockets (call.Wrote c.args.k n (call.Bytes front)) c.write.new.self) (ap length offer) c.in-Bytes.ensures.done)))

pub returns-in-Later-clause-acts : goal.returns-in-Later-clause-acts
returns-in-Later-clause-acts g c = λ first found past undone kept h reached.
    let place = c.place_at-place.result in
    let out = rw c.new-connection.ensures at (c.output.ensures.output past.journey reached) in
    let offer = c.offer-offer.ensures.offer ∙ ap (to_offer place.stage) out in
    let may : MayWrite place (connection_at past.journey.world.connections c.args.k) = record { served = c.may_take.ensures.served c.if-not-may_take.false; some_left = subst (λ l. 0 < length l) offer (some_there c.is_empty.result c.offer-offer.result.now c.is_empty.ensures c.if-is_empty.false) } in
    write_acts _ c.args.k place first _ c.place_at-place.ensures _ (record past { calls = offered_at c.args.k place past.journey.world call.Nothing ∷ past.calls }) refl
    (c.may_take.ensures.writable c.if-not-may_take.false) undone kept may h (finds_no_room c.write.new.self (subst (λ n. g.N.Sockets.does c.args.self.now.sockets (call.Wrote c.args.k n call.Nothing) c.write.new.self) (ap length offer) c.in-Later.ensures.done))

pub returns-in-Failed-clause-acts : goal.returns-in-Failed-clause-acts
returns-in-Failed-clause-acts g c = λ first found past undone kept h reached.
    let place = c.place_at-place.result in
    let out = rw c.new-connection.ensures at (c.output.ensures.output past.journey reached) in
    let offer = c.offer-offer.ensures.offer ∙ ap (to_offer place.stage) out in
    let may : MayWrite place (connection_at past.journey.world.connections c.args.k) = record { served = c.may_take.ensures.served c.if-not-may_take.false; some_left = subst (λ l. 0 < length l) offer (some_there c.is_empty.result c.offer-offer.result.now c.is_empty.ensures c.if-is_empty.false) } in
    write_acts _ c.args.k place first _ c.place_at-place.ensures _ (record past { calls = offered_at c.args.k place past.journey.world call.Failed ∷ past.calls }) refl
    (c.may_take.ensures.writable c.if-not-may_take.false) undone kept may h (fails c.write.new.self (subst (λ n. g.N.Sockets.does c.args.self.now.sockets (call.Wrote c.args.k n call.Failed) c.write.new.self) (ap length offer) c.in-Failed.ensures.done))

pub returns-then-not-may_take-clause-acts : goal.returns-then-not-may_take-clause-acts
returns-then-not-may_take-clause-acts g c = λ first found past undone kept h reached.
    idle_acts _ first (to_write c.args.k) _ c.place_at-place.result c.place_at-place.ensures (λ writable may. c.may_take.ensures.rests c.if-not-may_take.true writable may.served) h

pub returns-then-is_empty-clause-acts : goal.returns-then-is_empty-clause-acts
returns-then-is_empty-clause-acts g c = λ first found past undone kept h reached.
    let out = rw c.new-connection.ensures at (c.output.ensures.output past.journey reached) in
    let offer = c.offer-offer.ensures.offer ∙ ap (to_offer c.place_at-place.result.stage) out in
    idle_acts _ first (to_write c.args.k) _ c.place_at-place.result c.place_at-place.ensures
    (λ writable may. none_there c.is_empty.result c.offer-offer.result.now c.is_empty.ensures c.if-is_empty.true (subst (λ l. 0 < length l) (sym offer) may.some_left)) h
