use Rattle.std.proofs.Common.{◌≡◌, ◌∷◌, ◌++◌, ◌+◌, ◌≤◌, ◌∙◌, List, ℕ, arith, rules, ap, length, [], refl}
use Rattle.batch_file.specs.Frames.{recovered, sealed}
use Rattle.batch_file.specs.FramesLaws.{length-sealed}
use Rattle.batch_file.proofs.Steps.{added_frame, appending, as_before, both_ways, unmoved}
use Rattle.batch_file.proofs.Wholes.{head_is}
use Rattle.batch_file.proofs.appending.BatchFile.append.Goals as goal

pub returns-then-batch-ge-LIMIT-clause-any_moment : goal.returns-then-batch-ge-LIMIT-clause-any_moment
returns-then-batch-ge-LIMIT-clause-any_moment g c =
    let D = g.D.Device in
    let old = c.args.self.now in
    (as_before (recovered (D.seen old.device)) c.args.batch.now (unmoved D.may_leave old.end old.room old.last (D.seen old.device) c.requires.at_rest (g.met.D.Device.only_now old.device) c.requires.durable)).0

pub returns-then-batch-ge-LIMIT-clause-readable : goal.returns-then-batch-ge-LIMIT-clause-readable
returns-then-batch-ge-LIMIT-clause-readable g c =
    let D = g.D.Device in
    let old = c.args.self.now in
    (as_before (recovered (D.seen old.device)) c.args.batch.now (unmoved D.may_leave old.end old.room old.last (D.seen old.device) c.requires.at_rest (g.met.D.Device.only_now old.device) c.requires.durable)).1

pub returns-then-self-ge-MAX_END-clause-any_moment : goal.returns-then-self-ge-MAX_END-clause-any_moment
returns-then-self-ge-MAX_END-clause-any_moment g c =
    let D = g.D.Device in
    let old = c.args.self.now in
    (as_before (recovered (D.seen old.device)) c.args.batch.now (unmoved D.may_leave old.end old.room old.last (D.seen old.device) c.requires.at_rest (g.met.D.Device.only_now old.device) c.requires.durable)).0

pub returns-then-self-ge-MAX_END-clause-readable : goal.returns-then-self-ge-MAX_END-clause-readable
returns-then-self-ge-MAX_END-clause-readable g c =
    let D = g.D.Device in
    let old = c.args.self.now in
    (as_before (recovered (D.seen old.device)) c.args.batch.now (unmoved D.may_leave old.end old.room old.last (D.seen old.device) c.requires.at_rest (g.met.D.Device.only_now old.device) c.requires.durable)).1

pub returns-then-not-is_in_place-clause-any_moment : goal.returns-then-not-is_in_place-clause-any_moment
returns-then-not-is_in_place-clause-any_moment g c =
    let D = g.D.Device in
    let old = c.args.self.now in
    (as_before (recovered (D.seen old.device)) c.args.batch.now (unmoved D.may_leave old.end old.room old.last (D.seen old.device) c.requires.at_rest (g.met.D.Device.only_now old.device) c.requires.durable)).0

pub returns-then-not-is_in_place-clause-readable : goal.returns-then-not-is_in_place-clause-readable
returns-then-not-is_in_place-clause-readable g c =
    let D = g.D.Device in
    let old = c.args.self.now in
    (as_before (recovered (D.seen old.device)) c.args.batch.now (unmoved D.may_leave old.end old.room old.last (D.seen old.device) c.requires.at_rest (g.met.D.Device.only_now old.device) c.requires.durable)).1

pub returns-in_err-make_room-clause-any_moment : goal.returns-in_err-make_room-clause-any_moment
returns-in_err-make_room-clause-any_moment g c = (as_before (recovered (g.D.Device.seen c.args.self.now.device)) c.args.batch.now c.make_room.ensures.any_moment).0

pub returns-in_err-make_room-clause-readable : goal.returns-in_err-make_room-clause-readable
returns-in_err-make_room-clause-readable g c = (as_before (recovered (g.D.Device.seen c.args.self.now.device)) c.args.batch.now c.make_room.ensures.any_moment).1

pub returns-in_err-frame-clause-any_moment : goal.returns-in_err-frame-clause-any_moment
returns-in_err-frame-clause-any_moment g c = (as_before (recovered (g.D.Device.seen c.args.self.now.device)) c.args.batch.now c.make_room.ensures.any_moment).0

pub returns-in_err-frame-clause-readable : goal.returns-in_err-frame-clause-readable
returns-in_err-frame-clause-readable g c = (as_before (recovered (g.D.Device.seen c.args.self.now.device)) c.args.batch.now c.make_room.ensures.any_moment).1

pub returns-in_err-write_down-clause-any_moment : goal.returns-in_err-write_down-clause-any_moment
returns-in_err-write_down-clause-any_moment g c =
    let D = g.D.Device in
    let mid = c.make_room.new.self in
    let batch = c.args.batch.now in
    let was = recovered (D.seen c.args.self.now.device) in
    let frame = c.deref.result.now in
    let is : frame ≡ 255 ∷ sealed mid.last batch = c.deref.ensures.value ∙ c.in_ok-frame.ensures.made ∙ ap (λ (l : List ℕ). 255 ∷ l) (head_is mid.last batch c.head_of-head.result.bytes c.head_of-head.ensures.bytes) in
    let wide : length frame + 16 ≤ mid.room = omega (arith, ap length is, length-sealed mid.last batch, c.in_ok-make_room.ensures.room) in
    (both_ways was batch (appending mid.end mid.room mid.last (D.seen mid.device) batch frame was c.in_ok-make_room.ensures.settled.at_rest (omega (arith, c.if-batch-ge-LIMIT.false)) is wide c.in_ok-make_room.ensures.batches c.make_room.ensures.any_moment c.write_down.ensures.any_moment)).0

pub returns-in_err-write_down-clause-readable : goal.returns-in_err-write_down-clause-readable
returns-in_err-write_down-clause-readable g c =
    let D = g.D.Device in
    let mid = c.make_room.new.self in
    let batch = c.args.batch.now in
    let was = recovered (D.seen c.args.self.now.device) in
    let frame = c.deref.result.now in
    let is : frame ≡ 255 ∷ sealed mid.last batch = c.deref.ensures.value ∙ c.in_ok-frame.ensures.made ∙ ap (λ (l : List ℕ). 255 ∷ l) (head_is mid.last batch c.head_of-head.result.bytes c.head_of-head.ensures.bytes) in
    let wide : length frame + 16 ≤ mid.room = omega (arith, ap length is, length-sealed mid.last batch, c.in_ok-make_room.ensures.room) in
    (both_ways was batch (appending mid.end mid.room mid.last (D.seen mid.device) batch frame was c.in_ok-make_room.ensures.settled.at_rest (omega (arith, c.if-batch-ge-LIMIT.false)) is wide c.in_ok-make_room.ensures.batches c.make_room.ensures.any_moment c.write_down.ensures.any_moment)).1

pub returns-clause-any_moment : goal.returns-clause-any_moment
returns-clause-any_moment g c =
    let D = g.D.Device in
    let mid = c.make_room.new.self in
    let batch = c.args.batch.now in
    let was = recovered (D.seen c.args.self.now.device) in
    let frame = c.deref.result.now in
    let is : frame ≡ 255 ∷ sealed mid.last batch = c.deref.ensures.value ∙ c.in_ok-frame.ensures.made ∙ ap (λ (l : List ℕ). 255 ∷ l) (head_is mid.last batch c.head_of-head.result.bytes c.head_of-head.ensures.bytes) in
    let wide : length frame + 16 ≤ mid.room = omega (arith, ap length is, length-sealed mid.last batch, c.in_ok-make_room.ensures.room) in
    (both_ways was batch (appending mid.end mid.room mid.last (D.seen mid.device) batch frame was c.in_ok-make_room.ensures.settled.at_rest (omega (arith, c.if-batch-ge-LIMIT.false)) is wide c.in_ok-make_room.ensures.batches c.make_room.ensures.any_moment c.write_down.ensures.any_moment)).0

pub returns-clause-readable : goal.returns-clause-readable
returns-clause-readable g c =
    let D = g.D.Device in
    let mid = c.make_room.new.self in
    let batch = c.args.batch.now in
    let was = recovered (D.seen c.args.self.now.device) in
    let frame = c.deref.result.now in
    let is : frame ≡ 255 ∷ sealed mid.last batch = c.deref.ensures.value ∙ c.in_ok-frame.ensures.made ∙ ap (λ (l : List ℕ). 255 ∷ l) (head_is mid.last batch c.head_of-head.result.bytes c.head_of-head.ensures.bytes) in
    let wide : length frame + 16 ≤ mid.room = omega (arith, ap length is, length-sealed mid.last batch, c.in_ok-make_room.ensures.room) in
    (both_ways was batch (appending mid.end mid.room mid.last (D.seen mid.device) batch frame was c.in_ok-make_room.ensures.settled.at_rest (omega (arith, c.if-batch-ge-LIMIT.false)) is wide c.in_ok-make_room.ensures.batches c.make_room.ensures.any_moment c.write_down.ensures.any_moment)).1

pub returns-clause-added : goal.returns-clause-added
returns-clause-added g c =
    let D = g.D.Device in
    let mid = c.make_room.new.self in
    let batch = c.args.batch.now in
    let frame = c.deref.result.now in
    let is : frame ≡ 255 ∷ sealed mid.last batch = c.deref.ensures.value ∙ c.in_ok-frame.ensures.made ∙ ap (λ (l : List ℕ). 255 ∷ l) (head_is mid.last batch c.head_of-head.result.bytes c.head_of-head.ensures.bytes) in
    let wide : length frame + 16 ≤ mid.room = omega (arith, ap length is, length-sealed mid.last batch, c.in_ok-make_room.ensures.room) in
    let one = added_frame mid.end mid.room mid.last (D.seen mid.device) batch frame c.head_of-head.result.digest (D.seen c.write_down.new.device) (length frame) c.in_ok-make_room.ensures.settled.at_rest (omega (arith, c.if-batch-ge-LIMIT.false)) is wide refl c.head_of-head.ensures.digest c.in_ok-write_down.ensures.written in
    one.1 ∙ ap (λ (bs : List (List ℕ)). bs ++ batch ∷ []) c.in_ok-make_room.ensures.batches

pub returns-clause-settled : goal.returns-clause-settled
returns-clause-settled g c =
    let D = g.D.Device in
    let mid = c.make_room.new.self in
    let batch = c.args.batch.now in
    let frame = c.deref.result.now in
    let is : frame ≡ 255 ∷ sealed mid.last batch = c.deref.ensures.value ∙ c.in_ok-frame.ensures.made ∙ ap (λ (l : List ℕ). 255 ∷ l) (head_is mid.last batch c.head_of-head.result.bytes c.head_of-head.ensures.bytes) in
    let wide : length frame + 16 ≤ mid.room = omega (arith, ap length is, length-sealed mid.last batch, c.in_ok-make_room.ensures.room) in
    let n : c.len-size.result ≡ length frame = search rules in
    let one = added_frame mid.end mid.room mid.last (D.seen mid.device) batch frame c.head_of-head.result.digest (D.seen c.write_down.new.device) c.len-size.result c.in_ok-make_room.ensures.settled.at_rest (omega (arith, c.if-batch-ge-LIMIT.false)) is wide n c.head_of-head.ensures.digest c.in_ok-write_down.ensures.written in
    record {
      at_rest = one.0;
      durable = c.in_ok-write_down.ensures.durable;
      faultless = c.in_ok-write_down.ensures.cause.faultless ∙ c.in_ok-make_room.ensures.settled.faultless;
    }
