use Rattle.std.proofs.Common.{w32, ◌≡◌, ◌≢◌, ℕ, ◌+◌, ap, pos, length}
use mir.Val.{of_z, to_z}
use Rattle.verifier.proofs.Names.{to_z-of_z}
use Rattle.verifier.proofs.Arriving.{told_far_if}
use Rattle.verifier.proofs.walk.Waiting.push_test.Goals as goal

pub returns-clause-told : goal.returns-clause-told
returns-clause-told c =
    let far : c.args.distance ≢ pos 0 = λ e. c.if-distance-eq0.false (ap (of_z w32) e) in
    let read : to_z w32 (of_z w32 c.args.distance) ≡ c.args.distance = to_z-of_z w32 c.args.distance c.ranges.distance in
    let at : (k : ℕ) → c.args.distance ≡ pos k → c.slot_behind.result ≡ c.args.behind + k = λ k e. c.slot_behind.ensures k (cc (read, e)) in
    told_far_if c.args.distance c.args.test c.args.behind c.slot_behind.result (length c.args.self.now.cases) c.args.known.value c.args.self.now.cases c.push_both.new.self.cases c.push_both.result c.requires.far far at c.push_both.ensures.told
