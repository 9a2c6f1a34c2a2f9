use Rattle.std.proofs.Common.{◌+◌, ◌-◌, ◌^◌, ⊎_elim, inl, inr, ℕ, Some, ap}
use Rattle.std.specs.Prelude.{min}
use Rattle.state_keeper.proofs.Sliced.{failed_of, if_err, if_ok, meanwhile_of, on_ok, stays_of}
use Rattle.state_keeper.proofs.keeper.StateKeeperKeeper.shorten_some.Goals as goal

pub returns : goal.returns
returns g c =
    let device = g.D.Device in
    let old = c.args.self.now in
    let new = c.shorten_slice.new.self in
    let r = c.shorten_slice.result in
    let slices = c.shorten_slice.ensures.slices in
    let refused = c.shorten_slice.ensures.refused in
    record {
      kept = on_ok r (λ length s. s.kept) slices;
      short = if_ok r (λ length s. s.short) slices;
      long = if_ok r (λ length s. s.long) slices;
      left = on_ok r (λ length s. s.left) slices;
      nearer = on_ok r (λ length s long. ⊎_elim (λ less. inl (less.0, ap (λ (n : ℕ). Some (min (n + 1) (2 ^ 64 - 1))) less.1)) (λ shortens. inr shortens) (s.nearer long)) slices;
      slice = on_ok r (λ length s. s.slice) slices;
      until = c.shorten_slice.ensures.until;
      refused = if_err r (λ fault s other. (stays_of device old new fault s other).long) refused;
      still = if_err r (λ fault s other. (stays_of device old new fault s other).kept) refused;
      told = if_err r (λ fault s other. (stays_of device old new fault s other).told) refused;
      size = if_err r (λ fault s other. ap (λ (n : ℕ). Some (min (n + 1) (2 ^ 64 - 1))) (stays_of device old new fault s other).end) refused;
      fails = λ is. (failed_of device old new r refused is).fails;
      works = on_ok r (λ length s. s.works) slices;
      failed = λ is. (failed_of device old new r refused is).held;
      basis = on_ok r (λ length s. s.told) slices;
      meanwhile = meanwhile_of device old new r slices refused;
    }
