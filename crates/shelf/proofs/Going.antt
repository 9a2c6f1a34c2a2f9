-- How many looks there may be yet falls with each.
use Rattle.std.proofs.Common.{◌≡◌, ◌<◌, ◌≤◌, ◌+◌, ◌-◌, ◌*◌, ℕ, arith}
use Rattle.std.proofs.lemmas.Nat.{mul-le}

mul-more : (m t : ℕ) → m * (t + 1) ≡ m * t + m
mul-more m t = omega arith

-- where a second has come, at which each slot may be pending
pub goes_turn : (n t t' p p' e : ℕ) → t' + 1 ≤ t → p' ≤ p + 2 * n → (2 * n + 1) * t' + p' + e < (2 * n + 1) * t + p + e
goes_turn n t t' p p' e fewer few =
    let more = mul-le (2 * n + 1) (t' + 1) (2 * n + 1) t (omega arith) fewer in
    let one = mul-more (2 * n + 1) t' in
    omega (arith, more, one, few)
