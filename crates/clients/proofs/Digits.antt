-- The texts of numbers.
use Rattle.std.proofs.Common.{◌≤◌, ◌<◌, ◌^◌, ℕ, length, arith}
use Rattle.std.specs.Fmt.{decimal}
use Rattle.std.proofs.lemmas.Fmt.{length-decimal-le}
use Rattle.clients.specs.Limits.{key_limit}

-- an owner's number is a short text
pub decimal_short : (n : ℕ) → n < 2 ^ 32 → length (decimal n) ≤ key_limit
decimal_short n below = (let short = length-decimal-le 10 n (omega arith) (omega (arith, below)) (omega (arith, below)) in omega (arith, short))
