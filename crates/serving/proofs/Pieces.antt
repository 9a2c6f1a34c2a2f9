-- A piece of the buffer.
use Rattle.std.proofs.Common.{◌≡◌, ℕ, ◌<◌, ◌≤◌, List, length, take, arith}
use Rattle.std.proofs.lemmas.List.{length-take}

pub piece_comes : (n : ℕ) (xs : List ℕ) → 0 < n → n ≤ length xs → 0 < length (take n xs)
piece_comes n xs some within = grind (arith, length-take)

pub piece_fits : (n : ℕ) (xs : List ℕ) → length xs ≡ 512 → length (take n xs) ≤ 512
piece_fits n xs size = grind (arith, length-take)
