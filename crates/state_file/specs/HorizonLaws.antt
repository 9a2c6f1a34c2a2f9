-- What a horizon tells, and batches with one more. For proofs alone.
use Rattle.std.proofs.Common.{◌≡◌, ◌<◌, ◌^◌, ℕ, List, [], ◌∷◌, Option, Some, Bool, true, false, refl, sym, ap, subst, arith}
use Rattle.std.specs.Prelude.{IsSome, unwrap_or, ◌==◌, nat_lt, take, ◌++◌, if◌then◌else◌, length}
use Rattle.std.proofs.lemmas.Bool.{eqb-true, lt-ltb}
use Rattle.state_file.specs.Standing.{AreTold, horizon, horizon_in, horizons, until_of}
use Rattle.state_file.specs.StandingLaws.{AreTold-horizon}
use Rattle.std.proofs.lemmas.Nat.{from_be_bytes-to_be_bytes_8}
use Rattle.std.specs.Int.{w64, from_be_bytes, to_be_bytes}

by_value : (bytes : List ℕ) (n : ℕ) → nat_lt 7 (length bytes) ≡ true → from_be_bytes w64 (take 8 bytes) ≡ n → n < 2 ^ 63 → horizon_in (3 ∷ bytes) ≡ Some n
by_value bytes n long is less = let below = lt-ltb n (2 ^ 63) less in rw (long, is, below) refl

-- a horizon tells its moment, whatever stands behind it
pub horizon_in-behind : (until : ℕ) (bytes : List ℕ) → until < 2 ^ 63 → horizon_in (horizon until ++ bytes) ≡ Some until
horizon_in-behind until bytes less = by_value (to_be_bytes w64 until ++ bytes) until (lt-ltb 7 (length (to_be_bytes w64 until ++ bytes)) (omega arith)) (from_be_bytes-to_be_bytes_8 until (omega arith)) less

pub horizon_in-horizon : (until : ℕ) → until < 2 ^ 63 → horizon_in (horizon until) ≡ Some until
horizon_in-horizon until less = by_value (to_be_bytes w64 until) until refl (from_be_bytes-to_be_bytes_8 until (omega arith)) less

pub is_horizon : (until : ℕ) → until < 2 ^ 63 → IsSome (horizon_in (horizon until))
is_horizon until less = subst (λ (o : Option ℕ). IsSome o) (sym (horizon_in-horizon until less)) refl

pub is_horizon_behind : (until : ℕ) (bytes : List ℕ) → until < 2 ^ 63 → IsSome (horizon_in (horizon until ++ bytes))
is_horizon_behind until bytes less = subst (λ (o : Option ℕ). IsSome o) (sym (horizon_in-behind until bytes less)) refl

-- A HORIZON MORE

pub value_of : (o : Option ℕ) (n : ℕ) → o ≡ Some n → unwrap_or o 0 ≡ n
value_of o n is = ap (λ (p : Option ℕ). unwrap_or p 0) is

-- THE HORIZON OF A MOMENT, IF IT IS ANY

pub by_horizons : (until : ℕ) (P : List (List ℕ) → Type 0) → (until ≡ 0 → P []) → P (horizon until ∷ []) → P (horizons until)
by_horizons until P none one = by (until == 0) refl
  where
    by : (b : Bool) → (until == 0) ≡ b → P (if b then [] else horizon until ∷ [])
    by true is = none (eqb-true until 0 is)
    by false is = one

pub AreTold-horizons : (until : ℕ) → until < 2 ^ 63 → AreTold (horizons until) []
AreTold-horizons until less = by_horizons until (λ bs. AreTold bs []) (λ _. refl) (AreTold-horizon until (is_horizon until less))

pub until_of-horizons : (until : ℕ) → until < 2 ^ 63 → until_of (horizons until) ≡ until
until_of-horizons until less =
    by_horizons until (λ bs. until_of bs ≡ until) (λ none. sym none) (let one = value_of (horizon_in (horizon until)) until (horizon_in-horizon until less) in omega (arith, one))
