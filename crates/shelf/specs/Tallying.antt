-- How many count.
use Rattle.std.specs.Prelude.{◌≡◌, ◌+◌, ◌-◌, ◌==◌, ℕ, Bool, true, false, if◌then◌else◌, nat_eq, unwrap_or}
use Rattle.std.specs.Map.{lookup}
use Rattle.shelf.specs.declared.tally.Tally.{Tally}

-- how many are whose number this is
abbrev pub share : Tally → ℕ → ℕ
share tally c = unwrap_or (lookup (nat_eq c) tally.of.entries) 0

-- as many count
pub record IsSameTally (old new : Tally) : Type 0 where
  pub all : new.all ≡ old.all
  pub each : (c : ℕ) → share new c ≡ share old c

-- one more counts, of this number
pub record Enters (old new : Tally) (c : ℕ) : Type 0 where
  pub all : new.all ≡ old.all + 1
  pub each : (k : ℕ) → share new k ≡ share old k + (if c == k then 1 else 0)

-- one counts no more, of this number
pub record Leaves (old new : Tally) (c : ℕ) : Type 0 where
  pub all : new.all ≡ old.all - 1
  pub each : (k : ℕ) → share new k ≡ share old k - (if c == k then 1 else 0)

abbrev pub EntersIf : Bool → (old new : Tally) → ℕ → Type 0
EntersIf true old new c = Enters old new c
EntersIf false old new c = IsSameTally old new

abbrev pub LeavesIf : Bool → (old new : Tally) → ℕ → Type 0
LeavesIf true old new c = Leaves old new c
LeavesIf false old new c = IsSameTally old new
