-- What the keeper is asked, and told, beside what it keeps.
use Rattle.std.specs.Prelude.{◌≡◌, ◌≤◌, ◌-◌, ◌*◌, ◌^◌, min, max, ℕ, Option, None, Some}
use Rattle.change_codec.specs.Keepers.{Keeping}
use Rattle.change_codec.specs.Keeping.{HoldsStill, KeepsBasis, IsNoFurther}

-- The keeper holds what it held, and tells what it told, and nothing came to what it keeps; and no more is to be gone over than before.
pub record StaysKept {K : Type 0} (keeping : Keeping K) (old new : K) : Type 0 where
  pub still : HoldsStill keeping.crashes old new
  pub basis : KeepsBasis keeping.crashes 0 old new
  pub no_further : IsNoFurther keeping.to_go keeping.size old new
  pub size : keeping.size new ≡ keeping.size old
  pub until : keeping.kept_until new ≡ keeping.kept_until old

-- up to the old one's moment nobody else had begun, as the new one tells
abbrev pub IsSoleUpTo : {K : Type 0} → Keeping K → K → K → Type 0
IsSoleUpTo keeping old new = (t : ℕ) → t ≤ keeping.crashes.moment old → keeping.is_sole new t

-- seconds of the steady clock in milliseconds, as far as can be counted
abbrev pub milliseconds : ℕ → ℕ
milliseconds seconds = min (seconds * 1000) (2 ^ 64 - 1)

-- how long it rests, in milliseconds: a second, or less where the keeper wants to be called again before that
abbrev pub rest_limit : Option ℕ → ℕ → ℕ
rest_limit None now = 1000
rest_limit (Some due) now = max (min (due - now) 1000) 1
