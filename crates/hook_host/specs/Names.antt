-- Names of hooks, and what a host does with them.
use Rattle.std.specs.Prelude.{ℕ, ◌≡◌, ◌≤◌, ◌⊎◌, List, All, length, filter, not}
use Rattle.std.specs.Str.{bytes_eq}

-- a to z, 0 to 9, or a hyphen
abbrev pub IsNameByte : ℕ → Type 0
IsNameByte b = ((97 ≤ b) × (b ≤ 122)) ⊎ ((48 ≤ b) × (b ≤ 57)) ⊎ (b ≡ 45)

-- of how many bytes a hook's name is at most
abbrev pub name_limit : ℕ
name_limit = 32

-- how many hooks a host has at most
abbrev pub hook_limit : ℕ
hook_limit = 8

-- a name that a hook may have
pub record IsHookName (name : List ℕ) : Type 0 where
  pub some : 1 ≤ length name
  pub short : length name ≤ name_limit
  pub each : All IsNameByte name

-- names that the hooks of a host may have
pub record AreHookNames (names : List (List ℕ)) : Type 0 where
  pub few : length names ≤ hook_limit
  pub each : All IsHookName names

-- the names but that one
abbrev pub without : List ℕ → List (List ℕ) → List (List ℕ)
without name names = filter (λ other. not (bytes_eq name other)) names
