-- The numbers of owners: 0 is none.
use Rattle.std.specs.Prelude.{◌==◌, ℕ, Option, None, Some, unwrap_or, if◌then◌else◌}

abbrev pub owner_number : Option ℕ → ℕ
owner_number owner = unwrap_or owner 0

-- the owner of the number
abbrev pub owner_numbered : ℕ → Option ℕ
owner_numbered number = if number == 0 then None else Some number
