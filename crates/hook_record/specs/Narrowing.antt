-- How a hook's answer narrows a grant.
use Rattle.std.specs.Prelude.{ℕ, ◌≡◌, ◌<◌, ◌≤◌, ◌==◌, List, min, if◌then◌else◌, bit_and}
use Rattle.hook_record.specs.declared.Ask.{Ask}
use Rattle.hook_record.specs.declared.Narrowed.{Narrowed}
use Rattle.hook_record.specs.declared.Narrowed.TheVariants.{Denied, EmptyScope, Allowed}
use Rattle.hook_record.specs.Record.{u32_at, u64_at, scope_offset, life_offset}

-- what is left of a grant by its scopes and its lifetime
abbrev pub left_of : ℕ → ℕ → Narrowed
left_of scope life = if scope == 0 then EmptyScope else if life == 0 then Denied else Allowed scope life

-- what is left of an ask where a scope mask and a lifetime are allowed: the scopes of both, and the lesser lifetime
abbrev pub met : Ask → ℕ → ℕ → Narrowed
met ask scope life = left_of (bit_and ask.scope scope) (min ask.life life)

-- what a hook that ends with r0 leaves of an ask, by the scope mask and the lifetime that it left in its record
abbrev pub narrowed : Ask → ℕ → List ℕ → Narrowed
narrowed ask r0 bytes = if r0 == 1 then met ask (u64_at bytes scope_offset) (u32_at bytes life_offset) else Denied

-- a scope mask and a lifetime that an ask holds: some of its scopes, and some of its lifetime
pub record IsNarrowing (ask : Ask) (scope life : ℕ) : Type 0 where
  pub within : bit_and scope ask.scope ≡ scope
  pub some_scope : 0 < scope
  pub no_longer : life ≤ ask.life
  pub some_life : 0 < life
