-- What each hook of a host leaves of an ask.
use Rattle.std.specs.Prelude.{ℕ, List, [], ◌∷◌, take}
use Rattle.hook_host.specs.declared.entry.Entry.{Entry}
use Rattle.hook_record.specs.declared.Narrowed.{Narrowed}

-- a hook's name, and what it left of an ask
pub record Verdict : Type 0 where
  pub name : List ℕ
  pub left : Narrowed

abbrev pub verdict_of : List ℕ → Narrowed → Verdict
verdict_of name left = record { name = name; left = left }

-- what an entry keeps
abbrev pub verdict_in : Entry → Verdict
verdict_in entry = record { name = take entry.size entry.name; left = entry.left }

-- what the last of the hooks left, or what there was before all of them
abbrev pub last_left : Narrowed → List Verdict → Narrowed
last_left before [] = before
last_left before (verdict ∷ later) = last_left verdict.left later
