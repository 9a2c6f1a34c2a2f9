-- The way to a slot of a program: the jumps by which control comes there from slot 0, where it goes on from each slot as the
-- verifier's walk did.
use Rattle.std.specs.Prelude.{◌≡◌, ◌⊎◌, ◌==◌, ◌&&◌, not, if◌then◌else◌, ℕ, ◌+◌, Bool, true, ℤ, pos, negsuc, List, [], ◌∷◌, Option, Some, None, IfSome, IsSomeAnd, option_and_then, slice_index_or, Vec}
use Rattle.hook_commands.specs.Names.{option_map, RegNo, distance_of, written_by, reg_number, slots_of, begins_at}
use Rattle.std.specs.declared.alloc.Global.{Global}
use Rattle.insn.specs.declared.instruction.Insn.{Insn}
use Rattle.verifier.specs.declared.walk.Onward.{Onward}
use Rattle.verifier.specs.Waits.{nowhere}
use Rattle.hook_commands.specs.declared.way.Hop.{Hop}
use Rattle.hook_commands.specs.declared.way.Way.{Way}

-- ---- where control goes

-- what ways go by: a program, where the walk went on from its slots, and the register that is to stay unwritten, if one is
pub record Roads : Type 0 where
  pub program : List Insn
  pub onward : List Onward
  pub unwritten : Option RegNo

abbrev pub roads_of : List Insn → List Onward → Option RegNo → Roads
roads_of program onward unwritten = record { program = program; onward = onward; unwritten = unwritten }

-- where the walk went on from a slot
abbrev pub onward_at : List Onward → ℕ → Onward
onward_at onward slot = slice_index_or onward slot nowhere

-- a register that is written is not the one that is to stay unwritten, if one is
abbrev pub leaves : Option RegNo → Option RegNo → Bool
leaves None written = true
leaves (Some r) None = true
leaves (Some r) (Some w) = not (reg_number w == reg_number r)

-- the slot behind an instruction at a slot
abbrev pub slot_behind : ℕ → Insn → ℕ
slot_behind slot i = slot + slots_of i

-- the slot so many slots further; none lies before a slot
abbrev pub slot_ahead : ℕ → ℤ → Option ℕ
slot_ahead slot (pos d) = Some (slot + d)
slot_ahead slot (negsuc n) = None

-- where the jump of an instruction at a slot leads, if the walk went there
abbrev pub jump_target : Onward → ℕ → Insn → Option ℕ
jump_target onward slot i = if onward.ahead then option_and_then (slot_ahead (slot_behind slot i)) (distance_of i) else None

-- where one goes on behind an instruction at a slot, if the walk did and it leaves a register unwritten, if one is to stay so
abbrev pub target_past : Option RegNo → Onward → ℕ → Insn → Option ℕ
target_past unwritten onward slot i = if onward.behind && leaves unwritten (written_by i) then Some (slot_behind slot i) else None

-- one goes on from a slot to another, to which the instruction there leads
pub record Goes (roads : Roads) (target : Onward → ℕ → Insn → Option ℕ) (from to : ℕ) : Type 0 where
  pub insn : Insn
  pub begins : begins_at roads.program from ≡ Some insn
  pub leads : target (onward_at roads.onward from) from insn ≡ Some to

abbrev pub GoesBehind : Roads → ℕ → ℕ → Type 0
GoesBehind roads from to = Goes roads (target_past roads.unwritten) from to

abbrev pub IsJump : Roads → ℕ → ℕ → Type 0
IsJump roads from to = Goes roads jump_target from to

-- from a slot one comes to another by going on alone, jumping nowhere
pub data IsStraightWay (roads : Roads) : ℕ → ℕ → Type 0 where
  Here : {slot : ℕ} → IsStraightWay roads slot slot
  Further : {from next to : ℕ} → GoesBehind roads from next → IsStraightWay roads next to → IsStraightWay roads from to

-- from a slot one comes to another by these jumps in order, going straight between them
abbrev pub Leads : Roads → ℕ → List Hop → ℕ → Type 0
Leads roads from [] to = IsStraightWay roads from to
Leads roads from (hop ∷ hops) to = IsStraightWay roads from hop.from × IsJump roads hop.from hop.to × Leads roads hop.to hops to

-- jumps by which one comes from slot 0 to a slot; or there are none
abbrev pub IsWayFound : Roads → ℕ → Option (List Hop) → Type 0
IsWayFound roads slot None = (hops : List Hop) → Leads roads 0 hops slot → ⊥
IsWayFound roads slot (Some way) = Leads roads 0 way slot

-- the jumps of a way that is found
abbrev pub hops_of : Option (Vec Hop Global) → Option (List Hop)
hops_of way = option_map (λ hops. hops.items) way

-- ---- what is told of a way

-- the jumps of a way that is told
abbrev pub told_hops : Option Way → Option (List Hop)
told_hops told = option_map (λ way. way.hops.items) told

-- any way to a slot is told, which leaves no register unwritten that is named
pub record IsAnyWay (roads : Roads) (slot : ℕ) (told : Option Way) : Type 0 where
  pub never : IsWayFound roads slot None
  pub found : IsWayFound (record roads { unwritten = None }) slot (told_hops told)
  pub unnamed : IfSome told (λ way. way.unwritten ≡ None)

-- a way to a slot is told, one that leaves a register unwritten where there is such a way
abbrev pub IsToldWay : Roads → ℕ → Option Way → Type 0
IsToldWay roads slot told =
    IsSomeAnd told (λ way. (way.unwritten ≡ roads.unwritten) × IsWayFound roads slot (Some way.hops.items)) ⊎ IsAnyWay roads slot told
