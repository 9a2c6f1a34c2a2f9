-- Where a run is, where the code keeps the rest of the program in place of a slot.
use Rattle.std.proofs.Common.{◌≡◌, ℕ, ◌+◌, ◌-◌, ◌≤◌, ◌<◌, ℤ, List, [], ◌∷◌, length, take, drop, get_or, Some, None, refl, sym, ap, arith}
use Rattle.machine.proofs.Names.{Insn, Layout, slots_of, begins_at, places, slot_count, State, Config, entry, Falls, Jumps, Exits, target, effect, IsStuckAt, Reaches, IsExit, IsStuck}
use Rattle.insn.specs.SlotLaws.{slots_of_bounds}
use Rattle.insn.specs.RunLaws.{StandsAt, begins_here, begins_nowhere, stands_behind, stands_further, stands_inside, target_along, first_rest, step_falls, step_jumps, stuck_effect, stuck_jump, exits_here, stuck_past, run_goes_on}

inside_at : (program : List Insn) (slot : ℕ) (rest : List Insn) → StandsAt program slot rest → 1 ≤ length rest → slot < slot_count program
inside_at program slot [] at some = absurd (omega arith)
inside_at program slot (i ∷ rest) at some = stands_inside program slot i rest at

-- n steps lead to this slot and state, and this is the rest of the program there
pub record IsAt (layout : Layout) (program : List Insn) (bytes : List ℕ) (slot n : ℕ) (rest : List Insn) (s : State) : Type 0 where
  pub stands : StandsAt program slot rest
  pub inside : 1 ≤ length rest → slot < slot_count program
  pub few : n ≤ slot
  pub reached : Reaches layout program bytes n (record { slot = slot; state = s })

pub at_entry : (layout : Layout) (program : List Insn) (bytes : List ℕ) → IsAt layout program bytes 0 0 program (entry bytes)
at_entry layout program bytes = record { stands = record { same = refl }; inside = inside_at program 0 program (record { same = refl }); few = omega arith; reached = refl }

-- behind the last instruction the run is stuck
pub stuck_behind : {layout : Layout} {program : List Insn} {bytes : List ℕ} {slot n : ℕ} {rest : List Insn} {s : State} → length rest < 1 → IsAt layout program bytes slot n rest s → IsStuck layout program bytes slot s.bytes
stuck_behind {layout = layout} {program = program} {slot = slot} {n = n} {rest = []} {s = s} none h =
    record { before = n; last = record { slot = slot; state = s }; reached = h.reached; stuck = stuck_past layout program (record { slot = slot; state = s }) (begins_nowhere program slot h.stands); place = refl; left = refl }
stuck_behind {rest = i ∷ rest} none h = absurd (omega arith)

module _ {layout : Layout} {program : List Insn} {bytes : List ℕ} {slot n : ℕ} {rest : List Insn} {s : State} (d : Insn) (some : 1 ≤ length rest) (h : IsAt layout program bytes slot n rest s) where
  abbrev pub first : Insn
  first = get_or rest 0 d

  abbrev pub others : List Insn
  others = take (length rest - 1) (drop 1 rest)

  abbrev pub here : Config
  here = record { slot = slot; state = s }

  split : StandsAt program slot (first ∷ others)
  split = rw first_rest h.stands

  pub begins : begins_at program slot ≡ Some first
  begins = begins_here program slot first others split

  behind : StandsAt program (slot + slots_of first) others
  behind = stands_behind program slot first others split

  stuck : (left : State) → IsStuckAt layout program here → left ≡ s → IsStuck layout program bytes slot left.bytes
  stuck left at same = record { before = n; last = here; reached = h.reached; stuck = at; place = refl; left = ap (λ (x : State). x.bytes) (sym same) }

  pub stuck_here : (left : State) → effect layout first s ≡ None → left ≡ s → IsStuck layout program bytes slot left.bytes
  stuck_here left e same = stuck left (stuck_effect layout program slot s first begins e) same

  pub jumps_nowhere : (k : ℤ) (left : State) → effect layout first s ≡ Some (Jumps k left) → left ≡ s → None ≡ target others 0 k → IsStuck layout program bytes slot left.bytes
  jumps_nowhere k left e same t =
      let none : target program (slot + slots_of first) k ≡ None = rw (target_along program (slot + slots_of first) others k behind, ← t) refl in
      stuck left (stuck_jump layout program slot s first begins k left e none) same

  pub exits : (r0 : ℕ) (left : State) → effect layout first s ≡ Some (Exits r0) → left ≡ s → IsExit layout program bytes r0 (n + 1) left.bytes
  exits r0 left e same =
      record { before = n; last = here; counted = refl; reached = h.reached; exits = exits_here layout program slot s first begins r0 e; left = ap (λ (x : State). x.bytes) (sym same) }

  pub falls : (s' : State) → effect layout first s ≡ Some (Falls s') → IsAt layout program bytes (slot + slots_of first) (n + 1) others s'
  falls s' e = record {
    stands = behind;
    inside = inside_at program (slot + slots_of first) others behind;
    few = let b = slots_of_bounds first in omega (arith, h.few);
    reached = run_goes_on layout program bytes n here (record { slot = slot + slots_of first; state = s' }) h.reached (step_falls layout program slot s first begins s' e);
  }

  pub jumps : (k : ℤ) (s' : State) (passed : ℕ) (there : List Insn) → effect layout first s ≡ Some (Jumps k s') → Some passed ≡ target others 0 k → places there ≡ drop passed (places others) → IsAt layout program bytes (slot + slots_of first + passed) (n + 1) there s'
  jumps k s' passed there e t p =
      let to : target program (slot + slots_of first) k ≡ Some (slot + slots_of first + passed) = rw (target_along program (slot + slots_of first) others k behind, ← t) refl in
      let stands = stands_further program (slot + slots_of first) passed others there behind p in
      record {
        stands = stands;
        inside = inside_at program (slot + slots_of first + passed) there stands;
        few = let b = slots_of_bounds first in omega (arith, h.few);
        reached = run_goes_on layout program bytes n here (record { slot = slot + slots_of first + passed; state = s' }) h.reached (step_jumps layout program slot s first begins k s' (slot + slots_of first + passed) e to);
      }
