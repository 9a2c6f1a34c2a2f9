-- From the table of opcodes to what IsSlotFault says: what the table refuses is refused so, and a slot has one fault.
use Rattle.std.proofs.Common.{◌≡◌, ◌⊎◌, ⊎_elim, inl, inr, ℕ, ◌+◌, ◌*◌, ◌<◌, ◌≤◌, Bool, true, false, pos, List, [], ◌∷◌, ◌++◌, length, map, drop, get_or, Option, Some, None, refl, sym, ap, ◌∙◌, subst, arith}
use Rattle.encoding.proofs.Names.{◌==◌, ◌&&◌, not, nat_lt, if◌then◌else◌, flat_map, range_with_len, and_parts, eqb-true, ltb-true, or_cases, nat_tests, R0, Insn, LoadWide, slots_of, Slot, SlotFault}
use Rattle.encoding.proofs.Names.{BadRegister, NonzeroField, TruncatedWide, BeginsNone, HasBadRegister, IsCutOff, IsOpcode, IsSlot, IsSlotFault, LOAD_WIDE, first_slot, refused_as, slot, slot_bytes}
use Rattle.encoding.proofs.Names.{slots, FieldUse, Fields, Unused, allows, fault_with, is_above, is_bad_register, slot_fault}
use Rattle.encoding.specs.Opcodes.{fields_of}
use Rattle.std.specs.Option.{option_or}
use Rattle.std.proofs.lemmas.List.FromFn.{get_or-map-range_with_len}
use Rattle.insn.specs.SlotLaws.{slots_of_bounds}
use Rattle.encoding.proofs.Rereading.{example, reread}
use Rattle.encoding.proofs.Spellings.{length-slots}

-- ---- an instruction of each opcode

-- where the table uses a field a register stands
abbrev shows_field : FieldUse → ℕ → Bool
shows_field Unused n = true
shows_field field n = nat_lt 0 n

abbrev shows : ℕ → Option Fields → Insn → Bool
shows opcode None i = true
shows opcode (Some f) i = ((first_slot i).opcode == opcode) && shows_field f.dst (first_slot i).dst && shows_field f.src (first_slot i).src

abbrev is_shown : ℕ → Bool
is_shown opcode = shows opcode (fields_of opcode) (example opcode)

abbrev all_opcodes : List ℕ
all_opcodes = range_with_len 0 256

by_all : map is_shown all_opcodes ≡ map (λ _. true) all_opcodes
unfolding fields_of example
by_all = refl

each_shown : (opcode : ℕ) → opcode < 256 → is_shown opcode ≡ true
each_shown opcode small =
    let e : 0 + opcode ≡ opcode = omega arith in
    sym (get_or-map-range_with_len is_shown 0 256 opcode opcode false small e) ∙ ap (λ (l : List Bool). get_or l opcode false) by_all
    ∙ get_or-map-range_with_len (λ _. true) 0 256 opcode opcode false small e

record HasExample (opcode : ℕ) (f : Fields) : Type 0 where
  is : (first_slot (example opcode)).opcode ≡ opcode
  dst : shows_field f.dst (first_slot (example opcode)).dst ≡ true
  src : shows_field f.src (first_slot (example opcode)).src ≡ true

has_example : (opcode : ℕ) (f : Fields) → opcode < 256 → fields_of opcode ≡ Some f → HasExample opcode f
has_example opcode f small e =
    let all : shows opcode (Some f) (example opcode) ≡ true = ap (λ (o : Option Fields). shows opcode o (example opcode)) (sym e) ∙ each_shown opcode small in
    let last = and_parts _ _ all in
    let first = and_parts _ _ last.0 in
    record { is = eqb-true _ _ first.0; dst = first.1; src = last.1 }

-- ---- registers

above : (field : FieldUse) (n m : ℕ) → is_above field n ≡ true → shows_field field m ≡ true → (10 < n) × (1 ≤ m)
above Unused n m h k = absurd cc
above field n m h k = grind (arith, nat_tests)

bad_register : (f : Fields) (s : Slot) → s.opcode < 256 → fields_of s.opcode ≡ Some f → is_bad_register f s ≡ true → HasBadRegister s
bad_register f s small e bad =
    let x = has_example s.opcode f small e in
    ⊎_elim (λ q. let a = above f.dst s.dst _ q x.dst in inl ((example s.opcode, x.is, a.1), a.0)) (λ q. let a = above f.src s.src _ q x.src in inr ((example s.opcode, x.is, a.1), a.0))
    (or_cases (is_above f.dst s.dst) (is_above f.src s.src) bad)

-- ---- slots with which instructions begin

first_in : (ss x : List Slot) (d e : Slot) → 1 ≤ length ss → get_or (ss ++ x) 0 d ≡ get_or ss 0 e
first_in [] x d e some = absurd (omega arith)
first_in (t ∷ ts) x d e some = refl

-- the first slot of an instruction stands first, whatever follows
pub first_is : (i : Insn) (x : List Slot) (d : Slot) → get_or (slots i ++ x) 0 d ≡ first_slot i
first_is i x d = let b = slots_of_bounds i in first_in (slots i) x d (slot 0 0 0 (pos 0) (pos 0)) (omega (arith, length-slots i, b.0))

-- what stands behind it
abbrev pub behind_first : Insn → List ℕ
behind_first i = drop 8 (flat_map slot_bytes (slots i) ++ [])

good_first : (i : Insn) → slot_fault (first_slot i) (behind_first i) ≡ None
good_first i = rw (← first_is i [] (slot 0 0 0 (pos 0) (pos 0))) (reread i [] [] (slot 0 0 0 (pos 0) (pos 0))).good

-- the fault by tests: of the opcode's being a wide load's, of few bytes behind, of the registers, the fields and the second slot
abbrev told : (wide few bad wrong second : Bool) → Option SlotFault
told wide few bad wrong second =
    let own = if bad then Some BadRegister else if wrong then Some NonzeroField else None in
    if wide then (if few then Some TruncatedWide else option_or own (if second then Some NonzeroField else None)) else own

faultless : (wide few bad wrong second : Bool) → told wide few bad wrong second ≡ None → (wide && few ≡ false) × (bad ≡ false) × (wrong ≡ false)
faultless wide few bad wrong second h = grind arith

kind : (wide few bad wrong second : Bool) (f : SlotFault) → told wide few bad wrong second ≡ Some f →
    ((wide ≡ true) × (few ≡ true) × (f ≡ TruncatedWide)) ⊎ ((wide && few ≡ false) × (((bad ≡ true) × (f ≡ BadRegister)) ⊎ ((bad ≡ false) × (f ≡ NonzeroField))))
kind wide few bad wrong second f h = grind arith

both_allowed : (a b c d : Bool) → not (a && b && c && d) ≡ false → (a ≡ true) × (b ≡ true)
both_allowed a b c d h = grind arith

-- of an instruction with an opcode the registers are allowed
registers_allowed : (i : Insn) (opcode : ℕ) (f : Fields) → (first_slot i).opcode ≡ opcode → fields_of opcode ≡ Some f
    → (allows f.dst (pos (first_slot i).dst) ≡ true) × (allows f.src (pos (first_slot i).src) ≡ true)
registers_allowed i opcode f same e =
    let none : fault_with (Some f) (first_slot i) (behind_first i) ≡ None = subst (λ (o : Option Fields). fault_with o (first_slot i) (behind_first i) ≡ None) (ap fields_of same ∙ e) (good_first i) in
    both_allowed _ _ _ _ (faultless _ _ _ _ _ none).2

used_above : (field : FieldUse) (n m : ℕ) → allows field (pos n) ≡ true → 1 ≤ n → 10 < m → is_above field m ≡ true
used_above Unused n m h some more = absurd (grind (arith, nat_tests))
used_above field n m h some more = grind (arith, nat_tests)

no_bad : (f : Fields) (s : Slot) → fields_of s.opcode ≡ Some f → is_bad_register f s ≡ false → HasBadRegister s → ⊥
no_bad f s e good (inl x) = let a = used_above f.dst _ s.dst (registers_allowed x.0.0 s.opcode f x.0.1 e).0 x.0.2 x.1 in grind (arith, nat_tests, a, good)
no_bad f s e good (inr x) = let a = used_above f.src _ s.src (registers_allowed x.0.0 s.opcode f x.0.1 e).1 x.0.2 x.1 in grind (arith, nat_tests, a, good)

-- no instruction has an opcode that the table lacks
unknown : (s : Slot) → fields_of s.opcode ≡ None → IsOpcode s.opcode → ⊥
unknown s e x =
    let wrong : fault_with None (first_slot x.0) (behind_first x.0) ≡ None = subst (λ (o : Option Fields). fault_with o (first_slot x.0) (behind_first x.0) ≡ None) (ap fields_of x.1 ∙ e) (good_first x.0) in cc

-- only a wide load is cut off
cut_wide : (i : Insn) (s : Slot) (behind : List ℕ) → (first_slot i).opcode ≡ s.opcode → 8 + length behind < 8 * slots_of i → (s.opcode ≡ LOAD_WIDE) × (length behind < 8)
cut_wide (LoadWide dst value) s behind same less = (sym same, omega arith)
cut_wide i s behind same less = absurd (omega arith)

-- ---- what the table refuses

refused : (s : Slot) (behind : List ℕ) (f : SlotFault) → (IsOpcode s.opcode → ⊥) → refused_as s.opcode ≡ f → IsSlotFault s behind f
refused s behind TruncatedWide missing e = absurd (grind (arith, nat_tests, e))
refused s behind BadRegister missing e = absurd (grind (arith, nat_tests, e))
refused s behind NonzeroField missing e = absurd (grind (arith, nat_tests, e))
refused s behind f missing e = (missing, e)

-- what the table refuses is refused so
pub table_fault : (s : Slot) (behind : List ℕ) (f : SlotFault) → IsSlot s → BeginsNone s behind → slot_fault s behind ≡ Some f → IsSlotFault s behind f
table_fault s behind f is begins h = by_fields (fields_of s.opcode) refl h where
  uncut : ((s.opcode == LOAD_WIDE) && nat_lt (length behind) 8 ≡ false) → IsCutOff s behind → ⊥
  uncut room x = let c = cut_wide x.0 s behind x.1 x.2 in grind (arith, nat_tests, room, c)

  by_fields : (fields : Option Fields) → fields_of s.opcode ≡ fields → fault_with fields s behind ≡ Some f → IsSlotFault s behind f
  by_fields None e q = refused s behind f (unknown s e) cc
  by_fields (Some g) e q = elim (kind _ _ _ _ _ f q) [
    | inl x ↦ subst (IsSlotFault s behind) (sym x.2) (LoadWide R0 0, sym (eqb-true _ _ x.0), omega (arith, ltb-true (length behind) 8 x.1))
    | inr (room, inl x) ↦ subst (IsSlotFault s behind) (sym x.1) (uncut room, bad_register g s is.opcode e x.0)
    | inr (room, inr x) ↦ subst (IsSlotFault s behind) (sym x.1) ((example s.opcode, (has_example s.opcode g is.opcode e).is), uncut room, no_bad g s e x.0, begins)
  ]

-- ---- one fault

-- a fault is of the opcode alone, or of the fields behind it
abbrev IsOfKind : (Op Cut Bad : Type 0) → SlotFault → SlotFault → Type 0
IsOfKind Op Cut Bad name f =
    ((Op → ⊥) × (name ≡ f)) ⊎ (Op × (((f ≡ TruncatedWide) × Cut) ⊎ (((f ≡ BadRegister) × (Cut → ⊥) × Bad) ⊎ ((f ≡ NonzeroField) × (Cut → ⊥) × (Bad → ⊥)))))

kind_of : (s : Slot) (behind : List ℕ) (f : SlotFault) → IsSlotFault s behind f → IsOfKind (IsOpcode s.opcode) (IsCutOff s behind) (HasBadRegister s) (refused_as s.opcode) f
kind_of s behind TruncatedWide h = inr ((h.0, h.1), inl (refl, h))
kind_of s behind BadRegister h = inr (⊎_elim (λ x. (x.0.0, x.0.1)) (λ x. (x.0.0, x.0.1)) h.1, inr (inl (refl, h.0, h.1)))
kind_of s behind NonzeroField h = inr (h.0, inr (inr (refl, h.1, h.2)))
kind_of s behind f h = inl h

one_kind : (Op Cut Bad : Type 0) (name f g : SlotFault) → IsOfKind Op Cut Bad name f → IsOfKind Op Cut Bad name g → f ≡ g
one_kind Op Cut Bad name f g x y = grind arith

-- a slot has one fault
pub one_fault : (s : Slot) (behind : List ℕ) (f g : SlotFault) → IsSlotFault s behind f → IsSlotFault s behind g → f ≡ g
one_fault s behind f g x y = one_kind _ _ _ _ f g (kind_of s behind f x) (kind_of s behind g y)

-- a slot in which the table finds no fault, and with which an instruction begins, has none
pub no_slot_fault : (s : Slot) (behind : List ℕ) (f : SlotFault) → IsOpcode s.opcode → slot_fault s behind ≡ None → (BeginsNone s behind → ⊥) → IsSlotFault s behind f → ⊥
no_slot_fault s behind f known good begins h = by f (fields_of s.opcode) refl good h where
  by : (f : SlotFault) (fields : Option Fields) → fields_of s.opcode ≡ fields → fault_with fields s behind ≡ None → IsSlotFault s behind f → ⊥
  by f None e q h = absurd cc
  by TruncatedWide (Some g) e q h = let c = cut_wide h.0 s behind h.1 h.2 in grind (arith, nat_tests, c, q)
  by BadRegister (Some g) e q h = no_bad g s e (faultless _ _ _ _ _ q).1 h.1
  by NonzeroField (Some g) e q h = begins h.3
  by f (Some g) e q h = h.0 known
