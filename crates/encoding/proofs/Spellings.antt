-- Instructions one after the other, and their bytes.
use Rattle.std.proofs.Common.{◌≡◌, ℕ, ◌+◌, ◌-◌, ◌*◌, List, [], ◌∷◌, ◌++◌, length, take, drop, refl, sym, ap, ◌∙◌, append_assoc, arith, ◌≢◌, ◌/◌, ◌%◌, ◌^◌, ◌<◌, ◌≤◌, Option, Some, None, FitsSigned, Result, Ok, Err, MatchResult, w32, pos}
use Rattle.encoding.proofs.Names.{flat_map, AllByRecursion, length-append, take-append-drop, flat_map-append, sum_by-cons, Insn, Divide, Remainder, LoadWide, Imm, Slot, slots_of, Fits, reg_number}
use Rattle.encoding.proofs.Names.{slot_count, IsSlotFault, slots, slot_bytes, spelling, slot_fault_at, FaultAt, FirstInsnFault, IsSlot, IsWhole, slot, LOAD_WIDE, JUMP, JUMP_LONG, EXIT, BeginsWith}
use Rattle.encoding.proofs.Names.{slot_fault, fault_with, memory_fields, Fields, IsAllOf, IsRead, SlotFault, UnknownOpcode, cast_signed, cast_unsigned, ne_eqb, ints, to_z-of_z, RegNo}
use Rattle.std.proofs.lemmas.List.{append-nil}
use Rattle.encoding.specs.Opcodes.{fields_of}

pub length-slots : (i : Insn) → length (slots i) ≡ slots_of i
length-slots (Divide width signedness dst (Imm imm)) = refl
length-slots (Remainder width signedness dst (Imm imm)) = refl
length-slots i = refl

pub spelling-append : (a b : List Insn) → spelling (a ++ b) ≡ spelling a ++ spelling b
spelling-append a b = ap (flat_map slot_bytes) (flat_map-append slots a b) ∙ flat_map-append slot_bytes (flat_map slots a) (flat_map slots b)

length-bytes : (ss : List Slot) → length (flat_map slot_bytes ss) ≡ 8 * length ss
length-bytes [] = refl
length-bytes (s ∷ ss) = omega (arith, length-append (slot_bytes s) (flat_map slot_bytes ss), length-bytes ss)

length-flat : (p : List Insn) → length (flat_map slots p) ≡ slot_count p
length-flat [] = refl
length-flat (i ∷ rest) = omega (arith, length-append (slots i) (flat_map slots rest), length-slots i, length-flat rest, sum_by-cons slots_of i rest)

-- eight bytes a slot
pub length-spelling : (p : List Insn) → length (spelling p) ≡ 8 * slot_count p
length-spelling p = omega (arith, length-bytes (flat_map slots p), length-flat p)

-- a slot stands in front of what is left
pub cut_off : (bytes rest behind before : List ℕ) (s : Slot) → bytes ≡ before ++ rest → slot_bytes s ≡ take 8 rest → behind ≡ drop 8 rest → bytes ≡ before ++ (slot_bytes s ++ behind)
cut_off bytes rest behind before s so_far here later = so_far ∙ ap (λ (l : List ℕ). before ++ l) (sym (take-append-drop 8 rest) ∙ ap (λ (l : List ℕ). l ++ drop 8 rest) (sym here) ∙ ap (λ (l : List ℕ). slot_bytes s ++ l) (sym later))

-- one more instruction is read
pub goes_on : (bytes behind : List ℕ) (before : List Insn) (i : Insn) (s : Slot) → bytes ≡ spelling before ++ (slot_bytes s ++ behind) → BeginsWith s behind i
    → bytes ≡ spelling (before ++ i ∷ []) ++ drop (8 * (slots_of i - 1)) behind
goes_on bytes behind before i s so_far reads =
    let k = 8 * (slots_of i - 1) in
    so_far ∙ ap (λ (l : List ℕ). spelling before ++ (slot_bytes s ++ l)) (sym (take-append-drop k behind))
    ∙ rw (spelling-append before (i ∷ []), append_assoc (spelling before) (spelling (i ∷ [])) (drop k behind), reads.spelled, append_assoc (slot_bytes s) (take k behind) (drop k behind)) refl

pub AllByRecursion-append : {X : Type 0} (P : X → Type 0) (xs ys : List X) → AllByRecursion P xs → AllByRecursion P ys → AllByRecursion P (xs ++ ys)
AllByRecursion-append P [] ys a b = b
AllByRecursion-append P (x ∷ xs) ys a b = (a.0, AllByRecursion-append P xs ys a.1 b)

-- what stands behind the instructions so far is the first fault
pub first_fault : (bytes rest : List ℕ) (before : List Insn) (here : Slot) (at : ℕ) (f : SlotFault) → IsWhole bytes → AllByRecursion Fits before → IsSlot here → at ≡ slot_count before
    → bytes ≡ spelling before ++ (slot_bytes here ++ rest) → IsSlotFault here rest f → FirstInsnFault bytes (slot_fault_at f at)
first_fault bytes rest before here at f whole fit sizes at_slot spelled faulty =
    by_fault f (record { before = before; here = here; rest = rest; name = f; fit = fit; sizes = sizes; spelled = spelled; faulty = faulty; at_slot = ap (slot_fault_at f) at_slot }) where
      by_fault : (f : SlotFault) → FaultAt bytes (slot_fault_at f at) → FirstInsnFault bytes (slot_fault_at f at)
      by_fault UnknownOpcode h = (whole, h)
      by_fault f h = (whole, h)

-- ---- what a slot's opcode says of the instruction that begins there

-- an opcode with none of these low halves loads or stores
pub by_class : (n : ℕ) → n ≢ LOAD_WIDE → n ≢ JUMP → n ≢ JUMP_LONG → n ≢ EXIT → n % 16 ≢ 4 → n % 16 ≢ 7 → n % 16 ≢ 12 → n % 16 ≢ 15 → n % 16 ≢ 6 → n % 16 ≢ 5 → n % 16 ≢ 14 → n % 16 ≢ 13
    → fields_of n ≡ memory_fields n
unfolding fields_of
by_class n wide jump long exit a b c d e f g h =
    rw (ne_eqb n LOAD_WIDE wide, ne_eqb n JUMP jump, ne_eqb n JUMP_LONG long, ne_eqb n EXIT exit, ne_eqb (n % 16) 4 a, ne_eqb (n % 16) 7 b, ne_eqb (n % 16) 12 c, ne_eqb (n % 16) 15 d, ne_eqb (n % 16) 6 e, ne_eqb (n % 16) 5 f, ne_eqb (n % 16) 14 g, ne_eqb (n % 16) 13 h) refl

one_begins : (i : Insn) (s : Slot) (behind : List ℕ) → IsAllOf i s → BeginsWith s behind i
one_begins i s behind h =
    let one : slots_of i ≡ 1 = sym (length-slots i) ∙ ap (length {A = Slot}) h.0 in
    record {
      fit = h.1;
      room = omega (arith, one);
      spelled = ap (flat_map slot_bytes) (append-nil (slots i) ∙ h.0) ∙ ap (λ (k : ℕ). slot_bytes s ++ take (8 * (k - 1)) behind) (sym one);
    }

same_fault : (fields : Option Fields) (s : Slot) (behind : List ℕ) → s.opcode ≢ LOAD_WIDE → fault_with fields s behind ≡ fault_with fields s []
same_fault None s behind narrow = refl
same_fault (Some f) s behind narrow = rw (ne_eqb s.opcode LOAD_WIDE narrow) refl

-- an instruction of one slot stands in front of whatever is behind it, which is not looked at
pub in_front : (r : Result Insn SlotFault) (s : Slot) (behind : List ℕ) → s.opcode ≢ LOAD_WIDE → IsRead r s (slot_fault s []) → MatchResult r (BeginsWith s behind) (λ f. slot_fault s behind ≡ Some f)
in_front (Ok i) s behind narrow h = one_begins i s behind h
in_front (Err f) s behind narrow h = same_fault (fields_of s.opcode) s behind narrow ∙ h

-- ---- the wide load

-- a number in two halves
pub wide_begins : (s : Slot) (behind : List ℕ) (dst : RegNo) (upper lower : ℕ) → s.opcode ≡ LOAD_WIDE → reg_number dst ≡ s.dst → s.src ≡ 0 → s.offset ≡ pos 0
    → FitsSigned w32 s.imm → lower ≡ cast_unsigned w32 s.imm → upper < 2 ^ 32 → slot_bytes (slot 0 0 0 (pos 0) (cast_signed w32 upper)) ≡ take 8 behind → 8 ≤ length behind
    → BeginsWith s behind (LoadWide dst (upper * 4294967296 + lower))
wide_begins s behind dst upper lower opcode reg src offset imm low up second long =
    let low_fits : lower < 2 ^ 32 = omega (arith, ints, low) in
    let high : (upper * 4294967296 + lower) / 4294967296 ≡ upper = omega arith in
    let rest : (upper * 4294967296 + lower) % 4294967296 ≡ lower = omega arith in
    let first : slot LOAD_WIDE (reg_number dst) 0 (pos 0) (cast_signed w32 lower) ≡ s = rw (low, to_z-of_z w32 s.imm imm, reg, ← offset, ← src, ← opcode) refl in
    record {
      fit = omega arith;
      room = omega arith;
      spelled = rw (high, rest) (ap (λ (a : Slot). slot_bytes a ++ slot_bytes (slot 0 0 0 (pos 0) (cast_signed w32 upper))) first ∙ ap (λ (l : List ℕ). slot_bytes s ++ l) second);
    }
