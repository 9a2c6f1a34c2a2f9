-- Reading slots back from their bytes, and programs from theirs.
use Rattle.std.proofs.Common.{subst, ◌≡◌, ◌≢◌, ◌⊎◌, inl, inr, Option, ℕ, ◌+◌, ◌*◌, ◌/◌, ◌%◌, ◌^◌, ◌<◌, List, [], ◌∷◌, ◌++◌, length, drop, Some, None, Result, Ok, Err, IfErr, get_or, refl, sym, ap, ◌∙◌, arith, append_assoc, FitsSigned, w16, w32, rules}
use Rattle.encoding.proofs.Names.{◌==◌, nat_lt, if◌then◌else◌, nat_tests, cast_signed, cast_unsigned, flat_map, AllByRecursion, ints, to_z-of_z, append_cancel_left, flat_map-append, RegNo, R0, Imm}
use Rattle.encoding.proofs.Names.{Insn, Divide, Remainder, MoveSigned, SwapBytes, LoadWide, Unsigned, Signed, From8To64, B16, Slot, SlotFault, reg_number, Fits, slot_count, SLOT_LIMIT, BeginsNone}
use Rattle.encoding.proofs.Names.{IsSlotFault, first_slot, slot, slots, slot_bytes, spelling, FaultAt, FirstInsnFault, IsSlot, IsWhole, Spells, slot_fault}
use Rattle.std.proofs.lemmas.List.{append-nil}
use Rattle.std.proofs.Math.Facts.{sfits_to_z}
use Rattle.insn.specs.declared.fault.InsnFault.{InsnFault}
use Rattle.insn.specs.declared.fault.InsnFault.TheVariants as faults
use Rattle.encoding.proofs.Spellings.{length-spelling, spelling-append, AllByRecursion-append}
use Rattle.encoding.proofs.Rereading.{read, reread}
use Rattle.encoding.proofs.Naming.{first_is, no_slot_fault, one_fault, table_fault}

reg_fits : (r : RegNo) → reg_number r < 16
reg_fits R0 = omega arith
reg_fits r = omega arith

-- ---- slots from bytes

abbrev unspell : List ℕ → List Slot
unspell (b0 ∷ b1 ∷ b2 ∷ b3 ∷ b4 ∷ b5 ∷ b6 ∷ b7 ∷ rest) =
    slot b0 (b1 % 16) (b1 / 16) (cast_signed w16 (b2 + b3 * 256)) (cast_signed w32 (b4 + b5 * 256 + b6 * 65536 + b7 * 16777216)) ∷ unspell rest
unspell _ = []

-- the fields have their sizes
record Sized (s : Slot) : Type 0 where
  dst : s.dst < 16
  src : s.src < 16
  offset : FitsSigned w16 s.offset
  imm : FitsSigned w32 s.imm

sizes_of : {s : Slot} → IsSlot s → Sized s
sizes_of h = record { dst = h.dst; src = h.src; offset = h.offset; imm = h.imm }

unspell-slot : (s : Slot) (r : List ℕ) → Sized s → unspell (slot_bytes s ++ r) ≡ s ∷ unspell r
unspell-slot s r z =
    let o = cast_unsigned w16 s.offset in
    let m = cast_unsigned w32 s.imm in
    let d : (s.src * 16 + s.dst) % 16 ≡ s.dst = let h = z.dst in omega arith in
    let e : (s.src * 16 + s.dst) / 16 ≡ s.src = let h = z.dst in omega arith in
    let zo = z.offset in
    let zm = z.imm in
    let o_fits : o < 2 ^ 16 = omega (arith, ints) in
    let m_fits : m < 2 ^ 32 = omega (arith, ints) in
    let f : o % 256 + o / 256 % 256 * 256 ≡ o = omega arith in
    let g : m % 256 + m / 256 % 256 * 256 + m / 65536 % 256 * 65536 + m / 16777216 % 256 * 16777216 ≡ m = omega arith in
    rw (d, e, f, g, to_z-of_z w16 s.offset zo, to_z-of_z w32 s.imm zm) refl

half_fits : (n : ℕ) → n < 2 ^ 32 → FitsSigned w32 (cast_signed w32 n)
half_fits n lt = sfits_to_z (record { fits = lt })

sized : (i : Insn) → Fits i → AllByRecursion Sized (slots i)
sized (Divide width Unsigned dst (Imm imm)) fits = (record { dst = reg_fits dst; src = omega arith; offset = search rules; imm = fits }, tt)
sized (Divide width Signed dst (Imm imm)) fits = (record { dst = reg_fits dst; src = omega arith; offset = search rules; imm = fits }, tt)
sized (Remainder width Unsigned dst (Imm imm)) fits = (record { dst = reg_fits dst; src = omega arith; offset = search rules; imm = fits }, tt)
sized (Remainder width Signed dst (Imm imm)) fits = (record { dst = reg_fits dst; src = omega arith; offset = search rules; imm = fits }, tt)
sized (MoveSigned From8To64 dst src) fits = (record { dst = reg_fits dst; src = reg_fits src; offset = search rules; imm = search rules }, tt)
sized (SwapBytes kind B16 dst) fits = (record { dst = reg_fits dst; src = omega arith; offset = search rules; imm = search rules }, tt)
sized (LoadWide dst value) fits = (
  record { dst = reg_fits dst; src = omega arith; offset = search rules; imm = half_fits (value % 2 ^ 32) (omega arith) },
  (record { dst = omega arith; src = omega arith; offset = search rules; imm = half_fits (value / 2 ^ 32) (omega arith) }, tt),
)
sized i fits = (record { dst = omega (arith, reg_fits); src = omega (arith, reg_fits); offset = search rules; imm = search rules }, tt)

sized_all : (p : List Insn) → AllByRecursion Fits p → AllByRecursion Sized (flat_map slots p)
sized_all [] fits = tt
sized_all (i ∷ p) fits = AllByRecursion-append Sized (slots i) (flat_map slots p) (sized i fits.0) (sized_all p fits.1)

unspell-all : (ss : List Slot) (r : List ℕ) → AllByRecursion Sized ss → unspell (flat_map slot_bytes ss ++ r) ≡ ss ++ unspell r
unspell-all [] r z = refl
unspell-all (s ∷ ss) r z =
    ap unspell (append_assoc (slot_bytes s) (flat_map slot_bytes ss) r) ∙ unspell-slot s (flat_map slot_bytes ss ++ r) z.0 ∙ ap (λ (l : List Slot). s ∷ l) (unspell-all ss r z.1)

-- the slots of a program stand in its bytes, whatever follows: those of the first instruction, and the others
slots_in : (i : Insn) (p : List Insn) (r : List ℕ) → AllByRecursion Fits (i ∷ p) → unspell (spelling (i ∷ p) ++ r) ≡ slots i ++ (flat_map slots p ++ unspell r)
slots_in i p r fits = unspell-all (flat_map slots (i ∷ p)) r (sized_all (i ∷ p) fits) ∙ append_assoc (slots i) (flat_map slots p) (unspell r)

-- ---- one program

read-slots : (i : Insn) (x : List Slot) → Fits i → read (slots i ++ x) ≡ Some i
read-slots i x fits = (reread i x [] (first_slot i)).read fits

-- the bytes of an instruction, and those of the ones behind it
one_more : (i : Insn) (p : List Insn) (r : List ℕ) → spelling (i ∷ p) ++ r ≡ flat_map slot_bytes (slots i) ++ (spelling p ++ r)
one_more i p r = rw (flat_map-append slot_bytes (slots i) (flat_map slots p), append_assoc) refl

-- what stands behind one instruction that two spellings begin with
same_first : (i j : Insn) (p q : List Insn) (x y : List ℕ) → AllByRecursion Fits (i ∷ p) → AllByRecursion Fits (j ∷ q) → spelling (i ∷ p) ++ x ≡ spelling (j ∷ q) ++ y → (i ≡ j) × (spelling p ++ x ≡ spelling q ++ y)
same_first i j p q x y fp fq e =
    let whole = sym (slots_in i p x fp) ∙ ap unspell e ∙ slots_in j q y fq in
    let h : Some i ≡ Some j = sym (read-slots i (flat_map slots p ++ unspell x) fp.0) ∙ ap read whole ∙ read-slots j (flat_map slots q ++ unspell y) fq.0 in
    let same : i ≡ j = cc in
    let tails = sym (one_more i p x) ∙ e ∙ one_more j q y ∙ ap (λ (k : Insn). flat_map slot_bytes (slots k) ++ (spelling q ++ y)) (sym same) in
    (same, append_cancel_left (flat_map slot_bytes (slots i)) (spelling p ++ x) (spelling q ++ y) tails)

some_bytes : (i : Insn) (p : List Insn) (x : List ℕ) → AllByRecursion Fits (i ∷ p) → spelling (i ∷ p) ++ x ≡ [] → ⊥
some_bytes i p x fits e =
    let h : Some i ≡ None = sym (read-slots i (flat_map slots p ++ unspell x) fits.0) ∙ ap read (sym (slots_in i p x fits) ∙ ap unspell e) in absurd cc

-- ---- what is spelled has no fault

-- in a slot with which an instruction begins the table finds no fault, and its opcode is the instruction's
record IsGood (here : Slot) (rest : List ℕ) (j : Insn) : Type 0 where
  opcode : (first_slot j).opcode ≡ here.opcode
  good : slot_fault here rest ≡ None

begins_good : (here : Slot) (rest tail : List ℕ) (j : Insn) (p : List Insn) → Sized here → AllByRecursion Fits (j ∷ p) → slot_bytes here ++ rest ≡ spelling (j ∷ p) ++ tail → IsGood here rest j
begins_good here rest tail j p z fp e =
    let firsts = sym (unspell-slot here rest z) ∙ ap unspell e ∙ slots_in j p tail fp in
    let here_is = ap (λ (l : List Slot). get_or l 0 here) firsts in
    let rest_is = ap (drop 8) (e ∙ one_more j p tail) in
    record {
      opcode = ap (λ (s : Slot). s.opcode) (sym (first_is j (flat_map slots p ++ unspell tail) here) ∙ sym here_is);
      good = ap (λ (s : Slot). slot_fault s rest) here_is ∙ ap (slot_fault _) rest_is ∙ (reread j (flat_map slots p ++ unspell tail) (spelling p ++ tail) here).good;
    }

-- it has no fault
begins_faultless : (here : Slot) (rest tail : List ℕ) (j : Insn) (p : List Insn) (f : SlotFault) → Sized here → AllByRecursion Fits (j ∷ p) → slot_bytes here ++ rest ≡ spelling (j ∷ p) ++ tail → IsSlotFault here rest f → ⊥
begins_faultless here rest tail j p f z fp e faulty =
    let is = begins_good here rest tail j p z fp e in
    no_slot_fault here rest f (j, is.opcode) is.good (λ none. none j (spelling p ++ tail) fp.0 (e ∙ ap (λ (l : List ℕ). l ++ tail) (spelling-append (j ∷ []) p) ∙ append_assoc (spelling (j ∷ [])) (spelling p) tail)) faulty

-- with a slot that the table refuses no instruction begins
begins_none : (here : Slot) (rest : List ℕ) (f : SlotFault) → Sized here → slot_fault here rest ≡ Some f → BeginsNone here rest
begins_none here rest f z faulty j tail fits e = let is = begins_good here rest tail j [] z (fits, tt) e in let good = is.good in cc

-- what the table refuses is refused so
pub named_fault : (s : Slot) (behind : List ℕ) (f : SlotFault) → IsSlot s → slot_fault s behind ≡ Some f → IsSlotFault s behind f
named_fault s behind f is h = table_fault s behind f is (begins_none s behind f (sizes_of is) h) h

-- ---- bytes are read in one way

-- no instruction begins here: there are no bytes, or a faulty slot stands in front
abbrev Stops : List ℕ → Option SlotFault → Type 0
Stops x None = x ≡ []
Stops x (Some f) = (here : Slot) × (rest : List ℕ) × Sized here × (x ≡ slot_bytes here ++ rest) × IsSlotFault here rest f

none_begins : (x y : List ℕ) (a : Option SlotFault) (j : Insn) (p : List Insn) → Stops x a → AllByRecursion Fits (j ∷ p) → x ≡ spelling (j ∷ p) ++ y → ⊥
none_begins x y None j p h fp e = some_bytes j p y fp (sym e ∙ h)
none_begins x y (Some f) j p h fp e = begins_faultless h.0 h.1 y j p f h.2 fp (sym h.3 ∙ e) h.4

one_stop : (x : List ℕ) (a b : Option SlotFault) → Stops x a → Stops x b → a ≡ b
one_stop x None None h k = refl
one_stop x None (Some g) h k = let e = k.3 in absurd cc
one_stop x (Some f) None h k = let e = h.3 in absurd cc
one_stop x (Some f) (Some g) h k =
    let firsts : h.0 ∷ unspell h.1 ≡ k.0 ∷ unspell k.1 = sym (unspell-slot h.0 h.1 h.2) ∙ ap unspell (sym h.3 ∙ k.3) ∙ unspell-slot k.0 k.1 k.2 in
    let slot_is : h.0 ≡ k.0 = cc in
    let rest_is : h.1 ≡ k.1 = ap (drop 8) (sym h.3 ∙ k.3) in
    let moved = subst (λ (r : List ℕ). IsSlotFault k.0 r f) rest_is (subst (λ (s : Slot). IsSlotFault s h.1 f) slot_is h.4) in
    ap Some (one_fault k.0 k.1 f g moved k.4)

one_way : (p q : List Insn) (x y : List ℕ) (a b : Option SlotFault) → AllByRecursion Fits p → AllByRecursion Fits q → Stops x a → Stops y b → spelling p ++ x ≡ spelling q ++ y → (p ≡ q) × (a ≡ b)
one_way [] [] x y a b fp fq h k e = (refl, one_stop y a b (subst (λ (l : List ℕ). Stops l a) e h) k)
one_way [] (j ∷ q) x y a b fp fq h k e = absurd (none_begins x y a j q h fq e)
one_way (i ∷ p) [] x y a b fp fq h k e = absurd (none_begins y x b i p k fp (sym e))
one_way (i ∷ p) (j ∷ q) x y a b fp fq h k e =
    let first = same_first i j p q x y fp fq e in
    let later = one_way p q x y a b fp.1 fq.1 h k first.1 in
    (rw (first.0, later.0) refl, later.1)

-- no bytes spell two programs
pub one_program : (bytes : List ℕ) (p q : List Insn) → Spells bytes p → Spells bytes q → p ≡ q
one_program bytes p q sp sq = (one_way p q [] [] None None sp.fit sq.fit refl refl (ap (λ (l : List ℕ). l ++ []) (sym sp.spelled ∙ sq.spelled))).0

stops_at : {bytes : List ℕ} {f : InsnFault} (x : FaultAt bytes f) → Stops (slot_bytes x.here ++ x.rest) (Some x.name)
stops_at x = (x.here, x.rest, sizes_of x.sizes, refl, x.faulty)

same_name : {f g : SlotFault} → Some f ≡ Some g → f ≡ g
same_name e = cc

-- the first faulty instruction is one
one_fault_at : (bytes : List ℕ) (f g : InsnFault) → FaultAt bytes f → FaultAt bytes g → f ≡ g
one_fault_at bytes f g x y =
    let same = one_way x.before y.before _ _ _ _ x.fit y.fit (stops_at x) (stops_at y) (sym x.spelled ∙ y.spelled) in
    x.at_slot ∙ rw (same.0, same_name same.1) (sym y.at_slot)

no_fault_at : (bytes : List ℕ) (p : List Insn) (f : InsnFault) → FaultAt bytes f → Spells bytes p → ⊥
no_fault_at bytes p f x s =
    let same : Some x.name ≡ None = (one_way x.before p _ [] _ None x.fit s.fit (stops_at x) refl (sym x.spelled ∙ s.spelled ∙ sym (append-nil (spelling p)))).1 in absurd cc

-- the fault of a length alone
abbrev length_fault : ℕ → Option InsnFault
length_fault n =
    if n == 0 then Some faults.Empty
    else if nat_lt 0 (n % 8) then Some faults.BadLength
    else if nat_lt (8 * SLOT_LIMIT) n then Some faults.TooLong
    else None

long_enough : (bytes : List ℕ) → IsWhole bytes → length_fault (length bytes) ≡ None
long_enough bytes h = grind (arith, nat_tests, h.some, h.slots, h.short)

-- a fault of the length, or of a slot
abbrev IsFirst : List ℕ → InsnFault → Type 0
IsFirst bytes f = (length_fault (length bytes) ≡ Some f) ⊎ ((length_fault (length bytes) ≡ None) × FaultAt bytes f)

by_length : (bytes : List ℕ) (f : InsnFault) → f ≢ faults.Memory → FirstInsnFault bytes f → IsFirst bytes f
by_length bytes faults.Empty other h = inl (grind (arith, nat_tests, h))
by_length bytes faults.BadLength other h = inl (grind (arith, nat_tests, h))
by_length bytes faults.TooLong other h = inl (grind (arith, nat_tests, h))
by_length bytes faults.Memory other h = absurd (other refl)
by_length bytes f other h = inr (long_enough bytes h.0, h.1)

-- bytes have one first fault, want of memory aside
pub one_first_fault : (bytes : List ℕ) (f g : InsnFault) → f ≢ faults.Memory → g ≢ faults.Memory → FirstInsnFault bytes f → FirstInsnFault bytes g → f ≡ g
one_first_fault bytes f g other another h k =
    let one = one_fault_at bytes f g in
    let a = by_length bytes f other h in
    let b = by_length bytes g another k in
    grind (arith, one, a, b)

whole : (bytes : List ℕ) (p : List Insn) → Spells bytes p → IsWhole bytes
whole bytes p s =
    let long : length bytes ≡ 8 * slot_count p = ap (length {A = ℕ}) s.spelled ∙ length-spelling p in
    record { some = omega (arith, s.in_bounds.nonempty); slots = omega arith; short = omega (arith, s.in_bounds.short) }

-- bytes that spell a program have no fault but a want of memory
pub only_memory : (bytes : List ℕ) (f : InsnFault) → FirstInsnFault bytes f → (p : List Insn) → Spells bytes p → f ≡ faults.Memory
only_memory bytes faults.Memory h p s = refl
only_memory bytes f h p s = elim (by_length bytes f (λ e. absurd cc) h) [
  | inl e ↦ let none = long_enough bytes (whole bytes p s) in absurd cc
  | inr x ↦ absurd (no_fault_at bytes p f x.1 s)
]

pub only_err : {A : Type 0} (bytes : List ℕ) (r : Result A InsnFault) → IfErr r (FirstInsnFault bytes) → IfErr r (λ f. (p : List Insn) → Spells bytes p → f ≡ faults.Memory)
only_err bytes (Ok x) h = tt
only_err bytes (Err f) h = only_memory bytes f h
