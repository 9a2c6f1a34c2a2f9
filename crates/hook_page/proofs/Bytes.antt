-- The slots of a program, read back from its bytes.
use Rattle.std.proofs.Common.{◌≡◌, ℕ, ◌+◌, ◌*◌, ◌/◌, ◌%◌, ◌^◌, ◌<◌, List, [], ◌∷◌, ◌++◌, refl, ap, ◌∙◌, arith, FitsSigned, w16, w32, rules}
use Rattle.std.specs.Int.{cast_signed, cast_unsigned}
use Rattle.std.specs.List.{flat_map, AllByRecursion}
use Rattle.std.proofs.lemmas.Int.{ints, to_z-of_z}
use Rattle.std.proofs.Math.Facts.{sfits_to_z}
use Rattle.hook_page.proofs.Names.{Insn, Divide, Remainder, MoveSigned, SwapBytes, LoadWide, Imm, RegNo, R0}
use Rattle.insn.specs.declared.operation.Signedness.TheVariants.{Unsigned, Signed}
use Rattle.insn.specs.declared.operation.Extension.TheVariants.{From8To64}
use Rattle.insn.specs.declared.operation.SwapBits.TheVariants.{B16}
use Rattle.insn.specs.Instruction.{reg_number, Fits}
use Rattle.encoding.specs.declared.slot.Slot.{Slot}
use Rattle.encoding.specs.Spelling.{slots, slot_bytes, Spells}
use Rattle.hook_page.specs.Hooks as page

reg_fits : (r : RegNo) → reg_number r < 16
reg_fits R0 = omega arith
reg_fits r = omega arith

-- the fields have their sizes
record Sized (s : Slot) : Type 0 where
  dst : s.dst < 16
  src : s.src < 16
  offset : FitsSigned w16 s.offset
  imm : FitsSigned w32 s.imm

one_slot : (s : Slot) (r : List ℕ) → Sized s → page.slots_in (slot_bytes s ++ r) ≡ s ∷ page.slots_in r
one_slot s r z =
    let o = cast_unsigned w16 s.offset in
    let m = cast_unsigned w32 s.imm in
    let d : (s.src * 16 + s.dst) % 16 ≡ s.dst = let h = z.dst in omega arith in
    let e : (s.src * 16 + s.dst) / 16 ≡ s.src = let h = z.dst in omega arith in
    let zo = z.offset in
    let zm = z.imm in
    let o_fits : o < 2 ^ 16 = omega (arith, ints) in
    let m_fits : m < 2 ^ 32 = omega (arith, ints) in
    let f : o % 256 + o / 256 % 256 * 256 ≡ o = omega arith in
    let g : m % 256 + m / 256 % 256 * 256 + m / 65536 % 256 * 65536 + m / 16777216 % 256 * 16777216 ≡ m = omega arith in
    rw (d, e, f, g, to_z-of_z w16 s.offset zo, to_z-of_z w32 s.imm zm) refl

half_fits : (n : ℕ) → n < 2 ^ 32 → FitsSigned w32 (cast_signed w32 n)
half_fits n lt = sfits_to_z (record { fits = lt })

sized : (i : Insn) → Fits i → AllByRecursion Sized (slots i)
sized (Divide width Unsigned dst (Imm imm)) fits = (record { dst = reg_fits dst; src = omega arith; offset = search rules; imm = fits }, tt)
sized (Divide width Signed dst (Imm imm)) fits = (record { dst = reg_fits dst; src = omega arith; offset = search rules; imm = fits }, tt)
sized (Remainder width Unsigned dst (Imm imm)) fits = (record { dst = reg_fits dst; src = omega arith; offset = search rules; imm = fits }, tt)
sized (Remainder width Signed dst (Imm imm)) fits = (record { dst = reg_fits dst; src = omega arith; offset = search rules; imm = fits }, tt)
sized (MoveSigned From8To64 dst src) fits = (record { dst = reg_fits dst; src = reg_fits src; offset = search rules; imm = search rules }, tt)
sized (SwapBytes kind B16 dst) fits = (record { dst = reg_fits dst; src = omega arith; offset = search rules; imm = search rules }, tt)
sized (LoadWide dst value) fits = (
  record { dst = reg_fits dst; src = omega arith; offset = search rules; imm = half_fits (value % 2 ^ 32) (omega arith) },
  (record { dst = omega arith; src = omega arith; offset = search rules; imm = half_fits (value / 2 ^ 32) (omega arith) }, tt),
)
sized i fits = (record { dst = omega (arith, reg_fits); src = omega (arith, reg_fits); offset = search rules; imm = search rules }, tt)

both : (xs ys : List Slot) → AllByRecursion Sized xs → AllByRecursion Sized ys → AllByRecursion Sized (xs ++ ys)
both [] ys a b = b
both (x ∷ xs) ys a b = (a.0, both xs ys a.1 b)

all_sized : (p : List Insn) → AllByRecursion Fits p → AllByRecursion Sized (flat_map slots p)
all_sized [] fits = tt
all_sized (i ∷ p) fits = both (slots i) (flat_map slots p) (sized i fits.0) (all_sized p fits.1)

slots_back : (ss : List Slot) → AllByRecursion Sized ss → page.slots_in (flat_map slot_bytes ss) ≡ ss
slots_back [] z = refl
slots_back (s ∷ ss) z = one_slot s (flat_map slot_bytes ss) z.0 ∙ ap (λ (l : List Slot). s ∷ l) (slots_back ss z.1)

-- the slots of the bytes are the program's
pub spelled_back : (bytes : List ℕ) (program : List Insn) → Spells bytes program → page.slots_in bytes ≡ flat_map slots program
spelled_back bytes program is = ap page.slots_in is.spelled ∙ slots_back (flat_map slots program) (all_sized program is.fit)
