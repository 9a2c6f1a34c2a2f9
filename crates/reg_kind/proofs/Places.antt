-- Where accesses begin, and which places may be written.
use Rattle.std.proofs.Common.{◌≡◌, ℕ, ◌+◌, ◌-◌, ◌<◌, ◌≤◌, ℤ, pos, negsuc, Bool, true, false, Option, Some, None, Result, Ok, Err, ◌⊎◌, arith, refl, ap}
use Rattle.reg_kind.proofs.Names.{Up}
use Rattle.reg_kind.proofs.Names.{◌≤ℤ◌, ◌+ℤ◌, ints, nat_tests, Layout, Region, InRecord, InStack, Pointer, Address, WalkFault, UnsetRegister, PointerMisuse, OutOfRegion, region_size, access_place}
use Rattle.reg_kind.proofs.Names.{Value, Span, Reg, Unset, Number, Record, Stack, Scalar, IsRight, RegFits, SpanFits, pointer_to, span_raised}
use Rattle.std.proofs.lemmas.Bool.{le-leb, lt-leb}
use Rattle.insn.specs.declared.operation.Size.{Size}
use Rattle.insn.specs.Instruction.{size_bytes}
use Rattle.insn.specs.Memory.{place_of, within, is_writable}
use Rattle.insn.specs.MemoryLaws.{size_at_most}
use Rattle.reg_kind.specs.declared.place.Place.{Place}
use Rattle.reg_kind.specs.Accesses.{IsAccess, IsAt, accessed, is_place_writable, place_at, place_behind, place_in}
use Rattle.reg_kind.proofs.Shifts.{IsBetween, between_span, moved_between, inside, outside_of, span_ends}
use Rattle.reg_kind.proofs.Results.{has_pointer}

-- ---- writable places

-- what is said of a place's bytes is right of each offset: where they may all be written, each may, and at a shape's one offset exactly then
pub writable_right : (exact : Bool) (layout : Layout) (place : Place) (n at : ℕ) (answer : Bool) → is_place_writable layout place n ≡ answer → SpanFits exact place.span at → (exact ≡ true) ⊎ (answer ≡ true) → is_writable layout place.region at n ≡ answer
writable_right exact layout place n at answer e h either = grind (arith, nat_tests)

-- ---- accesses

eight : (layout : Layout) (region : Region) → 8 ≤ region_size layout region
eight layout region = grind arith

pub few : (layout : Layout) (region : Region) (size : Size) → size_bytes size ≤ region_size layout region
few layout region size = omega (arith, eight layout region, size_at_most size)

within_is : (size n r : ℕ) (z : ℤ) → n ≤ size → pos r ≡ z → r ≤ size - n → within size z n ≡ Some r
within_is size n r z few e le = rw (← e) (let t = le-leb (r + n) size (omega arith) in rw t refl)

not_within : (size n : ℕ) (z : ℤ) → n ≤ size → (pos 0 ≤ℤ z → z ≤ℤ pos (size - n) → ⊥) → within size z n ≡ None
not_within size n (negsuc k) few h = refl
not_within size n (pos k) few h = let out : size < k + n = (let le = λ (l : k ≤ size - n). h (omega (arith, ints)) (omega (arith, ints)) in grind (arith, le)) in let t = lt-leb (k + n) size out in rw t refl

-- a place that stands for those behind the offsets of a span
place_begins : (exact : Bool) (layout : Layout) (region : Region) (span t : Span) (offset : ℤ) (size : Size) (p : Pointer) → Some t ≡ span_raised (region_size layout region - size_bytes size) span offset offset → p.region ≡ region → SpanFits exact span p.offset
    → IsRight (IsAt exact) exact (Ok (record { region = region; span = t })) (access_place layout (Address p) offset size)
place_begins exact layout region span t offset size p e at fits =
    let i = inside exact (region_size layout region - size_bytes size) _ _ (pos p.offset +ℤ offset) t e (moved_between exact Up _ _ _ offset offset offset (between_span exact span p.offset fits) (itself exact offset)) in
    let r = natural (pos p.offset +ℤ offset) i.from in
    let le : r.0 ≤ region_size layout region - size_bytes size = (let to = i.to in let same = r.1 in omega (arith, ints)) in
    let there : within (region_size layout p.region) (place_of p offset) (size_bytes size) ≡ Some r.0 = rw at (within_is (region_size layout region) (size_bytes size) r.0 (pos p.offset +ℤ offset) (few layout region size) r.1 le) in
    rw there (at, i.fits r.0 r.1) where
      itself : (exact : Bool) (z : ℤ) → IsBetween exact z z z
      itself exact z = record { above = omega (arith, ints); below = omega (arith, ints); alone = λ e. (refl, refl) }

      natural : (z : ℤ) → pos 0 ≤ℤ z → (r : ℕ) × (pos r ≡ z)
      natural (pos k) h = (k, refl)
      natural (negsuc k) h = absurd (omega (arith, ints))

access_right : (layout : Layout) (region : Region) (span : Span) (offset : ℤ) (size : Size) (r : Result Place WalkFault) → r ≡ place_in layout region span offset (size_bytes size) → IsAccess layout (pointer_to region span) offset size r
access_right layout region span offset size r e = rw e (go (span_raised (region_size layout region - size_bytes size) span offset offset) refl) where
  gone : (p : Pointer) → p.region ≡ region → SpanFits true span p.offset → None ≡ span_raised (region_size layout region - size_bytes size) span offset offset → within (region_size layout p.region) (place_of p offset) (size_bytes size) ≡ None
  gone p at fits none = rw at (not_within (region_size layout region) (size_bytes size) (pos p.offset +ℤ offset) (few layout region size) (outside_of (region_size layout region - size_bytes size) _ _ (pos p.offset +ℤ offset) (ap (λ (o : ℕ). pos o +ℤ offset) fits.0) (ap (λ (o : ℕ). pos o +ℤ offset) fits.1) none))

  refused : (exact : Bool) (p : Pointer) → p.region ≡ region → SpanFits exact span p.offset → None ≡ span_raised (region_size layout region - size_bytes size) span offset offset → IsRight (IsAt exact) exact (Err OutOfRegion) (access_place layout (Address p) offset size)
  refused true p at fits none = rw (gone p at fits none) refl
  refused false p at fits none = tt

  go : (o : Option Span) → o ≡ span_raised (region_size layout region - size_bytes size) span offset offset → IsAccess layout (pointer_to region span) offset size (place_at region o)
  go None none = record { stays = λ f. cc; inside = tt; right = λ exact v h. let p = has_pointer exact region span v h in rw p.1 (refused exact p.0 p.2 p.3 none) }
  go (Some t) some = record {
    stays = tt;
    inside = let le = (span_ends (region_size layout region - size_bytes size) _ _ t some).3 in omega (arith, le, few layout region size);
    right = λ exact v h. let p = has_pointer exact region span v h in rw p.1 (place_begins exact layout region span t offset size p.0 some p.2 p.3);
  }

unset_access : (layout : Layout) (offset : ℤ) (size : Size) (exact : Bool) (v : Option Value) → RegFits exact Unset v → IsRight (IsAt exact) exact (Err UnsetRegister) (accessed layout v offset size)
unset_access layout offset size exact v h = grind arith

number_access : (layout : Layout) (a : Scalar) (offset : ℤ) (size : Size) (exact : Bool) (v : Option Value) → RegFits exact (Number a) v → IsRight (IsAt exact) exact (Err PointerMisuse) (accessed layout v offset size)
number_access layout a offset size exact v h = grind arith

-- an access by what is known of a register is right
pub kinds_access : (layout : Layout) (a : Reg) (offset : ℤ) (size : Size) (r : Result Place WalkFault) → r ≡ place_behind layout a offset (size_bytes size) → IsAccess layout a offset size r
kinds_access layout Unset offset size r e = rw e (record { stays = λ f. cc; inside = tt; right = unset_access layout offset size })
kinds_access layout (Number a) offset size r e = rw e (record { stays = λ f. cc; inside = tt; right = number_access layout a offset size })
kinds_access layout (Record span) offset size r e = access_right layout InRecord span offset size r e
kinds_access layout (Stack span) offset size r e = access_right layout InStack span offset size r e
