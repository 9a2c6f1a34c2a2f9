-- What loads and stores of the stack come to in a shape of which what is unset is not looked at.
use Rattle.std.proofs.Common.{IfErr, ◌≡◌, ◌≢◌, ◌⊎◌, ℕ, zero, suc, ◌+◌, ◌-◌, ◌*◌, ◌/◌, ◌%◌, ◌<◌, ◌≤◌, true, List, [], ◌∷◌, Option, Some, None, Result, Ok, Err, get_or, length, map, take, drop, refl, sym, ap, ◌∙◌, subst, arith, inl, inr, IfOk}
use Rattle.verifier.proofs.Names.{option_map, length-take, length-drop, length-map, eqb-true, Size}
use Rattle.verifier.proofs.Names.{Eight, Pointer, Value, Number, Address, Cell, WalkFault, size_bytes, State, at, low_bytes, may_hold}
use Rattle.verifier.proofs.Names.{number_spelled, parts_of, value_in, with_value, written, length-low_bytes, Kind, Span, SpanFits, ValueFits, Mark}
use Rattle.verifier.proofs.Names.{Block, Stack, block_at, block_mark, mark_at, value_mark, AreStored, HoldsWhole, IsNumberRead, IsLoadFault, IsStored, IsStoredWhole, IsTouched, IsWholePlace, touched}
use Rattle.verifier.proofs.Names.{IsWholePointer, StackShows}
use Rattle.verifier.proofs.Names.{Byte, PointerMisuse, UnsetByte}
use Rattle.verifier.proofs.Names.{held}
use Rattle.insn.specs.declared.state.Region.TheVariants.{Stack as InStack}
use Rattle.insn.specs.PointerLaws.{parts_only}
use Rattle.insn.specs.MemoryLaws.{length-written}
use Rattle.stack_state.proofs.Loads.{only_eight}
use Rattle.stack_state.proofs.Spelled.{low_byte}
use Rattle.stack_state.proofs.Written.{part_item, written_else, written_in}
use Rattle.verifier.proofs.States.{IsByteCell, size_some}
use Rattle.insn.specs.declared.state.Cell.TheVariants as cell
use Rattle.insn.specs.declared.verify_fault.WalkFault.TheVariants as fault
use Rattle.stack_state.specs.declared.mark.Mark.TheVariants as mark
use Rattle.stack_state.specs.declared.block.Block.TheVariants as block

-- ---- places

-- a place lies among n from another on, or elsewhere
abbrev Where : ℕ → ℕ → ℕ → Type 0
Where at n k = ((at ≤ k) × (k < at + n)) ⊎ ((k < at) ⊎ (at + n ≤ k))

where_is : (at n k : ℕ) → Where at n k
where_is at n k = grind arith

-- ---- loads

mapped_some : {X : Type 0} (f : ℕ → X) (o : Option ℕ) (x : X) → option_map f o ≡ Some x → (m : ℕ) × (o ≡ Some m)
mapped_some f None x e = absurd cc
mapped_some f (Some m) x e = (m, refl)

spelled_bytes : (cells : List Cell) (n : ℕ) → number_spelled cells ≡ Some n → (j : ℕ) → j < length cells → IsByteCell (get_or cells j cell.Unset)
spelled_bytes [] n e j lt = absurd (omega arith)
spelled_bytes (cell.Byte b ∷ cells) n e zero lt = record { n = b; is = refl }
spelled_bytes (cell.Byte b ∷ cells) n e (suc j) lt = let behind = mapped_some (λ m. b + 256 * m) (number_spelled cells) n e in spelled_bytes cells behind.0 behind.1 j (omega arith)
spelled_bytes (c ∷ cells) n e j lt = absurd cc

held_number : (cells : List Cell) (n : ℕ) → value_in cells ≡ Some (Number n) → (m : ℕ) × (number_spelled cells ≡ Some m)
held_number (cell.Byte b ∷ cells) n e = mapped_some Number (number_spelled (cell.Byte b ∷ cells)) (Number n) e
held_number cells n e = absurd (grind arith)

-- what a load gives of a shape is what is known of it
pub record IsShown (r : Result Kind WalkFault) (v : Value) : Type 0 where
  pub value : Kind
  pub is : r ≡ Ok value
  pub fits : ValueFits true value v

number_marked : (value : Kind) (n : ℕ) → value_mark value ≡ mark.Byte → ValueFits true value (Number n)
number_marked value n h1 = grind (arith)

parts_item : (p : Pointer) (j : ℕ) → j < 8 → get_or (parts_of p) j cell.Unset ≡ cell.Part p j
parts_item p j h1 = grind (arith)

module _ (stack : Stack) (cells : List Cell) (span : Span) (size : Size) (at : ℕ) (shows : StackShows stack cells) (place : SpanFits true span at) (inside : at + size_bytes size ≤ 512) where
  bytes_known : (n : ℕ) → value_in (take (size_bytes size) (drop at cells)) ≡ Some (Number n) → (k : ℕ) → IsTouched span size k → mark_at stack k ≡ mark.Byte
  bytes_known n e k t =
      let least : span.least ≡ at = place.0 in
      let greatest : span.greatest ≡ at = place.1 in
      let l = t.least in
      let g = t.greatest in
      let h = held_number (take (size_bytes size) (drop at cells)) n e in
      let long : length (take (size_bytes size) (drop at cells)) ≡ size_bytes size = let w = shows.long in omega (arith, length-take (size_bytes size) (drop at cells), length-drop at cells) in
      let byte = spelled_bytes (take (size_bytes size) (drop at cells)) h.0 h.1 (k - at) (omega arith) in
      let same : at + (k - at) ≡ k = omega arith in
      shows.bytes k byte.n (omega arith) (ap (λ (i : ℕ). get_or cells i cell.Unset) (sym same) ∙ sym (part_item cells at (size_bytes size) (k - at) cell.Unset (omega arith)) ∙ byte.is)

  number_shown : (n : ℕ) (r : Result Kind WalkFault) → value_in (take (size_bytes size) (drop at cells)) ≡ Some (Number n) → IfErr r (λ f. IsLoadFault stack span size f) → IfOk r (λ value. HoldsWhole stack span size value ⊎ IsNumberRead stack span size value) → IsShown r (Number n)
  number_shown n (Ok value) e err (inr num) = record { value = value; is = refl; fits = rw num.is tt }
  number_shown n (Ok value) e err (inl whole) =
      let first : mark_at stack at ≡ mark.Byte = bytes_known n e at (record { least = let p : span.least ≡ at = place.0 in omega arith; greatest = let p : span.greatest ≡ at = place.1 in omega (arith, size_some size) }) in
      let least : span.least ≡ at = place.0 in
      let same : block_at stack (at / 8) ≡ block.Whole value = rw (← least) whole.held in
      let is : value_mark value ≡ mark.Byte = sym (ap (λ (b : Block). block_mark b (at % 8)) same) ∙ first in
      record { value = value; is = refl; fits = number_marked value n is }
  number_shown n (Err fault.UnsetByte) e err kinds = absurd (let m : mark_at stack err.0 ≡ mark.Byte = bytes_known n e err.0 err.1 in let u : mark_at stack err.0 ≡ mark.Unset = err.2 in cc)
  number_shown n (Err fault.PointerMisuse) e err kinds = absurd (let m : mark_at stack err.1.0 ≡ mark.Byte = bytes_known n e err.1.0 err.1.1 in let u : mark_at stack err.1.0 ≡ mark.Part = err.1.2 in cc)
  number_shown n (Err other) e err kinds = absurd err

  pointer_shown : (p : Pointer) (r : Result Kind WalkFault) → take (size_bytes size) (drop at cells) ≡ parts_of p → ((value : Kind) → HoldsWhole stack span size value → r ≡ Ok value) → IsShown r (Address p)
  pointer_shown p r e whole =
      let least : span.least ≡ at = place.0 in
      let greatest : span.greatest ≡ at = place.1 in
      let long : length (take (size_bytes size) (drop at cells)) ≡ size_bytes size = let w = shows.long in omega (arith, length-take (size_bytes size) (drop at cells), length-drop at cells) in
      let eight : size_bytes size ≡ 8 = sym long ∙ ap (length {A = Cell}) e in
      let item : (j : ℕ) → j < 8 → get_or cells (at + j) cell.Unset ≡ get_or (parts_of p) j cell.Unset = λ j lt. sym (part_item cells at (size_bytes size) j cell.Unset (omega arith)) ∙ ap (λ (cs : List Cell). get_or cs j cell.Unset) e in
      let zeroth : at + 0 ≡ at = omega arith in
      let aligned : 0 ≡ at % 8 = shows.parts at 0 p (omega arith) (ap (λ (i : ℕ). get_or cells i cell.Unset) (sym zeroth) ∙ item 0 (omega arith)) in
      let same : 8 * (at / 8) ≡ at = omega arith in
      let w : IsWholePointer stack (at / 8) p = shows.whole (at / 8) p (omega arith) (λ j lt. ap (λ (i : ℕ). get_or cells (i + j) cell.Unset) same ∙ item j lt ∙ parts_item p j lt) in
      let there : HoldsWhole stack span size w.value = record {
        place = record { certain = omega arith; aligned = omega arith; eight = only_eight size eight };
        held = ap (λ (i : ℕ). block_at stack (i / 8)) least ∙ w.held;
      } in
      record { value = w.value; is = whole w.value there; fits = w.fits }

-- a load of a shape whose tests pass is answered with what it gives
pub shows_load : (stack : Stack) (cells : List Cell) (span : Span) (size : Size) (at : ℕ) (v : Value) (r : Result Kind WalkFault) → StackShows stack cells → SpanFits true span at → at + size_bytes size ≤ 512
    → value_in (take (size_bytes size) (drop at cells)) ≡ Some v → IfErr r (λ f. IsLoadFault stack span size f) → ((value : Kind) → HoldsWhole stack span size value → r ≡ Ok value)
    → IfOk r (λ value. HoldsWhole stack span size value ⊎ IsNumberRead stack span size value) → IsShown r v
shows_load stack cells span size at (Number n) r shows place inside e err whole kinds = number_shown stack cells span size at shows place inside n r e err kinds
shows_load stack cells span size at (Address p) r shows place inside e err whole kinds = pointer_shown stack cells span size at shows place inside p r (parts_only (take (size_bytes size) (drop at cells)) p e) whole

-- ---- stores

single : (span : Span) (at : ℕ) (m : Mark) → SpanFits true span at → touched span m ≡ mark.Byte
single span at m h1 = grind (arith)

-- a number's bytes, or a pointer's parts, written over the cells of a shape
module _ (old new : Stack) (cells ys : List Cell) (span : Span) (size : Size) (value : Kind) (at : ℕ) (shows : StackShows old cells) (place : SpanFits true span at) (many : length ys ≡ size_bytes size) (inside : at + size_bytes size ≤ 512) where
  room : at + length ys ≤ length cells
  room = let l = shows.long in omega arith

  new_there : (k : ℕ) → at ≤ k → k < at + size_bytes size → get_or (written cells at ys) k cell.Unset ≡ get_or ys (k - at) cell.Unset
  new_there k ge lt = written_in cells ys at k cell.Unset ge (omega arith) (let r = room in omega arith)

  new_else : (k : ℕ) → (k < at) ⊎ (at + size_bytes size ≤ k) → get_or (written cells at ys) k cell.Unset ≡ get_or cells k cell.Unset
  new_else k out = written_else cells ys at k cell.Unset (rw many out) room

  is_touched : (k : ℕ) → at ≤ k → k < at + size_bytes size → IsTouched span size k
  is_touched k ge lt = let l : span.least ≡ at = place.0 in let g : span.greatest ≡ at = place.1 in record { least = omega arith; greatest = omega arith }

  not_touched : (k : ℕ) → (k < at) ⊎ (at + size_bytes size ≤ k) → ¬ IsTouched span size k
  not_touched k h1 = grind (arith)

  module _ (byte : (j : ℕ) → j < size_bytes size → IsByteCell (get_or ys j cell.Unset)) where
    -- where a part stands after bytes were stored, it stood before
    part_else : (k j : ℕ) (p : Pointer) → get_or (written cells at ys) k cell.Unset ≡ cell.Part p j → (k < at) ⊎ (at + size_bytes size ≤ k)
    part_else k j p e = by (where_is at (size_bytes size) k) where
      by : Where at (size_bytes size) k → (k < at) ⊎ (at + size_bytes size ≤ k)
      by (inr out) = out
      by (inl (ge, lt)) =
          let b = byte (k - at) (omega arith) in
          let here : get_or (written cells at ys) k cell.Unset ≡ cell.Byte b.n = new_there k ge lt ∙ b.is in absurd (let both : cell.Byte b.n ≡ cell.Part p j = sym here ∙ e in cc)

    part_was : (k j : ℕ) (p : Pointer) → get_or (written cells at ys) k cell.Unset ≡ cell.Part p j → get_or cells k cell.Unset ≡ cell.Part p j
    part_was k j p e = sym (new_else k (part_else k j p e)) ∙ e

    bytes_shown : ((k : ℕ) → IsTouched span size k → mark_at new k ≡ mark.Byte) → ((k : ℕ) → k < 512 → ¬ IsTouched span size k → mark_at new k ≡ mark_at old k)
        → ((b : ℕ) → ((j : ℕ) → j < 8 → ¬ IsTouched span size (8 * b + j)) → block_at new b ≡ block_at old b) → StackShows new (written cells at ys)
    bytes_shown there others blocks = record {
      long = length-written cells ys at room ∙ shows.long;
      bytes = λ k n lt e. known k n lt e (where_is at (size_bytes size) k);
      parts = λ k j p lt e. shows.parts k j p lt (part_was k j p e);
      whole = λ b p lt all.
          let w = shows.whole b p lt (λ j less. part_was (8 * b + j) j p (all j less)) in
          record { value = w.value; held = blocks b (λ j less. not_touched (8 * b + j) (part_else (8 * b + j) j p (all j less))) ∙ w.held; fits = w.fits };
    } where
      known : (k n : ℕ) → k < 512 → get_or (written cells at ys) k cell.Unset ≡ cell.Byte n → Where at (size_bytes size) k → mark_at new k ≡ mark.Byte
      known k n lt e (inl (ge, less)) = there k (is_touched k ge less)
      known k n lt e (inr out) = others k lt (not_touched k out) ∙ shows.bytes k n lt (sym (new_else k out) ∙ e)

    number_shown_whole : IsWholePlace span size → IsStoredWhole span.least value old new → value_mark value ≡ mark.Byte → StackShows new (written cells at ys)
    number_shown_whole whole stored is =
        let certain = whole.certain in
        let aligned = whole.aligned in
        let eight : size_bytes size ≡ 8 = ap size_bytes whole.eight in
        bytes_shown
        (λ k t. let l = t.least in let g = t.greatest in let same : k / 8 ≡ span.least / 8 = omega arith in ap (λ (b : Block). block_mark b (k % 8)) (ap (block_at new) same ∙ stored.there) ∙ is)
        (λ k lt miss. ap (λ (b : Block). block_mark b (k % 8)) (stored.others (k / 8) (λ q. miss (record { least = omega arith; greatest = omega arith }))))
        (λ b miss. stored.others b (λ q. miss 0 (omega arith) (record { least = omega arith; greatest = omega arith })))

-- a pointer is stored whole
module _ (old new : Stack) (cells : List Cell) (span : Span) (value : Kind) (at : ℕ) (q : Pointer) (shows : StackShows old cells) (place : SpanFits true span at) (inside : at + 8 ≤ 512) (aligned : at % 8 ≡ 0) (fits : ValueFits true value (Address q)) (stored : IsStoredWhole span.least value old new) where
  abbrev after : List Cell
  after = written cells at (parts_of q)

  at_block : (k : ℕ) → Where at 8 k → (k / 8 ≡ at / 8) × (get_or after k cell.Unset ≡ cell.Part q (k % 8)) ⊎ (k / 8 ≢ at / 8) × (get_or after k cell.Unset ≡ get_or cells k cell.Unset)
  at_block k (inl (ge, lt)) =
      let l = shows.long in
      let r : k % 8 ≡ k - at = omega arith in
      inl (omega arith, written_in cells (parts_of q) at k cell.Unset ge lt (omega arith) ∙ parts_item q (k - at) (omega arith) ∙ ap (cell.Part q) (sym r))
  at_block k (inr (inl lt)) = let l = shows.long in inr (λ e. omega arith, written_else cells (parts_of q) at k cell.Unset (inl lt) (omega arith))
  at_block k (inr (inr ge)) = let l = shows.long in inr (λ e. omega arith, written_else cells (parts_of q) at k cell.Unset (inr ge) (omega arith))

  there : block_at new (at / 8) ≡ block.Whole value
  there = ap (λ (i : ℕ). block_at new (i / 8)) (sym place.0) ∙ stored.there

  others : (b : ℕ) → b ≢ at / 8 → block_at new b ≡ block_at old b
  others b ne = stored.others b (λ e. ne (e ∙ ap (λ (i : ℕ). i / 8) place.0))

  pointer_shown_whole : StackShows new after
  pointer_shown_whole = record {
    long = let l = shows.long in length-written cells (parts_of q) at (omega arith) ∙ shows.long;
    bytes = λ k n lt e.
        elim (at_block k (where_is at 8 k)) [
          | inl h ↦ absurd (let both : cell.Part q (k % 8) ≡ cell.Byte n = sym h.1 ∙ e in cc)
          | inr h ↦ ap (λ (b : Block). block_mark b (k % 8)) (others (k / 8) h.0) ∙ shows.bytes k n lt (sym h.1 ∙ e)
        ];
    parts = λ k j p lt e.
        elim (at_block k (where_is at 8 k)) [
          | inl h ↦ let both : cell.Part q (k % 8) ≡ cell.Part p j = sym h.1 ∙ e in let is : k % 8 ≡ j = cc in sym is
          | inr h ↦ shows.parts k j p lt (sym h.1 ∙ e)
        ];
    whole = λ b p lt all.
        elim (at_block (8 * b + 0) (where_is at 8 (8 * b + 0))) [
          | inl h ↦
              let here : b ≡ at / 8 = let e = h.0 in omega arith in
              let both : cell.Part q ((8 * b + 0) % 8) ≡ cell.Part p 0 = sym h.1 ∙ all 0 (omega arith) in
              let same : q ≡ p = cc in
              record { value = value; held = ap (block_at new) here ∙ there; fits = subst (λ (x : Pointer). ValueFits true value (Address x)) same fits }
          | inr h ↦
              let apart : b ≢ at / 8 = λ e. h.0 (omega arith) in
              let w = shows.whole b p lt (λ j less. elim (at_block (8 * b + j) (where_is at 8 (8 * b + j))) [ inl g ↦ absurd (let e = g.0 in h.0 (omega arith)) | inr g ↦ sym g.1 ∙ all j less ]) in
              record { value = w.value; held = others b apart ∙ w.held; fits = w.fits }
        ];
  }

-- ---- a store as a whole

value_part : (value : Kind) (q : Pointer) → ValueFits true value (Address q) → value_mark value ≡ mark.Part
value_part value q h1 = grind (arith)

value_byte : (value : Kind) (n : ℕ) → ValueFits true value (Number n) → value_mark value ≡ mark.Byte
value_byte value n h1 = grind (arith)

holds_pointer : (at : ℕ) (size : Size) (q : Pointer) → may_hold InStack at size (Address q) ≡ true → (size ≡ Eight) × (at % 8 ≡ 0)
holds_pointer at Eight q h = (refl, eqb-true (at % 8) 0 h)
holds_pointer at size q h = absurd cc

-- a store at a shape whose tests pass is not refused, and what it leaves shows the shape that it leaves
pub shows_store : (old new : Stack) (s : State) (span : Span) (size : Size) (value : Kind) (at : ℕ) (v : Value) (r : Result Unit WalkFault) → StackShows old s.stack → SpanFits true span at → at + size_bytes size ≤ 512
    → ValueFits true value v → may_hold InStack at size v ≡ true → IsStored span size value r old new → (r ≡ Ok tt) × StackShows new (with_value s InStack at size v).stack
shows_store old new s span size value at (Number n) (Ok done) shows place inside fits may stored =
    (refl, by stored) where
      many : length (low_bytes (size_bytes size) n) ≡ size_bytes size
      many = length-low_bytes (size_bytes size) n

      all : length (map cell.Byte (low_bytes (size_bytes size) n)) ≡ size_bytes size
      all = length-map (low_bytes (size_bytes size) n) cell.Byte ∙ many

      byte : (j : ℕ) → j < size_bytes size → IsByteCell (get_or (map cell.Byte (low_bytes (size_bytes size) n)) j cell.Unset)
      byte j lt = let b = low_byte (size_bytes size) n j lt in record { n = b.0; is = b.1 }

      by : (IsWholePlace span size × IsStoredWhole span.least value old new) ⊎ (¬ IsWholePlace span size × value_mark value ≡ mark.Byte × AreStored span size value old new) → StackShows new (written s.stack at (map cell.Byte (low_bytes (size_bytes size) n)))
      by (inl w) = number_shown_whole old new s.stack (map cell.Byte (low_bytes (size_bytes size) n)) span size value at shows place all inside byte w.0 w.1 (value_byte value n fits)
      by (inr w) = bytes_shown old new s.stack (map cell.Byte (low_bytes (size_bytes size) n)) span size value at shows place all inside byte (λ k t. w.2.there k t ∙ single span at (mark_at old k) place) w.2.others w.2.blocks
shows_store old new s span size value at (Number n) (Err fault) shows place inside fits may stored = absurd (let b = value_byte value n fits in let p = stored.2 in cc)
shows_store old new s span size value at (Address q) (Ok done) shows place inside fits may stored =
    let h = holds_pointer at size q may in
    let eight : size_bytes size ≡ 8 = ap size_bytes h.0 in
    elim stored [
      | inl w ↦ (refl, pointer_shown_whole old new s.stack span value at q shows place (omega arith) h.1 fits w.1)
      | inr w ↦ absurd (let b = w.1 in let p = value_part value q fits in cc)
    ]
shows_store old new s span size value at (Address q) (Err fault) shows place inside fits may stored =
    let h = holds_pointer at size q may in
    let l : span.least ≡ at = place.0 in
    absurd (stored.1 (record { certain = l ∙ sym place.1; aligned = ap (λ (i : ℕ). i % 8) l ∙ h.1; eight = h.0 }))
