-- What an instruction does: its slot by the page, and the instruction by insn.
use Rattle.std.proofs.Common.{◌≡◌, ℕ, suc, ◌+◌, ◌*◌, ◌-◌, ◌/◌, ◌%◌, ◌^◌, ◌<◌, ℤ, pos, negsuc, Bool, true, false, List, take, drop, Option, Some, None, refl, ap, ◌∙◌, arith}
use Rattle.std.specs.Prelude.{◌==◌, if◌then◌else◌, slice_get, is_some, option_map}
use Rattle.std.specs.Int.{w8, w16, w32, w64, cast_signed, cast_unsigned}
use Rattle.std.specs.List.{flat_map}
use Rattle.std.proofs.lemmas.Int.{of_z-to_z}
use Rattle.hook_page.proofs.Names.{Layout, Value, Number, Address, Pointer, RegNo, R0, R10, Width, W32, W64, BinOp, Add, ToLittle, ToBig}
use Rattle.hook_page.proofs.Names.{Insn, Alu64Imm, Alu32Imm, Alu64Reg, Alu32Reg, Divide, Remainder, Negate, MoveSigned, SwapBytes, LoadWide, Load, LoadSigned, StoreReg, StoreImm, Jump, JumpLong, Jump64IfImm, Jump64IfReg}
use Rattle.hook_page.proofs.Names.{Jump32IfImm, Jump32IfReg, Exit, Reg, Imm, Size, One, Two, Four, Eight, PointerMisuse, PointerRange, ExitsWithPointer}
use Rattle.insn.specs.declared.operation.AluOp.TheVariants as alu
use Rattle.insn.specs.declared.operation.Cond.TheVariants.{Eq}
use Rattle.insn.specs.declared.operation.Extension.TheVariants.{From8To64, From16To64, From32To64, From8To32, From16To32}
use Rattle.insn.specs.declared.operation.ExtendBits.TheVariants as bits
use Rattle.insn.specs.declared.operation.Extension.{Extension}
use Rattle.insn.specs.declared.operation.SignedSize.{SignedSize}
use Rattle.insn.specs.declared.operation.Signedness.TheVariants.{Unsigned, Signed}
use Rattle.insn.specs.declared.operation.SignedSize.TheVariants as signed
use Rattle.insn.specs.declared.operation.SwapKind.TheVariants.{Swap}
use Rattle.insn.specs.declared.operation.SwapBits.TheVariants as swapped
use Rattle.insn.specs.Instruction.{reg_number, size_bytes, slots_of, operation_of, division_of, remainder_of, extended_width, extended_bits, read_size, read_bits, Fits}
use Rattle.insn.specs.Program.{begins_at}
use Rattle.insn.specs.Word.{int_width, word_negated, word_extended, word_swapped, word_holds, extend_width}
use Rattle.insn.specs.Values as code
use Rattle.insn.specs.Values.{State, Config, value_of}
use Rattle.insn.specs.Effects.{Effect, Falls, Jumps, Exits, operand_value, word_of}
use Rattle.insn.specs.Arithmetic.{defined_result, left_operand}
use Rattle.insn.specs.Jumps.{target}
use Rattle.insn.specs.Outcomes.{Tested, Passes, Fails, WritesR10, passed, and_then, or_fault, held, number_held, put, outcome, operation_result, comparison, access_place, value_at, extended, stored_state, loaded}
use Rattle.encoding.specs.declared.slot.Slot.{Slot}
use Rattle.encoding.specs.Spelling.{slots, first_slot, extension_code}
use Rattle.hook_page.specs.Hooks as page
use Rattle.hook_page.specs.Hooks.{◌>>=◌, Next, Goes}
use Rattle.hook_page.proofs.Parts.{code_of, offset_of, joined, result_is, value_at_is, access_is, stored_is}
use Rattle.hook_page.proofs.Places.{IsBehind, IsFound, found, has_opcode}

module _ (layout : Layout) (program : List Insn) (c : Config) where
  abbrev pub there : List Slot
  there = flat_map slots program

  -- where an effect leads, from the slot behind the instruction
  abbrev pub led : ℕ → Effect → Option Next
  led behind (Falls s) = Some (Goes (record { slot = behind; state = s }))
  led behind (Jumps d s) = option_map (λ (to : ℕ). Goes (record { slot = to; state = s })) (target program behind d)
  led behind (Exits r0) = Some (page.Exits r0)

  abbrev pub after : ℕ → Tested Effect → Option Next
  after behind t = passed t >>= led behind

  put_is : (behind : ℕ) (r : RegNo) (v : Value) → page.put layout there behind (reg_number r) c v ≡ after behind (put c.state r v)
  put_is behind R10 v = refl
  put_is behind r v = refl

  -- ---- jumps

  jumped_is : (d : ℤ) → page.jumped layout there c d ≡ after (c.slot + 1) (Passes (Jumps d c.state))
  jumped_is (negsuc d) = refl
  jumped_is (pos d) = by (begins_at program to) (slice_get there to) (slice_get there (suc to)) (found program to) where
    to : ℕ
    to = c.slot + 1 + d

    by : (o : Option Insn) (here next : Option Slot) → IsFound o here next → (here >>= λ x. if x.opcode == 0 then None else page.goes layout there to c.state)
        ≡ option_map (λ (k : ℕ). Goes (record { slot = k; state = c.state })) (code.only_if (is_some o) (Some to))
    by None None next is = refl
    by None (Some x) next is = rw is refl
    by (Some i) here next is = rw (is.0, has_opcode i) refl

  -- ---- operations

  abbrev put_behind : RegNo → Value → Option Next
  put_behind dst v = page.put layout there (c.slot + 1) (reg_number dst) c v

  operate_is : (w : Width) (op : BinOp) (dst : RegNo) (left right : Option Value) →
      (left >>= λ a. right >>= λ b. page.result layout there (int_width w) (code_of op) (offset_of op) a b >>= λ v. put_behind dst v)
      ≡ after (c.slot + 1) (and_then (operation_result layout w op left right) (put c.state dst))
  operate_is w op dst None right = refl
  operate_is w op dst (Some a) None = refl
  operate_is w op dst (Some a) (Some b) = ap (λ (r : Option Value). r >>= λ v. put_behind dst v) (result_is layout there w op a b) ∙ by (defined_result layout w op a b) where
    by : (r : Option (Option Value)) → (joined r >>= λ v. put_behind dst v) ≡ after (c.slot + 1) (and_then (and_then (or_fault r PointerMisuse) (λ x. or_fault x PointerRange)) (put c.state dst))
    by None = refl
    by (Some None) = refl
    by (Some (Some v)) = put_is (c.slot + 1) dst v

  negate_is : (w : Width) (dst : RegNo) (o : Option Value) →
      (o >>= λ a. Some (word_of (pos 0)) >>= λ b. page.result layout there (int_width w) 0x8 (pos 0) a b >>= λ v. put_behind dst v)
      ≡ after (c.slot + 1) (and_then (number_held o PointerMisuse) (λ a. put c.state dst (Number (word_negated w a))))
  negate_is w dst None = refl
  negate_is W32 dst (Some (Number a)) = put_is (c.slot + 1) dst (Number (word_negated W32 a))
  negate_is W64 dst (Some (Number a)) = put_is (c.slot + 1) dst (Number (word_negated W64 a))
  negate_is W32 dst (Some (Address p)) = refl
  negate_is W64 dst (Some (Address p)) = refl

  byte_of_half : (a : ℕ) → a % 4294967296 % 256 ≡ a % 256
  byte_of_half a = omega arith

  quarter_of_half : (a : ℕ) → a % 4294967296 % 65536 ≡ a % 65536
  quarter_of_half a = omega arith

  move_is : (e : Extension) (dst : RegNo) (o : Option Value) →
      (o >>= λ b. page.result layout there (int_width (extended_width e)) 0xB (extension_code e) (Number 0) b >>= λ v. put_behind dst v)
      ≡ after (c.slot + 1) (and_then (number_held o PointerMisuse) (λ a. put c.state dst (Number (word_extended (extended_width e) (extended_bits e) a))))
  move_is e dst None = refl
  move_is From8To32 dst (Some (Number a)) = ap (λ (n : ℕ). put_behind dst (Number (cast_unsigned w32 (cast_signed w8 n)))) (byte_of_half a) ∙ put_is (c.slot + 1) dst (Number (word_extended W32 bits.B8 a))
  move_is From16To32 dst (Some (Number a)) = ap (λ (n : ℕ). put_behind dst (Number (cast_unsigned w32 (cast_signed w16 n)))) (quarter_of_half a) ∙ put_is (c.slot + 1) dst (Number (word_extended W32 bits.B16 a))
  move_is From8To64 dst (Some (Number a)) = put_is (c.slot + 1) dst (Number (word_extended W64 bits.B8 a))
  move_is From16To64 dst (Some (Number a)) = put_is (c.slot + 1) dst (Number (word_extended W64 bits.B16 a))
  move_is From32To64 dst (Some (Number a)) = put_is (c.slot + 1) dst (Number (word_extended W64 bits.B32 a))
  move_is From8To32 dst (Some (Address p)) = refl
  move_is From16To32 dst (Some (Address p)) = refl
  move_is From8To64 dst (Some (Address p)) = refl
  move_is From16To64 dst (Some (Address p)) = refl
  move_is From32To64 dst (Some (Address p)) = refl

  swap_is : (f : ℕ → ℕ) (dst : RegNo) (o : Option Value) → (o >>= λ v. page.number v >>= λ a. put_behind dst (Number (f a)))
      ≡ after (c.slot + 1) (and_then (number_held o PointerMisuse) (λ a. put c.state dst (Number (f a))))
  swap_is f dst None = refl
  swap_is f dst (Some (Number a)) = put_is (c.slot + 1) dst (Number (f a))
  swap_is f dst (Some (Address p)) = refl

  exit_is : (o : Option Value) → (o >>= λ v. page.number v >>= λ n. Some (page.Exits n)) ≡ after (c.slot + 1) (and_then (number_held o ExitsWithPointer) (λ n. Passes (Exits n)))
  exit_is None = refl
  exit_is (Some (Number a)) = refl
  exit_is (Some (Address p)) = refl

  wide_is : (dst : RegNo) (value : ℕ) (next : Option Slot) → value < 2 ^ 64 → IsBehind (LoadWide dst value) next →
      (next >>= λ x. page.put layout there (c.slot + 2) (reg_number dst) c (Number (cast_unsigned w32 x.imm * 2 ^ 32 + cast_unsigned w32 (cast_signed w32 (value % 2 ^ 32)))))
      ≡ after (c.slot + 2) (put c.state dst (Number value))
  wide_is dst value next fits is =
      let high : cast_unsigned w32 (cast_signed w32 (value / 2 ^ 32)) ≡ value / 2 ^ 32 = of_z-to_z w32 (value / 2 ^ 32) (omega arith) in
      let low : cast_unsigned w32 (cast_signed w32 (value % 2 ^ 32)) ≡ value % 2 ^ 32 = of_z-to_z w32 (value % 2 ^ 32) (omega arith) in
      let whole : cast_unsigned w32 (cast_signed w32 (value / 2 ^ 32)) * 2 ^ 32 + cast_unsigned w32 (cast_signed w32 (value % 2 ^ 32)) ≡ value = rw (high, low) (omega arith) in
      rw is (ap (λ (n : ℕ). page.put layout there (c.slot + 2) (reg_number dst) c (Number n)) whole ∙ put_is (c.slot + 2) dst (Number value))

  -- ---- loads and stores

  read_is : (size : Size) (o : Option Value) (offset : ℤ) (rest : Value → Option Next) (k : Value → Tested Effect) → ((v : Value) → rest v ≡ after (c.slot + 1) (k v)) →
      (o >>= λ base. page.access layout there offset (size_bytes size) base >>= λ p. page.value_in (take (size_bytes size) (drop p.offset (page.cells_of c.state p.region))) >>= rest)
      ≡ after (c.slot + 1) (and_then (held o) (λ base. and_then (loaded layout c.state base offset size) k))
  read_is size None offset rest k same = refl
  read_is size (Some base) offset rest k same = ap (λ (r : Option Pointer). r >>= λ p. page.value_in (take (size_bytes size) (drop p.offset (page.cells_of c.state p.region))) >>= rest) (access_is layout there base offset size) ∙ by (access_place layout base offset size) where
    with_value : (t : Tested Value) → (passed t >>= rest) ≡ after (c.slot + 1) (and_then t k)
    with_value (Passes v) = same v
    with_value (Fails f) = refl
    with_value WritesR10 = refl

    by : (t : Tested Pointer) → (passed t >>= λ p. page.value_in (take (size_bytes size) (drop p.offset (page.cells_of c.state p.region))) >>= rest)
        ≡ after (c.slot + 1) (and_then (and_then t (λ place. value_at c.state place size)) k)
    by (Passes p) = ap (λ (r : Option Value). r >>= rest) (value_at_is c.state p size) ∙ with_value (value_at c.state p size)
    by (Fails f) = refl
    by WritesR10 = refl

  load_is : (size : Size) (dst : RegNo) (o : Option Value) (offset : ℤ) →
      (o >>= λ base. page.access layout there offset (size_bytes size) base >>= λ p. page.value_in (take (size_bytes size) (drop p.offset (page.cells_of c.state p.region))) >>= λ v. put_behind dst v)
      ≡ after (c.slot + 1) (and_then (held o) (λ base. and_then (loaded layout c.state base offset size) (λ v. and_then (extended None v) (put c.state dst))))
  load_is size dst o offset = read_is size o offset (λ v. put_behind dst v) (λ v. and_then (extended None v) (put c.state dst)) (put_is (c.slot + 1) dst)

  load_signed_is : (size : SignedSize) (dst : RegNo) (o : Option Value) (offset : ℤ) →
      (o >>= λ base. page.access layout there offset (size_bytes (read_size size)) base >>= λ p. page.value_in (take (size_bytes (read_size size)) (drop p.offset (page.cells_of c.state p.region)))
      >>= λ v. page.number v >>= λ n. put_behind dst (Number (page.extended (extend_width (read_bits size)) w64 n)))
      ≡ after (c.slot + 1) (and_then (held o) (λ base. and_then (loaded layout c.state base offset (read_size size)) (λ v. and_then (extended (Some (read_bits size)) v) (put c.state dst))))
  load_signed_is size dst o offset = read_is (read_size size) o offset _ (λ v. and_then (extended (Some (read_bits size)) v) (put c.state dst)) same where
    same : (v : Value) → (page.number v >>= λ n. put_behind dst (Number (page.extended (extend_width (read_bits size)) w64 n))) ≡ after (c.slot + 1) (and_then (extended (Some (read_bits size)) v) (put c.state dst))
    same (Number a) = put_is (c.slot + 1) dst (Number (word_extended W64 (read_bits size) a))
    same (Address p) = refl

  store_is : (size : Size) (o v : Option Value) (offset : ℤ) →
      (o >>= λ base. v >>= λ x. page.access layout there offset (size_bytes size) base >>= λ p. page.stored c.state p.region p.offset (size_bytes size) x >>= λ s. page.goes layout there (c.slot + 1) s)
      ≡ after (c.slot + 1) (and_then (held o) (λ base. and_then (held v) (λ x. and_then (access_place layout base offset size) (λ place. and_then (stored_state layout c.state place size x) (λ new. Passes (Falls new))))))
  store_is size None v offset = refl
  store_is size (Some base) None offset = refl
  store_is size (Some base) (Some x) offset = ap (λ (r : Option Pointer). r >>= λ p. page.stored c.state p.region p.offset (size_bytes size) x >>= λ s. page.goes layout there (c.slot + 1) s) (access_is layout there base offset size) ∙ by (access_place layout base offset size) where
    left : (t : Tested State) → (passed t >>= λ s. page.goes layout there (c.slot + 1) s) ≡ after (c.slot + 1) (and_then t (λ new. Passes (Falls new)))
    left (Passes s) = refl
    left (Fails f) = refl
    left WritesR10 = refl

    by : (t : Tested Pointer) → (passed t >>= λ p. page.stored c.state p.region p.offset (size_bytes size) x >>= λ s. page.goes layout there (c.slot + 1) s)
        ≡ after (c.slot + 1) (and_then t (λ place. and_then (stored_state layout c.state place size x) (λ new. Passes (Falls new))))
    by (Passes p) = ap (λ (r : Option State). r >>= λ s. page.goes layout there (c.slot + 1) s) (stored_is layout c.state p.region p.offset size x) ∙ left (stored_state layout c.state p size x)
    by (Fails f) = refl
    by WritesR10 = refl

  -- ---- conditional jumps

  branch_is : (test : ℕ → ℕ → Bool) (left right : Option Value) (offset : ℤ) →
      (left >>= λ a. right >>= λ b. page.number a >>= λ m. page.number b >>= λ n. if test m n then page.jumped layout there c offset else page.goes layout there (c.slot + 1) c.state)
      ≡ after (c.slot + 1) (and_then (comparison left right) (λ ns. if test ns.0 ns.1 then Passes (Jumps offset c.state) else Passes (Falls c.state)))
  branch_is test None right offset = refl
  branch_is test (Some a) None offset = refl
  branch_is test (Some (Address p)) (Some b) offset = refl
  branch_is test (Some (Number m)) (Some (Address p)) offset = refl
  branch_is test (Some (Number m)) (Some (Number n)) offset = by (test m n) where
    by : (b : Bool) → (if b then page.jumped layout there c offset else page.goes layout there (c.slot + 1) c.state) ≡ after (c.slot + 1) (if b then Passes (Jumps offset c.state) else Passes (Falls c.state))
    by true = jumped_is offset
    by false = refl

  -- ---- instructions

  pub effect_is : (i : Insn) → Fits i → IsBehind i (slice_get there (c.slot + 1)) → page.effect layout there (first_slot i) c ≡ after (c.slot + slots_of i) (outcome layout i c.state)
  effect_is (Alu64Imm alu.Add dst imm) f b = operate_is W64 Add dst (left_operand Add c.state dst) (operand_value c.state (Imm imm))
  effect_is (Alu64Imm op dst imm) f b = operate_is W64 (operation_of op) dst (left_operand (operation_of op) c.state dst) (operand_value c.state (Imm imm))
  effect_is (Alu64Reg alu.Add dst src) f b = operate_is W64 Add dst (left_operand Add c.state dst) (operand_value c.state (Reg src))
  effect_is (Alu64Reg op dst src) f b = operate_is W64 (operation_of op) dst (left_operand (operation_of op) c.state dst) (operand_value c.state (Reg src))
  effect_is (Alu32Imm alu.Add dst imm) f b = operate_is W32 Add dst (left_operand Add c.state dst) (operand_value c.state (Imm imm))
  effect_is (Alu32Imm op dst imm) f b = operate_is W32 (operation_of op) dst (left_operand (operation_of op) c.state dst) (operand_value c.state (Imm imm))
  effect_is (Alu32Reg alu.Add dst src) f b = operate_is W32 Add dst (left_operand Add c.state dst) (operand_value c.state (Reg src))
  effect_is (Alu32Reg op dst src) f b = operate_is W32 (operation_of op) dst (left_operand (operation_of op) c.state dst) (operand_value c.state (Reg src))
  effect_is (Divide W32 Unsigned dst (Imm imm)) f b = operate_is W32 (division_of Unsigned) dst (value_of c.state.registers dst) (operand_value c.state (Imm imm))
  effect_is (Divide W32 Unsigned dst (Reg src)) f b = operate_is W32 (division_of Unsigned) dst (value_of c.state.registers dst) (operand_value c.state (Reg src))
  effect_is (Divide W32 Signed dst (Imm imm)) f b = operate_is W32 (division_of Signed) dst (value_of c.state.registers dst) (operand_value c.state (Imm imm))
  effect_is (Divide W32 Signed dst (Reg src)) f b = operate_is W32 (division_of Signed) dst (value_of c.state.registers dst) (operand_value c.state (Reg src))
  effect_is (Divide W64 Unsigned dst (Imm imm)) f b = operate_is W64 (division_of Unsigned) dst (value_of c.state.registers dst) (operand_value c.state (Imm imm))
  effect_is (Divide W64 Unsigned dst (Reg src)) f b = operate_is W64 (division_of Unsigned) dst (value_of c.state.registers dst) (operand_value c.state (Reg src))
  effect_is (Divide W64 Signed dst (Imm imm)) f b = operate_is W64 (division_of Signed) dst (value_of c.state.registers dst) (operand_value c.state (Imm imm))
  effect_is (Divide W64 Signed dst (Reg src)) f b = operate_is W64 (division_of Signed) dst (value_of c.state.registers dst) (operand_value c.state (Reg src))
  effect_is (Remainder W32 Unsigned dst (Imm imm)) f b = operate_is W32 (remainder_of Unsigned) dst (value_of c.state.registers dst) (operand_value c.state (Imm imm))
  effect_is (Remainder W32 Unsigned dst (Reg src)) f b = operate_is W32 (remainder_of Unsigned) dst (value_of c.state.registers dst) (operand_value c.state (Reg src))
  effect_is (Remainder W32 Signed dst (Imm imm)) f b = operate_is W32 (remainder_of Signed) dst (value_of c.state.registers dst) (operand_value c.state (Imm imm))
  effect_is (Remainder W32 Signed dst (Reg src)) f b = operate_is W32 (remainder_of Signed) dst (value_of c.state.registers dst) (operand_value c.state (Reg src))
  effect_is (Remainder W64 Unsigned dst (Imm imm)) f b = operate_is W64 (remainder_of Unsigned) dst (value_of c.state.registers dst) (operand_value c.state (Imm imm))
  effect_is (Remainder W64 Unsigned dst (Reg src)) f b = operate_is W64 (remainder_of Unsigned) dst (value_of c.state.registers dst) (operand_value c.state (Reg src))
  effect_is (Remainder W64 Signed dst (Imm imm)) f b = operate_is W64 (remainder_of Signed) dst (value_of c.state.registers dst) (operand_value c.state (Imm imm))
  effect_is (Remainder W64 Signed dst (Reg src)) f b = operate_is W64 (remainder_of Signed) dst (value_of c.state.registers dst) (operand_value c.state (Reg src))
  effect_is (Negate W32 dst) f b = negate_is W32 dst (value_of c.state.registers dst)
  effect_is (Negate W64 dst) f b = negate_is W64 dst (value_of c.state.registers dst)
  effect_is (MoveSigned From8To64 dst src) f b = move_is From8To64 dst (value_of c.state.registers src)
  effect_is (MoveSigned From16To64 dst src) f b = move_is From16To64 dst (value_of c.state.registers src)
  effect_is (MoveSigned From32To64 dst src) f b = move_is From32To64 dst (value_of c.state.registers src)
  effect_is (MoveSigned From8To32 dst src) f b = move_is From8To32 dst (value_of c.state.registers src)
  effect_is (MoveSigned From16To32 dst src) f b = move_is From16To32 dst (value_of c.state.registers src)
  effect_is (SwapBytes ToLittle swapped.B16 dst) f b = swap_is (word_swapped ToLittle swapped.B16) dst (value_of c.state.registers dst)
  effect_is (SwapBytes ToLittle swapped.B32 dst) f b = swap_is (word_swapped ToLittle swapped.B32) dst (value_of c.state.registers dst)
  effect_is (SwapBytes ToLittle swapped.B64 dst) f b = swap_is (word_swapped ToLittle swapped.B64) dst (value_of c.state.registers dst)
  effect_is (SwapBytes ToBig swapped.B16 dst) f b = swap_is (word_swapped ToBig swapped.B16) dst (value_of c.state.registers dst)
  effect_is (SwapBytes ToBig swapped.B32 dst) f b = swap_is (word_swapped ToBig swapped.B32) dst (value_of c.state.registers dst)
  effect_is (SwapBytes ToBig swapped.B64 dst) f b = swap_is (word_swapped ToBig swapped.B64) dst (value_of c.state.registers dst)
  effect_is (SwapBytes Swap swapped.B16 dst) f b = swap_is (word_swapped Swap swapped.B16) dst (value_of c.state.registers dst)
  effect_is (SwapBytes Swap swapped.B32 dst) f b = swap_is (word_swapped Swap swapped.B32) dst (value_of c.state.registers dst)
  effect_is (SwapBytes Swap swapped.B64 dst) f b = swap_is (word_swapped Swap swapped.B64) dst (value_of c.state.registers dst)
  effect_is (LoadWide dst value) f b = wide_is dst value (slice_get there (c.slot + 1)) f b
  effect_is (Load One dst src offset) f b = load_is One dst (value_of c.state.registers src) offset
  effect_is (Load Two dst src offset) f b = load_is Two dst (value_of c.state.registers src) offset
  effect_is (Load Four dst src offset) f b = load_is Four dst (value_of c.state.registers src) offset
  effect_is (Load Eight dst src offset) f b = load_is Eight dst (value_of c.state.registers src) offset
  effect_is (LoadSigned signed.One dst src offset) f b = load_signed_is signed.One dst (value_of c.state.registers src) offset
  effect_is (LoadSigned signed.Two dst src offset) f b = load_signed_is signed.Two dst (value_of c.state.registers src) offset
  effect_is (LoadSigned signed.Four dst src offset) f b = load_signed_is signed.Four dst (value_of c.state.registers src) offset
  effect_is (StoreReg One dst src offset) f b = store_is One (value_of c.state.registers dst) (operand_value c.state (Reg src)) offset
  effect_is (StoreImm One dst offset imm) f b = store_is One (value_of c.state.registers dst) (operand_value c.state (Imm imm)) offset
  effect_is (StoreReg Two dst src offset) f b = store_is Two (value_of c.state.registers dst) (operand_value c.state (Reg src)) offset
  effect_is (StoreImm Two dst offset imm) f b = store_is Two (value_of c.state.registers dst) (operand_value c.state (Imm imm)) offset
  effect_is (StoreReg Four dst src offset) f b = store_is Four (value_of c.state.registers dst) (operand_value c.state (Reg src)) offset
  effect_is (StoreImm Four dst offset imm) f b = store_is Four (value_of c.state.registers dst) (operand_value c.state (Imm imm)) offset
  effect_is (StoreReg Eight dst src offset) f b = store_is Eight (value_of c.state.registers dst) (operand_value c.state (Reg src)) offset
  effect_is (StoreImm Eight dst offset imm) f b = store_is Eight (value_of c.state.registers dst) (operand_value c.state (Imm imm)) offset
  effect_is (Jump offset) f b = jumped_is offset
  effect_is (JumpLong offset) f b = jumped_is offset
  effect_is (Jump64IfImm Eq dst offset imm) f b = branch_is (word_holds W64 Eq) (value_of c.state.registers dst) (operand_value c.state (Imm imm)) offset
  effect_is (Jump64IfImm cond dst offset imm) f b = branch_is (word_holds W64 cond) (value_of c.state.registers dst) (operand_value c.state (Imm imm)) offset
  effect_is (Jump64IfReg Eq dst src offset) f b = branch_is (word_holds W64 Eq) (value_of c.state.registers dst) (operand_value c.state (Reg src)) offset
  effect_is (Jump64IfReg cond dst src offset) f b = branch_is (word_holds W64 cond) (value_of c.state.registers dst) (operand_value c.state (Reg src)) offset
  effect_is (Jump32IfImm Eq dst offset imm) f b = branch_is (word_holds W32 Eq) (value_of c.state.registers dst) (operand_value c.state (Imm imm)) offset
  effect_is (Jump32IfImm cond dst offset imm) f b = branch_is (word_holds W32 cond) (value_of c.state.registers dst) (operand_value c.state (Imm imm)) offset
  effect_is (Jump32IfReg Eq dst src offset) f b = branch_is (word_holds W32 Eq) (value_of c.state.registers dst) (operand_value c.state (Reg src)) offset
  effect_is (Jump32IfReg cond dst src offset) f b = branch_is (word_holds W32 cond) (value_of c.state.registers dst) (operand_value c.state (Reg src)) offset
  effect_is Exit f b = exit_is (value_of c.state.registers R0)
