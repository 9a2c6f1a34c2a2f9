-- Laws of shapes: what comes of an instruction in a state and in its shape is the same, but for amounts.
use Rattle.std.proofs.Common.{◌≡◌, ℕ, zero, suc, ◌+◌, ◌/◌, Bool, ℤ, List, [], ◌∷◌, map, set, Option, Some, None, refl, sym, ap, ◌∙◌, arith}
use Rattle.verifier.specs.Names.{option_map, RegNo, R0, Width, W64, BinOp, Add, Sub, Mov, Operand, Reg, Imm, Insn, Layout, Pointer, Value, Number, Address, Cell, Byte, Part, WalkFault, PointerMisuse}
use Rattle.verifier.specs.Names.{ExitsWithPointer, reg_number, size_bytes, State, value_of, Effect, Falls, Jumps, Exits, operand_value, Action, Operate, Convert, LoadWord, LoadFrom, StoreAt}
use Rattle.verifier.specs.Names.{Go, End, action_of, comparison, fault_at, passed}
use Rattle.std.specs.Prelude.{◌&&◌, ◌==◌}
use Rattle.std.specs.List.{list_any}
use Rattle.std.specs.Int.{w64, cast_unsigned}
use Rattle.std.proofs.lemmas.List.{drop-map, length-map, map-append, map-set, take-map}
use Rattle.std.proofs.Math.ListN.{get_or-map}
use Rattle.insn.specs.declared.operation.Size.{Size}
use Rattle.insn.specs.declared.state.Region.{Region}
use Rattle.insn.specs.declared.state.Region.TheVariants.{Record, Stack}
use Rattle.insn.specs.Values.{cells_of}
use Rattle.insn.specs.Memory.{are_parts, cells_at, is_unset, low_bytes, number_spelled, parts_of, same_pointer, value_in, with_number, written}
use Rattle.insn.specs.Word.{unary_result}
use Rattle.insn.specs.Arithmetic.{defined_result, left_operand}
use Rattle.insn.specs.declared.action.Action.TheVariants.{Branch}
use Rattle.insn.specs.Outcomes.{Tested, Passes, Fails, WritesR10, access_place, action_outcome, all_set, and_then, failed, held, loaded, number, number_held, operation_result, or_fault, outcome, put}
use Rattle.insn.specs.Outcomes.{stored_state, value_at}
use Rattle.verifier.specs.Shapes.{MovesNone, NoMovedPointer, blank_cell, blank_value, shape_of}

-- ---- what comes of a test, seen through a function

abbrev pub seen : {A B : Type 0} → (A → B) → Tested A → Tested B
seen f (Passes x) = Passes (f x)
seen f (Fails fault) = Fails fault
seen f WritesR10 = WritesR10

-- what looks the same goes on so, where what comes next does
pub go_on : {A B C D : Type 0} (f : A → B) (g : C → D) (t u : Tested A) (k l : A → Tested C) → seen f t ≡ seen f u → ((x y : A) → f x ≡ f y → seen g (k x) ≡ seen g (l y)) → seen g (and_then t k) ≡ seen g (and_then u l)
go_on f g t u k l e next = grind (arith, next)

pub failed-seen : {A B : Type 0} (f : A → B) (t : Tested A) → failed (seen f t) ≡ failed t
failed-seen f t = grind arith

pub passed-seen : {A B : Type 0} (f : A → B) (t : Tested A) → passed (seen f t) ≡ option_map f (passed t)
passed-seen f t = grind arith

-- ---- what a shape holds

abbrev pub blank : Option Value → Option Value
blank = option_map blank_value

pub value_twice : (v : Value) → blank_value (blank_value v) ≡ blank_value v
value_twice v = grind arith

blank_twice : (o : Option Value) → blank (blank o) ≡ blank o
blank_twice o = grind (arith, value_twice)

abbrev pub no_amount : ℕ → ℕ
no_amount b = 0

cell_twice : (c : Cell) → blank_cell (blank_cell c) ≡ blank_cell c
cell_twice c = grind arith

map_twice : {A : Type 0} (f : A → A) → ((x : A) → f (f x) ≡ f x) → (xs : List A) → map f (map f xs) ≡ map f xs
map_twice f twice [] = refl
map_twice f twice (x ∷ xs) = rw (twice x, map_twice f twice xs) refl

abbrev pub state_with : List (Option Value) → List ℕ → List Cell → State
state_with r b c = record { registers = r; bytes = b; stack = c }

same_state : {r q : List (Option Value)} {b d : List ℕ} {s t : List Cell} → r ≡ q → b ≡ d → s ≡ t → state_with r b s ≡ state_with q d t
same_state e f g = rw (e, f, g) refl

registers_twice : (s : State) → map blank (map blank s.registers) ≡ map blank s.registers
registers_twice s = map_twice blank blank_twice s.registers

bytes_twice : (s : State) → map no_amount (map no_amount s.bytes) ≡ map no_amount s.bytes
bytes_twice s = map_twice no_amount (λ b. refl) s.bytes

stack_twice : (s : State) → map blank_cell (map blank_cell s.stack) ≡ map blank_cell s.stack
stack_twice s = map_twice blank_cell cell_twice s.stack

-- a shape is its own shape
pub shape_twice : (s : State) → shape_of (shape_of s) ≡ shape_of s
shape_twice s = same_state (registers_twice s) (bytes_twice s) (stack_twice s)

pub shape_value : (s : State) (r : RegNo) → value_of (shape_of s).registers r ≡ blank (value_of s.registers r)
shape_value s r = get_or-map (option_map blank_value) s.registers (reg_number r) None

left-shape : (op : BinOp) (s : State) (r : RegNo) → left_operand op (shape_of s) r ≡ blank (left_operand op s r)
left-shape Mov s r = refl
left-shape op s r = shape_value s r

-- ---- values that are wanted

-- an operand of a shape is that of the state, or the same number
operand-shape : (s : State) (operand : Operand) → blank (operand_value (shape_of s) operand) ≡ blank (operand_value s operand)
operand-shape s (Reg r) = ap blank (shape_value s r) ∙ blank_twice (value_of s.registers r)
operand-shape s (Imm imm) = refl

held-alike : (o q : Option Value) → blank o ≡ blank q → seen blank_value (held o) ≡ seen blank_value (held q)
held-alike o q e = grind arith

register-alike : (s : State) (r : RegNo) → seen blank_value (held (value_of (shape_of s).registers r)) ≡ seen blank_value (held (value_of s.registers r))
register-alike s r = held-alike (value_of (shape_of s).registers r) (value_of s.registers r) (operand-shape s (Reg r))

number_held-alike : (s : State) (r : RegNo) (fault : WalkFault) → seen no_amount (number_held (value_of (shape_of s).registers r) fault) ≡ seen no_amount (number_held (value_of s.registers r) fault)
number_held-alike s r fault = go_on blank_value no_amount _ _ (λ v. number v fault) (λ v. number v fault) (register-alike s r) (λ v u e. grind arith)

-- ---- operations

-- the operation moves no pointer by a register
abbrev pub Unmoved : Width → BinOp → Value → Value → Type 0
Unmoved W64 Add (Address p) b = ⊥
Unmoved W64 Add a (Address q) = ⊥
Unmoved W64 Sub (Address p) b = ⊥
Unmoved W64 Sub a (Address q) = ⊥
Unmoved w op a b = Unit {0}

abbrev blank_result : Option (Option Value) → Option (Option Value)
blank_result = option_map blank

-- the left operand may lose its amount, beside a number, and both may where no pointer is moved
result-left : (layout : Layout) (w : Width) (op : BinOp) (a : Value) (n : ℕ) → blank_result (defined_result layout w op (blank_value a) (Number n)) ≡ blank_result (defined_result layout w op a (Number n))
result-left layout w op a n = grind arith

result-both : (layout : Layout) (w : Width) (op : BinOp) (a b : Value) → Unmoved w op a b → blank_result (defined_result layout w op (blank_value a) (blank_value b)) ≡ blank_result (defined_result layout w op a b)
result-both layout w op a b h = grind arith

module _ (layout : Layout) (w : Width) (op : BinOp) where
  number-operand : (left : Option Value) (n : ℕ) → seen blank_value (operation_result layout w op (blank left) (Some (Number n))) ≡ seen blank_value (operation_result layout w op left (Some (Number n)))
  number-operand left n = grind (arith, result-left layout w op)

  register-operand : (left right : Option Value) → ((x y : Value) → left ≡ Some x → right ≡ Some y → Unmoved w op x y) → seen blank_value (operation_result layout w op (blank left) (blank right)) ≡ seen blank_value (operation_result layout w op left right)
  register-operand left right still = grind (arith, result-both layout w op, still)

-- ---- loads

shape_cells : (s : State) (region : Region) → cells_of (shape_of s) region ≡ map blank_cell (cells_of s region)
shape_cells s Stack = refl
shape_cells s Record = bytes s.bytes where
  bytes : (bs : List ℕ) → map Byte (map (λ _. 0) bs) ≡ map blank_cell (map Byte bs)
  bytes [] = refl
  bytes (b ∷ bs) = ap (λ (cells : List Cell). Byte 0 ∷ cells) (bytes bs)

shape_cells_at : (s : State) (region : Region) (at n : ℕ) → cells_at (shape_of s) region at n ≡ map blank_cell (cells_at s region at n)
shape_cells_at s region at n = rw shape_cells (simp (drop-map, take-map))

unset-blank : (cells : List Cell) → list_any is_unset (map blank_cell cells) ≡ list_any is_unset cells
unset-blank [] = refl
unset-blank (c ∷ cells) = grind (arith, unset-blank cells)

parts-blank : (p : Pointer) (k : ℕ) (cells : List Cell) → are_parts p k (map blank_cell cells) ≡ are_parts p k cells
parts-blank p k (Part q j ∷ cells) = ap (λ (b : Bool). same_pointer p q && (j == k) && b) (parts-blank p (k + 1) cells)
parts-blank p k cells = refl

-- bytes without their amounts spell 0
zero_spelled : (cells : List Cell) → number_spelled (map blank_cell cells) ≡ option_map (λ _. 0) (number_spelled cells)
zero_spelled (Byte b ∷ cells) = let rest = zero_spelled cells in grind (arith, rest)
zero_spelled cells = refl

value_in-blank : (cells : List Cell) → value_in (map blank_cell cells) ≡ blank (value_in cells)
value_in-blank (Byte b ∷ cells) = let spelled = zero_spelled (Byte b ∷ cells) in grind (arith, spelled)
value_in-blank (Part p k ∷ cells) = let parts = parts-blank p 0 (Part p k ∷ cells) in grind (arith, parts)
value_in-blank cells = refl

-- the place of an access is that of the state
place-alike : (layout : Layout) (v u : Value) (offset : ℤ) (size : Size) → blank_value v ≡ blank_value u → access_place layout v offset size ≡ access_place layout u offset size
place-alike layout v u offset size e = grind arith

read-alike : (cells : List Cell) → seen blank_value (and_then (all_set (map blank_cell cells)) (λ c. or_fault (value_in c) PointerMisuse)) ≡ seen blank_value (and_then (all_set cells) (λ c. or_fault (value_in c) PointerMisuse))
read-alike cells = let unset = unset-blank cells in let read = value_in-blank cells in grind (arith, unset, read, value_twice)

value_at-shape : (s : State) (p q : Pointer) (size : Size) → p ≡ q → seen blank_value (value_at (shape_of s) p size) ≡ seen blank_value (value_at s q size)
value_at-shape s p q size same = rw (same, shape_cells_at s q.region q.offset (size_bytes size)) (read-alike (cells_at s q.region q.offset (size_bytes size)))

loaded-alike : (layout : Layout) (s : State) (v u : Value) (offset : ℤ) (size : Size) → blank_value v ≡ blank_value u → seen blank_value (loaded layout (shape_of s) v offset size) ≡ seen blank_value (loaded layout s u offset size)
loaded-alike layout s v u offset size e = go_on (λ (p : Pointer). p) blank_value _ _ _ _ (ap (seen (λ (p : Pointer). p)) (place-alike layout v u offset size e)) (λ p q same. value_at-shape s p q size same)

-- ---- stores

map-written : {A B : Type 0} (f : A → B) (xs ys : List A) (at : ℕ) → map f (written xs at ys) ≡ written (map f xs) at (map f ys)
map-written f xs ys at = simp (map-append, take-map, drop-map, length-map)

-- items that are written into a list and into its image look the same there
written-alike : {A : Type 0} (f : A → A) → ((x : A) → f (f x) ≡ f x) → (xs ys zs : List A) (at : ℕ) → map f ys ≡ map f zs → map f (written (map f xs) at ys) ≡ map f (written xs at zs)
written-alike f twice xs ys zs at e = simp map-written (rw (map_twice f twice xs, e) refl)

zero_bytes : (n a b : ℕ) → map no_amount (low_bytes n a) ≡ map no_amount (low_bytes n b)
zero_bytes zero a b = refl
zero_bytes (suc n) a b = ap (λ (l : List ℕ). 0 ∷ l) (zero_bytes n (a / 256) (b / 256))

zero_cells : (n a b : ℕ) → map blank_cell (map Byte (low_bytes n a)) ≡ map blank_cell (map Byte (low_bytes n b))
zero_cells zero a b = refl
zero_cells (suc n) a b = ap (λ (l : List Cell). Byte 0 ∷ l) (zero_cells n (a / 256) (b / 256))

number-written : (s : State) (region : Region) (at n a b : ℕ) → shape_of (with_number (shape_of s) region at n a) ≡ shape_of (with_number s region at n b)
number-written s Record at n a b = same_state (registers_twice s) (written-alike no_amount (λ k. refl) s.bytes (low_bytes n a) (low_bytes n b) at (zero_bytes n a b)) (stack_twice s)
number-written s Stack at n a b = same_state (registers_twice s) (bytes_twice s) (written-alike blank_cell cell_twice s.stack (map Byte (low_bytes n a)) (map Byte (low_bytes n b)) at (zero_cells n a b))

module _ (layout : Layout) (s : State) (p : Pointer) (size : Size) where
  stored-alike : (v u : Value) → blank_value v ≡ blank_value u → seen shape_of (stored_state layout (shape_of s) p size v) ≡ seen shape_of (stored_state layout s p size u)
  stored-alike (Number a) (Number b) e = let same = number-written s p.region p.offset (size_bytes size) a b in grind (arith, same)
  stored-alike (Address q) (Address r) e =
      let there : q ≡ r = cc in
      let same = same_state (registers_twice s) (bytes_twice s) (written-alike blank_cell cell_twice s.stack (parts_of r) (parts_of r) p.offset refl) in
      rw there (grind (arith, same))
  stored-alike v u e = absurd cc

stored-there : (layout : Layout) (s : State) (p q : Pointer) (size : Size) (v u : Value) → p ≡ q → blank_value v ≡ blank_value u → seen shape_of (stored_state layout (shape_of s) p size v) ≡ seen shape_of (stored_state layout s q size u)
stored-there layout s p q size v u same e = ap (λ (r : Pointer). seen shape_of (stored_state layout (shape_of s) r size v)) same ∙ stored-alike layout s q size v u e

-- ---- instructions

-- what an effect leads to, without its amounts
abbrev pub blank_effect : Effect → Effect
blank_effect (Falls s) = Falls (shape_of s)
blank_effect (Jumps d s) = Jumps d (shape_of s)
blank_effect (Exits r0) = Exits 0

put-alike : (s : State) (r : RegNo) (v u : Value) → blank_value v ≡ blank_value u → seen blank_effect (put (shape_of s) r v) ≡ seen blank_effect (put s r u)
put-alike s r v u e =
    let registers : map blank (set (map blank s.registers) (reg_number r) (Some v)) ≡ map blank (set s.registers (reg_number r) (Some u)) = simp map-set (rw (registers_twice s, e) refl) in
    let same = same_state registers (bytes_twice s) (stack_twice s) in
    grind (arith, same)

unmoved : (w : Width) (op : BinOp) (s : State) (dst src : RegNo) → MovesNone (Operate w op dst (Reg src)) s → (x y : Value) → left_operand op s dst ≡ Some x → value_of s.registers src ≡ Some y → Unmoved w op x y
unmoved w op s dst src h x y e f = grind arith

operated-shape : (layout : Layout) (w : Width) (op : BinOp) (s : State) (dst : RegNo) (operand : Operand) → MovesNone (Operate w op dst operand) s
    → seen blank_value (operation_result layout w op (left_operand op (shape_of s) dst) (operand_value (shape_of s) operand)) ≡ seen blank_value (operation_result layout w op (left_operand op s dst) (operand_value s operand))
operated-shape layout w op s dst (Imm imm) h = rw left-shape (number-operand layout w op (left_operand op s dst) (cast_unsigned w64 imm))
operated-shape layout w op s dst (Reg src) h = rw (left-shape, shape_value s src) (register-operand layout w op (left_operand op s dst) (value_of s.registers src) (unmoved w op s dst src h))

-- that a comparison is made does not hang on amounts
abbrev any_numbers : ℕ × ℕ → Unit {0}
any_numbers both = tt

compared-shape : (s : State) (dst : RegNo) (operand : Operand) → seen any_numbers (comparison (value_of (shape_of s).registers dst) (operand_value (shape_of s) operand)) ≡ seen any_numbers (comparison (value_of s.registers dst) (operand_value s operand))
compared-shape s dst operand =
    go_on blank_value any_numbers _ _ _ _ (register-alike s dst) (λ v u e.
    go_on blank_value any_numbers _ _ _ _ (held-alike (operand_value (shape_of s) operand) (operand_value s operand) (operand-shape s operand)) (λ x y f. grind arith))

-- what a shape shows of an effect: of a conditional jump not which way it goes
abbrev pub shown_of : Action → Effect → Effect
shown_of (Branch w cond dst operand offset) e = Exits 0
shown_of action e = blank_effect e

-- what comes of an instruction at a shape is what comes of it in the state, but for amounts
pub outcome-shape : (layout : Layout) (action : Action) (s : State) → MovesNone action s → seen (shown_of action) (action_outcome layout action (shape_of s)) ≡ seen (shown_of action) (action_outcome layout action s)
outcome-shape layout (Operate w op dst operand) s h = go_on blank_value blank_effect _ _ _ _ (operated-shape layout w op s dst operand h) (put-alike s dst)
outcome-shape layout (Convert w op dst src) s h = go_on no_amount blank_effect _ _ _ _ (number_held-alike s src PointerMisuse) (λ a b e. put-alike s dst (Number (unary_result op w a)) (Number (unary_result op w b)) refl)
outcome-shape layout (LoadWord dst n) s h = put-alike s dst (Number n) (Number n) refl
outcome-shape layout (LoadFrom size extension dst src offset) s h =
    go_on blank_value blank_effect _ _ _ _ (register-alike s src) (λ v u e.
    go_on blank_value blank_effect _ _ _ _ (loaded-alike layout s v u offset size e) (λ x y f.
    go_on blank_value blank_effect _ _ _ _ (grind arith) (put-alike s dst)))
outcome-shape layout (StoreAt size dst offset operand) s h =
    go_on blank_value blank_effect _ _ _ _ (register-alike s dst) (λ v u e.
    go_on blank_value blank_effect _ _ _ _ (held-alike (operand_value (shape_of s) operand) (operand_value s operand) (operand-shape s operand)) (λ x y f.
    go_on (λ (p : Pointer). p) blank_effect _ _ _ _ (ap (seen (λ (p : Pointer). p)) (place-alike layout v u offset size e)) (λ p q same.
    go_on shape_of blank_effect _ _ _ _ (stored-there layout s p q size x y same f) (λ t r g. ap (λ (z : State). Passes (Falls z)) g))))
outcome-shape layout (Go offset) s h = ap (λ (t : State). Passes (Jumps offset t)) (shape_twice s)
outcome-shape layout (Branch w cond dst operand offset) s h = go_on any_numbers (λ (e : Effect). Exits 0) _ _ _ _ (compared-shape s dst operand) (λ x y e. grind arith)
outcome-shape layout End s h = go_on no_amount blank_effect _ _ _ _ (number_held-alike s R0 ExitsWithPointer) (λ a b e. refl)

-- a state and its shape have the same fault
pub same_fault : (layout : Layout) (i : Insn) (s : State) → NoMovedPointer i s → fault_at layout i (shape_of s) ≡ fault_at layout i s
same_fault layout i s h =
    sym (failed-seen (shown_of (action_of i)) (outcome layout i (shape_of s))) ∙ ap failed (outcome-shape layout (action_of i) s h) ∙ failed-seen (shown_of (action_of i)) (outcome layout i s)
