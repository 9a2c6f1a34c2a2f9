-- What an operation gives by the kinds of its operands is right for all values that they hold.
use Rattle.std.proofs.Common.{◌≡◌, ◌≢◌, ◌⊎◌, ℕ, ◌<◌, ◌≤◌, Bool, true, false, Option, Some, None, Result, Ok, Err, refl, arith}
use Rattle.reg_kind.proofs.Names.{Direction, Up, Down}
use Rattle.reg_kind.proofs.Names.{nat_tests, Add, Sub, Mov, Layout, Region, InRecord, InStack, Pointer, Value, IsNumber, Address, WalkFault, FallsOff, UnsetRegister, PointerMisuse, PointerRange, at}
use Rattle.reg_kind.proofs.Names.{region_size, Tested, Passes, and_then, failed, number_held, operation_result, or_fault, Scalar, InScalar, ShowsOne, shows_one, Span, Reg, Unset, Number, Record}
use Rattle.reg_kind.proofs.Names.{Stack, NumberFits, SpanFits, RegFits, ValueFits, IsRight, StaysIn, pointer_to, AmountFits, IsShifted, move_of}
use Rattle.insn.specs.declared.operation.Width.{Width}
use Rattle.insn.specs.declared.operation.Width.TheVariants.{W32, W64}
use Rattle.insn.specs.declared.operation.UnOp.{UnOp}
use Rattle.insn.specs.declared.operation.BinOp.{BinOp}
use Rattle.insn.specs.Word.{unary_result, word_result}
use Rattle.insn.specs.Arithmetic.{moved_pointer}
use Rattle.range.specs.Domain.{IsSoundImage, IsSoundResult}
use Rattle.reg_kind.specs.Operations.{IsKindImage, IsKnownNumber, IsComputed, IsRegMove, IsKindResult, in_region, copy_of}

-- ---- operands

-- the left operand of an operation, which a move doesn't read
abbrev pub LeftFits : Bool → BinOp → Reg → Option Value → Type 0
LeftFits exact Mov a v = v ≡ Some (IsNumber 0)
LeftFits exact op a v = RegFits exact a v

abbrev pub IsNoPointer : Option Value → Type 0
IsNoPointer (Some (Address p)) = ⊥
IsNoPointer o = Unit {0}

-- the operation moves no pointer
abbrev pub MovesNone : Width → BinOp → Option Value → Option Value → Type 0
MovesNone W64 Add v u = IsNoPointer v × IsNoPointer u
MovesNone W64 Sub v u = IsNoPointer v × IsNoPointer u
MovesNone w op v u = Unit {0}

-- where it moves a pointer, a shape has kept the amount of the right operand
abbrev pub KeepsAmount : Bool → Width → BinOp → Reg → Option Value → Option Value → Type 0
KeepsAmount true w op b v u = MovesNone w op v u ⊎ IsKnownNumber b u
KeepsAmount false w op b v u = Unit {0}

-- values that two registers may hold as operands
pub record AreOperands (exact : Bool) (w : Width) (op : BinOp) (a b : Reg) (v u : Option Value) : Type 0 where
  pub left : LeftFits exact op a v
  pub right : RegFits exact b u
  pub amount : KeepsAmount exact w op b v u

-- what an operation gives by the kinds of its operands is right for all values that they hold
pub record IsResult (layout : Layout) (w : Width) (op : BinOp) (a b : Reg) (r : Result Reg WalkFault) : Type 0 where
  pub stays : StaysIn r
  pub right : (exact : Bool) (v u : Option Value) → AreOperands exact w op a b v u → IsRight (ValueFits exact) exact r (operation_result layout w op v u)

-- ---- what registers hold

pub has_pointer : (exact : Bool) (region : Region) (span : Span) (v : Option Value) → RegFits exact (pointer_to region span) v → (p : Pointer) × (v ≡ Some (Address p)) × (p.region ≡ region) × SpanFits exact span p.offset
has_pointer exact region span v h = grind arith

pub has_number : (exact : Bool) (a : Scalar) (v : Option Value) → RegFits exact (Number a) v → (n : ℕ) × (v ≡ Some (IsNumber n)) × NumberFits exact a n
has_number exact a v h = grind arith

pointer_fits : (exact : Bool) (region : Region) (span : Span) (o : ℕ) → SpanFits exact span o → ValueFits exact (pointer_to region span) (Address (at region o))
pointer_fits exact region span o h = grind arith

-- ---- pointers that are moved

-- where a span is moved to, an offset is
abbrev IsMovedTo : Bool → ℕ → Option Span → ℕ → Type 0
IsMovedTo exact size (Some t) r = (r ≤ size) × SpanFits exact t r
IsMovedTo true size None r = size < r
IsMovedTo false size None r = Unit {0}

moved_to : (exact : Bool) (op : BinOp) (size : ℕ) (span : Span) (by : Scalar) (t : Option Span) (o n : ℕ) → IsShifted op size span by t → SpanFits exact span o → AmountFits exact by n → IsMovedTo exact size t (word_result W64 op o n)
moved_to exact op size span by t o n h fits amount = grind (arith, h)

moved : (exact : Bool) (layout : Layout) (region : Region) (t : Option Span) (p : Pointer) (r : ℕ) → p.region ≡ region → IsMovedTo exact (region_size layout region) t r → IsRight (ValueFits exact) exact (in_region region t) (or_fault (moved_pointer layout p r) PointerRange)
moved exact layout region t p r e h = let there = λ (s : Span). pointer_fits exact region s r in grind (arith, nat_tests, there)

region_stays : (region : Region) (t : Option Span) → StaysIn (in_region region t)
region_stays region t = grind arith

amount_left : (exact : Bool) (way : Direction) (by : Scalar) (p : Pointer) (n : ℕ) → NumberFits exact by n → KeepsAmount exact W64 (move_of way) (Number by) (Some (Address p)) (Some (IsNumber n)) → AmountFits exact by n
amount_left exact way by p n h k = grind arith

amount_right : (exact : Bool) (region : Region) (span : Span) (by : Scalar) (p : Pointer) (n : ℕ) → NumberFits exact by n → KeepsAmount exact W64 Add (pointer_to region span) (Some (IsNumber n)) (Some (Address p)) → AmountFits exact by n
amount_right exact region span by p n h k = grind arith

-- a left operand that is read from a register
left_read : (op : BinOp) → op ≢ Mov → (exact : Bool) (a : Reg) (v : Option Value) → LeftFits exact op a v → RegFits exact a v
left_read op isnt exact a v h = grind arith

-- what comes of a pointer that is moved
move_is : (layout : Layout) (way : Direction) (p : Pointer) (n : ℕ) → operation_result layout W64 (move_of way) (Some (Address p)) (Some (IsNumber n)) ≡ or_fault (moved_pointer layout p (word_result W64 (move_of way) p.offset n)) PointerRange
move_is layout Up p n = refl
move_is layout Down p n = refl

no_copy : (way : Direction) → move_of way ≢ Mov
no_copy way e = grind arith

-- a pointer to which a number is added, or from which it is taken, and one that is added to a number
module _ (layout : Layout) (region : Region) (span : Span) (by : Scalar) (t : Option Span) where
  pointer_moved : (way : Direction) → IsShifted (move_of way) (region_size layout region) span by t → IsResult layout W64 (move_of way) (pointer_to region span) (Number by) (in_region region t)
  pointer_moved way h = record {
    stays = region_stays region t;
    right = λ exact v u o.
        let p = has_pointer exact region span v (left_read (move_of way) (no_copy way) exact (pointer_to region span) v o.left) in
        let n = has_number exact by u o.right in
        let amount = rw (p.1, n.1) at o.amount in
        rw (p.1, n.1, move_is layout way p.0 n.0) (moved exact layout region t p.0 _ p.2 (moved_to exact (move_of way) (region_size layout region) span by t p.0.offset n.0 h p.3 (amount_left exact way by p.0 n.0 n.2 amount)));
  }

  number_moved : IsShifted Add (region_size layout region) span by t → IsResult layout W64 Add (Number by) (pointer_to region span) (in_region region t)
  number_moved h = record {
    stays = region_stays region t;
    right = λ exact v u o.
        let n = has_number exact by v o.left in
        let p = has_pointer exact region span u o.right in
        let amount = rw (n.1, p.1) at o.amount in
        rw (n.1, p.1) (moved exact layout region t p.0 _ p.2 (moved_to exact Add (region_size layout region) span by t p.0.offset n.0 h p.3 (amount_right exact region span by p.0 n.0 n.2 amount)));
  }

-- ---- numbers

-- what an operation gives whose left operand is read from a register
record IsRead (layout : Layout) (w : Width) (op : BinOp) (a b : Reg) (r : Result Reg WalkFault) : Type 0 where
  stays : StaysIn r
  right : (exact : Bool) (v u : Option Value) → RegFits exact a v → RegFits exact b u → IsRight (ValueFits exact) exact r (operation_result layout w op v u)

number_read : (layout : Layout) (w : Width) (op : BinOp) (a b c : Scalar) → IsSoundResult InScalar op w a b c → IsRead layout w op (Number a) (Number b) (Ok (Number c))
number_read layout w op a b c sound = record {
  stays = tt;
  right = λ exact v u hv hu.
      let m = has_number exact a v hv in
      let n = has_number exact b u hu in
      rw (m.1, n.1) (fits exact m.0 n.0 m.2 n.2);
} where
  fits : (e : Bool) (m n : ℕ) → NumberFits e a m → NumberFits e b n → NumberFits e c (word_result w op m n)
  fits e m n hm hn = grind (arith, sound)

-- what is refused for every shape
refuses : (layout : Layout) (w : Width) (op : BinOp) (a b : Reg) (fault : WalkFault) → fault ≢ FallsOff → ((v u : Option Value) → RegFits true a v → RegFits true b u → failed (operation_result layout w op v u) ≡ Some fault) → IsRead layout w op a b (Err fault)
refuses layout w op a b fault stays fails = record { stays = stays; right = go } where
  go : (exact : Bool) (v u : Option Value) → RegFits exact a v → RegFits exact b u → IsRight (ValueFits exact) exact (Err fault) (operation_result layout w op v u)
  go true v u hv hu = fails v u hv hu
  go false v u hv hu = tt

unset_left : (layout : Layout) (w : Width) (op : BinOp) (b : Reg) → IsRead layout w op Unset b (Err UnsetRegister)
unset_left layout w op b = refuses layout w op Unset b UnsetRegister (λ e. cc) (λ v u hv hu. rw hv refl)

-- the right operand alone is unset
unset_right : (layout : Layout) (w : Width) (op : BinOp) (a : Reg) → IsRead layout w op a Unset (Err UnsetRegister)
unset_right layout w op a = refuses layout w op a Unset UnsetRegister (λ e. cc) (λ v u hv hu. rw hu (first v)) where
  first : (v : Option Value) → failed (operation_result layout w op v None) ≡ Some UnsetRegister
  first v = grind arith

-- ---- operations on numbers alone

abbrev TakesNumbers : Width → BinOp → Type 0
TakesNumbers W64 Add = ⊥
TakesNumbers W64 Sub = ⊥
TakesNumbers W64 Mov = ⊥
TakesNumbers w op = Unit {0}

-- registers of which one holds a pointer, and none is unset
abbrev IsMixedKind : Reg → Reg → Type 0
IsMixedKind Unset b = ⊥
IsMixedKind a Unset = ⊥
IsMixedKind (Number a) (Number b) = ⊥
IsMixedKind a b = Unit {0}

-- an operation that misuses all values that two registers may hold
AreMisused : Layout → Width → BinOp → Reg → Reg → Type 0
AreMisused layout w op a b = (v u : Option Value) → RegFits true a v → RegFits true b u → failed (operation_result layout w op v u) ≡ Some PointerMisuse

-- what an operation gives is right that misuses such pairs
computed_read : (layout : Layout) (w : Width) (op : BinOp) (a b : Reg) (r : Result Reg WalkFault) → (IsMixedKind a b → AreMisused layout w op a b) → IsComputed w op a b r → IsRead layout w op a b r
unfolding AreMisused
computed_read layout w op Unset b r misuse h = rw h (unset_left layout w op b)
computed_read layout w op a Unset r misuse h = rw h (unset_right layout w op a)
computed_read layout w op (Number a) (Number b) r misuse h = rw h.1 (number_read layout w op a b h.0 h.2)
computed_read layout w op a b r misuse h = rw h (refuses layout w op a b PointerMisuse (λ e. cc) (misuse tt))

misused : (layout : Layout) (w : Width) (op : BinOp) (a b : Reg) → TakesNumbers w op → IsMixedKind a b → AreMisused layout w op a b
unfolding AreMisused
misused layout w op a b t kinds v u hv hu = grind arith

read_right : (layout : Layout) (w : Width) (op : BinOp) (a b : Reg) (r : Result Reg WalkFault) → op ≢ Mov → IsRead layout w op a b r → IsResult layout w op a b r
read_right layout w op a b r isnt h = record { stays = h.stays; right = λ exact v u o. h.right exact v u (left_read op isnt exact a v o.left) o.right }

-- ---- sums and differences

-- registers of which a number and a pointer have no sum, or no difference
abbrev MovesNeither : Direction → Reg → Reg → Type 0
MovesNeither way (Record s) (Number b) = ⊥
MovesNeither way (Stack s) (Number b) = ⊥
MovesNeither Up (Number a) (Record t) = ⊥
MovesNeither Up (Number a) (Stack t) = ⊥
MovesNeither way a b = Unit {0}

not_moved : (layout : Layout) (way : Direction) (a b : Reg) → MovesNeither way a b → IsMixedKind a b → AreMisused layout W64 (move_of way) a b
unfolding AreMisused
not_moved layout way a b none kinds v u hv hu = grind arith

move_right : (layout : Layout) (way : Direction) (a b : Reg) (r : Result Reg WalkFault) → IsRegMove way layout a b r → IsResult layout W64 (move_of way) a b r
move_right layout way (Record s) (Number b) r h = rw h.result (pointer_moved layout InRecord s b _ way h.right)
move_right layout way (Stack s) (Number b) r h = rw h.result (pointer_moved layout InStack s b _ way h.right)
move_right layout Up (Number a) (Record t) r h = rw h.result (number_moved layout InRecord t a _ h.right)
move_right layout Up (Number a) (Stack t) r h = rw h.result (number_moved layout InStack t a _ h.right)
move_right layout Up a b r h = read_right layout W64 Add a b r (no_copy Up) (computed_read layout W64 Add a b r (not_moved layout Up a b tt) h)
move_right layout Down a b r h = read_right layout W64 Sub a b r (no_copy Down) (computed_read layout W64 Sub a b r (not_moved layout Down a b tt) h)

-- ---- moves

copy_right : (layout : Layout) (a b : Reg) (r : Result Reg WalkFault) → r ≡ copy_of b → IsResult layout W64 Mov a b r
copy_right layout a b r e = rw e (record { stays = stays b; right = λ exact v u o. copied exact b v u o.left o.right }) where
  stays : (b : Reg) → StaysIn (copy_of b)
  stays b = grind arith

  copied : (exact : Bool) (b : Reg) (v u : Option Value) → v ≡ Some (IsNumber 0) → RegFits exact b u → IsRight (ValueFits exact) exact (copy_of b) (operation_result layout W64 Mov v u)
  copied exact b v u e h = grind arith

-- a move of 32 bits computes with 0 on the left
low_copy_right : (layout : Layout) (a b : Reg) (zero : Scalar) (r : Result Reg WalkFault) → ShowsOne zero 0 → IsComputed W32 Mov (Number zero) b r → IsResult layout W32 Mov a b r
low_copy_right layout a b zero r shows h = record { stays = read.stays; right = λ exact v u o. read.right exact v u (left exact v o.left) o.right } where
  read : IsRead layout W32 Mov (Number zero) b r
  read = computed_read layout W32 Mov (Number zero) b r (misused layout W32 Mov (Number zero) b tt) h

  left : (exact : Bool) (v : Option Value) → v ≡ Some (IsNumber 0) → RegFits exact (Number zero) v
  left true v e = rw e tt
  left false v e = rw e ((shows_one zero 0 shows 0).1 refl)

pub low_copy_kinds : (layout : Layout) (w : Width) (op : BinOp) (a b : Reg) (zero : Scalar) (r : Result Reg WalkFault) → w ≡ W32 → op ≡ Mov → ShowsOne zero 0 → IsComputed w op (Number zero) b r → IsKindResult layout w op a b r
low_copy_kinds layout w op a b zero r e f shows h = rw (e, f) (zero, shows, rw (e, f) at h)

-- what an operation gives by the kinds of its operands is right
pub kinds_right : (layout : Layout) (w : Width) (op : BinOp) (a b : Reg) (r : Result Reg WalkFault) → IsKindResult layout w op a b r → IsResult layout w op a b r
kinds_right layout W64 Mov a b r h = copy_right layout a b r h
kinds_right layout W32 Mov a b r h = low_copy_right layout a b h.0 r h.1 h.2
kinds_right layout W64 Add a b r h = move_right layout Up a b r h
kinds_right layout W64 Sub a b r h = move_right layout Down a b r h
kinds_right layout w op a b r h = read_right layout w op a b r (λ e. absurd (cc)) (computed_read layout w op a b r (misused layout w op a b tt) h)

-- ---- one operand

-- the result of an operation on one number, where a value is one
abbrev pub image_of : UnOp → Width → Option Value → Tested Value
image_of op w v = and_then (number_held v PointerMisuse) (λ n. Passes (IsNumber (unary_result op w n)))

-- what it gives by the kind of its operand is right for every value that the register may hold
pub record IsImage (op : UnOp) (w : Width) (a : Reg) (r : Result Reg WalkFault) : Type 0 where
  pub stays : StaysIn r
  pub right : (exact : Bool) (v : Option Value) → RegFits exact a v → IsRight (ValueFits exact) exact r (image_of op w v)

number_image : (op : UnOp) (w : Width) (a c : Scalar) → IsSoundImage InScalar op w a c → (exact : Bool) (v : Option Value) → RegFits exact (Number a) v → IsRight (ValueFits exact) exact (Ok (Number c)) (image_of op w v)
number_image op w a c sound exact v f = grind (arith, sound)

no_image : (op : UnOp) (w : Width) (region : Region) (span : Span) (exact : Bool) (v : Option Value) → RegFits exact (pointer_to region span) v → IsRight (ValueFits exact) exact (Err PointerMisuse) (image_of op w v)
no_image op w region span exact v f = grind arith

unset_image : (op : UnOp) (w : Width) (exact : Bool) (v : Option Value) → RegFits exact Unset v → IsRight (ValueFits exact) exact (Err UnsetRegister) (image_of op w v)
unset_image op w exact v f = grind arith

pub images_right : (op : UnOp) (w : Width) (a : Reg) (r : Result Reg WalkFault) → IsKindImage op w a r → IsImage op w a r
images_right op w Unset r h = rw h (record { stays = λ e. cc; right = unset_image op w })
images_right op w (Number a) r h = rw h.1 (record { stays = tt; right = number_image op w a h.0 h.2 })
images_right op w (Record span) r h = rw h (record { stays = λ e. cc; right = no_image op w InRecord span })
images_right op w (Stack span) r h = rw h (record { stays = λ e. cc; right = no_image op w InStack span })
