-- The links that instructions make, and the rows of the table: what they leave follows, and what they refuse is the first test that fails.
use Rattle.std.proofs.Common.{◌≡◌, ◌≢◌, ℕ, ◌+◌, ◌*◌, ◌/◌, ◌%◌, ◌^◌, ◌<◌, ◌≤◌, ◌==◌, if◌then◌else◌, Bool, true, false, List, ℤ, Option, Some, None, Ok, get_or, set, length, refl, sym, ap, ◌∙◌, subst, arith, ◌⊎◌, Result, Err, inl, inr}
use Rattle.verifier.proofs.Names.{InStates, AsShape, WhereSet, Reading, RegIs, is_exact, IsSome, fault_at, stuck_is_named, AreLinked, left_operand, cast_unsigned, Decides-eqb, get_or-set_other, get_or-set_same, Insn, Reg, Imm, Action, Operate, Convert, LoadWord, LoadFrom, StoreAt, Go, End, IsNarrowed}
use Rattle.verifier.proofs.Names.{ExitsWithPointer, BinOp, Layout, Sub, Mov, Width, RegNo, R10, R0, Value, Number, Address, reg_number}
use Rattle.verifier.proofs.Names.{State, at, value_of, Kind, RegFits, ValueFits, IsKindResult, number_in_reg, Scalar, InScalar-words, InScalar}
use Rattle.verifier.proofs.Names.{Effect, Exits, Falls, Jumps, word_of, register_written_by, distance_in, action_of, Fails, Tested, action_outcome, and_then, effect, operation_result}
use Rattle.verifier.proofs.Names.{passed, put, Passes, outcome, int_width, word_result, wrapped, effects, shape_of, NoMovedPointer, both_ways, branch_in, Flow, Jump, Next, Known, Bits}
use Rattle.verifier.proofs.Names.{Link, StateFits, FlowFits, FlowIs, Follows, WritesNoR10, reg_of, FlowOf, comparison_of, FlowTo, IsLinked, LeavesRow}
use Rattle.verifier.proofs.Names.{IsSoundRow, LeavesKnown, Receives, flow_where, test_of, AreValuesLinked, LinkHolds, Links, LinksHold, bits_after, copied, difference_from, less}
use Rattle.verifier.proofs.Names.{link_at, link_kept, link_made, link_of, plus_after, WalkFault}
use Rattle.std.specs.Int.{w64}
use Rattle.insn.specs.Outcomes.{WritesR10}
use Rattle.links.specs.Links.{link_after}
use Rattle.verifier.specs.declared.known.Flow.TheVariants.{Branch, Exit}
use Rattle.scalar.specs.Bounds.{least_word, greatest_word}
use Rattle.links.proofs.Linked.{are_same, bind_some, is_less, made_too, not_same, related_after}
use Rattle.verifier.proofs.States.{reg_fits, set_to, blank_fits, set_fits}
use Rattle.links.proofs.Linked.{reg_below}
use Rattle.verifier.proofs.Steps.{store_right, branch_right, exit_right, Gives, IsRightAt, IsRowRight, converts_put, given_by, in_reading, loads_put, right_then, wrong_then, given_right}
use Rattle.reg_kind.specs.declared.reg.Reg.TheVariants as kind
use Rattle.verifier.proofs.Names.{W64, Pointer, Place, Region, Span, Stack, Cell, Eight, accessed, access_place, stored_state, held, value_at, with_value, written, place_behind, IsAt, BlockFits, block_at, block_cells, cells_filled, read, extended}
use Rattle.verifier.specs.Kinds.{block_in, block_of_place, home_made, home_of}
use Rattle.links.specs.Links.{HomeHolds, home_at, is_equal, lesser, link_moved, mask_of, moved_by, moved_from}
use Rattle.verifier.proofs.Names.{Add, IsKnownNumber, Lowest, shows_one}
use Rattle.links.proofs.Linked.{moved_of, related_moved}
use Rattle.insn.specs.declared.state.Region.TheVariants as region
use Rattle.stack_state.specs.declared.block.Block.TheVariants as block
use Rattle.stack_state.proofs.Spelled.{number_read}
use Rattle.stack_state.proofs.Stores.{length-filled}
use Rattle.stack_state.proofs.Written.{part_written}
use Rattle.verifier.proofs.Steps.{access_right, RightIn}
use Rattle.insn.specs.declared.action.Action.TheVariants as action
use Rattle.insn.specs.declared.operation.BinOp.TheVariants.{And}
use Rattle.links.specs.declared.link.Bits.TheVariants.{Masked}

-- ---- what a link is made of

record IsLinkOf (register : RegNo) (link : Link) (made : RegNo × Link) : Type 0 where
  is : made ≡ (register, link)
  other : reg_number link.of ≢ reg_number register

link_is : (register : RegNo) (link : Link) (made : RegNo × Link) → link_of register link ≡ Some made → IsLinkOf register link made
link_is register link made e = let told = Decides-eqb (reg_number register) (reg_number link.of) in record { is = grind (arith, told); other = λ same. grind (arith, told) }

-- it is the link that was there, after an operation on its register and a constant
record IsKept (register : RegNo) (w : Width) (op : BinOp) (imm : ℤ) (o : Option Link) (made : RegNo × Link) : Type 0 where
  link : Link
  was : o ≡ Some link
  bits : Bits
  told : bits_after w op imm (is_equal link.relation link.plus) link.bits ≡ Some bits
  is : IsLinkOf register (record link { plus = plus_after op imm link.plus; bits = bits }) made

kept_is : (register : RegNo) (w : Width) (op : BinOp) (imm : ℤ) (o : Option Link) (made : RegNo × Link) → link_kept register (w, op, imm) o ≡ Some made → IsKept register w op imm o made
kept_is register w op imm None made e = absurd cc
kept_is register w op imm (Some link) made e =
    let after = bind_some (link_after w op imm link) (link_of register) made e in
    let bits = bind_some (bits_after w op imm (is_equal link.relation link.plus) link.bits) (λ bits. Some (record link { plus = plus_after op imm link.plus; bits = bits })) after.0 after.1 in
    let some : Some (record link { plus = plus_after op imm link.plus; bits = bits.0 }) ≡ Some after.0 = bits.2 in
    let same : record link { plus = plus_after op imm link.plus; bits = bits.0 } ≡ after.0 = cc in
    record { link = link; was = refl; bits = bits.0; told = bits.1; is = link_is register (record link { plus = plus_after op imm link.plus; bits = bits.0 }) made (ap (link_of register) same ∙ after.2) }

-- it is that of a constant from which another number was taken
record IsTaken (w : Width) (register of : RegNo) (left right : Kind) (made : RegNo × Link) : Type 0 where
  a : Scalar
  b : Scalar
  left_is : left ≡ kind.Number a
  right_is : right ≡ kind.Number b
  one : least_word a ≡ greatest_word a
  is : IsLinkOf register (less (least_word a) of w) made

taken_is : (w : Width) (register of : RegNo) (left right : Kind) (made : RegNo × Link) → difference_from w register of left right ≡ Some made → IsTaken w register of left right made
taken_is w register of (kind.Number a) (kind.Number b) made e =
    let told = Decides-eqb (least_word a) (greatest_word a) in
    record { a = a; b = b; left_is = refl; right_is = refl; one = grind (arith, told); is = link_is register (less (least_word a) of w) made (grind (arith, told)) }
taken_is w register of left right made e = absurd cc

-- ---- the state behind an instruction

given_after : (s t : State) (dst : RegNo) (x : Tested Value) → dst ≢ R10 → passed (and_then x (put s dst)) ≡ Some (Falls t) → (v : Value) × (x ≡ Passes v) × (t.registers ≡ set s.registers (reg_number dst) (Some v))
given_after s t dst (Passes v) other e = (v, refl, registers (record s { registers = set s.registers (reg_number dst) (Some v) }) (ap passed (sym (set_to s dst v other)) ∙ e)) where
  registers : (u : State) → Some (Falls u) ≡ Some (Falls t) → t.registers ≡ u.registers
  registers u e = cc
given_after s t dst x other e = absurd cc

-- a link of a register that is written holds, if it does of each number that it is given
link_holds : (s t : State) (dst : RegNo) (x : Tested Value) (link : Link) (made : RegNo × Link) → length s.registers ≡ 11 → dst ≢ R10 → passed (and_then x (put s dst)) ≡ Some (Falls t) → IsLinkOf dst link made
    → ((n m : ℕ) → x ≡ Passes (Number n) → value_of s.registers link.of ≡ Some (Number m) → AreLinked link m n) → LinkHolds (Some made.1) (reg_number made.0) t.registers
link_holds s t dst x link made long other done l holds =
    let g = given_after s t dst x other done in
    let here : value_of t.registers dst ≡ Some g.0 = ap (λ (xs : List (Option Value)). get_or xs (reg_number dst) None) g.2 ∙ get_or-set_same s.registers (reg_number dst) (Some g.0) None (let b = reg_below dst in omega arith) in
    let there : value_of t.registers link.of ≡ value_of s.registers link.of = ap (λ (xs : List (Option Value)). get_or xs (reg_number link.of) None) g.2 ∙ get_or-set_other s.registers (reg_number dst) (reg_number link.of) (Some g.0) None l.other in
    rw l.is (λ a b p q.
    let same : Some g.0 ≡ Some (Number b) = sym here ∙ q in
    let v_is : g.0 ≡ Number b = cc in
    holds b a (g.1 ∙ ap Passes v_is) (sym there ∙ p))

-- a copied number
copied_word : (layout : Layout) (w : Width) (m n : ℕ) → operation_result layout w Mov (Some (Number 0)) (Some (Number m)) ≡ Passes (Number n) → wrapped (int_width w) n ≡ wrapped (int_width w) (m + 0)
copied_word layout w m n h1 = grind (arith)

-- a number that an operation on a link's register and a constant gives
number_given : (layout : Layout) (w : Width) (op : BinOp) (imm : ℤ) (equal : Bool) (bits after : Bits) (o : Option Value) (c n : ℕ) → bits_after w op imm equal bits ≡ Some after → operation_result layout w op o (Some (Number c)) ≡ Passes (Number n)
    → (m : ℕ) × (o ≡ Some (Number m)) × (n ≡ word_result w op m c)
number_given layout w op imm equal bits after None c n told e = absurd (grind arith)
number_given layout w op imm equal bits after (Some (Number m)) c n told e = (m, refl, grind (arith))
number_given layout w op imm equal bits after (Some (Address p)) c n told e = absurd (grind arith)

left_of : (w : Width) (op : BinOp) (imm : ℤ) (equal : Bool) (bits after : Bits) (s : State) (dst : RegNo) → bits_after w op imm equal bits ≡ Some after → left_operand op s dst ≡ value_of s.registers dst
left_of w op imm equal bits after s dst told = grind arith

-- a number that a register holds of which something is known is a word
word_held : (k : Kind) (m : ℕ) → (k ≡ kind.Unset → ⊥) → RegFits false k (Some (Number m)) → m < 2 ^ 64
word_held k m h1 h2 = grind (arith)

-- an operation whose left operand is unset gives nothing
left_known : (layout : Layout) (w : Width) (op : BinOp) (imm : ℤ) (equal : Bool) (bits after : Bits) (right value : Kind) → bits_after w op imm equal bits ≡ Some after → IsKindResult layout w op kind.Unset right (Ok value) → ⊥
left_known layout w op imm equal bits after right value told h = grind arith

-- a constant is a word
constant_word : (k : Kind) (n : ℕ) → IsKnownNumber k (Some (Number n)) → n < 2 ^ 64
constant_word (kind.Number a) n h = InScalar-words a n ((shows_one a n h n).1 refl)
constant_word k n h = absurd h

-- what a link that is moved was
record WasMoved (dst : RegNo) (w : Width) (op : BinOp) (imm : ℤ) (k : ℕ) (o : Option Link) (link : Link) : Type 0 where
  was : Link
  there : o ≡ Some was
  apart : k ≢ reg_number dst
  of : reg_number was.of ≡ reg_number dst
  same : link.of ≡ was.of
  is : link_moved w op imm was ≡ Some link

was_moved : (dst : RegNo) (w : Width) (op : BinOp) (imm : ℤ) (k : ℕ) (o : Option Link) (link : Link) → moved_from dst (w, op, imm) k o ≡ Some link → WasMoved dst w op imm k o link
was_moved dst w op imm k None link e = absurd cc
was_moved dst w op imm k (Some was) link e = by (reg_number dst == k) (reg_number dst == reg_number was.of) refl refl e where
  by : (t u : Bool) → (reg_number dst == k) ≡ t → (reg_number dst == reg_number was.of) ≡ u → (if t then None else if u then link_moved w op imm was else None) ≡ Some link → WasMoved dst w op imm k (Some was) link
  by true u p q e = absurd cc
  by false true p q e = record { was = was; there = refl; apart = not_same (reg_number dst) k p; of = are_same (reg_number dst) (reg_number was.of) q; same = moved_of w op imm was link e; is = e }
  by false false p q e = absurd cc

-- the link that an instruction makes is none that it moves
never_moved : (registers : List Kind) (links : Links) (action : Action) (m : RegNo × Link) (l : Option Link) (link : Link) → link_made registers links action ≡ Some m → moved_by action (reg_number m.0) l ≡ Some link → ⊥
never_moved registers links (Operate w Add dst (Imm imm)) m l link e q =
    (was_moved dst w Add imm (reg_number m.0) l link q).apart (ap (λ (x : RegNo × Link). reg_number x.0) (kept_is dst w Add imm (link_at links (reg_number dst)) m e).is.is)
never_moved registers links (Operate w And dst (Imm imm)) m l link e q =
    (was_moved dst w And imm (reg_number m.0) l link q).apart (ap (λ (x : RegNo × Link). reg_number x.0) (kept_is dst w And imm (link_at links (reg_number dst)) m e).is.is)
never_moved registers links action m l link e q = absurd cc

pub made_unmoved : (registers : List Kind) (links : Links) (action : Action) (m : RegNo × Link) (l : Option Link) → link_made registers links action ≡ Some m → moved_by action (reg_number m.0) l ≡ None
made_unmoved registers links action m l e = by (moved_by action (reg_number m.0) l) refl where
  by : (o : Option Link) → moved_by action (reg_number m.0) l ≡ o → moved_by action (reg_number m.0) l ≡ None
  by None q = q
  by (Some link) q = absurd (never_moved registers links action m l link e q)

number_held : (a : Scalar) (o : Option Value) → RegFits false (kind.Number a) o → (n : ℕ) × (o ≡ Some (Number n)) × InScalar a n
number_held a (Some (Number n)) f = (n, refl, f)
number_held a o f = absurd f

module _ (layout : Layout) (old : Known) (s t : State) (f : StateFits InStates layout old s) where
  fits_as : (r : RegNo) (k : Kind) (o : Option Value) → reg_of old r ≡ k → value_of s.registers r ≡ o → RegFits false k o
  fits_as r k o is at = rw (← is, ← at) (reg_fits InStates layout old s r f)

  -- the link that an instruction makes holds behind it
  pub made_holds : (action : Action) (made : RegNo × Link) (between : Known) → register_written_by action ≢ Some R10 → link_made old.registers old.links action ≡ Some made → LeavesRow layout action old between (Ok Next)
      → passed (action_outcome layout action s) ≡ Some (Falls t) → LinkHolds (Some made.1) (reg_number made.0) t.registers
  made_holds (Operate w Mov dst (Reg src)) made between other e row done =
      link_holds s t dst (operation_result layout w Mov (Some (Number 0)) (value_of s.registers src)) (copied src w) made f.long (λ q. other (ap Some q)) done (link_is dst (copied src w) made e) (λ n m gave at. copied_word layout w m n (rw at at gave))
  made_holds (Operate w Sub dst (Reg src)) made between other e row done =
      let r = taken_is w dst src (reg_of old dst) (reg_of old src) made e in
      let left = number_held r.a (value_of s.registers dst) (fits_as dst (kind.Number r.a) (value_of s.registers dst) r.left_is refl) in
      let c : left.0 ≡ least_word r.a = let one = r.one in let above = left.2.unsigned.above in let below = left.2.unsigned.below in omega arith in
      link_holds s t dst (operation_result layout w Sub (value_of s.registers dst) (value_of s.registers src)) (less (least_word r.a) src w) made f.long (λ q. other (ap Some q)) done r.is (λ n m gave at.
      let given : operation_result layout w Sub (Some (Number left.0)) (Some (Number m)) ≡ Passes (Number n) = rw (left.1, at) at gave in
      let is : word_result w Sub left.0 m ≡ n = cc in
      rw (← is, ← c) (is_less w left.0 m (InScalar-words r.b m (fits_as src (kind.Number r.b) (Some (Number m)) r.right_is at))))
  made_holds (Operate w op dst (Imm imm)) made between other e row done =
      let r = kept_is dst w op imm (link_at old.links (reg_number dst)) made e in
      let was : AreValuesLinked r.link (value_of s.registers r.link.of) (value_of s.registers dst) = rw r.was at (f.links (reg_number dst) (reg_below dst)).0 in
      let link : Link = record r.link { plus = plus_after op imm r.link.plus; bits = r.bits } in
      link_holds s t dst (operation_result layout w op (left_operand op s dst) (Some (word_of imm))) link made f.long (λ q. other (ap Some q)) done r.is (λ n m gave at.
      let k = number_given layout w op imm (is_equal r.link.relation r.link.plus) r.link.bits r.bits (left_operand op s dst) (cast_unsigned w64 imm) n r.told gave in
      let there : value_of s.registers dst ≡ Some (Number k.0) = sym (left_of w op imm (is_equal r.link.relation r.link.plus) r.link.bits r.bits s dst r.told) ∙ k.1 in
      let word = word_held (reg_of old dst) k.0 (λ unset. left_known layout w op imm (is_equal r.link.relation r.link.plus) r.link.bits r.bits row.1.0 row.0 r.told (rw unset at row.1.2)) (fits_as dst (reg_of old dst) (Some (Number k.0)) refl there) in
      rw k.2 (related_after r.link.relation w op imm r.link.bits r.bits r.link.plus m k.0 word r.told (was m k.0 at there)))
  made_holds action made between other e row done = absurd cc

  -- and so does a link of another register with the one that is written that is moved
  moved_holds : (w : Width) (op : BinOp) (dst : RegNo) (imm : ℤ) (k : ℕ) (link : Link) (after : Bits) (between : Known) → k < 11 → dst ≢ R10 → bits_after w op imm true (Lowest w) ≡ Some after → WasMoved dst w op imm k (link_at old.links k) link
      → LeavesRow layout (Operate w op dst (Imm imm)) old between (Ok Next) → passed (action_outcome layout (Operate w op dst (Imm imm)) s) ≡ Some (Falls t) → LinkHolds (Some link) k t.registers
  moved_holds w op dst imm k link after between lt other told r row done =
      let g = given_after s t dst (operation_result layout w op (left_operand op s dst) (Some (word_of imm))) other done in
      let here : value_of t.registers dst ≡ Some g.0 = ap (λ (xs : List (Option Value)). get_or xs (reg_number dst) None) g.2 ∙ get_or-set_same s.registers (reg_number dst) (Some g.0) None (let b = reg_below dst in let l = f.long in omega arith) in
      let stays : get_or t.registers k None ≡ get_or s.registers k None = ap (λ (xs : List (Option Value)). get_or xs k None) g.2 ∙ get_or-set_other s.registers (reg_number dst) k (Some g.0) None r.apart in
      let was : AreValuesLinked r.was (value_of s.registers r.was.of) (get_or s.registers k None) = rw r.there at (f.links k lt).0 in
      λ a b p q.
      let there : value_of t.registers link.of ≡ value_of t.registers dst = ap (λ (n : ℕ). get_or t.registers n None) (ap reg_number r.same ∙ r.of) in
      let same : Some g.0 ≡ Some (Number a) = sym here ∙ sym there ∙ p in
      let v_is : g.0 ≡ Number a = cc in
      let m = number_given layout w op imm true (Lowest w) after (left_operand op s dst) (cast_unsigned w64 imm) a told (g.1 ∙ ap Passes v_is) in
      let own : value_of s.registers dst ≡ Some (Number m.0) = sym (left_of w op imm true (Lowest w) after s dst told) ∙ m.1 in
      let at : value_of s.registers r.was.of ≡ Some (Number m.0) = ap (λ (n : ℕ). get_or s.registers n None) r.of ∙ own in
      rw m.2 (related_moved w op imm r.was link m.0 b (constant_word row.1.0 (cast_unsigned w64 imm) row.1.1) r.is (was m.0 b at (sym stays ∙ q)))

  pub moved_hold : (action : Action) (k : ℕ) (link : Link) (between : Known) → k < 11 → register_written_by action ≢ Some R10 → moved_by action k (link_at old.links k) ≡ Some link → LeavesRow layout action old between (Ok Next)
      → passed (action_outcome layout action s) ≡ Some (Falls t) → LinkHolds (Some link) k t.registers
  moved_hold (Operate w Add dst (Imm imm)) k link between lt other e row done = moved_holds w Add dst imm k link (Lowest (lesser w w)) between lt (λ q. other (ap Some q)) refl (was_moved dst w Add imm k (link_at old.links k) link e) row done
  moved_hold (Operate w And dst (Imm imm)) k link between lt other e row done = moved_holds w And dst imm k link (Masked (mask_of imm)) between lt (λ q. other (ap Some q)) refl (was_moved dst w And imm k (link_at old.links k) link e) row done
  moved_hold action k link between lt other e row done = absurd cc

-- ---- the homes that instructions make

module _ (layout : Layout) (s t : State) where
  -- what is given to a register stands there, and the stack stays
  received_after : (dst : RegNo) (x : Tested Value) → dst ≢ R10 → passed (and_then x (put s dst)) ≡ Some (Falls t) → (v : Value) × (x ≡ Passes v) × (t ≡ record s { registers = set s.registers (reg_number dst) (Some v) })
  received_after dst (Passes v) other e = (v, refl, same (record s { registers = set s.registers (reg_number dst) (Some v) }) (ap passed (sym (set_to s dst v other)) ∙ e)) where
    same : (u : State) → Some (Falls u) ≡ Some (Falls t) → t ≡ u
    same u e = cc
  received_after dst x other e = absurd cc

  -- what a store passes
  record IsStoreDone (dst src : RegNo) (offset : ℤ) : Type 0 where
    p : Pointer
    v : Value
    there : accessed layout (value_of s.registers dst) offset Eight ≡ Passes p
    held_is : value_of s.registers src ≡ Some v
    done : stored_state layout s p Eight v ≡ Passes t

  store_done : (dst src : RegNo) (offset : ℤ) → passed (action_outcome layout (StoreAt Eight dst offset (Reg src)) s) ≡ Some (Falls t) → IsStoreDone dst src offset
  store_done dst src offset e = by (value_of s.registers dst) (value_of s.registers src) refl refl e where
    falls : (x : Tested State) → passed (and_then x (λ u. Passes (Falls u))) ≡ Some (Falls t) → x ≡ Passes t
    falls (Passes u) e = cc
    falls x e = absurd cc

    goes : (base v : Value) (x : Tested Pointer) → access_place layout base offset Eight ≡ x → value_of s.registers dst ≡ Some base → value_of s.registers src ≡ Some v
        → passed (and_then x (λ p. and_then (stored_state layout s p Eight v) (λ u. Passes (Falls u)))) ≡ Some (Falls t) → IsStoreDone dst src offset
    goes base v (Passes p) q is_base is_v e = record { p = p; v = v; there = ap (λ (o : Option Value). accessed layout o offset Eight) is_base ∙ q; held_is = is_v; done = falls (stored_state layout s p Eight v) e }
    goes base v x q is_base is_v e = absurd cc

    by : (o u : Option Value) → value_of s.registers dst ≡ o → value_of s.registers src ≡ u
        → passed (and_then (held o) (λ base. and_then (held u) (λ v. and_then (access_place layout base offset Eight) (λ p. and_then (stored_state layout s p Eight v) (λ z. Passes (Falls z)))))) ≡ Some (Falls t) → IsStoreDone dst src offset
    by (Some base) (Some v) is_base is_v e = goes base v (access_place layout base offset Eight) refl is_base is_v e
    by None u is_base is_v e = absurd cc
    by (Some base) None is_base is_v e = absurd cc

-- a block of eight bytes at one certain place
record IsBlockOf (g : Region) (span : Span) (b : ℕ) : Type 0 where
  stack : g ≡ region.Stack
  certain : span.least ≡ span.greatest
  start : span.least ≡ 8 * b

block_is : (g : Region) (span : Span) (b : ℕ) → block_in g span ≡ Some b → IsBlockOf g span b
block_is region.Record span b e = absurd cc
block_is region.Stack span b e =
    let one = Decides-eqb span.least span.greatest in
    let two = Decides-eqb (span.least % 8) 0 in
    let aligned : span.least % 8 ≡ 0 = grind (arith, one, two) in
    let is : span.least / 8 ≡ b = grind (arith, one, two) in
    record { stack = refl; certain = grind (arith, one, two); start = omega arith }

home_is : (register : RegNo) (o : Option ℕ) (made : RegNo × ℕ) → home_of register o ≡ Some made → (o ≡ Some made.1) × (made.0 ≡ register)
home_is register None made e = absurd cc
home_is register (Some b) made e = let is : (register, b) ≡ made = cc in (ap (λ (m : RegNo × ℕ). Some m.1) is, sym (ap (λ (m : RegNo × ℕ). m.0) is))

-- a copy is what is copied
copied_value : (layout : Layout) (o : Option Value) (v : Value) → operation_result layout W64 Mov (Some (Number 0)) o ≡ Passes v → o ≡ Some v
copied_value layout o v h1 = grind (arith)

-- what is loaded is not extended
as_it_is : (x : Tested Value) (v : Value) → and_then x (extended None) ≡ Passes v → x ≡ Passes v
as_it_is (Passes u) v e = e
as_it_is x v e = absurd cc

-- what a store leaves of the cells, and of the registers
stored_cells : (layout : Layout) (s t : State) (k n : ℕ) → stored_state layout s (at region.Stack k) Eight (Number n) ≡ Passes t → t.stack ≡ written s.stack k (cells_filled (Number n))
stored_cells layout s t k n e = let is : Passes (with_value s region.Stack k Eight (Number n)) ≡ Passes t = e in let same : with_value s region.Stack k Eight (Number n) ≡ t = cc in ap (λ (u : State). u.stack) (sym same)

stored_registers : (layout : Layout) (s t : State) (p : Pointer) (v : Value) → stored_state layout s p Eight v ≡ Passes t → t.registers ≡ s.registers
stored_registers layout s t p v h1 = grind (arith)

filled_block : (cells : List Cell) (v : Value) (b : ℕ) → length cells ≡ 512 → b < 64 → block_cells (written cells (8 * b) (cells_filled v)) b ≡ cells_filled v
filled_block cells v b long few = let filled = length-filled v in part_written cells (cells_filled v) (8 * b) 8 filled (omega arith)

-- a number that fills a block fills it once it is stored there
stored_fills : (layout : Layout) (s t : State) (p : Pointer) (b n : ℕ) → length s.stack ≡ 512 → b < 64 → p.region ≡ region.Stack → p.offset ≡ 8 * b → stored_state layout s p Eight (Number n) ≡ Passes t → block_cells t.stack b ≡ cells_filled (Number n)
stored_fills layout s t p b n long few stack start done = rw (stored_cells layout s t p.offset n (subst (λ (g : Region). stored_state layout s (at g p.offset) Eight (Number n) ≡ Passes t) stack done), start) (filled_block s.stack (Number n) b long few)

module _ (layout : Layout) (old : Known) (s t : State) (f : StateFits InStates layout old s) where
  -- what stands in the block that is known behind a register
  record IsPlaced (p : Pointer) (b : ℕ) : Type 0 where
    stack : p.region ≡ region.Stack
    start : p.offset ≡ 8 * b

  placed : (src : RegNo) (offset : ℤ) (p : Pointer) (b : ℕ) → accessed layout (value_of s.registers src) offset Eight ≡ Passes p → block_of_place (place_behind layout (reg_of old src) offset 8) ≡ Some b → IsPlaced p b
  placed src offset p b e is = by (place_behind layout (reg_of old src) offset 8) is (rw e at (access_right InStates layout old Eight src offset s f)) where
    by : (place : Result Place WalkFault) → block_of_place place ≡ Some b → RightIn (IsAt false) InStates (Passes p) place → IsPlaced p b
    by (Err fault) is at_place = absurd cc
    by (Ok place) is at_place =
        let block = block_is place.region place.span b is in
        let l : place.span.least ≤ p.offset = at_place.1.0 in
        let g : p.offset ≤ place.span.greatest = at_place.1.1 in
        let c = block.certain in
        let start = block.start in
        record { stack = at_place.0 ∙ block.stack; start = omega arith }

  -- what a load passes
  loaded_from : (src : RegNo) (offset : ℤ) (v : Value) → given_by layout (LoadFrom Eight None src src offset) s ≡ Passes v → (p : Pointer) × (accessed layout (value_of s.registers src) offset Eight ≡ Passes p) × (value_at s p Eight ≡ Passes v)
  loaded_from src offset v e = by (accessed layout (value_of s.registers src) offset Eight) refl e where
    by : (x : Tested Pointer) → accessed layout (value_of s.registers src) offset Eight ≡ x → and_then (and_then x (λ place. value_at s place Eight)) (extended None) ≡ Passes v → (p : Pointer) × (accessed layout (value_of s.registers src) offset Eight ≡ Passes p) × (value_at s p Eight ≡ Passes v)
    by (Passes p) q e = (p, q, as_it_is (value_at s p Eight) v e)
    by x q e = absurd cc

  loaded_fills : (p : Pointer) (b : ℕ) (a : Scalar) (v : Value) (n : ℕ) → IsPlaced p b → b < 64 → block_at old.stack b ≡ block.Whole (kind.Number a) → value_at s p Eight ≡ Passes v → v ≡ Number n → block_cells s.stack b ≡ cells_filled (Number n)
  loaded_fills p b a v n place few there gave is = by (rw there at (f.stack.blocks b few)) (subst (λ (g : Region). value_at s (at g p.offset) Eight ≡ Passes v) place.stack gave) where
    by : BlockFits false (block.Whole (kind.Number a)) (block_cells s.stack b) → value_at s (at region.Stack p.offset) Eight ≡ Passes v → block_cells s.stack b ≡ cells_filled (Number n)
    by (Number m, has, cells) read_is =
        let start = place.start in
        let same : v ≡ Number m = number_read m v (InScalar-words a m has) (ap read (sym cells) ∙ rw start at read_is) in
        let one : Number m ≡ Number n = sym same ∙ is in
        cells ∙ ap cells_filled one
    by (Address q, has, cells) read_is = absurd has

  -- the home that an instruction makes holds behind it
  pub home_holds : (action : Action) (made : RegNo × ℕ) (between : Known) → register_written_by action ≢ Some R10 → home_made layout old action ≡ Some made → LeavesRow layout action old between (Ok Next)
      → passed (action_outcome layout action s) ≡ Some (Falls t) → HomeHolds (Some made.1) (reg_number made.0) between.stack t.registers t.stack
  home_holds (Operate W64 Mov dst (Reg src)) made between other e row done =
      let home = home_is dst (home_at old.links (reg_number src)) made e in
      let r = received_after layout s t dst (operation_result layout W64 Mov (Some (Number 0)) (value_of s.registers src)) (λ q. other (ap Some q)) done in
      let was : HomeHolds (Some made.1) (reg_number src) old.stack s.registers s.stack = subst (λ (o : Option ℕ). HomeHolds o (reg_number src) old.stack s.registers s.stack) home.0 (f.links (reg_number src) (reg_below src)).1 in
      rw (home.1, r.2) (λ a n few there is.
      let v_is : Some r.0 ≡ Some (Number n) = sym (get_or-set_same s.registers (reg_number dst) (Some r.0) None (let l = f.long in let b = reg_below dst in omega arith)) ∙ is in
      was a n few (ap (λ (x : Stack). block_at x made.1) (sym row.2.stack) ∙ there) (copied_value layout (value_of s.registers src) r.0 r.1 ∙ v_is))
  home_holds (LoadFrom Eight None dst src offset) made between other e row done =
      let home = home_is dst (block_of_place (place_behind layout (reg_of old src) offset 8)) made e in
      let r = received_after layout s t dst (given_by layout (LoadFrom Eight None dst src offset) s) (λ q. other (ap Some q)) (ap passed (sym (loads_put layout Eight None dst src offset s)) ∙ done) in
      let l = loaded_from src offset r.0 r.1 in
      rw (home.1, r.2) (λ a n few there is.
      let v_is : Some r.0 ≡ Some (Number n) = sym (get_or-set_same s.registers (reg_number dst) (Some r.0) None (let l = f.long in let b = reg_below dst in omega arith)) ∙ is in
      let same : r.0 ≡ Number n = cc in
      loaded_fills l.0 made.1 a r.0 n (placed src offset l.0 made.1 l.1 home.0) few (ap (λ (x : Stack). block_at x made.1) (sym row.2.stack) ∙ there) l.2 same)
  home_holds (StoreAt Eight dst offset (Reg src)) made between other e row done =
      let home = home_is src (block_of_place (place_behind layout (reg_of old dst) offset 8)) made e in
      let d = store_done layout s t dst src offset done in
      let place = placed dst offset d.p made.1 d.there home.0 in
      rw home.1 (λ a n few there is.
      let same : Some d.v ≡ Some (Number n) = sym d.held_is ∙ sym (ap (λ (xs : List (Option Value)). value_of xs src) (stored_registers layout s t d.p d.v d.done)) ∙ is in
      let v_is : d.v ≡ Number n = cc in
      stored_fills layout s t d.p made.1 n f.stack.long few place.stack place.start (rw v_is at d.done))
  home_holds action made between other e row done = absurd cc

-- ---- what is known behind an instruction

same_fits : (how : Reading) (layout : Layout) (a b : Known) (s : State) → b.registers ≡ a.registers → b.stack ≡ a.stack → LinksHold (is_exact how) b.links b.stack s.registers s.stack → StateFits how layout a s → StateFits how layout b s
same_fits how layout a b s registers stack links f = record {
  long = f.long;
  record_fits = f.record_fits;
  registers = λ k lt. subst (λ (xs : List Kind). RegIs how (get_or xs k kind.Unset) (get_or s.registers k None)) (sym registers) (f.registers k lt);
  stack = rw stack f.stack;
  links = links;
}

-- ways that lead to shapes of which one thing is true lead to shapes of which another is that follows
pub flow_to : (P Q : Known → State → Type 0) (a b : Known) → ((s : State) → P a s → Q b s) → (flow : Flow) (es : List Effect) → FlowTo P a flow es → FlowTo Q b flow es
flow_to P Q a b h1 flow es h2 = grind (arith)

made_next : (layout : Layout) (action : Action) (made : RegNo × Link) (old between : Known) (flow : Flow) → link_made old.registers old.links action ≡ Some made → LeavesRow layout action old between (Ok flow) → flow ≡ Next
made_next layout action made old between flow h1 h2 = grind (arith)

home_next : (layout : Layout) (action : Action) (made : RegNo × ℕ) (old between : Known) (flow : Flow) → home_made layout old action ≡ Some made → LeavesRow layout action old between (Ok flow) → flow ≡ Next
home_next layout action made old between flow h1 h2 = grind (arith)

moved_next : (layout : Layout) (action : Action) (k : ℕ) (link : Link) (old between : Known) (flow : Flow) → moved_by action k (link_at old.links k) ≡ Some link → LeavesRow layout action old between (Ok flow) → flow ≡ Next
moved_next layout action k link old between flow h1 h2 = grind (arith)

module _ (layout : Layout) (i : Insn) (old between new : Known) (linked : IsLinked layout (action_of i) old between new) (other : WritesNoR10 i) where
  -- the links and the homes that are made hold in a state, and the links that are moved
  record AreHeld (t : State) : Type 0 where
    moved : (k : ℕ) (link : Link) → k < 11 → moved_by (action_of i) k (link_at old.links k) ≡ Some link → LinkHolds (Some link) k t.registers
    links : (made : RegNo × Link) → link_made old.registers old.links (action_of i) ≡ Some made → LinkHolds (Some made.1) (reg_number made.0) t.registers
    homes : (made : RegNo × ℕ) → home_made layout old (action_of i) ≡ Some made → HomeHolds (Some made.1) (reg_number made.0) between.stack t.registers t.stack

  to : (t : State) → AreHeld t → StateFits InStates layout between t → StateFits InStates layout new t
  to t held h =
      let links = made_too between.links new.links between.stack t.registers t.stack (link_made old.registers old.links (action_of i)) (home_made layout old (action_of i)) (λ k. moved_by (action_of i) k (link_at old.links k)) linked.links held.moved held.links held.homes h.links in
      same_fits InStates layout between new t linked.registers linked.stack (rw linked.stack links) h

  -- where it goes on elsewhere than behind the instruction none is made
  none_held : (flow : Flow) → flow ≢ Next → LeavesRow layout (action_of i) old between (Ok flow) → (t : State) → AreHeld t
  none_held flow elsewhere row t = record {
    moved = λ k link lt e. absurd (elsewhere (moved_next layout (action_of i) k link old between flow e row));
    links = λ made e. absurd (elsewhere (made_next layout (action_of i) made old between flow e row));
    homes = λ made e. absurd (elsewhere (home_next layout (action_of i) made old between flow e row));
  }

  flow_fits : (s : State) (flow : Flow) (o : Option Effect) → LeavesRow layout (action_of i) old between (Ok flow) → StateFits InStates layout old s → effect layout i s ≡ o → FlowFits InStates layout between flow o → FlowFits InStates layout new flow o
  flow_fits s Next (Some (Falls t)) row f done h = to t (record {
    moved = λ k link lt e. moved_hold layout old s t f (action_of i) k link between lt other e row done;
    links = λ made e. made_holds layout old s t f (action_of i) made between other e row done;
    homes = λ made e. home_holds layout old s t f (action_of i) made between other e row done;
  }) h
  flow_fits s (Jump d) (Some (Jumps e t)) row f done h = (h.0, to t (none_held (Jump d) (λ q. cc) row t) h.1)
  flow_fits s (Branch d test) (Some (Falls t)) row f done h = (h.0, to t (none_held (Branch d test) (λ q. cc) row t) h.1)
  flow_fits s (Branch d test) (Some (Jumps e t)) row f done h = (h.0, h.1, to t (none_held (Branch d test) (λ q. cc) row t) h.2)
  flow_fits s Exit (Some (Exits r0)) row f done h = tt
  flow_fits s flow o row f done h = absurd h

-- what follows an instruction follows it with its link and its home
pub with_link : (layout : Layout) (i : Insn) (old between new : Known) (flow : Flow) → WritesNoR10 i → IsLinked layout (action_of i) old between new → LeavesRow layout (action_of i) old between (Ok flow)
    → Follows layout i old between flow → Follows layout i old new flow
with_link layout i old between new flow other linked row h = record {
  own = h.own;
  states = λ s f. flow_fits layout i old between new linked other s flow (effect layout i s) row f refl (h.states s f);
  shape = λ s plain f. flow_to (StateFits AsShape layout) (StateFits AsShape layout) between new (λ t g. same_fits AsShape layout between new t linked.registers linked.stack tt g) flow (effects layout i s) (h.shape s plain f);
}

-- and with what spreads behind it
flow_narrowed : (layout : Layout) (a b : Known) → ((s : State) → StateFits InStates layout a s → StateFits InStates layout b s) → (flow : Flow) (o : Option Effect) → FlowFits InStates layout a flow o → FlowFits InStates layout b flow o
flow_narrowed layout a b h1 flow o h2 = grind (arith)

with_spread : (layout : Layout) (i : Insn) (old linked new : Known) (flow : Flow) → IsNarrowed linked new → Follows layout i old linked flow → Follows layout i old new flow
with_spread layout i old linked new flow narrowed h = record {
  own = h.own;
  states = λ s f. flow_narrowed layout linked new (narrowed.states layout) flow (effect layout i s) (h.states s f);
  shape = λ s plain f. flow_to (StateFits AsShape layout) (StateFits AsShape layout) linked new (narrowed.shapes AsShape refl layout) flow (effects layout i s) (h.shape s plain f);
}

-- ==== rows

module _ (layout : Layout) (old new : Known) where
  -- ---- each row

  received : (action : Action) (dst : RegNo) (r : Result Flow WalkFault) → dst ≢ R10 → ((s : State) → action_outcome layout action s ≡ and_then (given_by layout action s) (put s dst)) → Receives dst (Gives layout old action) old new r → IsRowRight layout old new action r
  received action dst (Ok Next) other puts h =
      let given = given_right layout old action (Ok h.0) h.1 in
      record {
        stays = tt;
        right = λ how s f plain. rw puts
            (right_then {C = Flow} {D = Effect} (ValueFits (is_exact how)) (λ flow e. FlowFits how layout new flow (Some e)) how h.0 (Ok Next) (given_by layout action s) (put s dst) (given.right how s f plain) (λ v q fits.
            rw (set_to s dst v other) (in_reading {A = Flow} {B = Effect} (λ flow e. FlowFits how layout new flow (Some e)) how (Ok Next) (Passes (Falls (record s { registers = set s.registers (reg_number dst) (Some v) })))
            (set_fits how layout old new s dst h.0 v h.2.eleven h.2.registers h.2.stack h.2.links f fits))));
      }
  received action dst (Ok flow) other puts h = absurd h
  received action dst (Err fault) other puts h =
      let given = given_right layout old action (Err fault) h.0 in
      record {
        stays = given.stays;
        right = λ how s f plain. rw puts (wrong_then {C = Flow} {D = Effect} (ValueFits (is_exact how)) (λ flow e. FlowFits how layout new flow (Some e)) how fault (given_by layout action s) (put s dst) (given.right how s f plain));
      }

  pub row_right : (action : Action) (r : Result Flow WalkFault) → register_written_by action ≢ Some R10 → LeavesRow layout action old new r → IsRowRight layout old new action r
  row_right (Operate w op dst operand) r other h = received (Operate w op dst operand) dst r (λ e. other (ap Some e)) (λ s. refl) h
  row_right (Convert w op dst src) r other h = received (Convert w op dst src) dst r (λ e. other (ap Some e)) (converts_put layout w op dst src) h
  row_right (LoadWord dst n) r other h = received (LoadWord dst n) dst r (λ e. other (ap Some e)) (λ s. refl) h
  row_right (LoadFrom size extension dst src offset) r other h = received (LoadFrom size extension dst src offset) dst r (λ e. other (ap Some e)) (loads_put layout size extension dst src offset) h
  row_right (StoreAt size dst offset operand) r other h = store_right layout old new size dst offset operand r h
  row_right (Go offset) r other h = rw (h.0, h.1) (record { stays = tt; right = λ how s f plain. in_reading {A = Flow} {B = Effect} (λ flow e. FlowFits how layout old flow (Some e)) how (Ok (Jump offset)) (Passes (Jumps offset s)) (refl, f) })
  row_right (action.Branch w cond dst operand offset) r other h = branch_right layout old w cond dst operand offset new r h
  row_right End r other h = exit_right layout old new r h

-- ---- which flow follows

abbrev pub IsOwn : Action → Flow → Type 0
IsOwn action Next = branch_in action ≡ None
IsOwn action (Jump d) = (branch_in action ≡ None) × (distance_in action ≡ Some d)
IsOwn action (Branch d test) = (branch_in action ≡ Some d) × (distance_in action ≡ Some d)
IsOwn action Exit = branch_in action ≡ None

receives_next : (dst : RegNo) (IsMade : Result Kind WalkFault → Type 0) (old new : Known) (flow : Flow) → Receives dst IsMade old new (Ok flow) → flow ≡ Next
receives_next dst IsMade old new flow h1 = grind (arith)

flow_known : {A : Type 0} (c : Result A WalkFault) (f flow : Flow) → Ok flow ≡ flow_where c f → flow ≡ f
flow_known c f flow h1 = grind (arith)

-- a conditional jump alone goes two ways, and changes nothing
pub row_flow : (layout : Layout) (action : Action) (old new : Known) (flow : Flow) → LeavesRow layout action old new (Ok flow) → IsOwn action flow × ((branch_in action ≡ None) ⊎ (new ≡ old))
row_flow layout (Operate w op dst operand) old new flow h = rw (receives_next dst (Gives layout old (Operate w op dst operand)) old new flow h) (refl, inl refl)
row_flow layout (Convert w op dst src) old new flow h = rw (receives_next dst (Gives layout old (Convert w op dst src)) old new flow h) (refl, inl refl)
row_flow layout (LoadWord dst n) old new flow h = rw (receives_next dst (Gives layout old (LoadWord dst n)) old new flow h) (refl, inl refl)
row_flow layout (LoadFrom size extension dst src offset) old new flow h = rw (receives_next dst (Gives layout old (LoadFrom size extension dst src offset)) old new flow h) (refl, inl refl)
row_flow layout (StoreAt size dst offset operand) old new flow h = rw (flow_known h.2.0 Next flow h.2.2) (refl, inl refl)
row_flow layout (Go offset) old new flow h = let e = h.0 in let same : flow ≡ Jump offset = cc in rw same ((refl, refl), inl refl)
row_flow layout (action.Branch w cond dst operand offset) old new flow h = rw (flow_known (comparison_of (reg_of old dst) h.0) (Branch offset (test_of w cond dst operand)) flow h.2.0) ((refl, refl), inr h.2.1)
row_flow layout End old new flow h = rw (flow_known (number_in_reg (reg_of old R0) ExitsWithPointer) Exit flow h.0) (refl, inl refl)

own_of : (i : Insn) (flow : Flow) → IsOwn (action_of i) flow → FlowOf i flow
own_of i flow h1 = grind (arith)

-- ---- from rows to instructions

passed_fits : (layout : Layout) (new : Known) (flow : Flow) (t : Tested Effect) → IsRightAt InStates layout new t (Ok flow) → FlowFits InStates layout new flow (passed t)
passed_fits layout new flow t h1 = grind (arith)

passed_is : (how : Reading) → is_exact how ≡ true → (layout : Layout) (action : Action) (old new : Known) (s : State) (flow : Flow) (e : Effect) → IsOwn action flow → (branch_in action ≡ None) ⊎ (new ≡ old) → StateFits how layout old s → FlowFits how layout new flow (Some e)
    → FlowTo (StateFits how layout) new flow (both_ways (branch_in action) s (Some e))
passed_is how x layout action old new s Next (Falls t) own same f h = rw own (blank_fits how x layout new t h)
passed_is how x layout action old new s (Jump d) (Jumps e t) own same f h = rw own.0 (h.0, blank_fits how x layout new t h.1)
passed_is how x layout action old new s Exit (Exits r0) own same f h = rw own tt
passed_is how x layout action old new s (Branch d test) e own (inl none) f h = absurd (let both : None ≡ Some d = sym none ∙ own.0 in cc)
passed_is how x layout action old new s (Branch d test) e own (inr same) f h =
    let there : StateFits how layout new (shape_of s) = rw same (blank_fits how x layout old s f) in
    rw own.0 (refl, there, there)
passed_is how x layout action old new s flow e own same f h = absurd h

-- where a shape's tests pass, what it passes to is known
passed_to : (layout : Layout) (action : Action) (old new : Known) (s : State) (flow : Flow) (t : Tested Effect) → IsOwn action flow → (branch_in action ≡ None) ⊎ (new ≡ old) → StateFits AsShape layout old s → IsRightAt AsShape layout new t (Ok flow)
    → FlowIs layout new flow (both_ways (branch_in action) s (passed t))
passed_to layout action old new s flow (Passes e) own same f h = passed_is AsShape refl layout action old new s flow e own same f h
passed_to layout action old new s flow t own same f h = absurd h

pub rows_sound : (layout : Layout) (i : Insn) (old new : Known) (r : Result Flow WalkFault) → WritesNoR10 i → LeavesKnown layout i old new r → IsSoundRow layout i old new r
rows_sound layout i old new (Ok flow) other h = with_spread layout i old h.2.0 new flow h.2.2.narrowed (with_link layout i old h.0 h.2.0 flow other h.2.1 h.1 (record {
  own = own_of i flow own.0;
  states = λ s f. passed_fits layout h.0 flow (outcome layout i s) (row.right InStates s f tt);
  shape = λ s plain f. passed_to layout (action_of i) old h.0 s flow (outcome layout i s) own.0 own.1 f (row.right AsShape s f plain);
})) where
  row : IsRowRight layout old h.0 (action_of i) (Ok flow)
  row = row_right layout old h.0 (action_of i) (Ok flow) other h.1

  own : IsOwn (action_of i) flow × ((branch_in (action_of i) ≡ None) ⊎ (h.0 ≡ old))
  own = row_flow layout (action_of i) old h.0 flow h.1
rows_sound layout i old new (Err fault) other h =
    let row = row_right layout old new (action_of i) (Err fault) other h in
    record { stays = row.stays; named = λ s plain f. row.right AsShape s f plain }

-- a jump that follows is the instruction's own
pub row_own : (layout : Layout) (i : Insn) (old new : Known) (flow : Flow) → LeavesRow layout (action_of i) old new (Ok flow) → FlowOf i flow
row_own layout i old new flow h = own_of i flow (row_flow layout (action_of i) old new flow h).0

-- ---- shapes of which what is unset is not looked at

-- so it is where the instruction is passed, and it is not refused
abbrev pub IsShownBy : Layout → Known → Result Flow WalkFault → List Effect → Type 0
IsShownBy layout known (Ok flow) es = FlowTo (StateFits WhereSet layout) known flow es
IsShownBy layout known (Err fault) es = ⊥

module _ (layout : Layout) (old : Known) (s : State) (f : StateFits WhereSet layout old s) (i : Insn) (other : WritesNoR10 i) (plain : NoMovedPointer i s) (none : fault_at layout i s ≡ None) where
  -- where no test fails, something is passed
  passes_with : (e : Effect) × (outcome layout i s ≡ Passes e)
  passes_with = by (outcome layout i s) refl where
    by : (t : Tested Effect) → outcome layout i s ≡ t → (e : Effect) × (t ≡ Passes e)
    by (Passes e) q = (e, refl)
    by (Fails fault) q = absurd (let g = rw q at none in cc)
    by WritesR10 q = absurd (let named : IsSome (fault_at layout i s) = (stuck_is_named layout i s other).0 (ap passed q) in let g = rw none at named in cc)

  row_shown : (new : Known) (r : Result Flow WalkFault) → LeavesRow layout (action_of i) old new r → IsShownBy layout new r (effects layout i s)
  row_shown new r h = by r ((row_right layout old new (action_of i) r other h).right WhereSet s f plain) h where
    by : (r : Result Flow WalkFault) → IsRightAt WhereSet layout new (outcome layout i s) r → LeavesRow layout (action_of i) old new r → IsShownBy layout new r (effects layout i s)
    by (Ok flow) right h =
        let own = row_flow layout (action_of i) old new flow h in
        rw passes_with.1 (passed_is WhereSet refl layout (action_of i) old new s flow passes_with.0 own.0 own.1 f (rw passes_with.1 at right))
    by (Err fault) right h = rw passes_with.1 at right

  -- a link that is made changes nothing of it
  pub outcome_shown : (new : Known) (r : Result Flow WalkFault) → LeavesKnown layout i old new r → IsShownBy layout new r (effects layout i s)
  outcome_shown new (Ok flow) h = flow_to (StateFits WhereSet layout) (StateFits WhereSet layout) h.0 new (λ t g. h.2.2.narrowed.shapes WhereSet refl layout t (same_fits WhereSet layout h.0 h.2.0 t h.2.1.registers h.2.1.stack tt g)) flow (effects layout i s) (row_shown h.0 (Ok flow) h.1)
  outcome_shown new (Err fault) h = row_shown new (Err fault) h
