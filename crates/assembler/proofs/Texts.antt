-- What lines say, and that a fault of theirs leaves nothing to say.
use Rattle.std.proofs.Common.{◌≡◌, ◌⊎◌, ⊎_elim, inl, inr, ℕ, ◌+◌, true, ℤ, List, [], ◌∷◌, ◌++◌, Some, refl, sym, ap, arith}
use Rattle.assembler.proofs.Names.{bytes_eq, list_any, list_any-append, AllByRecursion, nat_tests, bytes_eq-Decides, Insn, slots_of, Fits, Word, Operand, Register, Number, Target, operands_of, Line, Blank, Label}
use Rattle.assembler.proofs.Names.{Statement, SaysOperand, SaysOperands, SaysInsn, labels_in, slot_of, LeadsTo, Says, names_in, AllDiffer, Drafts}

-- ---- where names may lead further

operand_more : (L M : Word → ℤ → Type 0) → ((w : Word) (d : ℤ) → L w d → M w d) → (o : Operand) (w : Word) → SaysOperand L o w → SaysOperand M o w
operand_more L M more (Register r) w h = h
operand_more L M more (Number n) w h = h
operand_more L M more (Target d) w h = ⊎_elim (λ k. inl k) (λ k. inr (k.0, more w d k.1)) h

pub operands_more : (L M : Word → ℤ → Type 0) → ((w : Word) (d : ℤ) → L w d → M w d) → (os : List Operand) (ws : List Word) → SaysOperands L os ws → SaysOperands M os ws
operands_more L M more (o ∷ os) (w ∷ ws) h = (operand_more L M more o w h.0, operands_more L M more os ws h.1)
operands_more L M more [] [] h = h
operands_more L M more os ws h = h

pub insn_more : (L M : Word → ℤ → Type 0) → ((w : Word) (d : ℤ) → L w d → M w d) → (i : Insn) (ws : List Word) → SaysInsn L i ws → SaysInsn M i ws
insn_more L M more i [] h = h
insn_more L M more i (w ∷ ws) h = (h.0, operands_more L M more (operands_of i) ws h.1)

-- ---- labels

pub bytes_eq_sym : (x y : Word) → bytes_eq x y ≡ true → bytes_eq y x ≡ true
bytes_eq_sym x y h = (bytes_eq-Decides y x).1 (sym ((bytes_eq-Decides x y).0 h))

pub labels_named : (s : ℕ) (lines : List Line) (p : List Insn) (q : Word) (n : ℕ) → slot_of (labels_in s lines p) q ≡ Some n → list_any (bytes_eq q) (names_in lines) ≡ true
labels_named s [] p q n h = absurd cc
labels_named s (Blank ∷ lines) p q n h = labels_named s lines p q n h
labels_named s (Label name ∷ lines) p q n h =
    let rest = labels_named s lines p q n in
    let same = bytes_eq_sym name q in
    grind (arith, nat_tests, h, rest, same)
labels_named s (Statement words ∷ lines) [] q n h = absurd cc
labels_named s (Statement words ∷ lines) (i ∷ p) q n h = labels_named (s + slots_of i) lines p q n h

-- ---- what lines say, without their labels' slots

pub says_drafts : (labels : List (Word × ℕ)) (L : Word → ℤ → Type 0) → ((b : ℕ) (w : Word) (d : ℤ) → LeadsTo labels b w d → L w d) → (s : ℕ) (lines : List Line) (p : List Insn) → AllByRecursion Fits p → Says labels s lines p → Drafts L lines p
says_drafts labels L more s [] [] f h = h
says_drafts labels L more s (Blank ∷ lines) p f h = says_drafts labels L more s lines p f h
says_drafts labels L more s (Label name ∷ lines) p f h = says_drafts labels L more s lines p f h
says_drafts labels L more s (Statement words ∷ lines) (i ∷ p) f h =
    ((insn_more (LeadsTo labels (s + slots_of i)) L (more (s + slots_of i)) i words h.0, f.0), says_drafts labels L more (s + slots_of i) lines p f.1 h.1)
says_drafts labels L more s lines p f h = h

-- the instructions behind some lines
pub record Split (L : Word → ℤ → Type 0) (before rest : List Line) (p : List Insn) : Type 0 where
  pub front : List Insn
  pub back : List Insn
  pub joined : p ≡ front ++ back
  pub first : Drafts L before front
  pub second : Drafts L rest back

pub split_drafts : (L : Word → ℤ → Type 0) (before rest : List Line) (p : List Insn) → Drafts L (before ++ rest) p → Split L before rest p
split_drafts L [] rest p h = record { front = []; back = p; joined = refl; first = tt; second = h }
split_drafts L (Blank ∷ before) rest p h = let k = split_drafts L before rest p h in record { front = k.front; back = k.back; joined = k.joined; first = k.first; second = k.second }
split_drafts L (Label name ∷ before) rest p h = let k = split_drafts L before rest p h in record { front = k.front; back = k.back; joined = k.joined; first = k.first; second = k.second }
split_drafts L (Statement words ∷ before) rest [] h = absurd h
split_drafts L (Statement words ∷ before) rest (i ∷ p) h = let k = split_drafts L before rest p h.1 in record { front = i ∷ k.front; back = k.back; joined = ap (λ (x : List Insn). i ∷ x) k.joined; first = (h.0, k.first); second = k.second }

pub names_append : (a b : List Line) → names_in (a ++ b) ≡ names_in a ++ names_in b
names_append [] b = refl
names_append (Blank ∷ a) b = names_append a b
names_append (Label name ∷ a) b = ap (λ (x : List Word). name ∷ x) (names_append a b)
names_append (Statement words ∷ a) b = names_append a b

any_middle : (x name : Word) (a b : List Word) → bytes_eq x name ≡ true → list_any (bytes_eq x) (a ++ name ∷ b) ≡ true
any_middle x name a b h = let e = list_any-append (bytes_eq x) a (name ∷ b) in grind (arith, nat_tests, e, h)

-- a name that stands again
pub not_differ : (name : Word) (a b : List Word) → list_any (bytes_eq name) a ≡ true → AllDiffer (a ++ name ∷ b) → ⊥
not_differ name [] b h d = absurd cc
not_differ name (x ∷ a) b h d =
    let again = any_middle x name a b in
    let same = bytes_eq_sym name x in
    let rest = not_differ name a b in
    grind (arith, nat_tests, h, d.0, d.1, again, same, rest)
