-- Names and forms of the words of a line.
use Rattle.std.proofs.Common.{◌≡◌, ◌≢◌, ⊎_elim, pos, List, [], ◌∷◌, length, map, None, refl, sym, ap, ◌∙◌, subst, arith, Bor}
use Rattle.assembler.proofs.Names.{W32, W64, Insn, Reg, Imm, Word, name_of, operands_of, mnemonic_of, mnemonic_name, Mnemonic, Alu, Divide, Remainder}
use Rattle.assembler.proofs.Names.{JumpIf, kinds_of, HaveKinds, Anywhere, HaveForms, HasName}
use Rattle.assembler.proofs.Names.{HasFormOf, SaysFitting, DraftOf, insn_of, mnemonic_name-injective}
use Rattle.insn.specs.declared.register.RegNo.TheVariants.{R0}
use Rattle.insn.specs.declared.instruction.Insn.TheVariants as insn
use Rattle.assembler.specs.declared.form.OperandKind.{OperandKind}
use Rattle.assembler.specs.declared.form.OperandKind.TheVariants as kind

-- an instruction of a name has its mnemonic
pub of_mnemonic : (w : Word) (m : Mnemonic) (i : Insn) → w ≡ mnemonic_name m → w ≡ name_of i → mnemonic_of i ≡ m
of_mnemonic w m i e h = mnemonic_name-injective (mnemonic_of i) m (sym h ∙ e)

have_kinds : (i : Insn) (ws : List Word) → HaveForms (operands_of i) ws → HaveKinds (kinds_of (mnemonic_of i)) ws
have_kinds (insn.Divide width signedness dst (Reg src)) ws h = grind (arith, h)
have_kinds (insn.Remainder width signedness dst (Reg src)) ws h = grind (arith, h)
have_kinds i ws h = grind (arith, h)

pub have_kinds_of : (i : Insn) (m : Mnemonic) (ws : List Word) → mnemonic_of i ≡ m → HaveForms (operands_of i) ws → HaveKinds (kinds_of m) ws
have_kinds_of i m ws e h = subst (λ (n : Mnemonic). HaveKinds (kinds_of n) ws) e (have_kinds i ws h)

pub kinds_length : (ks : List OperandKind) (ws : List Word) → HaveKinds ks ws → length ws ≡ length ks
kinds_length [] [] h = refl
kinds_length (k ∷ ks) (w ∷ ws) h = let e = kinds_length ks ws h.1 in omega arith
kinds_length ks ws h = absurd h

-- an instruction of a mnemonic and the form of some words
pub record Example (m : Mnemonic) (ws : List Word) : Type 0 where
  pub like : Insn
  pub same : mnemonic_of like ≡ m
  pub form : HaveForms (operands_of like) ws

named : (m : Mnemonic) → mnemonic_of (insn_of m []) ≡ m
named (Alu W64 op) = refl
named (JumpIf W64 cond) = refl
named m = refl

-- the form of words of these kinds is an instruction's
pub example : (m : Mnemonic) (ws : List Word) → HaveKinds (kinds_of m) ws → Example m ws
example (Alu W64 op) (a ∷ b ∷ []) h = ⊎_elim (λ r. record { like = insn.Alu64Reg op R0 R0; same = refl; form = (h.0, (r, tt)) }) (λ n. record { like = insn.Alu64Imm op R0 (pos 0); same = refl; form = (h.0, (n, tt)) }) h.1.0
example (Alu W32 op) (a ∷ b ∷ []) h = ⊎_elim (λ r. record { like = insn.Alu32Reg op R0 R0; same = refl; form = (h.0, (r, tt)) }) (λ n. record { like = insn.Alu32Imm op R0 (pos 0); same = refl; form = (h.0, (n, tt)) }) h.1.0
example (Divide width signedness) (a ∷ b ∷ []) h = ⊎_elim (λ r. record { like = insn.Divide width signedness R0 (Reg R0); same = refl; form = (h.0, (r, tt)) }) (λ n. record { like = insn.Divide width signedness R0 (Imm (pos 0)); same = refl; form = (h.0, (n, tt)) }) h.1.0
example (Remainder width signedness) (a ∷ b ∷ []) h = ⊎_elim (λ r. record { like = insn.Remainder width signedness R0 (Reg R0); same = refl; form = (h.0, (r, tt)) }) (λ n. record { like = insn.Remainder width signedness R0 (Imm (pos 0)); same = refl; form = (h.0, (n, tt)) }) h.1.0
example (JumpIf W64 cond) (a ∷ b ∷ t ∷ []) h = ⊎_elim (λ r. record { like = insn.Jump64IfReg cond R0 R0 (pos 0); same = refl; form = (h.0, (r, (h.1.1.0, tt))) }) (λ n. record { like = insn.Jump64IfImm cond R0 (pos 0) (pos 0); same = refl; form = (h.0, (n, (h.1.1.0, tt))) }) h.1.0
example (JumpIf W32 cond) (a ∷ b ∷ t ∷ []) h = ⊎_elim (λ r. record { like = insn.Jump32IfReg cond R0 R0 (pos 0); same = refl; form = (h.0, (r, (h.1.1.0, tt))) }) (λ n. record { like = insn.Jump32IfImm cond R0 (pos 0) (pos 0); same = refl; form = (h.0, (n, (h.1.1.0, tt))) }) h.1.0
example m ws h = record { like = insn_of m []; same = named m; form = grind (arith, h) }

-- what `statement` answers
pub no_name : (w : Word) (ws : List Word) → ((m : Mnemonic) → w ≢ mnemonic_name m) → (i : Insn) → HasName i (w ∷ ws) → ⊥
no_name w ws none i e = none (mnemonic_of i) e

pub has_name : (w : Word) (ws : List Word) (m : Mnemonic) → w ≡ mnemonic_name m → (i : Insn) × HasName i (w ∷ ws)
has_name w ws m e = (insn_of m [], e ∙ ap mnemonic_name (sym (named m)))

pub no_form : (w : Word) (ws : List Word) (m : Mnemonic) → w ≡ mnemonic_name m → (HaveKinds (kinds_of m) ws → ⊥) → (i : Insn) → HasFormOf i (w ∷ ws) → ⊥
no_form w ws m e none i h = none (have_kinds_of i m ws (of_mnemonic w m i e h.0) h.1)

pub has_form : (w : Word) (ws : List Word) (m : Mnemonic) → w ≡ mnemonic_name m → HaveKinds (kinds_of m) ws → (i : Insn) × HasFormOf i (w ∷ ws)
has_form w ws m e h = let x = example m ws h in (x.like, (e ∙ ap mnemonic_name (sym x.same), x.form))

pub no_fitting : (w : Word) (ws : List Word) (m : Mnemonic) → w ≡ mnemonic_name m → DraftOf m ws None → (i : Insn) → SaysFitting Anywhere i (w ∷ ws) → ⊥
no_fitting w ws m e none i h = none i (of_mnemonic w m i e h.0.0) h.1 h.0.1

abbrev pub seen : List (Bor Word) → List Word
seen words = map (λ (word : Bor Word). word.now) words

pub nothing_named : (xs : List (Bor Word)) → length xs ≡ 0 → (i : Insn) → HasName i (seen xs) → ⊥
nothing_named [] e i h = h
nothing_named (x ∷ xs) e i h = absurd (omega arith)

pub length_seen : (xs : List (Bor Word)) → length (seen xs) ≡ length xs
length_seen [] = refl
length_seen (x ∷ xs) = let e = length_seen xs in omega arith
