-- Jumps to a distance, and to a label.
use Rattle.std.proofs.Common.{◌≡◌, ⊎_elim, inl, inr, true, false, ℤ, [], ◌∷◌, Option, Some, None, refl, sym, ap, ◌∙◌, subst, FitsSigned, w16}
use Rattle.assembler.proofs.Names.{bytes_eq, list_any, both_ways, W32, W64, RegNo, Reg, Imm, Insn, Fits, Word, Target, register_word, distance_word, is_name, mnemonic_of, operands_of, SaysOperand}
use Rattle.assembler.proofs.Names.{SaysOperands, distance_is_no_name, distance_word-injective, JumpIf, If, Draft, Whole, ToLabel, Anywhere, OneOf, IsSmall, At, Nowhere, jump_over, HasTarget}
use Rattle.assembler.proofs.Names.{IsSource, DraftOf}
use Rattle.insn.specs.declared.operation.Width.{Width}
use Rattle.insn.specs.declared.operation.Cond.{Cond}
use Rattle.insn.specs.declared.instruction.Operand.{Operand as Source}
use Rattle.insn.specs.declared.instruction.Insn.TheVariants as insn
use Rattle.assembler.proofs.Numbers.{small_from_16, small_short}

-- a distance that 16 bits lack
pub too_far : (w : Word) (z : ℤ) → is_name w ≡ false → IsSmall z → w ≡ distance_word z → (FitsSigned w16 z → ⊥) → (d : ℤ) → FitsSigned w16 d → SaysOperand Anywhere (Target d) w → ⊥
too_far w z name s e far d f h = ⊎_elim
    (λ k. far (subst (λ (x : ℤ). FitsSigned w16 x) (sym (distance_word-injective z d (small_short z s) (small_short d (small_from_16 d f)) (sym e ∙ k))) f))
    (λ k. both_ways (is_name w) name k.0)
    h

-- the target of a conditional jump's words
near_target : (L : Word → ℤ → Type 0) (width : Width) (cond : Cond) (i : Insn) (a b t : Word) → mnemonic_of i ≡ JumpIf width cond → Fits i → SaysOperands L (operands_of i) (a ∷ b ∷ t ∷ []) → (d : ℤ) × FitsSigned w16 d × SaysOperand L (Target d) t
near_target L width cond (insn.Jump64IfImm c dst offset imm) a b t e f s = (offset, f.0, s.1.1.0)
near_target L width cond (insn.Jump64IfReg c dst src offset) a b t e f s = (offset, f, s.1.1.0)
near_target L width cond (insn.Jump32IfImm c dst offset imm) a b t e f s = (offset, f.0, s.1.1.0)
near_target L width cond (insn.Jump32IfReg c dst src offset) a b t e f s = (offset, f, s.1.1.0)
near_target L width cond i a b t e f s = absurd cc

-- such words say a jump
says_jump : (L : Word → ℤ → Type 0) (width : Width) (cond : Cond) (dst : RegNo) (source : Source) (a b t : Word) (d : ℤ) → a ≡ register_word dst → IsSource b (Some source) → FitsSigned w16 d → SaysOperand L (Target d) t
    → (mnemonic_of (jump_over (If width cond dst source) d) ≡ JumpIf width cond) × Fits (jump_over (If width cond dst source) d) × SaysOperands L (operands_of (jump_over (If width cond dst source) d)) (a ∷ b ∷ t ∷ [])
says_jump L W64 cond dst (Imm imm) a b t d e s f k = (refl, (f, s.1), (e, (s.0, (k, tt))))
says_jump L W64 cond dst (Reg src) a b t d e s f k = (refl, f, (e, (s, (k, tt))))
says_jump L W32 cond dst (Imm imm) a b t d e s f k = (refl, (f, s.1), (e, (s.0, (k, tt))))
says_jump L W32 cond dst (Reg src) a b t d e s f k = (refl, f, (e, (s, (k, tt))))

-- a conditional jump's words
pub jump_if_draft : (width : Width) (cond : Cond) (dst : RegNo) (source : Source) (a b t : Word) → a ≡ register_word dst → IsSource b (Some source) → (r : Option Draft) → HasTarget (If width cond dst source) t r → DraftOf (JumpIf width cond) (a ∷ b ∷ t ∷ []) r
jump_if_draft width cond dst source a b t e s None h = λ i m f k. let n = near_target Anywhere width cond i a b t m f k in h n.0 n.1 n.2
jump_if_draft width cond dst source a b t e s (Some (Whole i)) h = rw h.2 (says_jump Nowhere width cond dst source a b t h.0 e s h.1 (inl h.3))
jump_if_draft width cond dst source a b t e s (Some (ToLabel to name)) h =
    rw h.0 (
      λ d f. let k = says_jump (At name.now d) width cond dst source a b t d e s f (inr (h.2, (h.1, refl))) in record { named = k.0; fit = k.1; said = k.2 },
      λ names i m f k.
          let n = near_target (OneOf names) width cond i a b t m f k in
          subst (λ (x : Word). list_any (bytes_eq x) names ≡ true) (sym h.1) (⊎_elim (λ e. absurd (both_ways (is_name t) (ap is_name e ∙ distance_is_no_name n.0) h.2)) (λ e. e.1) n.2),
    )
