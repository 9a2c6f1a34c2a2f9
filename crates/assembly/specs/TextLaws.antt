-- A text says one program.
use Rattle.std.proofs.Common.{◌≡◌, ℕ, ◌+◌, ◌+ℤ◌, ◌-ℤ◌, List, [], ◌∷◌, ℤ, pos, Some, refl, sym, ap, ap₂, ◌∙◌, subst, arith}
use Rattle.std.proofs.Math.IntN.{+ℤ-neg_ℤ_cancel, +ℤ_comm}
use Rattle.std.specs.List.{AllByRecursion}
use Rattle.insn.specs.declared.instruction.Insn.{Insn}
use Rattle.insn.specs.Instruction.{Fits, slots_of}
use Rattle.assembly.specs.Text.{Word, Line, Blank, Label, Statement, lines_in, name_of, operands_of, SaysInsn, LeadsTo, labels_in, Says, Text}
use Rattle.assembly.specs.TextWordLaws.{LeadsToOne, one_operands}
use Rattle.assembly.specs.TextNameLaws.{short_operands, same_slots, same_targets, same_insn}

-- ---- words say one instruction

same_name : (L M : Word → ℤ → Type 0) (i j : Insn) (words : List Word) → SaysInsn L i words → SaysInsn M j words → name_of i ≡ name_of j
same_name L M i j [] a b = absurd a
same_name L M i j (word ∷ words) a b = sym a.0 ∙ b.0

pub one_insn : (Leads : Word → ℤ → Type 0) → LeadsToOne Leads → (i j : Insn) (words : List Word) → Fits i → Fits j → SaysInsn Leads i words → SaysInsn Leads j words → i ≡ j
one_insn Leads one i j [] p q a b = absurd a
one_insn Leads one i j (word ∷ words) p q a b =
    let name : name_of i ≡ name_of j = sym a.0 ∙ b.0 in
    same_insn i j name (one_operands Leads one words (operands_of i) (operands_of j) (short_operands i p) (short_operands j q) (same_targets i j name) a.1 b.1)

-- ---- labels lead to one slot

distance-unique : (behind : ℤ) (d e : ℤ) → behind +ℤ d ≡ behind +ℤ e → d ≡ e
distance-unique behind d e h =
    sym (+ℤ-neg_ℤ_cancel d behind) ∙ ap (λ (z : ℤ). z -ℤ behind) (+ℤ_comm d behind ∙ h ∙ +ℤ_comm behind e) ∙ +ℤ-neg_ℤ_cancel e behind

leads_to_one : (labels : List (Word × ℕ)) (behind : ℕ) → LeadsToOne (LeadsTo labels behind)
leads_to_one labels behind name d e a b =
    let slots : Some a.0 ≡ Some b.0 = sym a.1 ∙ b.1 in
    let slot : a.0 ≡ b.0 = cc in
    distance-unique (pos behind) d e (sym a.2 ∙ ap pos slot ∙ b.2)

-- ---- lines say one program

-- labels stand at the same slots, whichever program the lines say
same_labels : (K L : List (Word × ℕ)) (slot : ℕ) (lines : List Line) (p q : List Insn) → Says K slot lines p → Says L slot lines q → labels_in slot lines p ≡ labels_in slot lines q
same_labels K L slot [] p q a b = refl
same_labels K L slot (Blank ∷ lines) p q a b = same_labels K L slot lines p q a b
same_labels K L slot (Label name ∷ lines) p q a b = ap (λ (ls : List (Word × ℕ)). (name, slot) ∷ ls) (same_labels K L slot lines p q a b)
same_labels K L slot (Statement words ∷ lines) (i ∷ p) (j ∷ q) a b =
    let slots : slots_of j ≡ slots_of i = same_slots j i (same_name (LeadsTo L (slot + slots_of j)) (LeadsTo K (slot + slots_of i)) j i words b.0 a.0) in
    let there : Says L (slot + slots_of i) lines q = subst (λ (n : ℕ). Says L (slot + n) lines q) slots b.1 in
    same_labels K L (slot + slots_of i) lines p q a.1 there ∙ ap (λ (n : ℕ). labels_in (slot + n) lines q) (sym slots)
same_labels K L slot lines p q a b = grind arith

one_program : (labels : List (Word × ℕ)) (slot : ℕ) (lines : List Line) (p q : List Insn) → AllByRecursion Fits p → AllByRecursion Fits q → Says labels slot lines p → Says labels slot lines q → p ≡ q
one_program labels slot [] [] [] f g a b = refl
one_program labels slot (Blank ∷ lines) p q f g a b = one_program labels slot lines p q f g a b
one_program labels slot (Label name ∷ lines) p q f g a b = one_program labels slot lines p q f g a b
one_program labels slot (Statement words ∷ lines) (i ∷ p) (j ∷ q) f g a b =
    let slots : slots_of j ≡ slots_of i = same_slots j i (same_name (LeadsTo labels (slot + slots_of j)) (LeadsTo labels (slot + slots_of i)) j i words b.0 a.0) in
    let there : SaysInsn (LeadsTo labels (slot + slots_of i)) j words = subst (λ (n : ℕ). SaysInsn (LeadsTo labels (slot + n)) j words) slots b.0 in
    let more : Says labels (slot + slots_of i) lines q = subst (λ (n : ℕ). Says labels (slot + n) lines q) slots b.1 in
    ap₂ (λ (x : Insn) (xs : List Insn). x ∷ xs) (one_insn (LeadsTo labels (slot + slots_of i)) (leads_to_one labels (slot + slots_of i)) i j words f.0 g.0 a.0 there) (one_program labels (slot + slots_of i) lines p q f.1 g.1 a.1 more)
one_program labels slot lines p q f g a b = grind arith

-- a text says one program
pub text_says_one : (text : List ℕ) (p q : List Insn) → Text text p → Text text q → p ≡ q
text_says_one text p q a b =
    let labels : labels_in 0 (lines_in text) q ≡ labels_in 0 (lines_in text) p = same_labels (labels_in 0 (lines_in text) q) (labels_in 0 (lines_in text) p) 0 (lines_in text) q p b.said a.said in
    one_program (labels_in 0 (lines_in text) p) 0 (lines_in text) p q a.fit b.fit a.said (subst (λ (ls : List (Word × ℕ)). Says ls 0 (lines_in text) q) labels b.said)
