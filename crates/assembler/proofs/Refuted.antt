-- A text with a fault says no program.
use Rattle.std.proofs.Common.{◌≡◌, ⊎_elim, ℕ, suc, ◌+◌, ◌≤◌, true, ℤ, pos, negsuc, List, [], ◌∷◌, ◌++◌, refl, sym, ap, ◌∙◌, subst, arith}
use Rattle.assembler.proofs.Names.{decimal, signed_decimal, AllByRecursion, false≢true, or_left, or_right, ne_eqb, sum_by-append, sum_by-cons, Insn, slots_of, slot_count, SLOT_LIMIT, Word}
use Rattle.assembler.proofs.Names.{is_natural, is_number_word, is_distance, Operand, Register, Number, Target, operands_of, distance_word, Line, Blank, Label, Statement, lines_in, SaysOperand}
use Rattle.assembler.proofs.Names.{SaysOperands, SaysInsn, labels_in, names_in, AllDiffer, Text, AsmFault, UnknownLabel, DoubleLabel, TooLong, Memory, NoInstruction, Anywhere, OneOf, SaysFitting}
use Rattle.assembler.proofs.Names.{Drafts, FirstWrong, FirstLost, FirstTextFault, HasName, HasFormOf, HaveForms, HasForm, HasUnknownWord, HasBadOperand, IsOutOfRange, IsDoubleLabel, IsTooLong}
use Rattle.assembler.proofs.Names.{HasWords, same_slots, short_operands, IsShortNumber, IsShortOperand}
use Rattle.assembler.specs.declared.fault.AsmFault.TheVariants.{UnknownWord, BadOperand, OutOfRange}
use Rattle.assembler.proofs.Numbers.{decimal_natural, decimal_positive}
use Rattle.assembler.proofs.Texts.{labels_named, says_drafts, split_drafts, names_append, not_differ}

-- ---- slots by names

pub said_slots : (L M : Word → ℤ → Type 0) (ws : List Word) (i j : Insn) → SaysInsn L i ws → SaysInsn M j ws → slots_of i ≡ slots_of j
said_slots L M [] i j h k = absurd h
said_slots L M (w ∷ ws) i j h k = same_slots i j (sym h.0 ∙ k.0)

pub drafts_slots : (L M : Word → ℤ → Type 0) (lines : List Line) (p q : List Insn) → Drafts L lines p → Drafts M lines q → slot_count p ≡ slot_count q
drafts_slots L M [] [] [] h k = refl
drafts_slots L M [] [] (j ∷ q) h k = absurd k
drafts_slots L M (Blank ∷ lines) p q h k = drafts_slots L M lines p q h k
drafts_slots L M (Label name ∷ lines) p q h k = drafts_slots L M lines p q h k
drafts_slots L M (Statement words ∷ lines) (i ∷ p) (j ∷ q) h k =
    let one = said_slots L M words i j h.0.0 k.0.0 in let rest = drafts_slots L M lines p q h.1 k.1 in omega (arith, sum_by-cons slots_of i p, sum_by-cons slots_of j q)
drafts_slots L M (Statement words ∷ lines) (i ∷ p) [] h k = absurd k
drafts_slots L M lines p q h k = absurd h

-- ---- what is said has its form

natural_number : (w : Word) → is_natural w ≡ true → is_number_word w ≡ true
natural_number [] h = absurd cc
natural_number (c ∷ cs) h = rw (ne_eqb c 45 (λ e. false≢true (subst (λ (x : ℕ). is_natural (x ∷ cs) ≡ true) e h))) h

number_form : (z : ℤ) → IsShortNumber z → is_number_word (signed_decimal z) ≡ true
number_form (pos n) l = natural_number (decimal n) (decimal_natural n l)
number_form (negsuc n) l = decimal_positive (suc n) (omega arith) (omega arith)

distance_form : (d : ℤ) → IsShortNumber d → is_distance (distance_word d) ≡ true
distance_form (pos n) l = decimal_natural n l
distance_form (negsuc n) l = decimal_positive (suc n) (omega arith) (omega arith)

operand_form : (o : Operand) (w : Word) → IsShortOperand o → SaysOperand Anywhere o w → HasForm o w
operand_form (Register r) w h s = (r, s)
operand_form (Number z) w h s = ap is_number_word s ∙ number_form z h
operand_form (Target d) w h s = ⊎_elim (λ e. or_left _ _ (ap is_distance e ∙ distance_form d h)) (λ k. or_right (is_distance w) _ k.0) s

operands_form : (os : List Operand) (ws : List Word) → AllByRecursion IsShortOperand os → SaysOperands Anywhere os ws → HaveForms os ws
operands_form [] [] k h = tt
operands_form (o ∷ os) (w ∷ ws) k h = (operand_form o w k.0 h.0, operands_form os ws k.1 h.1)
operands_form os ws k h = absurd h

said_form : (i : Insn) (ws : List Word) → SaysFitting Anywhere i ws → HasFormOf i ws
said_form i [] h = h.0
said_form i (w ∷ ws) h = (h.0.0, operands_form (operands_of i) ws (short_operands i h.1) h.0.1)

said_name : (i : Insn) (ws : List Word) → SaysFitting Anywhere i ws → HasName i ws
said_name i [] h = h.0
said_name i (w ∷ ws) h = h.0.0

-- ---- a line that is wrong, where a program is said

abbrev Refutes : (List Line → List Insn → Line → Type 0) → Type 0
Refutes IsWrong = (before after : List Line) (here : Line) (first front back : List Insn) → IsWrong before first here → slot_count first ≡ slot_count front → slot_count (front ++ back) ≤ SLOT_LIMIT → AllDiffer (names_in (before ++ here ∷ after)) → Drafts Anywhere (here ∷ after) back → ⊥

-- a line with such words says an instruction in front of those behind it
said_words : (AreSuch : List Word → Type 0) (L : Word → ℤ → Type 0) (here : Line) (after : List Line) (back : List Insn) → HasWords AreSuch here → Drafts L (here ∷ after) back
    → (words : List Word) × (i : Insn) × (rest : List Insn) × (back ≡ i ∷ rest) × AreSuch words × SaysFitting L i words
said_words AreSuch L (Statement words) after (i ∷ rest) w h = (words, i, rest, refl, w, h.0)
said_words AreSuch L (Statement words) after [] w h = absurd h
said_words AreSuch L here after back w h = absurd w

no_unknown_word : Refutes HasUnknownWord
no_unknown_word before after here first front back w s l d h = let x = said_words _ _ here after back w h in x.4 x.1 (said_name x.1 x.0 x.5)

no_bad_operand : Refutes HasBadOperand
no_bad_operand before after here first front back w s l d h = let x = said_words _ _ here after back w h in x.4.1 x.1 (said_form x.1 x.0 x.5)

no_out_of_range : Refutes IsOutOfRange
no_out_of_range before after here first front back w s l d h = let x = said_words _ _ here after back w h in x.4.1 x.1 x.5

no_double_label : Refutes IsDoubleLabel
no_double_label before after (Label name) first front back w s l d h =
    not_differ name (names_in before) (names_in after) w (subst AllDiffer (names_append before (Label name ∷ after)) d)
no_double_label before after here first front back w s l d h = w

no_too_long : Refutes IsTooLong
no_too_long before after here first front back w s l d h =
    let x = said_words _ _ here after back w h in
    let one = said_slots Anywhere Anywhere x.0 x.4.0 x.1 x.4.1.0 x.5.0 in
    omega (arith, x.4.2, one, sum_by-append slots_of front back, ap slot_count x.3, sum_by-cons slots_of x.1 x.2)

all_said : (text : List ℕ) (p : List Insn) → Text text p → Drafts Anywhere (lines_in text) p
all_said text p t = says_drafts (labels_in 0 (lines_in text) p) Anywhere (λ b w d k. tt) 0 (lines_in text) p t.fit t.said

no_first_wrong : (IsWrong : List Line → List Insn → Line → Type 0) → Refutes IsWrong → (text : List ℕ) (n : ℕ) (p : List Insn) → FirstWrong IsWrong (lines_in text) n → Text text p → ⊥
no_first_wrong IsWrong refutes text n p f t =
    let d = subst (λ (ls : List Line). Drafts Anywhere ls p) f.parts (all_said text p t) in
    let k = split_drafts Anywhere f.before (f.here ∷ f.after) p d in
    let limit = subst (λ (x : List Insn). slot_count x ≤ SLOT_LIMIT) k.joined t.in_bounds.short in
    let differ = subst (λ (ls : List Line). AllDiffer (names_in ls)) f.parts t.differ in
    refutes f.before f.after f.here f.program k.front k.back f.wrong (drafts_slots Anywhere Anywhere f.before f.program k.front f.right.drafted k.first) limit differ k.second

no_first_lost : (text : List ℕ) (n : ℕ) (p : List Insn) → FirstLost (lines_in text) n → Text text p → ⊥
no_first_lost text n p f t =
    let names = names_in (lines_in text) in
    let labels = labels_in 0 (lines_in text) p in
    let all = says_drafts labels (OneOf names) (λ b w d k. labels_named 0 (lines_in text) p w k.0 k.1) 0 (lines_in text) p t.fit t.said in
    let d = subst (λ (ls : List Line). Drafts (OneOf names) ls p) f.parts all in
    let k = split_drafts (OneOf names) f.before (f.here ∷ f.after) p d in
    let x = said_words _ _ f.here f.after k.back f.lost k.second in x.4 x.1 x.5

-- the law
pub only_memory : (text : List ℕ) (f : AsmFault) → FirstTextFault text f → (p : List Insn) → Text text p → f ≡ Memory
only_memory text (UnknownWord n) h p t = absurd (no_first_wrong HasUnknownWord no_unknown_word text n p h t)
only_memory text (BadOperand n) h p t = absurd (no_first_wrong HasBadOperand no_bad_operand text n p h t)
only_memory text (OutOfRange n) h p t = absurd (no_first_wrong IsOutOfRange no_out_of_range text n p h t)
only_memory text (UnknownLabel n) h p t = absurd (no_first_lost text n p h t)
only_memory text (DoubleLabel n) h p t = absurd (no_first_wrong IsDoubleLabel no_double_label text n p h t)
only_memory text (TooLong n) h p t = absurd (no_first_wrong IsTooLong no_too_long text n p h t)
only_memory text Memory h p t = refl
only_memory text NoInstruction h p t = let e = drafts_slots Anywhere Anywhere (lines_in text) [] p h.drafted (all_said text p t) in let one = t.in_bounds.nonempty in absurd (omega arith)
