-- Laws of the words of operands: which bytes they have, and that each says one operand.
use Rattle.std.proofs.Common.{◌≡◌, ℕ, suc, ◌+◌, ◌%◌, ◌^◌, ◌<◌, ◌≤◌, Bool, true, false, not, ◌&&◌, ◌||◌, ◌==◌, List, [], ◌∷◌, length, drop, ℤ, pos, negsuc, Option, Some, map, ◌⊎◌, inl, inr, refl, sym, ap, ap₂, ◌∙◌, arith, FitsSigned}
use Rattle.std.proofs.lemmas.Bool.{and_parts, and_from}
use Rattle.std.proofs.lemmas.Bool.Decides.{nat_tests}
use Rattle.std.proofs.lemmas.List.Folds.{list_all-append}
use Rattle.std.proofs.lemmas.Fmt.{decimal_by_steps, decimal_nonempty, decimal_injective}
use Rattle.std.specs.Fmt.{decimal, signed_decimal}
use Rattle.std.specs.List.{list_all, find, AllByRecursion}
use Rattle.std.specs.Int.{w16, w32}
use Rattle.insn.specs.declared.register.RegNo.{RegNo}
use Rattle.insn.specs.declared.register.RegNo.TheVariants.{R0, R1, R2, R3, R4, R5, R6, R7, R8, R9, R10}
use Rattle.insn.specs.Instruction.{reg_number}
use Rattle.assembly.specs.Text.{Word, Operand, Register, Number, Target, is_digit, is_empty, is_name, register_word, distance_word, written_operand, SaysOperand, SaysOperands}

-- a byte that parts no words and no lines, begins no comment and ends no label
abbrev pub is_plain : ℕ → Bool
is_plain c = not (c == 10) && (not (c == 59) && (not (c == 32 || c == 9) && not (c == 58)))

pub record Plain (c : ℕ) : Type 0 where
  pub no_feed : (c == 10) ≡ false
  pub no_comment : (c == 59) ≡ false
  pub no_space : (c == 32 || c == 9) ≡ false
  pub no_colon : (c == 58) ≡ false

pub plain_code : (c : ℕ) → is_plain c ≡ true → Plain c
plain_code c h = record { no_feed = grind arith; no_comment = grind arith; no_space = grind arith; no_colon = grind arith }

pub plain_between : (c : ℕ) → 43 ≤ c → c < 58 → is_plain c ≡ true
plain_between c low high = grind (arith, nat_tests)

pub list_all-imp : {X : Type 0} (p q : X → Bool) → ((x : X) → p x ≡ true → q x ≡ true) → (xs : List X) → list_all p xs ≡ true → list_all q xs ≡ true
list_all-imp p q imp [] h = refl
list_all-imp p q imp (x ∷ xs) h = let here = imp x in let rest = list_all-imp p q imp xs in grind (arith, here, rest)

-- ---- digits

pub digit_bounds : (c : ℕ) → is_digit c ≡ true → (48 ≤ c) × (c ≤ 57)
digit_bounds c h = (grind (arith, nat_tests), grind (arith, nat_tests))

-- a decimal number is digits
pub decimal_digits : (n : ℕ) → n < 2 ^ 64 → list_all is_digit (decimal n) ≡ true
decimal_digits = decimal_by_steps (λ n ds. list_all is_digit ds ≡ true)
    (λ n small. grind (arith, nat_tests))
    (λ n ds large h. let all = list_all-append is_digit ds ((48 + n % 10) ∷ []) in grind (arith, nat_tests, all))

-- a word that begins with this byte
pub record Begins (word : Word) : Type 0 where
  pub first : ℕ
  pub more : Word
  pub is : word ≡ first ∷ more

begins_with_digit : (word : Word) → 0 < length word → list_all is_digit word ≡ true → (b : Begins word) × (48 ≤ b.first) × (b.first ≤ 57)
begins_with_digit [] some digits = absurd (omega arith)
begins_with_digit (c ∷ more) some digits =
    let bounds = digit_bounds c (and_parts (is_digit c) (list_all is_digit more) digits).0 in
    (record { first = c; more = more; is = refl }, bounds.0, bounds.1)

pub decimal_begins : (n : ℕ) → n < 2 ^ 64 → (b : Begins (decimal n)) × (48 ≤ b.first) × (b.first ≤ 57)
decimal_begins n short = begins_with_digit (decimal n) (decimal_nonempty n short) (decimal_digits n short)

-- ---- the numbers that are written

-- a number of at most 64 bits
abbrev pub IsShortNumber : ℤ → Type 0
IsShortNumber (pos n) = n < 2 ^ 64
IsShortNumber (negsuc n) = suc n < 2 ^ 64

abbrev pub IsShortOperand : Operand → Type 0
IsShortOperand (Register r) = Unit {0}
IsShortOperand (Number n) = IsShortNumber n
IsShortOperand (Target d) = IsShortNumber d

pub short_of_16 : (z : ℤ) → FitsSigned w16 z → IsShortNumber z
short_of_16 z h = grind arith

pub short_of_32 : (z : ℤ) → FitsSigned w32 z → IsShortNumber z
short_of_32 z h = grind arith

-- ---- words are plain_code

pub record PlainWord (word : Word) : Type 0 where
  pub bytes : list_all is_plain word ≡ true
  pub some : is_empty word ≡ false

plain_digits : (word : Word) → 0 < length word → list_all is_digit word ≡ true → PlainWord word
plain_digits [] some digits = absurd (omega arith)
plain_digits (c ∷ more) some digits = record {
  bytes = list_all-imp is_digit is_plain (λ d h. grind (arith, nat_tests)) (c ∷ more) digits;
  some = refl;
}

plain_decimal : (n : ℕ) → n < 2 ^ 64 → PlainWord (decimal n)
plain_decimal n short = plain_digits (decimal n) (decimal_nonempty n short) (decimal_digits n short)

plain_after : (c : ℕ) (word : Word) → is_plain c ≡ true → PlainWord word → PlainWord (c ∷ word)
plain_after c word here h = record { bytes = and_from _ _ here h.bytes; some = refl }

pub reg_number_small : (r : RegNo) → reg_number r ≤ 10
reg_number_small r = grind arith

reg_number_short : (r : RegNo) → reg_number r < 2 ^ 64
reg_number_short r = omega (arith, reg_number_small r)

pub plain_register : (r : RegNo) → PlainWord (register_word r)
plain_register r = plain_after 114 (decimal (reg_number r)) refl (plain_decimal (reg_number r) (reg_number_short r))

pub plain_number : (z : ℤ) → IsShortNumber z → PlainWord (signed_decimal z)
plain_number (pos n) short = plain_decimal n short
plain_number (negsuc n) short = plain_after 45 (decimal (suc n)) refl (plain_decimal (suc n) short)

pub plain_distance : (z : ℤ) → IsShortNumber z → PlainWord (distance_word z)
plain_distance (pos n) short = plain_after 43 (decimal n) refl (plain_decimal n short)
plain_distance (negsuc n) short = plain_after 45 (decimal (suc n)) refl (plain_decimal (suc n) short)

-- an operand's word is plain_code
pub plain_operand : (o : Operand) → IsShortOperand o → PlainWord (written_operand o)
plain_operand (Register r) short = plain_register r
plain_operand (Number n) short = plain_number n short
plain_operand (Target d) short = plain_distance d short

-- ---- each word says one operand

-- a register of a number
abbrev register_at : ℕ → Option RegNo
register_at n = find (λ r. reg_number r == n) (R0 ∷ R1 ∷ R2 ∷ R3 ∷ R4 ∷ R5 ∷ R6 ∷ R7 ∷ R8 ∷ R9 ∷ R10 ∷ [])

register_found : (r : RegNo) → register_at (reg_number r) ≡ Some r
register_found r = grind arith

pub reg_number-injective : (r s : RegNo) → reg_number r ≡ reg_number s → r ≡ s
reg_number-injective r s e = let both : Some r ≡ Some s = sym (register_found r) ∙ ap register_at e ∙ register_found s in cc

pub register_word-injective : (r s : RegNo) → register_word r ≡ register_word s → r ≡ s
register_word-injective r s e = reg_number-injective r s (decimal_injective (reg_number r) (reg_number s) (reg_number_short r) (reg_number_short s) (ap (drop 1) e))

-- decimal digits begin with no other byte
pub decimal-ne : (c n : ℕ) (word : Word) → (c < 48) ⊎ (57 < c) → n < 2 ^ 64 → decimal n ≡ c ∷ word → ⊥
decimal-ne c n word out short e =
    let b = decimal_begins n short in
    let same : b.0.first ∷ b.0.more ≡ c ∷ word = sym b.0.is ∙ e in
    grind (arith, same, b.1, b.2)

pub signed_decimal-injective : (y z : ℤ) → IsShortNumber y → IsShortNumber z → signed_decimal y ≡ signed_decimal z → y ≡ z
signed_decimal-injective (pos m) (pos n) p q e = ap pos (decimal_injective m n p q e)
signed_decimal-injective (pos m) (negsuc n) p q e = absurd (decimal-ne 45 m (decimal (suc n)) (inl (omega arith)) p e)
signed_decimal-injective (negsuc m) (pos n) p q e = absurd (decimal-ne 45 n (decimal (suc m)) (inl (omega arith)) q (sym e))
signed_decimal-injective (negsuc m) (negsuc n) p q e = ap negsuc (omega (arith, decimal_injective (suc m) (suc n) p q (ap (drop 1) e)))

-- words that begin with unlike bytes differ
pub other_first : (c d : ℕ) (word other : Word) → (c < d) ⊎ (d < c) → c ∷ word ≡ d ∷ other → ⊥
other_first c d word other apart e = let same : c ≡ d = cc in grind arith

pub distance_word-injective : (y z : ℤ) → IsShortNumber y → IsShortNumber z → distance_word y ≡ distance_word z → y ≡ z
distance_word-injective (pos m) (pos n) p q e = ap pos (decimal_injective m n p q (ap (drop 1) e))
distance_word-injective (pos m) (negsuc n) p q e = absurd (other_first 43 45 (decimal m) (decimal (suc n)) (inl (omega arith)) e)
distance_word-injective (negsuc m) (pos n) p q e = absurd (other_first 45 43 (decimal (suc m)) (decimal n) (inr (omega arith)) e)
distance_word-injective (negsuc m) (negsuc n) p q e = signed_decimal-injective (negsuc m) (negsuc n) p q e

-- no register's word is a number's
pub register_is_no_number : (r : RegNo) (z : ℤ) → IsShortNumber z → register_word r ≡ signed_decimal z → ⊥
register_is_no_number r (pos n) short e = decimal-ne 114 n (decimal (reg_number r)) (inr (omega arith)) short (sym e)
register_is_no_number r (negsuc n) short e = other_first 114 45 (decimal (reg_number r)) (decimal (suc n)) (inr (omega arith)) e

-- no distance is a name
pub distance_is_no_name : (z : ℤ) → is_name (distance_word z) ≡ false
distance_is_no_name z = grind arith

-- whether an operand is a jump's target
abbrev pub is_target : Operand → Bool
is_target (Register r) = false
is_target (Number n) = false
is_target (Target d) = true

-- what a name says of a distance is one
abbrev pub LeadsToOne : (Word → ℤ → Type 0) → Type 0
LeadsToOne Leads = (name : Word) (d e : ℤ) → Leads name d → Leads name e → d ≡ e

abbrev SaysTarget : (Word → ℤ → Type 0) → Word → ℤ → Type 0
SaysTarget Leads word d = (word ≡ distance_word d) ⊎ ((is_name word ≡ true) × Leads word d)

one_target : (Leads : Word → ℤ → Type 0) → LeadsToOne Leads → (word : Word) (d e : ℤ) → IsShortNumber d → IsShortNumber e → SaysTarget Leads word d → SaysTarget Leads word e → d ≡ e
one_target Leads one word d e p q s t = grind (arith, distance_is_no_name, distance_word-injective d e p q, one word d e)

-- a word says one operand, where it is known whether that is a target
pub one_operand : (Leads : Word → ℤ → Type 0) → LeadsToOne Leads → (word : Word) (o u : Operand) → IsShortOperand o → IsShortOperand u → is_target o ≡ is_target u → SaysOperand Leads o word → SaysOperand Leads u word → o ≡ u
one_operand Leads one word (Register r) (Register s) p q k a b = ap Register (register_word-injective r s (sym a ∙ b))
one_operand Leads one word (Register r) (Number z) p q k a b = absurd (register_is_no_number r z q (sym a ∙ b))
one_operand Leads one word (Number y) (Register s) p q k a b = absurd (register_is_no_number s y p (sym b ∙ a))
one_operand Leads one word (Number y) (Number z) p q k a b = ap Number (signed_decimal-injective y z p q (sym a ∙ b))
one_operand Leads one word (Target d) (Target e) p q k a b = ap Target (one_target Leads one word d e p q a b)
one_operand Leads one word o u p q k a b = absurd cc

-- words say one list of operands, where it is known which are targets
pub one_operands : (Leads : Word → ℤ → Type 0) → LeadsToOne Leads → (words : List Word) (os us : List Operand) → AllByRecursion IsShortOperand os → AllByRecursion IsShortOperand us → map is_target os ≡ map is_target us → SaysOperands Leads os words → SaysOperands Leads us words → os ≡ us
one_operands Leads one words [] [] p q k a b = refl
one_operands Leads one (word ∷ words) (o ∷ os) (u ∷ us) p q k a b =
    let here : is_target o ≡ is_target u = cc in
    let behind : map is_target os ≡ map is_target us = cc in
    ap₂ (λ (x : Operand) (xs : List Operand). x ∷ xs) (one_operand Leads one word o u p.0 q.0 here a.0 b.0) (one_operands Leads one words os us p.1 q.1 behind a.1 b.1)
one_operands Leads one [] (o ∷ os) (u ∷ us) p q k a b = absurd a
one_operands Leads one words os us p q k a b = absurd cc
