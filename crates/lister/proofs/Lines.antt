-- The lines of a canonical text: one for each instruction, with its words, and an empty one behind them.
use Rattle.std.proofs.Common.{◌≡◌, ℕ, Bool, true, not, ◌||◌, ◌==◌, cond, List, [], ◌∷◌, ◌++◌, map, ℤ, ◌+◌, None, refl, sym, ap, ◌∙◌, subst, codes, append_assoc, append-nil, inl, arith}
use Rattle.std.proofs.lemmas.Bool.{and_parts, and_from, not_from_false}
use Rattle.std.proofs.lemmas.Bool.Decides.{nat_tests}
use Rattle.std.proofs.lemmas.List.Folds.{list_all-append}
use Rattle.std.proofs.lemmas.List.Splits.{slice_split-cons_yes, slice_split-cons_no}
use Rattle.std.specs.List.{list_all, flat_map, filter, slice_split, AllByRecursion}
use Rattle.std.specs.Option.{option_map}
use Rattle.insn.specs.declared.instruction.Insn.{Insn}
use Rattle.insn.specs.declared.instruction.Insn.TheVariants.{Exit}
use Rattle.insn.specs.Instruction.{Fits, slots_of}
use Rattle.insn.specs.Meaning.{action_of}
use Rattle.insn.specs.Program.{IsProgram}
use Rattle.assembly.specs.Text.{Word, Operand, Register, Number, Target, Line, Blank, Statement, is_empty, before_comment, words_in, labelled, one_word_line, line_of, lines_in, name_of, operands_of, written_operand, SaysOperand, SaysOperands, LeadsTo, labels_in, Says, names_in, AllDiffer, Text, canonical_line, canonical_text}
use Rattle.assembly.specs.TextWordLaws.{is_plain, plain_code, PlainWord, list_all-imp, IsShortOperand, plain_operand}
use Rattle.assembly.specs.TextNameLaws.{plain_name, short_operands}
use Rattle.lister.specs.Operands.{operands_in}

-- the operands of an instruction's line are those of what it says
same_operands : (i : Insn) → operands_in (action_of i) ≡ operands_of i
same_operands Exit = refl
same_operands i = refl

pub line_is : (i : Insn) → name_of i ++ (flat_map (λ operand. codes " " ++ written_operand operand) (operands_in (action_of i)) ++ codes "\n") ≡ canonical_line i
line_is i = rw (same_operands i) (sym (append_assoc (name_of i) (flat_map (λ operand. codes " " ++ written_operand operand) (operands_of i)) (codes "\n")))

-- ---- splitting

split_none : (p : ℕ → Bool) (xs : List ℕ) → list_all (λ x. not (p x)) xs ≡ true → slice_split p xs ≡ xs ∷ []
split_none p [] h = refl
split_none p (x ∷ xs) h = let rest = split_none p xs in let one = slice_split-cons_no p x xs in grind (arith, nat_tests, h, rest, one)

split_at : (p : ℕ → Bool) (xs : List ℕ) (y : ℕ) (ys : List ℕ) → list_all (λ x. not (p x)) xs ≡ true → p y ≡ true → slice_split p (xs ++ y ∷ ys) ≡ xs ∷ slice_split p ys
split_at p [] y ys h e = slice_split-cons_yes p y ys e
split_at p (x ∷ xs) y ys h e = let rest = split_at p xs y ys in let one = slice_split-cons_no p x (xs ++ y ∷ ys) in grind (arith, nat_tests, h, e, rest, one)

-- ---- the words of a line

abbrev is_feed : ℕ → Bool
is_feed c = c == 10

abbrev is_space : ℕ → Bool
is_space c = c == 32 || c == 9

-- the operands of a line, with a space before each
abbrev behind : List Operand → List ℕ
behind operands = flat_map (λ operand. codes " " ++ written_operand operand) operands

abbrev words : List Operand → List Word
words operands = map written_operand operands

-- each operand's word is plain_code
abbrev PlainOperands : List Operand → Type 0
PlainOperands operands = AllByRecursion (λ o. PlainWord (written_operand o)) operands

plain_operands : (operands : List Operand) → AllByRecursion IsShortOperand operands → PlainOperands operands
plain_operands [] short = tt
plain_operands (o ∷ operands) short = (plain_operand o short.0, plain_operands operands short.1)

all_where : (p : ℕ → Bool) → ((c : ℕ) → is_plain c ≡ true → p c ≡ true) → p 32 ≡ true → (word : Word) (operands : List Operand) → PlainWord word → PlainOperands operands → list_all p (word ++ behind operands) ≡ true
all_where p imp space word [] h hs = ap (list_all p) (append-nil word) ∙ list_all-imp is_plain p imp word h.bytes
all_where p imp space word (o ∷ operands) h hs =
    list_all-append p word (behind (o ∷ operands)) ∙ and_from _ _ (list_all-imp is_plain p imp word h.bytes) (and_from _ _ space (all_where p imp space (written_operand o) operands hs.0 hs.1))

no_feed : (word : Word) (operands : List Operand) → PlainWord word → PlainOperands operands → list_all (λ c. not (is_feed c)) (word ++ behind operands) ≡ true
no_feed = all_where (λ c. not (is_feed c)) (λ c h. not_from_false (is_feed c) (plain_code c h).no_feed) refl

no_comment : (word : Word) (operands : List Operand) → PlainWord word → PlainOperands operands → list_all (λ c. not (c == 59)) (word ++ behind operands) ≡ true
no_comment = all_where (λ c. not (c == 59)) (λ c h. not_from_false (c == 59) (plain_code c h).no_comment) refl

no_space : (word : Word) → PlainWord word → list_all (λ c. not (is_space c)) word ≡ true
no_space word h = list_all-imp is_plain (λ c. not (is_space c)) (λ c k. not_from_false (is_space c) (plain_code c k).no_space) word h.bytes

before_comment-all : (text : List ℕ) → list_all (λ c. not (c == 59)) text ≡ true → before_comment text ≡ text
before_comment-all [] h = refl
before_comment-all (c ∷ text) h = let rest = before_comment-all text in grind (arith, nat_tests, h, rest)

split_words : (word : Word) (operands : List Operand) → PlainWord word → PlainOperands operands → slice_split is_space (word ++ behind operands) ≡ word ∷ words operands
split_words word [] h hs = ap (slice_split is_space) (append-nil word) ∙ split_none is_space word (no_space word h)
split_words word (o ∷ operands) h hs =
    split_at is_space word 32 (written_operand o ++ behind operands) (no_space word h) refl ∙ ap (λ ws. word ∷ ws) (split_words (written_operand o) operands hs.0 hs.1)

abbrev is_some_word : Word → Bool
is_some_word word = not (is_empty word)

keep : (word : Word) (more : List Word) → PlainWord word → filter is_some_word (word ∷ more) ≡ word ∷ filter is_some_word more
keep word more h = ap (λ b. cond (not b) (word ∷ filter is_some_word more) (filter is_some_word more)) h.some

keep_all : (operands : List Operand) → PlainOperands operands → filter is_some_word (words operands) ≡ words operands
keep_all [] hs = refl
keep_all (o ∷ operands) hs = keep (written_operand o) (words operands) hs.0 ∙ ap (λ ws. written_operand o ∷ ws) (keep_all operands hs.1)

-- the words of a line
pub words_in-line : (word : Word) (operands : List Operand) → PlainWord word → PlainOperands operands → words_in (word ++ behind operands) ≡ word ∷ words operands
words_in-line word operands h hs =
    ap (λ l. filter is_some_word (slice_split is_space l)) (before_comment-all (word ++ behind operands) (no_comment word operands h hs))
    ∙ ap (filter is_some_word) (split_words word operands h hs)
    ∙ keep word (words operands) h
    ∙ ap (λ ws. word ∷ ws) (keep_all operands hs)

-- a plain_code word ends with no colon
labelled-plain_code : (word : Word) → list_all is_plain word ≡ true → labelled word ≡ None
labelled-plain_code [] h = refl
labelled-plain_code (c ∷ []) h = rw (plain_code c (and_parts (is_plain c) true h).0).no_colon refl
labelled-plain_code (c ∷ d ∷ more) h = ap (option_map (λ name. c ∷ name)) (labelled-plain_code (d ∷ more) (and_parts (is_plain c) _ h).1)

line_of-words : (word : Word) (more : List Word) → PlainWord word → line_of (word ∷ more) ≡ Statement (word ∷ more)
line_of-words word [] h = ap (one_word_line word) (labelled-plain_code word h.bytes)
line_of-words word (w ∷ more) h = refl

-- ---- the lines of a text

-- an instruction's words
abbrev pub statement : Insn → Line
statement i = Statement (name_of i ∷ words (operands_of i))

abbrev pub statements : List Insn → List Line
statements [] = Blank ∷ []
statements (i ∷ program) = statement i ∷ statements program

abbrev line_at : List ℕ → Line
line_at line = line_of (words_in line)

line_at-insn : (i : Insn) → Fits i → line_at (name_of i ++ behind (operands_of i)) ≡ statement i
line_at-insn i fits =
    let operands = plain_operands (operands_of i) (short_operands i fits) in
    ap line_of (words_in-line (name_of i) (operands_of i) (plain_name i) operands) ∙ line_of-words (name_of i) (words (operands_of i)) (plain_name i)

cut : (i : Insn) (text : List ℕ) → canonical_line i ++ text ≡ (name_of i ++ behind (operands_of i)) ++ 10 ∷ text
cut i text = append_assoc (name_of i ++ behind (operands_of i)) (codes "\n") text

-- the lines of a canonical text
pub lines_of_canonical_text : (p : List Insn) → AllByRecursion Fits p → lines_in (canonical_text p) ≡ statements p
lines_of_canonical_text [] fits = refl
lines_of_canonical_text (i ∷ p) fits =
    let operands = plain_operands (operands_of i) (short_operands i fits.0) in
    ap lines_in (cut i (canonical_text p))
    ∙ ap (map line_at) (split_at is_feed (name_of i ++ behind (operands_of i)) 10 (canonical_text p) (no_feed (name_of i) (operands_of i) (plain_name i) operands) refl)
    ∙ ap (λ (l : Line). l ∷ lines_in (canonical_text p)) (line_at-insn i fits.0)
    ∙ ap (λ (ls : List Line). statement i ∷ ls) (lines_of_canonical_text p fits.1)

-- ---- what they say

says_operand : (Leads : Word → ℤ → Type 0) (o : Operand) → SaysOperand Leads o (written_operand o)
says_operand Leads (Register r) = refl
says_operand Leads (Number n) = refl
says_operand Leads (Target d) = inl refl

says_operands : (Leads : Word → ℤ → Type 0) (operands : List Operand) → SaysOperands Leads operands (words operands)
says_operands Leads [] = tt
says_operands Leads (o ∷ operands) = (says_operand Leads o, says_operands Leads operands)

says_statements : (labels : List (Word × ℕ)) (slot : ℕ) (p : List Insn) → Says labels slot (statements p) p
says_statements labels slot [] = tt
says_statements labels slot (i ∷ p) = ((refl, says_operands (LeadsTo labels (slot + slots_of i)) (operands_of i)), says_statements labels (slot + slots_of i) p)

no_names : (p : List Insn) → names_in (statements p) ≡ []
no_names [] = refl
no_names (i ∷ p) = no_names p

-- the canonical text of a program says it
pub canonical_text_says : (p : List Insn) → IsProgram p → AllByRecursion Fits p → Text (canonical_text p) p
canonical_text_says p in_bounds fits =
    let lines = lines_of_canonical_text p fits in
    record {
      in_bounds = in_bounds;
      fit = fits;
      differ = subst AllDiffer (sym (ap names_in lines ∙ no_names p)) tt;
      said = subst (λ (ls : List Line). Says (labels_in 0 ls p) 0 ls p) (sym lines) (says_statements (labels_in 0 (statements p) p) 0 p);
    }
