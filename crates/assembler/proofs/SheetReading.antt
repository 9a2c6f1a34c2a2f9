-- Lines are read one by one.
use Rattle.std.proofs.Common.{◌≡◌, ℕ, suc, ◌+◌, ◌<◌, ◌≤◌, true, false, Bool, cond, ℤ, pos, List, [], ◌∷◌, ◌++◌, length, map, take, drop, get_or, Option, Some, None, Err, Bor, is_some, take-append-drop, refl, sym, ap, ◌∙◌, subst, arith, append-nil}
use Rattle.assembler.proofs.Names.{drop-cons, bytes_eq, list_any, list_any-append, option_map, nat_tests, bytes_eq-Decides, sum_by-cons, sum_by-append, ints, Insn, slots_of, slot_count, SLOT_LIMIT, Word}
use Rattle.assembler.proofs.Names.{mnemonic_name, mnemonic_of, operands_of, Line, Blank, Label, Statement, SaysInsn, SaysOperands, labels_in, slot_of, names_in, AllDiffer, line_of, words_in, If, W32, W64, Imm}
use Rattle.assembler.proofs.Names.{Draft, Whole, ToLabel, SlotNumber, Place, Mnemonic, Anywhere, SaysFitting, Drafts, AreRight, FirstWrong, FaultIn, HasUnknownWord, HasBadOperand, IsOutOfRange}
use Rattle.assembler.proofs.Names.{IsDoubleLabel, IsTooLong, draft_slots, jump_over, Nowhere, At, IsDraft, SaysDraft, StatementDraft, lines_of, AreFrom, with_zero, zeroed, AreRead, find_in}
use Rattle.assembler.proofs.Names.{fault_on_line, slice_cmp, nat_cmp, BTreeMap, get_by}
use Rattle.std.proofs.lemmas.List.{take_more, length-take-le, map-append, length-map}
use Rattle.assembler.specs.declared.draft.Jump.{Jump}
use Rattle.assembler.specs.declared.draft.WordFault.{WordFault}
use Rattle.assembler.specs.declared.draft.WordFault.TheVariants.{UnknownWord, BadOperand, OutOfRange}
use Rattle.assembler.proofs.Texts.{operands_more, names_append, bytes_eq_sym, labels_named}

pub some_none : {A : Type 0} {x : A} → Some x ≡ None → ⊥
some_none e = absurd cc

any_push : (x : Word) (ws : List Word) (w : Word) → list_any (bytes_eq x) ws ≡ false → bytes_eq x w ≡ false → list_any (bytes_eq x) (ws ++ w ∷ []) ≡ false
any_push x ws w h k = let e = list_any-append (bytes_eq x) ws (w ∷ []) in grind (arith, nat_tests, e, h, k)

-- ---- drafts

-- words behind a mnemonic say an instruction wherever names may lead further
pub said_by : (L M : Word → ℤ → Type 0) (m : Mnemonic) (ops : List Word) (i : Insn) → mnemonic_of i ≡ m → SaysOperands L (operands_of i) ops → ((w : Word) (d : ℤ) → L w d → M w d) → SaysInsn M i (mnemonic_name m ∷ ops)
said_by L M m ops i e s more = (ap mnemonic_name (sym e), operands_more L M more (operands_of i) ops s)

zeroed_parts : (m : Mnemonic) (ops : List Word) (d : Draft) → SaysDraft m ops d → SaysFitting Anywhere (with_zero d) (mnemonic_name m ∷ ops)
zeroed_parts m ops (Whole i) h = (said_by Nowhere Anywhere m ops i h.0 h.2 (λ w d k. tt), h.1)
zeroed_parts m ops (ToLabel jump name) h = let j = h.0 (pos 0) (omega (arith, ints)) in (said_by (At name.now (pos 0)) Anywhere m ops (jump_over jump (pos 0)) j.named j.said (λ w d k. tt), j.fit)

pub zeroed_said : (words : List Word) (d : Draft) → IsDraft words d → SaysFitting Anywhere (with_zero d) words
zeroed_said words d h = subst (λ (ws : List Word). SaysFitting Anywhere (with_zero d) ws) (sym h.parts) (zeroed_parts h.mnemonic h.operands d h.said)

pub jump_slots : (jump : Jump) (d : ℤ) → slots_of (jump_over jump d) ≡ 1
jump_slots (If W64 cond dst (Imm imm)) d = refl
jump_slots (If W32 cond dst (Imm imm)) d = refl
jump_slots jump d = refl

pub zero_slots : (d : Draft) → slots_of (with_zero d) ≡ draft_slots d
zero_slots (Whole i) = refl
zero_slots (ToLabel jump name) = jump_slots jump (pos 0)

pub are_drafts : (n s : ℕ) (lines : List Line) (ps : List Place) → AreFrom n s lines ps → Drafts Anywhere lines (zeroed ps)
are_drafts n s [] [] h = tt
are_drafts n s (Blank ∷ lines) ps h = are_drafts (n + 1) s lines ps h
are_drafts n s (Label name ∷ lines) ps h = are_drafts (n + 1) s lines ps h
are_drafts n s (Statement words ∷ lines) (p ∷ ps) h = (zeroed_said words p.draft h.0, are_drafts (n + 1) p.behind.number lines ps h.3)
are_drafts n s lines ps h = h

-- ---- one more line

are_append : (n s m t : ℕ) (a : List Line) (ps : List Place) (b : List Line) (qs : List Place) → m ≡ n + length a → t ≡ s + slot_count (zeroed ps) → AreFrom n s a ps → AreFrom m t b qs → AreFrom n s (a ++ b) (ps ++ qs)
are_append n s m t [] [] b qs e f h k =
    let en : m ≡ n = omega arith in let es : t ≡ s = omega arith in subst (λ (x : ℕ). AreFrom x s b qs) en (subst (λ (x : ℕ). AreFrom m x b qs) es k)
are_append n s m t (Blank ∷ a) ps b qs e f h k = are_append (n + 1) s m t a ps b qs (omega arith) f h k
are_append n s m t (Label name ∷ a) ps b qs e f h k = are_append (n + 1) s m t a ps b qs (omega arith) f h k
are_append n s m t (Statement words ∷ a) (p ∷ ps) b qs e f h k =
    let c = sum_by-cons slots_of (with_zero p.draft) (zeroed ps) in
    let z = zero_slots p.draft in
    let w = h.2 in
    (h.0, h.1, h.2, are_append (n + 1) p.behind.number m t a ps b qs (omega arith) (omega arith) h.3 k)
are_append n s m t a ps b qs e f h k = absurd h

labels_append : (L : Word → ℤ → Type 0) (s t : ℕ) (a : List Line) (p : List Insn) (b : List Line) (q : List Insn) → Drafts L a p → t ≡ s + slot_count p → labels_in s (a ++ b) (p ++ q) ≡ labels_in s a p ++ labels_in t b q
labels_append L s t [] [] b q h e = let k : t ≡ s = omega arith in ap (λ (x : ℕ). labels_in x b q) (sym k)
labels_append L s t (Blank ∷ a) p b q h e = labels_append L s t a p b q h e
labels_append L s t (Label name ∷ a) p b q h e = ap (λ (x : List (Word × ℕ)). (name, s) ∷ x) (labels_append L s t a p b q h e)
labels_append L s t (Statement words ∷ a) (i ∷ p) b q h e = let c = sum_by-cons slots_of i p in labels_append L (s + slots_of i) t a p b q h.1 (omega arith)
labels_append L s t a p b q h e = absurd h

-- a name is not among lines whose labels lack it
pub name_labelled : (L : Word → ℤ → Type 0) (s : ℕ) (lines : List Line) (p : List Insn) (q : Word) → Drafts L lines p → slot_of (labels_in s lines p) q ≡ None → list_any (bytes_eq q) (names_in lines) ≡ false
name_labelled L s [] p q h e = refl
name_labelled L s (Blank ∷ lines) p q h e = name_labelled L s lines p q h e
name_labelled L s (Label name ∷ lines) p q h e =
    let rest = name_labelled L s lines p q h in
    let same = bytes_eq_sym q name in
    grind (arith, nat_tests, e, rest, same)
name_labelled L s (Statement words ∷ lines) [] q h e = absurd h
name_labelled L s (Statement words ∷ lines) (i ∷ p) q h e = name_labelled L (s + slots_of i) lines p q h.1 e

differ_push : (ws : List Word) (w : Word) → AllDiffer ws → list_any (bytes_eq w) ws ≡ false → AllDiffer (ws ++ w ∷ [])
differ_push [] w d h = (refl, tt)
differ_push (x ∷ ws) w d h =
    let same = bytes_eq_sym x w in
    let push = any_push x ws w d.0 in
    (grind (arith, nat_tests, h, same, push), differ_push ws w d.1 (grind (arith, nat_tests, h)))

-- a label that stands nowhere before
slot_push : (labels : List (Word × ℕ)) (name : Word) (s : ℕ) (q : Word) → slot_of labels name ≡ None → slot_of (labels ++ (name, s) ∷ []) q ≡ cond (bytes_eq name q) (Some s) (slot_of labels q)
slot_push [] name s q e = refl
slot_push (l ∷ labels) name s q e =
    let rest = slot_push labels name s q in
    let a = bytes_eq-Decides l.0 q in
    let b = bytes_eq-Decides name q in
    let c = bytes_eq-Decides l.0 name in
    grind (arith, nat_tests, e, rest, a, b, c)

-- ---- the steps

-- one line more, with the places and the labels that it adds
look : (lines : List Line) (ps qs : List Place) (find more : Word → Option ℕ) (s t : ℕ) (line : Line) → AreRead lines ps find s → AreFrom (length lines) s (line ∷ []) qs → t ≡ s + slot_count (zeroed qs)
    → ((q : Word) → more q ≡ slot_of (labels_in 0 lines (zeroed ps) ++ labels_in s (line ∷ []) (zeroed qs)) q) → AllDiffer (names_in lines ++ names_in (line ∷ [])) → AreRead (lines ++ line ∷ []) (ps ++ qs) more t
look lines ps qs find more s t line h stand behind labels differ =
    let both = map-append (λ (p : Place). with_zero p.draft) ps qs in
    record {
      stand = are_append 0 0 (length lines) s lines ps (line ∷ []) qs (omega arith) (omega (arith, h.behind)) h.stand stand;
      behind = rw both (omega (arith, h.behind, sum_by-append slots_of (zeroed ps) (zeroed qs)));
      labels = λ q. labels q ∙ ap (λ (x : List (Word × ℕ)). slot_of x q) (sym (ap (labels_in 0 (lines ++ line ∷ [])) both
          ∙ labels_append Anywhere 0 s lines (zeroed ps) (line ∷ []) (zeroed qs) (are_drafts 0 0 lines ps h.stand) (omega (arith, h.behind))));
      differ = rw names_append differ;
    }

pub look_blank : (lines : List Line) (ps : List Place) (find : Word → Option ℕ) (s : ℕ) → AreRead lines ps find s → AreRead (lines ++ Blank ∷ []) ps find s
look_blank lines ps find s h =
    subst (λ (x : List Place). AreRead (lines ++ Blank ∷ []) x find s) (append-nil ps)
    (look lines ps [] find find s s Blank h tt (omega arith) (λ q. rw append-nil (h.labels q)) (rw append-nil h.differ))

pub look_label : (lines : List Line) (ps : List Place) (find more : Word → Option ℕ) (s : ℕ) (name : Word) → AreRead lines ps find s → find name ≡ None → ((q : Word) → more q ≡ cond (bytes_eq name q) (Some s) (find q)) → AreRead (lines ++ Label name ∷ []) ps more s
look_label lines ps find more s name h new with_name =
    let none = sym (h.labels name) ∙ new in
    subst (λ (x : List Place). AreRead (lines ++ Label name ∷ []) x more s) (append-nil ps)
    (look lines ps [] find more s s (Label name) h tt (omega arith) (λ q. with_name q ∙ ap (cond (bytes_eq name q) (Some s)) (h.labels q) ∙ sym (slot_push (labels_in 0 lines (zeroed ps)) name s q none))
    (differ_push (names_in lines) name h.differ (name_labelled Anywhere 0 lines (zeroed ps) name (are_drafts 0 0 lines ps h.stand) none)))

pub look_statement : (lines : List Line) (ps : List Place) (find : Word → Option ℕ) (s : ℕ) (words : List Word) (p : Place) → AreRead lines ps find s → IsDraft words p.draft → p.line ≡ length lines + 1 → p.behind.number ≡ s + draft_slots p.draft → AreRead (lines ++ Statement words ∷ []) (ps ++ p ∷ []) find p.behind.number
look_statement lines ps find s words p h d number behind =
    look lines ps (p ∷ []) find find s p.behind.number (Statement words) h (d, number, behind, tt) (omega (arith, behind, zero_slots p.draft, sum_by-cons slots_of (with_zero p.draft) []))
    (λ q. rw append-nil (h.labels q)) (rw append-nil h.differ)

pub look_right : (lines : List Line) (ps : List Place) (find : Word → Option ℕ) (s : ℕ) → AreRead lines ps find s → s ≤ SLOT_LIMIT → AreRight lines (zeroed ps)
look_right lines ps find s h l = record { drafted = are_drafts 0 0 lines ps h.stand; short = let b = h.behind in omega arith; differ = h.differ }

-- ---- at a place of the list of lines

abbrev pub line_here : Bor Word → Line
line_here line = line_of (words_in line.now)

abbrev pub seen_lines : List (Bor Word) → List Line
seen_lines xs = lines_of (map (λ line. line.now) xs)

lines_append : (xs ys : List (Bor Word)) → seen_lines (xs ++ ys) ≡ seen_lines xs ++ seen_lines ys
lines_append xs ys = ap lines_of (map-append (λ (line : Bor Word). line.now) xs ys) ∙ map-append (λ (bytes : Word). line_of (words_in bytes)) _ _

pub next_line : (xs : List (Bor Word)) (i : ℕ) (d : Bor Word) (line : Line) → i < length xs → line_here (get_or xs i d) ≡ line → seen_lines (take (i + 1) xs) ≡ seen_lines (take i xs) ++ line ∷ []
next_line xs i d line h e = ap seen_lines (take_more xs i d h) ∙ lines_append (take i xs) (get_or xs i d ∷ []) ∙ ap (λ (x : Line). seen_lines (take i xs) ++ x ∷ []) e

parts_at : (xs : List (Bor Word)) (i : ℕ) (d : Bor Word) → i < length xs → seen_lines xs ≡ seen_lines (take i xs) ++ line_here (get_or xs i d) ∷ seen_lines (drop (suc i) xs)
parts_at xs i d h = ap seen_lines (sym (take-append-drop i xs) ∙ ap (λ (ys : List (Bor Word)). take i xs ++ ys) (drop-cons xs i d h)) ∙ lines_append (take i xs) (get_or xs i d ∷ drop (suc i) xs)

pub length_at : (xs : List (Bor Word)) (i : ℕ) → i < length xs → length (seen_lines (take i xs)) ≡ i
length_at xs i h = simp length-map (length-take-le i xs (omega arith))

pub wrong_at : (IsWrong : List Line → List Insn → Line → Type 0) (xs : List (Bor Word)) (i : ℕ) (d : Bor Word) (here : Line) (n : ℕ) (program : List Insn) → i < length xs → line_here (get_or xs i d) ≡ here → n ≡ i + 1 → AreRight (seen_lines (take i xs)) program → IsWrong (seen_lines (take i xs)) program here → FirstWrong IsWrong (seen_lines xs) n
wrong_at IsWrong xs i d here n program l e k right wrong = record {
  before = seen_lines (take i xs);
  here = here;
  after = seen_lines (drop (suc i) xs);
  program = program;
  parts = parts_at xs i d l ∙ ap (λ (x : Line). seen_lines (take i xs) ++ x ∷ seen_lines (drop (suc i) xs)) e;
  counted = let j = length_at xs i l in omega arith;
  right = right;
  wrong = wrong;
}

pub word_fault : (f : WordFault) (words : List Word) (xs : List (Bor Word)) (i : ℕ) (d : Bor Word) (n : ℕ) (program : List Insn) → i < length xs → line_here (get_or xs i d) ≡ Statement words → n ≡ i + 1 → AreRight (seen_lines (take i xs)) program → StatementDraft words (Err f) → FaultIn (seen_lines xs) (fault_on_line f n)
word_fault UnknownWord words xs i d n program l e k right h = wrong_at HasUnknownWord xs i d (Statement words) n program l e k right h
word_fault BadOperand words xs i d n program l e k right h = wrong_at HasBadOperand xs i d (Statement words) n program l e k right h
word_fault OutOfRange words xs i d n program l e k right h = wrong_at IsOutOfRange xs i d (Statement words) n program l e k right h

pub too_long : (words : List Word) (draft : Draft) (xs : List (Bor Word)) (i : ℕ) (d : Bor Word) (n s : ℕ) (ps : List Place) (find : Word → Option ℕ) → i < length xs → line_here (get_or xs i d) ≡ Statement words → n ≡ i + 1 → AreRead (seen_lines (take i xs)) ps find s → s ≤ SLOT_LIMIT → IsDraft words draft → SLOT_LIMIT < s + draft_slots draft → FirstWrong IsTooLong (seen_lines xs) n
too_long words draft xs i d n s ps find l e k h small said far =
    let long : SLOT_LIMIT < slot_count (zeroed ps) + slots_of (with_zero draft) = let b = h.behind in let z = zero_slots draft in omega arith in
    wrong_at IsTooLong xs i d (Statement words) n (zeroed ps) l e k (look_right (seen_lines (take i xs)) ps find s h small) (with_zero draft, zeroed_said words draft said, long)

pub double_label : (name : Word) (m : ℕ) (xs : List (Bor Word)) (i : ℕ) (d : Bor Word) (n s : ℕ) (ps : List Place) (find : Word → Option ℕ) → i < length xs → line_here (get_or xs i d) ≡ Label name → n ≡ i + 1 → AreRead (seen_lines (take i xs)) ps find s → s ≤ SLOT_LIMIT → find name ≡ Some m → FirstWrong IsDoubleLabel (seen_lines xs) n
double_label name m xs i d n s ps find l e k h small here =
    wrong_at IsDoubleLabel xs i d (Label name) n (zeroed ps) l e k (look_right (seen_lines (take i xs)) ps find s h small)
    (labels_named 0 (seen_lines (take i xs)) (zeroed ps) name m (sym (h.labels name) ∙ here))

pub some_found : (o : Option SlotNumber) → is_some o ≡ true → (m : ℕ) × (option_map (λ slot. slot.number) o ≡ Some m)
some_found (Some x) e = (x.number, refl)
some_found None e = absurd cc

pub none_found : (o : Option SlotNumber) → is_some o ≡ false → option_map (λ slot. slot.number) o ≡ None
none_found (Some x) e = absurd cc
none_found None e = refl

map_cond : (b : Bool) (x : SlotNumber) (o : Option SlotNumber) → option_map (λ slot. slot.number) (cond b (Some x) o) ≡ cond b (Some x.number) (option_map (λ slot. slot.number) o)
map_cond true x o = refl
map_cond false x o = refl

pub found_after : (m n : BTreeMap (Bor (List ℕ)) SlotNumber) (name : Word) (s : SlotNumber) → ((q : Word) → get_by (λ k. slice_cmp nat_cmp q k.now) n ≡ cond (bytes_eq name q) (Some s) (get_by (λ k. slice_cmp nat_cmp q k.now) m)) → (q : Word) → find_in n q ≡ cond (bytes_eq name q) (Some s.number) (find_in m q)
found_after m n name s h q = ap (option_map (λ (slot : SlotNumber). slot.number)) (h q) ∙ map_cond (bytes_eq name q) s (get_by (λ k. slice_cmp nat_cmp q k.now) m)
