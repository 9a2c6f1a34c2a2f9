-- Labels, looked up.
use Rattle.std.proofs.Common.{◌≡◌, Bor, ℕ, suc, ◌+◌, ◌<◌, ◌≤◌, false, ℤ, pos, ◌+ℤ◌, ◌-ℤ◌, List, [], ◌∷◌, ◌++◌, length, map, take, drop, get_or, take-append-drop, Option, Some, None, Result, Ok, Err, IfErr, refl, sym, ap, ◌∙◌, subst, arith, FitsSigned, w16}
use Rattle.assembler.proofs.Names.{drop-cons, bytes_eq, list_any, AllByRecursion, option_map, both_ways, nat_tests, sum_by-cons, ints, Insn, slots_of, Fits, slot_count, IsProgram, Word}
use Rattle.assembler.proofs.Names.{mnemonic_name, Line, Blank, Label, Statement, SaysInsn, labels_in, slot_of, LeadsTo, Says, names_in, lines_in, Text}
use Rattle.assembler.proofs.Names.{Mnemonic, Draft, Whole, ToLabel, Place, Anywhere, OneOf, SaysFitting, AreRight, FirstLost, FirstTextFault, draft_slots, jump_over, Nowhere, At, IsDraft, SaysDraft}
use Rattle.assembler.proofs.Names.{AreFrom, with_zero, zeroed, IsSheet, resolution, resolution_of, FirstLostPlace, Unresolved, AsmFault, UnknownLabel, Memory}
use Rattle.insn.specs.SlotLaws.{slots_of_bounds}
use Rattle.assembler.specs.declared.draft.Jump.{Jump}
use Rattle.assembler.proofs.Refuted.{only_memory}
use Rattle.assembler.proofs.Statements.{of_mnemonic}
use Rattle.assembler.proofs.Texts.{says_drafts, labels_named}
use Rattle.assembler.proofs.SheetReading.{are_drafts, jump_slots, zero_slots, name_labelled, said_by, some_none}

-- ---- one place

some_same : {A : Type 0} {x y : A} → Some x ≡ Some y → x ≡ y
some_same e = cc

-- a near distance fits, and leads back
near : (t b : ℕ) → t ≤ 4096 → b ≤ 4096 → FitsSigned w16 (pos t -ℤ pos b)
near t b l h = omega (arith, ints)

there : (t b : ℕ) → pos t ≡ pos b +ℤ (pos t -ℤ pos b)
there t b = omega (arith, ints)

-- an instruction that fits, as its words say it
pub record IsSaid (labels : List (Word × ℕ)) (behind slots : ℕ) (words : List Word) (i : Insn) : Type 0 where
  pub said : SaysInsn (LeadsTo labels behind) i words
  pub fit : Fits i
  pub takes : slots_of i ≡ slots

at_label : (labels : List (Word × ℕ)) (b t : ℕ) (name : Word) → slot_of labels name ≡ Some t → (w : Word) (d : ℤ) → At name (pos t -ℤ pos b) w d → LeadsTo labels b w d
at_label labels b t name e w d k = (t, subst (λ (x : Word). slot_of labels x ≡ Some t) k.0 e, subst (λ (x : ℤ). pos t ≡ pos b +ℤ x) k.1 (there t b))

draft_said : (labels : List (Word × ℕ)) (find : Word → Option ℕ) (b : ℕ) (m : Mnemonic) (ops : List Word) (d : Draft) (i : Insn) → SaysDraft m ops d → ((q : Word) → find q ≡ slot_of labels q) → ((q : Word) (t : ℕ) → find q ≡ Some t → t ≤ 4096) → b ≤ 4096 → resolution_of find b d ≡ Some i → IsSaid labels b (draft_slots d) (mnemonic_name m ∷ ops) i
draft_said labels find b m ops (Whole j) i h same low l e =
    subst (λ (x : Insn). IsSaid labels b (slots_of j) (mnemonic_name m ∷ ops) x) (some_same e) (record { said = said_by Nowhere (LeadsTo labels b) m ops j h.0 h.2 (λ w d k. absurd k); fit = h.1; takes = refl })
draft_said labels find b m ops (ToLabel jump name) i h same low l e = by (find name.now) refl e
  where
    by : (o : Option ℕ) → find name.now ≡ o → option_map (λ to. jump_over jump (pos to -ℤ pos b)) o ≡ Some i → IsSaid labels b 1 (mnemonic_name m ∷ ops) i
    by None f e = absurd (some_none (sym e))
    by (Some t) f e =
        let j = h.0 (pos t -ℤ pos b) (near t b (low name.now t f) l) in
        subst (λ (x : Insn). IsSaid labels b 1 (mnemonic_name m ∷ ops) x) (some_same e) (record {
          said = said_by (At name.now (pos t -ℤ pos b)) (LeadsTo labels b) m ops (jump_over jump (pos t -ℤ pos b)) j.named j.said (at_label labels b t name.now (sym (same name.now) ∙ f));
          fit = j.fit;
          takes = jump_slots jump (pos t -ℤ pos b);
        })

-- ---- all places

-- lines say these instructions from a slot on
pub record AreSaid (labels : List (Word × ℕ)) (s : ℕ) (lines : List Line) (ps : List Place) (insns : List Insn) : Type 0 where
  pub said : Says labels s lines insns
  pub fit : AllByRecursion Fits insns
  pub same_labels : labels_in s lines insns ≡ labels_in s lines (zeroed ps)
  pub same_count : slot_count insns ≡ slot_count (zeroed ps)

pub are_said : (labels : List (Word × ℕ)) (find : Word → Option ℕ) → ((q : Word) → find q ≡ slot_of labels q) → ((q : Word) (t : ℕ) → find q ≡ Some t → t ≤ 4096) → (n s : ℕ) (lines : List Line) (ps : List Place) (insns : List Insn) → AreFrom n s lines ps → map Some insns ≡ map (resolution find) ps → AreSaid labels s lines ps insns
are_said labels find same low n s [] [] [] h e = record { said = tt; fit = tt; same_labels = refl; same_count = refl }
are_said labels find same low n s [] [] (i ∷ insns) h e = absurd cc
are_said labels find same low n s [] (p ∷ ps) insns h e = absurd h
are_said labels find same low n s (Blank ∷ lines) ps insns h e =
    let k = are_said labels find same low (n + 1) s lines ps insns h e in record { said = k.said; fit = k.fit; same_labels = k.same_labels; same_count = k.same_count }
are_said labels find same low n s (Label name ∷ lines) ps insns h e =
    let k = are_said labels find same low (n + 1) s lines ps insns h e in record { said = k.said; fit = k.fit; same_labels = ap (λ (x : List (Word × ℕ)). (name, s) ∷ x) k.same_labels; same_count = k.same_count }
are_said labels find same low n s (Statement words ∷ lines) [] insns h e = absurd h
are_said labels find same low n s (Statement words ∷ lines) (p ∷ ps) [] h e = absurd cc
are_said labels find same low n s (Statement words ∷ lines) (p ∷ ps) (i ∷ insns) h e =
    let here : resolution find p ≡ Some i = cc in
    let rest : map Some insns ≡ map (resolution find) ps = cc in
    let d = h.0 in
    let one = subst (λ (ws : List Word). IsSaid labels p.behind.number (draft_slots p.draft) ws i) (sym d.parts) (draft_said labels find p.behind.number d.mnemonic d.operands p.draft i d.said same low p.behind.in_program here) in
    let k = are_said labels find same low (n + 1) p.behind.number lines ps insns h.3 rest in
    let there : p.behind.number ≡ s + slots_of i = (let a = h.2 in let b = one.takes in omega arith) in
    let zero : p.behind.number ≡ s + slots_of (with_zero p.draft) = (let a = h.2 in let b = zero_slots p.draft in omega arith) in
    record {
      said = (subst (λ (b : ℕ). SaysInsn (LeadsTo labels b) i words) there one.said, subst (λ (b : ℕ). Says labels b lines insns) there k.said);
      fit = (one.fit, k.fit);
      same_labels = ap (λ (b : ℕ). labels_in b lines insns) (sym there) ∙ k.same_labels ∙ ap (λ (b : ℕ). labels_in b lines (zeroed ps)) zero;
      same_count = let a = sum_by-cons slots_of i insns in let b = sum_by-cons slots_of (with_zero p.draft) (zeroed ps) in let c = k.same_count in let d = one.takes in let z = zero_slots p.draft in omega arith;
    }

-- labels stand within the program
labels_low : (s : ℕ) (lines : List Line) (p : List Insn) (q : Word) (t top : ℕ) → s + slot_count p ≤ top → slot_of (labels_in s lines p) q ≡ Some t → t ≤ top
labels_low s [] p q t top l e = absurd (some_none (sym e))
labels_low s (Blank ∷ lines) p q t top l e = labels_low s lines p q t top l e
labels_low s (Label name ∷ lines) p q t top l e = let rest = labels_low s lines p q t top l in grind (arith, nat_tests, e, rest)
labels_low s (Statement words ∷ lines) [] q t top l e = absurd (some_none (sym e))
labels_low s (Statement words ∷ lines) (i ∷ p) q t top l e = let c = sum_by-cons slots_of i p in labels_low (s + slots_of i) lines p q t top (omega arith) e

pub find_low : (lines : List Line) (ps : List Place) (find : Word → Option ℕ) → IsSheet lines ps find → (q : Word) (t : ℕ) → find q ≡ Some t → t ≤ 4096
find_low lines ps find h q t e = labels_low 0 lines (zeroed ps) q t 4096 (let k = h.short in omega arith) (sym (h.lines_read.labels q) ∙ e)

pub sheet_said : (lines : List Line) (ps : List Place) (find : Word → Option ℕ) (insns : List Insn) → IsSheet lines ps find → map Some insns ≡ map (resolution find) ps → AreSaid (labels_in 0 lines (zeroed ps)) 0 lines ps insns
sheet_said lines ps find insns h e = are_said (labels_in 0 lines (zeroed ps)) find h.lines_read.labels (find_low lines ps find h) 0 0 lines ps insns h.lines_read.stand e

-- the instructions of a text
pub is_text : (text : List ℕ) (ps : List Place) (find : Word → Option ℕ) (insns : List Insn) → IsSheet (lines_in text) ps find → map Some insns ≡ map (resolution find) ps → IsProgram insns → Text text insns
is_text text ps find insns h e p =
    let k = sheet_said (lines_in text) ps find insns h e in
    record { in_bounds = p; fit = k.fit; differ = h.lines_read.differ; said = subst (λ (ls : List (Word × ℕ)). Says ls 0 (lines_in text) insns) (sym k.same_labels) k.said }

-- ---- a label that stands nowhere

pub record Found (n s : ℕ) (lines : List Line) (front : List Place) (p : Place) : Type 0 where
  pub before : List Line
  pub words : List Word
  pub after : List Line
  pub parts : lines ≡ before ++ Statement words ∷ after
  pub stand : AreFrom n s before front
  pub counted : p.line ≡ n + length before + 1
  pub draft : IsDraft words p.draft

found : (n s : ℕ) (lines : List Line) (front : List Place) (p : Place) (back : List Place) → AreFrom n s lines (front ++ p ∷ back) → Found n s lines front p
found n s [] [] p back h = absurd h
found n s [] (q ∷ front) p back h = absurd h
found n s (Blank ∷ lines) front p back h = let k = found (n + 1) s lines front p back h in record { before = Blank ∷ k.before; words = k.words; after = k.after; parts = ap (λ (x : List Line). Blank ∷ x) k.parts; stand = k.stand; counted = let c = k.counted in omega arith; draft = k.draft }
found n s (Label name ∷ lines) front p back h = let k = found (n + 1) s lines front p back h in record { before = Label name ∷ k.before; words = k.words; after = k.after; parts = ap (λ (x : List Line). Label name ∷ x) k.parts; stand = k.stand; counted = let c = k.counted in omega arith; draft = k.draft }
found n s (Statement words ∷ lines) [] p back h = record { before = []; words = words; after = lines; parts = refl; stand = tt; counted = let c = h.1 in omega arith; draft = h.0 }
found n s (Statement words ∷ lines) (q ∷ front) p back h = let k = found (n + 1) q.behind.number lines front p back h.3 in record { before = Statement words ∷ k.before; words = k.words; after = k.after; parts = ap (λ (x : List Line). Statement words ∷ x) k.parts; stand = (h.0, h.1, h.2, k.stand); counted = let c = k.counted in omega arith; draft = k.draft }

lacks : (names : List Word) (m : Mnemonic) (ops : List Word) (d : Draft) (find : Word → Option ℕ) (b : ℕ) → ((q : Word) → find q ≡ None → list_any (bytes_eq q) names ≡ false) → SaysDraft m ops d → resolution_of find b d ≡ None → (i : Insn) → SaysFitting (OneOf names) i (mnemonic_name m ∷ ops) → ⊥
lacks names m ops (Whole j) find b none h e i k = absurd (some_none e)
lacks names m ops (ToLabel jump name) find b none h e i k =
    both_ways (list_any (bytes_eq name.now) names) (none name.now (nowhere (find name.now) e)) (h.1 names i (of_mnemonic (mnemonic_name m) m i refl k.0.0) k.1 k.0.1)
  where
    nowhere : (o : Option ℕ) → option_map (λ to. jump_over jump (pos to -ℤ pos b)) o ≡ None → o ≡ None
    nowhere None e = refl
    nowhere (Some t) e = absurd (some_none e)

pub lost_label : (lines : List Line) (ps : List Place) (find : Word → Option ℕ) (line : ℕ) → IsSheet lines ps find → FirstLostPlace find ps line → FirstLost lines line
lost_label lines ps find line h f =
    let names = names_in lines in
    let labels = labels_in 0 lines (zeroed ps) in
    let k = found 0 0 lines f.front f.here f.back (subst (λ (x : List Place). AreFrom 0 0 lines x) f.parts h.lines_read.stand) in
    let said = are_said labels find h.lines_read.labels (find_low lines ps find h) 0 0 k.before f.front f.known k.stand f.resolved in
    let none = λ (q : Word) (e : find q ≡ None). name_labelled Anywhere 0 lines (zeroed ps) q (are_drafts 0 0 lines ps h.lines_read.stand) (sym (h.lines_read.labels q) ∙ e) in
    record {
      before = k.before;
      here = Statement k.words;
      after = k.after;
      program = zeroed ps;
      known = f.known;
      parts = k.parts;
      counted = let a = f.told in let b = k.counted in omega arith;
      right = record { drafted = are_drafts 0 0 lines ps h.lines_read.stand; short = h.short; differ = h.lines_read.differ };
      found = says_drafts labels (OneOf names) (λ b w d l. labels_named 0 lines (zeroed ps) w l.0 l.1) 0 k.before f.known said.fit said.said;
      lost = λ i l. lacks names k.draft.mnemonic k.draft.operands f.here.draft find f.here.behind.number none k.draft.said f.lost i (subst (λ (ws : List Word). SaysFitting (OneOf names) i ws) k.draft.parts l);
    }

-- ---- no instruction

pub no_instruction : (lines : List Line) (ps : List Place) (find : Word → Option ℕ) (insns : List Insn) → IsSheet lines ps find → map Some insns ≡ map (resolution find) ps → (IsProgram insns → ⊥) → AreRight lines []
no_instruction lines [] find insns h e none = record { drafted = are_drafts 0 0 lines [] h.lines_read.stand; short = h.short; differ = h.lines_read.differ }
no_instruction lines (p ∷ ps) find insns h e none =
    let k = sheet_said lines (p ∷ ps) find insns h e in
    let c = sum_by-cons slots_of (with_zero p.draft) (zeroed ps) in
    let one = slots_of_bounds (with_zero p.draft) in
    absurd (none (record { nonempty = (let a = k.same_count in omega arith); short = (let a = k.same_count in let b = h.short in omega arith) }))

-- ---- what the calls answer

pub resolved_label : (find : Word → Option ℕ) (p : Place) (jump : Jump) (name : Bor Word) (t : ℕ) (r : Insn) (d : ℤ) → p.draft ≡ ToLabel jump name → find name.now ≡ Some t → d ≡ pos t -ℤ pos p.behind.number → r ≡ jump_over jump d → Some r ≡ resolution find p
resolved_label find p jump name t r d e f g h =
    sym (ap (resolution_of find p.behind.number) e ∙ ap (option_map (λ to. jump_over jump (pos to -ℤ pos p.behind.number))) f ∙ ap (λ (x : ℤ). Some (jump_over jump x)) (sym g) ∙ ap Some (sym h))

pub lost_place : (find : Word → Option ℕ) (ps : List Place) (i : ℕ) (d : Place) (known : List Insn) (p : Place) → i < length ps → get_or ps i d ≡ p → map Some known ≡ map (resolution find) (take i ps) → resolution find p ≡ None → FirstLostPlace find ps p.line
lost_place find ps i d known p l e h none = record {
  front = take i ps;
  here = p;
  back = drop (suc i) ps;
  known = known;
  parts = sym (take-append-drop i ps) ∙ ap (λ (x : List Place). take i ps ++ x) (drop-cons ps i d l ∙ ap (λ (x : Place). x ∷ drop (suc i) ps) e);
  resolved = h;
  lost = none;
  told = refl;
}

pub unresolved_fault : (text : List ℕ) (lines : List Line) (ps : List Place) (find : Word → Option ℕ) (f : AsmFault) → lines ≡ lines_in text → IsSheet lines ps find → Unresolved find ps f → FirstTextFault text f
unresolved_fault text lines ps find (UnknownLabel line) e h u = subst (λ (ls : List Line). FirstLost ls line) e (lost_label lines ps find line h u)
unresolved_fault text lines ps find Memory e h u = tt
unresolved_fault text lines ps find f e h u = absurd u

pub only_err : {P : Type 0} (r : Result P AsmFault) (text : List ℕ) → IfErr r (FirstTextFault text) → IfErr r (λ fault. (program : List Insn) → Text text program → fault ≡ Memory)
only_err (Ok x) text h = h
only_err (Err f) text h = only_memory text f h
