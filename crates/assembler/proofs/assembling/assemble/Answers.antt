use Rattle.std.proofs.Common.{rules, ◌≡◌, ◌==◌, ◌∙◌, sym, ap, map, IfErr, List, ℕ, Bor, subst}
use Rattle.assembler.proofs.Names.{slice_split, IsProgram, Line, lines_in, Text, FirstTextFault, find_in, lines_of, IsSheet, NoInstruction}
use Rattle.assembler.proofs.Resolving.{is_text, unresolved_fault, only_err, no_instruction}
use Rattle.assembler.proofs.Refuted.{only_memory}
use Rattle.assembler.proofs.assembling.assemble.Goals as goal

pub returns-in_err-sheet-clause-only : goal.returns-in_err-sheet-clause-only
returns-in_err-sheet-clause-only c =
    let h : IfErr c.from_residual-in_err-sheet.result (FirstTextFault c.args.text.now) = search rules in only_err _ _ h

pub returns-in_err-insns-clause-fault : goal.returns-in_err-insns-clause-fault
returns-in_err-insns-clause-fault c =
    let e : lines_of (map (λ (line : Bor (List ℕ)). line.now) c.deref.result.now) ≡ lines_in c.args.text.now =
    ap (λ (xs : List (Bor (List ℕ))). lines_of (map (λ line. line.now) xs)) c.deref.ensures.value ∙ ap lines_of (c.in_ok-lines.ensures ∙ ap (slice_split (λ byte. byte == 10)) c.as_bytes.ensures.value) in
    let h = unresolved_fault c.args.text.now _ c.in_ok-sheet.sheet.places.items (find_in c.in_ok-sheet.sheet.labels) c.in_err-insns.field-0.0 e c.in_ok-sheet.ensures.sheet c.in_err-insns.ensures.fault in
    search rules

pub returns-in_err-insns-clause-only : goal.returns-in_err-insns-clause-only
returns-in_err-insns-clause-only c =
    let h : IfErr c.from_residual-in_err-insns.result (FirstTextFault c.args.text.now) = returns-in_err-insns-clause-fault c in only_err _ _ h

pub returns-in-Ok-clause-text : goal.returns-in-Ok-clause-text
returns-in-Ok-clause-text c =
    let e : lines_of (map (λ (line : Bor (List ℕ)). line.now) c.deref.result.now) ≡ lines_in c.args.text.now =
    ap (λ (xs : List (Bor (List ℕ))). lines_of (map (λ line. line.now) xs)) c.deref.ensures.value ∙ ap lines_of (c.in_ok-lines.ensures ∙ ap (slice_split (λ byte. byte == 10)) c.as_bytes.ensures.value) in
    let sheet = subst (λ (ls : List Line). IsSheet ls c.in_ok-sheet.sheet.places.items (find_in c.in_ok-sheet.sheet.labels)) e c.in_ok-sheet.ensures.sheet in
    let program : IsProgram c.in_ok-insns.insns.items = search rules in
    let text = is_text c.args.text.now c.in_ok-sheet.sheet.places.items (find_in c.in_ok-sheet.sheet.labels) c.in_ok-insns.insns.items sheet c.in_ok-insns.ensures.found program in
    subst (Text c.args.text.now) (sym c.in-Ok.ensures.ok) text

pub returns-clause-fault : goal.returns-clause-fault
returns-clause-fault c =
    let e : lines_of (map (λ (line : Bor (List ℕ)). line.now) c.deref.result.now) ≡ lines_in c.args.text.now =
    ap (λ (xs : List (Bor (List ℕ))). lines_of (map (λ line. line.now) xs)) c.deref.ensures.value ∙ ap lines_of (c.in_ok-lines.ensures ∙ ap (slice_split (λ byte. byte == 10)) c.as_bytes.ensures.value) in
    let sheet = subst (λ (ls : List Line). IsSheet ls c.in_ok-sheet.sheet.places.items (find_in c.in_ok-sheet.sheet.labels)) e c.in_ok-sheet.ensures.sheet in
    let none : IsProgram c.in_ok-insns.insns.items → ⊥ = search rules in
    no_instruction (lines_in c.args.text.now) c.in_ok-sheet.sheet.places.items (find_in c.in_ok-sheet.sheet.labels) c.in_ok-insns.insns.items sheet c.in_ok-insns.ensures.found none

pub returns-clause-only : goal.returns-clause-only
returns-clause-only c = λ program said. let h : FirstTextFault c.args.text.now NoInstruction = returns-clause-fault c in only_memory c.args.text.now NoInstruction h program said
