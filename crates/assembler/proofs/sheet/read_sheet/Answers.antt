use Rattle.std.proofs.Common.{rules, ◌≡◌, ◌∙◌, sym, ap, subst, ◌<◌, ◌+◌, List, [], ◌∷◌, ◌++◌, Bor, arith, Err}
use Rattle.assembler.proofs.Names.{slice_cmp, nat_cmp, get_by, SLOT_LIMIT, Word, Blank, Label, Statement, IsDraft, StatementDraft, draft_slots, FaultIn, AsmFault, find_in, zeroed, Place}
use Rattle.assembler.specs.Lines.{line_seen}
use Rattle.assembler.proofs.Statements.{seen}
use Rattle.assembler.proofs.SheetReading.{look_right, look_blank, look_label, look_statement, next_line, length_at, word_fault, too_long, double_label, seen_lines, some_found, none_found, found_after}
use Rattle.std.proofs.lemmas.Map.Text.{btree_map_updates_str}
use Rattle.assembler.proofs.sheet.read_sheet.Goals.{in-Blank, in-Label+else-contains_key+in_ok-insert-in-Label, in-Statement+in-Ok+in-Some+in_ok-push-in-Statement}
use Rattle.assembler.proofs.sheet.read_sheet.Goals as goal

pub returns-in-Err-clause-fault : goal.returns-in-Err-clause-fault
returns-in-Err-clause-fault c =
    let here = sym c.in_ok-read.ensures ∙ ap line_seen c.in-Statement.is in
    let inv = c.loop-bytes.invariant in
    let right = look_right (seen_lines _) c.loop-bytes.places.items (find_in c.loop-bytes.labels) c.loop-bytes.end.number inv.lines_read c.loop-bytes.end.in_program in
    let bad = subst (λ (v : List (Bor Word)). StatementDraft (seen v) (Err c.in-Err.fault)) c.deref.ensures.value c.in-Err.ensures in
    subst (λ (f : AsmFault). FaultIn (seen_lines c.args.lines.now) f) (sym c.at.ensures)
    (word_fault c.in-Err.fault (seen c.in-Statement.words.items) c.args.lines.now c.loop-bytes.bytes-index _ (c.loop-bytes.number + 1) (zeroed c.loop-bytes.places.items) (omega arith) here (omega arith) right bad)

pub returns-then-contains_key-clause-fault : goal.returns-then-contains_key-clause-fault
returns-then-contains_key-clause-fault c =
    let here = sym c.in_ok-read.ensures ∙ ap line_seen c.in-Label.is in
    let inv = c.loop-bytes.invariant in
    let found = some_found (get_by (λ key. slice_cmp nat_cmp c.in-Label.name.now key.now) c.loop-bytes.labels) (sym c.contains_key.ensures ∙ c.if-contains_key.true) in
    double_label c.in-Label.name.now found.0 c.args.lines.now c.loop-bytes.bytes-index _ (c.loop-bytes.number + 1) c.loop-bytes.end.number c.loop-bytes.places.items (find_in c.loop-bytes.labels) (omega arith) here (omega arith) inv.lines_read c.loop-bytes.end.in_program found.1

pub returns-in_default-clause-fault : goal.returns-in_default-clause-fault
returns-in_default-clause-fault c =
    let here = sym c.in_ok-read.ensures ∙ ap line_seen c.in-Statement.is in
    let inv = c.loop-bytes.invariant in
    let draft = subst (λ (v : List (Bor Word)). IsDraft (seen v) c.in-Ok.draft) c.deref.ensures.value c.in-Ok.ensures in
    let far : SLOT_LIMIT < c.loop-bytes.end.number + draft_slots c.in-Ok.draft = subst (λ n. SLOT_LIMIT < c.loop-bytes.end.number + n) c.slots.ensures c.in_default.ensures.none in
    too_long (seen c.in-Statement.words.items) c.in-Ok.draft c.args.lines.now c.loop-bytes.bytes-index _ (c.loop-bytes.number + 1) c.loop-bytes.end.number c.loop-bytes.places.items (find_in c.loop-bytes.labels) (omega arith) here (omega arith) inv.lines_read c.loop-bytes.end.in_program draft far

pub loop-bytes-preserved : goal.loop-bytes-preserved
loop-bytes-preserved c = record {
  counted = omega (arith, c.loop-bytes.invariant.counted);
  lines_read = elim c.match-branch-2.branch [
    | in-Blank w ↦
        let next = next_line c.args.lines.now c.loop-bytes.bytes-index _ Blank (omega arith) (sym c.in_ok-read.ensures ∙ ap line_seen w.in-Blank.is) in
        rw (next, ap (λ p. p.items) w.places-is, w.labels-is, ap (λ e. e.number) w.end-is) (look_blank (seen_lines _) _ _ _ c.loop-bytes.invariant.lines_read)
    | in-Label+else-contains_key+in_ok-insert-in-Label w ↦
        let next = next_line c.args.lines.now c.loop-bytes.bytes-index _ (Label w.in-Label.name.now) (omega arith) (sym c.in_ok-read.ensures ∙ ap line_seen w.in-Label.is) in
        let new = none_found (get_by (λ key. slice_cmp nat_cmp w.in-Label.name.now key.now) c.loop-bytes.labels) (sym w.contains_key.ensures ∙ w.if-contains_key.false) in
        let after = found_after c.loop-bytes.labels w.insert.new.self w.in-Label.name.now c.loop-bytes.end (btree_map_updates_str w.in-Label.name.now c.loop-bytes.labels w.insert.new.self _ w.in_ok-insert-in-Label.ensures.updates) in
        rw (next, ap (λ p. p.items) w.places-is, w.labels-is, ap (λ e. e.number) w.end-is) (look_label (seen_lines _) _ (find_in c.loop-bytes.labels) _ _ _ c.loop-bytes.invariant.lines_read new after)
    | in-Statement+in-Ok+in-Some+in_ok-push-in-Statement w ↦
        let next = next_line c.args.lines.now c.loop-bytes.bytes-index _ (Statement (seen w.in-Statement.words.items)) (omega arith) (sym c.in_ok-read.ensures ∙ ap line_seen w.in-Statement.is) in
        let draft = subst (λ (v : List (Bor Word)). IsDraft (seen v) w.in-Ok.draft) w.deref.ensures.value w.in-Ok.ensures in
        let place : Place = record { line = c.loop-bytes.number + 1; behind = w.in-Some.behind; draft = w.in-Ok.draft } in
        let items : c.match-branch-2.places.items ≡ c.loop-bytes.places.items ++ place ∷ [] = search rules in
        let far = rw w.slots.ensures at w.in-Some.ensures.some in
        rw (next, items, w.labels-is, ap (λ e. e.number) w.end-is)
        (look_statement (seen_lines _) _ _ _ _ place c.loop-bytes.invariant.lines_read draft (omega (arith, c.loop-bytes.invariant.counted, length_at c.args.lines.now c.loop-bytes.bytes-index (omega arith))) far)
  ];
}
