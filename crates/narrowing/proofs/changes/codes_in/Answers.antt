use Rattle.std.proofs.Common.{◌≡◌, ◌+◌, ◌∷◌, ◌++◌, [], take, ap, sym, subst, ◌∙◌, List}
use Rattle.std.proofs.lemmas.List.{take_more, map-append}
use Rattle.change_codec.specs.Spelling.{dated_fact, dated_facts}
use Rattle.change_codec.specs.declared.dated.DatedChange.{DatedChange}
use Rattle.consent.specs.History.{Event}
use Rattle.narrowing.specs.Codes.{TellsCodes}
use Rattle.narrowing.specs.Left.{Under}
use Rattle.narrowing.proofs.Changing.{told_more}
use Rattle.narrowing.proofs.changes.codes_in.Goals as goal

pub loop-dated-preserved : goal.loop-dated-preserved
loop-dated-preserved c =
    let under : Under = record { rules = c.args.rules.now; owners = c.args.owners.now } in
    let xs = c.args.changes.now in
    let i = c.loop-dated.dated-index in
    let x = c.dated-item.result in
    let more : dated_facts (take (i + 1) xs) ≡ dated_facts (take i xs) ++ dated_fact x ∷ [] =
    ap dated_facts (take_more xs i x c.loop-dated-test.true ∙ ap (λ (y : DatedChange). take i xs ++ y ∷ []) (sym c.dated-item.is)) ∙ map-append dated_fact (take i xs) (x ∷ []) in
    subst (λ (es : List Event). TellsCodes under es c.note.new.codes.entries) (sym more)
    (told_more under (dated_facts (take i xs)) (dated_fact x) c.loop-dated.codes.entries c.note.new.codes.entries c.loop-dated.invariant c.in_ok-note.ensures)
