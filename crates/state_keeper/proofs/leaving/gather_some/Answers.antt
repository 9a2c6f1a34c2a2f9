use Rattle.std.proofs.Common.{◌≡◌, [], List, sym, subst}
use Rattle.state_keeper.proofs.Names.{Event, append-nil, dated_facts}
use Rattle.state_keeper.proofs.Stayed.{leads_gathered, leads_then}
use Rattle.state_keeper.proofs.Walked.{on_both}
use Rattle.state_keeper.specs.Passing.{AreWritten}
use Rattle.state_keeper.specs.PassingParts.{LeadsTo, StaysLeft}
use Rattle.state_keeper.proofs.leaving.gather_some.Goals as goal

pub returns-then-bytes-lt-ENOUGH-clause-gathered : goal.returns-then-bytes-lt-ENOUGH-clause-gathered
returns-then-bytes-lt-ENOUGH-clause-gathered g c =
    leads_gathered c.args.batch.now.facts (dated_facts c.args.changes.now) c.gather_changes.new.batch.facts c.in_ok-gather_changes.ensures

pub returns-clause-gathered : goal.returns-clause-gathered
returns-clause-gathered g c =
    let device = g.D.Device in
    let first = c.args.batch.now.facts in
    let es : List Event = dated_facts c.args.changes.now in
    let mid = c.gather_changes.new.batch.facts in
    let last = c.put_out.new.batch.facts in
    let Old = AreWritten device c.args.file.now c.args.draft.now in
    let New = AreWritten device c.put_out.new.file c.put_out.new.draft in
    on_both c.put_out.result (LeadsTo Old New (StaysLeft mid [] [])) (last ≡ []) (LeadsTo Old New (StaysLeft first es last))
    (λ put none.
    subst (λ (h : List Event). LeadsTo Old New (StaysLeft first es h)) (sym none)
    (subst (λ (xs : List Event). LeadsTo Old New (StaysLeft first xs [])) (append-nil es)
    (leads_then first es mid [] [] (leads_gathered first es mid c.in_ok-gather_changes.ensures) put))
    ) c.put_out.ensures.put c.put_out.ensures.none
