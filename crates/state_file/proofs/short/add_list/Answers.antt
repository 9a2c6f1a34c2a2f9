use Rattle.std.proofs.Common.{rules, ◌≡◌, ◌≤◌, List, Err, take, drop, sym, subst, arith}
use Rattle.std.specs.List.{slice_range}
use Rattle.state_file.proofs.Names.{IfErr, Event, dated_facts}
use Rattle.state_file.specs.ShortParts.{AddsChanges, IsUnaddedList}
use Rattle.state_file.proofs.Shorts.{adds_more, adds_none, parted_range, unadded_within}
use Rattle.state_file.specs.ShortLaws.{range_more}
use Rattle.state_file.proofs.short.add_list.Goals as goal

pub returns-in_err-add_batch-clause-refused : goal.returns-in_err-add_batch-clause-refused
returns-in_err-add_batch-clause-refused c =
    let changes = c.args.changes.now in
    let at = c.loop-at.at in
    let end = c.min-end.result in
    let fault = c.in_err-add_batch.field-0.0 in
    let le : at ≤ end = omega arith in
    let is : c.from_residual.result ≡ Err fault = search rules in
    subst (λ r. IfErr r (IsUnaddedList (dated_facts changes))) (sym is)
    (unadded_within (dated_facts changes) (dated_facts (take at changes)) (dated_facts (slice_range changes at end)) (dated_facts (drop end changes)) fault (parted_range changes at end le)
    c.in_err-add_batch.ensures.refused)

pub loop-at-init : goal.loop-at-init
loop-at-init c = (omega arith, adds_none c.args.frames.now)

pub loop-at-preserved : goal.loop-at-preserved
loop-at-preserved c =
    let changes = c.args.changes.now in
    let at = c.loop-at.at in
    let end = c.min-end.result in
    let le : at ≤ end = omega arith in (
      omega arith,
      subst (λ (es : List Event). AddsChanges es c.args.frames.now c.add_batch.new.frames) (sym (range_more changes at end le))
          (adds_more (dated_facts (take at changes)) (dated_facts (slice_range changes at end)) c.args.frames.now c.loop-at.frames c.add_batch.new.frames c.loop-at.invariant.1
          c.in_ok-add_batch.ensures.added),
    )

pub loop-at-smaller : goal.loop-at-smaller
loop-at-smaller c = omega arith
