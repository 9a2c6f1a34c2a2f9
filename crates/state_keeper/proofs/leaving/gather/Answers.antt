use Rattle.std.proofs.Common.{◌≡◌, ◌+◌, ◌++◌, [], List, take, sym, subst, arith}
use Rattle.std.specs.List.{slice_range}
use Rattle.state_keeper.proofs.Names.{Event, append-nil, dated_facts, take_all}
use Rattle.state_file.specs.ShortLaws.{range_more}
use Rattle.state_keeper.proofs.Stayed.{leads_gathered, leads_then}
use Rattle.state_keeper.proofs.Way.{keeps_none, keeps_then}
use Rattle.state_keeper.specs.Passing.{AreWritten}
use Rattle.state_keeper.specs.PassingParts.{LeadsTo, StaysLeft}
use Rattle.state_keeper.proofs.leaving.gather.Goals as goal

pub loop-at-init : goal.loop-at-init
loop-at-init g c = record {
  within = omega arith;
  keeps = keeps_none g.D.Device c.args.file.now (λ left is. g.met.D.Device.only_now c.args.file.now.device left is)
      (λ left is. g.met.D.Device.only_true c.args.file.now.device left is) c.requires;
  leads = leads_gathered c.args.batch.now.facts [] c.args.batch.now.facts (sym (append-nil c.args.batch.now.facts));
}

pub loop-at-preserved : goal.loop-at-preserved
loop-at-preserved g c =
    let device = g.D.Device in
    let l = c.loop-at in
    let ds = c.args.changes.now in
    let more : dated_facts (take (l.at + 1) ds) ≡ dated_facts (take l.at ds) ++ dated_facts (slice_range ds l.at (l.at + 1)) = range_more ds l.at (l.at + 1) (omega arith) in
    record {
      within = omega (arith, c.loop-at-test.true);
      keeps = keeps_then device c.args.file.now l.file c.gather_some.new.file l.invariant.keeps c.in_ok-gather_some.ensures.file;
      leads = subst (λ (es : List Event).
          LeadsTo (AreWritten device c.args.file.now c.args.draft.now) (AreWritten device c.gather_some.new.file c.gather_some.new.draft)
          (StaysLeft c.args.batch.now.facts es c.gather_some.new.batch.facts)
          ) (sym more)
          (leads_then c.args.batch.now.facts (dated_facts (take l.at ds)) l.batch.facts (dated_facts (slice_range ds l.at (l.at + 1))) c.gather_some.new.batch.facts l.invariant.leads
          c.in_ok-gather_some.ensures.gathered);
    }

pub returns-in_err-gather_some-clause-file : goal.returns-in_err-gather_some-clause-file
returns-in_err-gather_some-clause-file g c =
    keeps_then g.D.Device c.args.file.now c.loop-at.file c.gather_some.new.file c.loop-at.invariant.keeps c.in_err-gather_some.ensures.file

pub returns-clause-gathered : goal.returns-clause-gathered
returns-clause-gathered g c =
    let all = take_all c.loop-at.at c.args.changes.now (omega (arith, c.loop-at-test.false)) in
    rw all at c.loop-at.invariant.leads
