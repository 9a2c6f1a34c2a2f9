use Rattle.line_journal.specs.contracts.line_journal.LineJournalJournal.TheImpl as journals
use Rattle.daemon.proofs.Relived.{LeadsTo}
use Rattle.daemon.specs.Starts.{opens}
use Rattle.daemon.proofs.reliving.live_on.Given as goal

-- whatever row goes on from this life, goes on from the first one
abbrev pub invariant-loop-nth : goal.invariant-loop-nth
invariant-loop-nth g l =
    let disk = opens g.S.File.Device g.S.DeviceSource.is_opened in
    let journal = journals.ghosts g.row.E g.E.Write g.E.Write-dict in
    LeadsTo disk journal l.pace l._nth l.initial.one l.one
