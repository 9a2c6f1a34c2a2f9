-- Lives of a server, one behind another, for as long as reloads are wanted.
use Rattle.std.specs.Prelude.{◌≡◌, ◌⊎◌, ◌+◌, ◌-◌, ◌^◌, ℕ, [], Option, Some, None}
use Rattle.batch_file.specs.declared.appending.BatchFault.{BatchFault}
use Rattle.outside.specs.declared.fault.LoopFault.TheVariants.{Reload}
use Rattle.outside.specs.declared.journal.Journal.{Ghosts as Journal}
use Rattle.daemon.specs.declared.starting.Pace.{Pace}
use Rattle.lifetime.specs.declared.life.LifeEnd.{LifeEnd}
use Rattle.lifetime.specs.declared.life.LifeEnd.TheVariants.{Stopped}
use Rattle.daemon.specs.Reliving.{AreOf, IsToldOf, Relives, estate_of}
use Rattle.daemon.specs.Starts.{HandedOn, HasLivedBy, MachineLife, Opens}
use Rattle.daemon.specs.declared.call_log.CallLog.{CallLog}
use Rattle.line_journal.specs.declared.line_journal.LineJournal.{LineJournal}
use Rattle.daemon.specs.declared.reliving.Relived.{Relived}
use Rattle.daemon.specs.declared.reloads.Wanted.{Wanted}
use Rattle.daemon.specs.declared.starting.ServedOn.{ServedOn}

-- the life ended for a reload
abbrev pub EndsForReload : LifeEnd → Type 0
EndsForReload end = (why : Option BatchFault) × (end ≡ Stopped Reload why)

-- A life ended for a reload that was wanted, and another one is behind it, by the heirs of that reload. Who asked for it is told, behind
-- those who asked before.
pub record Follows {R E D : Type 0} (disk : Opens D) (journal : Journal (LineJournal E)) (pace : Pace) (one next : Relived R E D) : Type 0 where
  pub ended : EndsForReload one.life.end
  pub wanted : Wanted R
  pub wanted_is : one.life.sockets.reloads.wanted ≡ Some wanted
  pub relives : Relives disk journal pace wanted.heirs (estate_of one.life) (IsToldOf wanted.heirs.next.candidate.registry one.replies.calls next.replies.calls) next.life

-- lives follow one another up to the last one, for so many reloads
pub data LivesOnward {R E D : Type 0} (disk : Opens D) (journal : Journal (LineJournal E)) (pace : Pace) (last : Relived R E D) :
    ℕ → Relived R E D → Type 0 where
  is_last : LivesOnward disk journal pace last 0 last
  follows : (count : ℕ) (one next : Relived R E D) → Follows disk journal pace one next → LivesOnward disk journal pace last count next →
      LivesOnward disk journal pace last (count + 1) one

-- So they do behind a first life, before which nobody was replied to; and where the last one ended for a reload as well, none was wanted,
-- or it was behind 2^64 - 1 of them.
pub record LivesTo {R E D : Type 0} (disk : Opens D) (journal : Journal (LineJournal E)) (pace : Pace) (first : MachineLife R E D) (last : Relived R E D) :
    Type 0 where
  pub before : CallLog
  pub silent : before.calls ≡ []
  pub count : ℕ
  pub onward : LivesOnward disk journal pace last count (record { life = first; replies = before })
  pub over : EndsForReload last.life.end → (last.life.sockets.reloads.wanted ≡ None) ⊎ (count ≡ 2 ^ 64 - 1)

-- what is left of the last life, with its journal
abbrev pub left_with : {R E D : Type 0} → LineJournal E → ServedOn R D → Relived R E D
left_with lines served = record {
  life = record { end = served.end; device = served.device; sockets = served.sockets; clocks = served.clocks; journal = lines };
  replies = served.replies;
}

-- The first life goes by what it was handed, to be reloaded by that registry's key, and it is told so of its end; others may follow,
-- and this is what the last one left, and what those were replied who asked for reloads.
pub record LivesInRow {R E D : Type 0} (disk : Opens D) (journal : Journal (LineJournal E)) (handed : HandedOn) (Tells : LifeEnd → Type 0) (served : ServedOn R D) :
    Type 0 where
  pub first : MachineLife R E D
  pub lives : HasLivedBy disk journal handed first
  pub reloads : AreOf handed.registry lives.1.means.sockets.reloads
  pub told : Tells first.end
  pub lines : LineJournal E
  pub onward : LivesTo disk journal handed.pace first (left_with lines served)
