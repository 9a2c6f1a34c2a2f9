-- How a server is started: anew, or on the file of its state.
use Rattle.std.specs.Prelude.{◌≡◌, ℕ, List, None}
use Rattle.command_line.specs.Names.{RegistryRecord, Output, Announces, IsToldBy, Named, HookFact, LifeEnd, Said, CommandFault, Stopped}
use Rattle.daemon.specs.ByCount.{HandedCount, ServesCount}
use Rattle.daemon.specs.Onward.{LivesInRow}
use Rattle.daemon.specs.Starts.{HandedAnew, HandedOn, Opens, ServesAnew, handed_anew, handed_on}
use Rattle.line_journal.specs.declared.line_journal.LineJournal.{LineJournal}
use Rattle.daemon.specs.declared.machine_clock.MachineClock.{MachineClock}
use Rattle.daemon.specs.declared.starting.Served.{Served}
use Rattle.daemon.specs.declared.starting.ServedOn.{ServedOn}
use Rattle.start_words.specs.Lists.{Place, at_file, at_list, nowhere}
use Rattle.outside.specs.declared.fault.LoopFault.{LoopFault}
use Rattle.outside.specs.declared.journal.Journal.{Ghosts as Journal}
use Rattle.serving.specs.declared.clock.Clock.{Ghosts as Clock}
use Rattle.serving.specs.declared.stream.Stream.{Ghosts as Stream}
use Rattle.command_line.specs.Faults.{IsOfEnd}
use Rattle.command_line.specs.Services.{pace_of}

-- what a server is started with: its registry, its hooks as they stand in their chain, the code of each, and its options
pub record Handed : Type 0 where
  pub registry : RegistryRecord
  pub hooks : List Named
  pub codes : List HookFact
  pub options : Said

-- what comes of a server that serves so many connections; of one that is started anew, and of one that is started on the file of
-- its state, or on a list in etcd, until it can't go on
pub record Startings : Type 1 where
  pub by_count : HandedCount → Type 0
  pub anew : HandedAnew → LoopFault → Type 0
  pub on_state : HandedOn → (LifeEnd → Type 0) → LifeEnd → Type 0
  pub on_list : HandedOn → (LifeEnd → Type 0) → LifeEnd → Type 0

-- Over the machine's sockets and clocks, a file of it and a list in etcd: one serves connection after connection, a server that is
-- started anew keeps nothing, and one that is started on the file or the list of its state lives one life behind another.
abbrev pub startings : {R E S D L : Type 0} → Clock (MachineClock R) → Opens D → Opens L → Journal (LineJournal E) → Stream S → Startings
startings {R} {E} {S} {D} {L} clock disk list journal streams = record {
  by_count = ServesCount streams clock;
  anew = λ handed cause. (served : Served R) × (served.fault ≡ cause) × ServesAnew journal handed served;
  on_state = λ handed told end. (served : ServedOn R D) × (served.end ≡ end) × LivesInRow disk journal handed told served;
  on_list = λ handed told end. (served : ServedOn R L) × (served.end ≡ end) × LivesInRow list journal handed told served;
}

-- it is started anew, prints where it listens, and serves
abbrev pub EndsAnew : {W : Type 0} → Startings → HandedAnew → CommandFault → Output W → Type 0
EndsAnew starts handed fault out =
    (cause : LoopFault) × starts.anew handed cause × (fault ≡ Stopped cause None) × Announces (out.seen out.old) (out.seen out.new)

-- it is started on what has that name, and prints where it listens, once it serves
abbrev pub EndsOn : {W : Type 0} → (HandedOn → (LifeEnd → Type 0) → LifeEnd → Type 0) → List ℕ → HandedOn → CommandFault → Output W → Type 0
EndsOn lives name handed fault out =
    (end : LifeEnd) × lives handed (λ first. IsToldBy out.seen out.old first out.new) end × IsOfEnd name end fault

-- the one or the other, by where its state stands
abbrev pub EndsStart : {W : Type 0} → Startings → Place → Handed → CommandFault → Output W → Type 0
EndsStart starts nowhere handed fault out = EndsAnew starts (handed_anew handed.registry handed.hooks (pace_of handed.options)) fault out
EndsStart starts (at_file path) handed fault out =
    EndsOn starts.on_state path (handed_on handed.registry handed.codes (pace_of handed.options)) fault out
EndsStart starts (at_list list) handed fault out =
    EndsOn starts.on_list list.prefix (handed_on handed.registry handed.codes (pace_of handed.options)) fault out
