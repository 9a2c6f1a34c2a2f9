-- A server that is started where its state is to stand: what only the contracts of this crate's own parts and their proofs cite.
use Rattle.std.specs.Prelude.{◌≢◌, ◌⊎◌, ℕ, Bool, false, true, List, map, unwrap_or}
use Rattle.command_line.specs.Names.{CommandFault, CannotWrite, IsUntouched, ListenFault, Output, Outputs, Said, StartWords}
use Rattle.command_line.specs.Faults.{IsOfListening}
use Rattle.command_line.specs.Hooks.{hook_fact_of}
use Rattle.command_line.specs.Listening.{LacksPlace}
use Rattle.command_line.specs.Startings.{EndsStart, Handed, Startings}
use Rattle.command_line.specs.declared.starting.All.{All}
use Rattle.start_words.specs.Lists.{place_of}
use Rattle.start_words.specs.declared.option.Waiting.{Waiting}
use Rattle.start_words.specs.declared.option.Waiting.TheVariants.{Answers, Deaf}

-- what a server is started with
abbrev pub all_of : All → Said → Handed
all_of all options = record { registry = all.candidate.registry; hooks = all.taken.chain; codes = map hook_fact_of all.taken.codes.items; options = options }

-- for so many seconds it leads that has a list, unless it goes on leading
abbrev pub lease_of : StartWords → ℕ
lease_of given = unwrap_or given.options.lease 3

-- whether those are answered who come while it waits to lead
abbrev pub answers : Waiting → Bool
answers Deaf = false
answers Answers = true

-- no socket is had where it is to listen: nothing is told, and nothing is printed, but for a write that failed
abbrev pub IsNotHeard : {W E : Type 0} → List ℕ → CommandFault → Outputs W E → Type 0
IsNotHeard address fault to =
    IsUntouched to.err × (fault ≢ CannotWrite → IsUntouched to.out) × (cause : ListenFault) × IsOfListening address cause fault

-- what its state is to stand in is not had: nothing is told or printed
abbrev pub IsUnplaced : {W E : Type 0} → List ℕ → Said → CommandFault → Outputs W E → Type 0
IsUnplaced address options fault to = IsUntouched to.err × IsUntouched to.out × LacksPlace address (place_of options) fault

-- it served where its state stands, and can't go on
pub record HasServed {W : Type 0} (starts : Startings) (handed : Handed) (fault : CommandFault) (out : Output W) : Type 0 where
  pub ends : EndsStart starts (place_of handed.options) handed fault out

-- it serves nothing, or no longer
abbrev pub IsStarted : {W E : Type 0} → Startings → List ℕ → Handed → CommandFault → Outputs W E → Type 0
IsStarted starts address handed fault to = IsNotHeard address fault to ⊎ IsUnplaced address handed.options fault to ⊎ HasServed starts handed fault to.out
