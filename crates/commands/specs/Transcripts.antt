-- What `replay` answers to a file.
use Rattle.std.specs.Prelude.{◌≡◌, ◌≢◌, ◌⊎◌, ⊤, ℕ, List, [], Result, Ok, Err}
use Rattle.hook_chain.specs.contracts.chain.ChainHookHost.TheImpl as chain
use Rattle.transcript.specs.Replays.{IsReplay, IsReplayFault}
use Rattle.transcript.specs.declared.fault.ReplayFault.{ReplayFault}
use Rattle.transcript.specs.declared.fault.ReplayFault.TheVariants as replay
use Rattle.commands.specs.declared.answer.Answer.{Answer}
use Rattle.commands.specs.declared.answer.Answer.TheVariants as answers
use Rattle.commands.specs.declared.fault.CommandFault.{CommandFault}
use Rattle.commands.specs.declared.fault.CommandFault.TheVariants as faults
use Rattle.hook_commands.specs.File.{File, HoldsText, IsNoText}

-- a file is a transcript, and the server with the chain of hooks, of which none is there at first, answers it so
pub record IsReplayed (file : File) (output : List ℕ) : Type 0 where
  pub text : List ℕ
  pub held : HoldsText file text
  pub replay : IsReplay chain.ghosts [] text output

-- a file's text has no answer as a transcript, for this fault
pub record HasReplayFault (file : File) (fault : ReplayFault) : Type 0 where
  pub text : List ℕ
  pub held : HoldsText file text
  pub fault_is : IsReplayFault chain.ghosts [] text fault

-- why the text of a file has no answer, where it is one
abbrev pub HasNoReplay : File → CommandFault → Type 0
HasNoReplay file (faults.Replay fault) = (fault ≢ replay.Memory) × HasReplayFault file fault
HasNoReplay file faults.OutOfMemory = ⊤
HasNoReplay file fault = ⊥

-- why the file of a path is no text
abbrev pub HoldsNoTranscript : List ℕ → File → CommandFault → Type 0
HoldsNoTranscript path file (faults.CannotRead named) = IsNoText file × (named.now ≡ path)
HoldsNoTranscript path file fault = ⊥

-- what `replay` answers to the file of a path
abbrev pub IsReplayedAs : List ℕ → File → Result Answer CommandFault → Type 0
IsReplayedAs path file (Ok (answers.Replayed output)) = IsReplayed file output.items
IsReplayedAs path file (Ok answer) = ⊥
IsReplayedAs path file (Err fault) = HoldsNoTranscript path file fault ⊎ HasNoReplay file fault
