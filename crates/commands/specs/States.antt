-- What `state` answers to a file.
use Rattle.std.specs.Prelude.{◌≡◌, ◌⊎◌, ⊤, ℕ, List, length, Option, None, IsSomeAnd, Result, Ok, Err}
use Rattle.batch_file.specs.Frames.{IsRightFront, RefusesFile, RefusesHeader, recovered, torn_of}
use Rattle.batch_file.specs.declared.framing.ReadFault.{ReadFault}
use Rattle.hook_commands.specs.File.{File}
use Rattle.rules_codec.specs.Facts.{StandingFact}
use Rattle.state_account.specs.Accounts.{IsOfBatch, IsStandingOf, TellIfAny}
use Rattle.state_file.specs.Faults.{of_reading}
use Rattle.state_listing.specs.Lines.{listing_text}
use Rattle.state_listing.specs.declared.facts.FileFacts.{FileFacts}
use Rattle.commands.specs.declared.answer.Answer.{Answer}
use Rattle.commands.specs.declared.answer.Answer.TheVariants as answers
use Rattle.commands.specs.declared.fault.CommandFault.{CommandFault}
use Rattle.commands.specs.declared.fault.CommandFault.TheVariants as faults
use Rattle.state_file.specs.Runs.{OfEachRun}

-- what is told of the file as a whole
abbrev pub facts_of : List ℕ → Option ℕ → FileFacts
facts_of bytes now = record { bytes = length bytes; batches = length (recovered bytes); torn = length (torn_of bytes); looked_at = now }

-- the text lists what stands after each history that the bytes stand for, under the rules that they tell, and what the file is
pub record IsStateText (bytes : List ℕ) (now : Option ℕ) (text : List ℕ) : Type 0 where
  pub standing : StandingFact
  pub each : OfEachRun bytes (λ history. IsStandingOf standing history)
  pub told : TellIfAny bytes standing.rules
  pub text_is : text ≡ listing_text standing (facts_of bytes now)

-- why it is not told what the bytes in the file of a path stand for: they are no state file, for such a cause, or a batch of it is
-- at fault
abbrev pub HasNoAccount : List ℕ → (ReadFault → Type 0) → CommandFault → Type 0
HasNoAccount path IsCause (faults.State named fault) = (named.now ≡ path) × (cause : ReadFault) × IsCause cause × (fault ≡ of_reading cause)
HasNoAccount path IsCause (faults.StateAt number fault) = IsOfBatch fault
HasNoAccount path IsCause faults.OutOfMemory = ⊤
HasNoAccount path IsCause fault = ⊥

-- the file of a path cannot be read
abbrev pub IsUnread : List ℕ → File → CommandFault → Type 0
IsUnread path file (faults.CannotRead named) = (file ≡ None) × (named.now ≡ path)
IsUnread path file fault = ⊥

-- what is told of the file of a path: such a text of its bytes, or why there is none
abbrev pub IsTextTold : List ℕ → File → (List ℕ → List ℕ → Type 0) → (List ℕ → ReadFault → Type 0) → Result Answer CommandFault → Type 0
IsTextTold path file IsText IsCause (Ok (answers.Lines text)) = IsSomeAnd file (λ bytes. IsText bytes text.items)
IsTextTold path file IsText IsCause (Ok answer) = ⊥
IsTextTold path file IsText IsCause (Err fault) = IsUnread path file fault ⊎ IsSomeAnd file (λ bytes. HasNoAccount path (IsCause bytes) fault)

-- what `state` answers to the file of a path: its bytes may be no file of batches
abbrev pub IsStateTold : List ℕ → File → Option ℕ → Result Answer CommandFault → Type 0
IsStateTold path file now outcome = IsTextTold path file (λ bytes text. IsStateText bytes now text) RefusesFile outcome

-- the text is that of a whole file of the frames at the front of the bytes that are right
pub record IsFrontText (bytes : List ℕ) (now : Option ℕ) (text : List ℕ) : Type 0 where
  pub front : List ℕ
  pub right : IsRightFront (recovered front) bytes
  pub text_is : IsStateText front now text

-- what `state --front` answers to the file of a path: its bytes may not begin as a state file does
abbrev pub IsFrontTold : List ℕ → File → Option ℕ → Result Answer CommandFault → Type 0
IsFrontTold path file now outcome = IsTextTold path file (λ bytes text. IsFrontText bytes now text) RefusesHeader outcome
