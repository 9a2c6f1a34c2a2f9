-- What a hook's bytes do with a record's: the layers that both cross, one below the other.
use Rattle.std.specs.Prelude.{◌≡◌, ℕ, ◌==◌, if◌then◌else◌, List, length, take, Option, Some, None, Result, Ok, Err, ◌≢◌}
use Rattle.hook_commands.specs.Names.{option_map, InsnFault, VerifyFault, V1, V2, FirstInsnFault, Spells, ask_in_v1, ask_in_v2, JudgeFault, Layout, Memory}
use Rattle.insn.specs.declared.instruction.Insn.{Insn}
use Rattle.insn.specs.Step.{IsExit, Safe}
use Rattle.insn.specs.Values.{record_size}
use Rattle.hook_record.specs.Narrowing.{narrowed}
use Rattle.hook_commands.specs.declared.judge.Asked.{Asked}
use Rattle.hook_commands.specs.declared.judge.Judged.{Judged}
use Rattle.hook_commands.specs.declared.judge.JudgeFault.TheVariants as faults
use Rattle.insn.specs.Refusals.{look_verdict}
use Rattle.verifier.specs.Verdicts.{IsVerdict}

-- what a record asks, of the version that its length says
abbrev pub asked_in : List ℕ → Option Asked
asked_in bytes =
    if length bytes == record_size V1 then option_map (λ ask. record { layout = V1; ask = ask }) (ask_in_v1 bytes)
    else if length bytes == record_size V2 then option_map (λ ask. record { layout = V2; ask = ask }) (ask_in_v2 bytes)
    else None

-- a program's run on a record exits so, and what it leaves in the first 64 bytes, which both versions have, narrows the ask so
pub record IsAnswer (program : List Insn) (asked : Asked) (bytes : List ℕ) (judged : Judged) : Type 0 where
  pub after : List ℕ
  pub exit : IsExit asked.layout program bytes judged.r0 judged.steps after
  pub answer : judged.answer ≡ narrowed asked.ask judged.r0 (take (record_size V1) after)

-- a program is taken: the first look finds nothing, and from every record the run exits
pub record IsTakenProgram (layout : Layout) (program : List Insn) : Type 0 where
  pub looked : look_verdict program ≡ None
  pub safe : Safe layout program

-- a program is not taken, with its verdict, or for want of memory, which comes after the first look
pub record IsTurnedAway (layout : Layout) (program : List Insn) (fault : VerifyFault) : Type 0 where
  pub verdict : fault ≢ Memory → IsVerdict layout program fault
  pub memory : fault ≡ Memory → look_verdict program ≡ None

-- the record asks something, and the code spells a program that is accepted for its version, whose run there exits so
pub record IsAccepted (code bytes : List ℕ) (judged : Judged) : Type 0 where
  pub program : List Insn
  pub asked : Asked
  pub asks : asked_in bytes ≡ Some asked
  pub spelled : Spells code program
  pub taken : IsTakenProgram asked.layout program
  pub run : IsAnswer program asked bytes judged

-- the record asks something, and the code is no program: this is its first fault
pub record IsNoProgram (code bytes : List ℕ) (fault : InsnFault) : Type 0 where
  pub asked : Asked
  pub asks : asked_in bytes ≡ Some asked
  pub first : FirstInsnFault code fault

-- the record asks something, and the code spells a program that is not accepted for its version
pub record IsRefused (code bytes : List ℕ) (fault : VerifyFault) : Type 0 where
  pub program : List Insn
  pub asked : Asked
  pub asks : asked_in bytes ≡ Some asked
  pub spelled : Spells code program
  pub refused : IsTurnedAway asked.layout program fault

-- how the code of a hook and a record are judged: first the record is looked at, then the code, then its program, whose
-- run is never stuck
abbrev pub IsJudged : List ℕ → List ℕ → Result Judged JudgeFault → Type 0
IsJudged code bytes (Ok judged) = IsAccepted code bytes judged
IsJudged code bytes (Err faults.BadRecord) = asked_in bytes ≡ None
IsJudged code bytes (Err (faults.Insn fault)) = IsNoProgram code bytes fault
IsJudged code bytes (Err (faults.Verify fault)) = IsRefused code bytes fault
IsJudged code bytes (Err (faults.Stuck slot)) = ⊥
