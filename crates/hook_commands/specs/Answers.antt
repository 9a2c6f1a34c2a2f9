-- What the commands about a hook's code and a record answer.
use Rattle.std.specs.Prelude.{◌≡◌, ◌⊎◌, ℕ, List, Some, Result, Ok, Err, ⊤}
use Rattle.hook_commands.specs.Names.{Instruction, Spells, HookAnswer, JudgeFault, HookCommandFault}
use Rattle.machine.specs.declared.trace.Trace.{Trace}
use Rattle.machine.specs.Trace.{IsTrace}
use Rattle.hook_commands.specs.declared.answer.HookAnswer.TheVariants as answers
use Rattle.hook_commands.specs.declared.judge.Asked.{Asked}
use Rattle.hook_commands.specs.declared.judge.Judged.{Judged}
use Rattle.hook_commands.specs.declared.judge.JudgeFault.TheVariants as judge
use Rattle.hook_commands.specs.declared.fault.HookCommandFault.TheVariants.{BadArguments, BadRecord, Insn, Verify, OutOfMemory}
use Rattle.hook_commands.specs.HexText.{IsHexOf, IsNoHex}
use Rattle.hook_commands.specs.Judge.{IsJudged, asked_in}

-- a hook's code and a record, both as hex text, are judged so
pub record IsJudgedText (code_hex record_hex : List ℕ) (judged : Result Judged JudgeFault) : Type 0 where
  pub code : List ℕ
  pub bytes : List ℕ
  pub code_spelled : IsHexOf code_hex code
  pub record_spelled : IsHexOf record_hex bytes
  pub outcome : IsJudged code bytes judged

-- what `run` answers to a hook's code and a record: the code's text is tested before the record's
abbrev pub IsRunOn : List ℕ → List ℕ → Result HookAnswer HookCommandFault → Type 0
IsRunOn code_hex record_hex (Ok (answers.Judged judged)) = IsJudgedText code_hex record_hex (Ok judged)
IsRunOn code_hex record_hex (Ok answer) = ⊥
IsRunOn code_hex record_hex (Err BadArguments) = IsNoHex code_hex
IsRunOn code_hex record_hex (Err BadRecord) =
    ((code : List ℕ) × IsHexOf code_hex code × IsNoHex record_hex) ⊎ IsJudgedText code_hex record_hex (Err judge.BadRecord)
IsRunOn code_hex record_hex (Err (Insn fault)) = IsJudgedText code_hex record_hex (Err (judge.Insn fault))
IsRunOn code_hex record_hex (Err (Verify fault)) = IsJudgedText code_hex record_hex (Err (judge.Verify fault))
IsRunOn code_hex record_hex (Err OutOfMemory) = ⊤
IsRunOn code_hex record_hex (Err fault) = ⊥

-- the steps of the run, on a record, of the program that a hook's code spells, both as hex text
pub record IsTraceOf (code_hex record_hex : List ℕ) (trace : Trace) : Type 0 where
  pub code : List ℕ
  pub bytes : List ℕ
  pub code_spelled : IsHexOf code_hex code
  pub record_spelled : IsHexOf record_hex bytes
  pub program : List Instruction
  pub spelled : Spells code program
  pub asked : Asked
  pub asks : asked_in bytes ≡ Some asked
  pub after : List ℕ
  pub run : IsTrace asked.layout program bytes trace after

-- what `run --trace` answers: where `run` has no answer it has none, for the same reason
abbrev pub IsTracedOn : List ℕ → List ℕ → Result HookAnswer HookCommandFault → Type 0
IsTracedOn code_hex record_hex (Ok (answers.Traced trace judged)) =
    IsTraceOf code_hex record_hex trace × IsJudgedText code_hex record_hex (Ok judged)
IsTracedOn code_hex record_hex (Ok answer) = ⊥
IsTracedOn code_hex record_hex (Err fault) = IsRunOn code_hex record_hex (Err fault)
