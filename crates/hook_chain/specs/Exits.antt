-- What a hook's run exits with, and what hooks leave of an ask, one after the other.
use Rattle.std.specs.Prelude.{ℕ, zero, suc, List, length, take, Option, Some, None}
use Rattle.std.specs.List.{fold}
use Rattle.insn.specs.declared.instruction.Insn.{Insn}
use Rattle.insn.specs.declared.layout.Layout.{Layout}
use Rattle.insn.specs.declared.layout.Layout.TheVariants.{V1, V2}
use Rattle.insn.specs.Values.{◌>>=◌, Config, record_size, start}
use Rattle.insn.specs.Step.{exit_at, step, IsExit}
use Rattle.hook_record.specs.declared.Ask.{Ask}
use Rattle.hook_record.specs.declared.Narrowed.{Narrowed}
use Rattle.hook_record.specs.declared.Narrowed.TheVariants.{Denied, EmptyScope, Allowed}
use Rattle.hook_record.specs.Record.{record_v1, record_v2}
use Rattle.hook_record.specs.Narrowing.{narrowed}
use Rattle.verifier.specs.Verdicts.{Checked}

-- the number in R0 and the record where a run exits
pub record Exit : Type 0 where
  pub r0 : ℕ
  pub bytes : List ℕ

-- the exit here, and else a later one
abbrev pub exit_or : Option ℕ → List ℕ → Option Exit → Option Exit
exit_or (Some r0) bytes later = Some (record { r0 = r0; bytes = bytes })
exit_or None bytes later = later

-- the exit of a run from here, where it comes within so many steps
abbrev pub exit_within : Layout → List Insn → ℕ → Config → Option Exit
exit_within layout program zero c = None
exit_within layout program (suc n) c = exit_or (exit_at layout program c) c.state.bytes (step layout program c >>= exit_within layout program n)

-- the run exits so, after some number of steps
pub record IsRunTo (layout : Layout) (program : List Insn) (bytes : List ℕ) (exit : Exit) : Type 0 where
  pub count : ℕ
  pub run : IsExit layout program bytes exit.r0 count exit.bytes

-- the record of an ask
abbrev pub record_of : Layout → Ask → List ℕ
record_of V1 ask = record_v1 ask
record_of V2 ask = record_v2 ask

-- the exit of a program's run on the record of an ask
abbrev pub exit_of : Checked → Ask → Option Exit
exit_of hook ask = exit_within hook.layout hook.program (length hook.program) (start (record_of hook.layout ask))

-- what an exit leaves of an ask; a run without one denies it
abbrev pub narrowed_by_exit : Ask → Option Exit → Narrowed
narrowed_by_exit ask None = Denied
narrowed_by_exit ask (Some exit) = narrowed ask exit.r0 (take (record_size V1) exit.bytes)

-- what a hook leaves of an ask
abbrev pub narrowed_by_hook : Ask → Checked → Narrowed
narrowed_by_hook ask hook = narrowed_by_exit ask (exit_of hook ask)

-- what one more hook leaves of an ask: it is asked for the scope and the lifetime that are left so far; where none are,
-- it isn't asked
abbrev pub narrowed_further : Ask → Narrowed → Checked → Narrowed
narrowed_further ask (Allowed scope life) hook = narrowed_by_hook (record ask { scope = scope; life = life }) hook
narrowed_further ask Denied hook = Denied
narrowed_further ask EmptyScope hook = EmptyScope

-- what hooks leave of an ask, one after the other
abbrev pub narrowed_by : List Checked → Ask → Narrowed
narrowed_by hooks ask = fold (narrowed_further ask) (Allowed ask.scope ask.life) hooks
