use Rattle.std.proofs.Common.{ℕ, List, Option, None, Some, Err, inl, inr, map, refl}
use Rattle.command_line.specs.Names.{Arguments, OutOfMemory}
use Rattle.command_line.proofs.Names.{string_bytes, files_in}
use Rattle.command_line.specs.Calls.{IsReading, helped_by}
use Rattle.command_line.proofs.performing.perform.Goals as goal

-- memory may be refused, whatever is asked for
no_memory : (helped : Option (List ℕ)) (words : Arguments) → IsReading helped words (Err OutOfMemory)
no_memory (Some name) words = tt
no_memory None words = tt

pub returns : goal.returns
returns g c = elim c.told-in-Err-read_files.ensures [
  | inl untold ↦ inl (inr untold)
  | inr told ↦ inr (inr (
    refl,
    (record {
      fault = c.in-Err-read_files.fault;
      cause = rw c.in-Err-read_files.ensures.memory (no_memory (helped_by (map string_bytes c.args.words.now)) c.args.words.now);
      told = told;
    }),
  ))
]

pub returns-in-Ok-read_files : goal.returns-in-Ok-read_files
returns-in-Ok-read_files g c = elim c.perform_call.ensures [
  | inl unwritten ↦ inl unwritten
  | inr ends ↦ inr (inl (record {
    call = c.in-Ok.call;
    files = files_in c.in-Ok-read_files.files;
    called = c.in-Ok.ensures;
    hooks = c.in-Ok-read_files.ensures.hooks;
    ends = ends;
  }))
]
