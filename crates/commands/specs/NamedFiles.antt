-- The file that a command line names.
use Rattle.std.specs.Prelude.{ℕ, ◌==◌, bit_and, if◌then◌else◌, Option, option_map}
use Rattle.hook_commands.specs.File.{File}
use Rattle.commands.specs.declared.named_file.NamedFile.{NamedFile}
use Rattle.commands.specs.declared.named_file.Readers.{Readers}
use Rattle.commands.specs.declared.named_file.Readers.TheVariants.{Chosen, Everybody}

-- what stands in it, if there is one
abbrev pub bytes_in : Option NamedFile → File
bytes_in = option_map (λ file. file.bytes.items)

-- who may read a file of this mode: its lowest three bits are what others may, and the highest of these is to read
abbrev pub readers_by : ℕ → Readers
readers_by mode = if bit_and mode 0o004 == 0 then Chosen else Everybody
