use Rattle.std.proofs.Common.{◌≢◌, ℕ, ◌<◌, get_or}
use Rattle.assembly.specs.Text.{mnemonic_name}
use Rattle.assembly.specs.declared.mnemonic.Mnemonic.{Mnemonic}
use Rattle.assembly.proofs.mnemonic.first_named.Given as goal

abbrev pub invariant-loop-mnemonic : goal.invariant-loop-mnemonic
invariant-loop-mnemonic l = (k : ℕ) (d : Mnemonic) → k < l.mnemonic-index → l.word ≢ mnemonic_name (get_or l.mnemonics k d)
