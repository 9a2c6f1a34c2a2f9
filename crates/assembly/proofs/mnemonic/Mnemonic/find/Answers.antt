use Rattle.std.proofs.Common.{◌≢◌, All, IfNone, Option, Some, None}
use Rattle.assembly.specs.Text.{mnemonic_name, Word}
use Rattle.assembly.specs.TextNameLaws.{each_mnemonic}
use Rattle.assembly.specs.declared.mnemonic.Mnemonic.{Mnemonic}
use Rattle.assembly.specs.declared.mnemonic.TheConstants.{MNEMONICS}
use Rattle.assembly.proofs.mnemonic.Mnemonic.find.Goals as goal

-- a word that names no entry of the table names none
none_named : (r : Option Mnemonic) (word : Word) → IfNone r (All (λ m. word ≢ mnemonic_name m) MNEMONICS) → IfNone r ((m : Mnemonic) → word ≢ mnemonic_name m)
none_named None word none = each_mnemonic (λ m. word ≢ mnemonic_name m) none
none_named (Some x) word none = none

pub returns-clause-none : goal.returns-clause-none
returns-clause-none c = none_named _ _ c.first_named.ensures.none
