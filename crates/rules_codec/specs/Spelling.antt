-- The one spelling of each rules, and what has one.
use Rattle.std.specs.Prelude.{ℕ, List, ◌∷◌, Result}
use Rattle.wire.specs.declared.fault.Fault.{Fault}
use Rattle.wire.specs.declared.fault.Fault.TheVariants as faults
use Rattle.wire.specs.Lists.{behind}
use Rattle.wire.specs.Whole.{all_at}
use Rattle.change_codec.specs.Rules.{RulesFact}
use Rattle.rules_codec.specs.Formats.{rules_format}

abbrev pub rules_fields : RulesFact → List ℕ
rules_fields r = rules_format.spell r

-- behind the byte that tells rules apart from other batches
abbrev pub rules_spelling : RulesFact → List ℕ
rules_spelling r = 0 ∷ rules_fields r

-- WHAT HAS A SPELLING

abbrev pub RulesFit : RulesFact → Type 0
RulesFit r = rules_format.Fits r

-- WHAT CAN BE COUNTED: how many there are, and the bytes of a text, in four bytes

abbrev pub RulesCount : RulesFact → Type 0
RulesCount r = rules_format.Counts r

-- READING

-- the rules that all of the bytes spell, or the first fault
abbrev pub rules_reading : List ℕ → Result RulesFact Fault
rules_reading bytes = all_at (behind 0 faults.Version rules_format) bytes
