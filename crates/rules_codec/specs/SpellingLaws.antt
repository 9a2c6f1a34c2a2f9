-- What is spelled is read again, and no bytes spell two.
use Rattle.std.specs.Prelude.{◌≡◌, Ok}
use Rattle.wire.specs.declared.fault.Fault.TheVariants.{Version}
use Rattle.wire.specs.Lists.{behind}
use Rattle.wire.specs.Whole.{all_again, spells_one_alone}
use Rattle.change_codec.specs.Rules.{RulesFact}
use Rattle.rules_codec.specs.Formats.{rules_format}
use Rattle.rules_codec.specs.Spelling.{RulesCount, RulesFit, rules_reading, rules_spelling}

pub rules_reading_again : (r : RulesFact) → RulesFit r → rules_reading (rules_spelling r) ≡ Ok r
rules_reading_again r fits = all_again (behind 0 Version rules_format) r fits

pub one_rules : (some others : RulesFact) → RulesFit some → RulesFit others → rules_spelling some ≡ rules_spelling others → some ≡ others
one_rules some others fits fit e = spells_one_alone (behind 0 Version rules_format) some others fits fit e

-- what fits can be counted
pub fit_counts : (rules : RulesFact) → RulesFit rules → RulesCount rules
fit_counts rules fit = rules_format.counts rules fit
