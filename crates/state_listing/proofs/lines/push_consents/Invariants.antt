use Rattle.std.proofs.Common.{◌≡◌, ◌++◌, take}
use Rattle.std.specs.List.{flat_map}
use Rattle.rules_codec.specs.Facts.{rules_fact}
use Rattle.state_listing.specs.Lines.{consent_line}
use Rattle.state_listing.proofs.lines.push_consents.Given as goal

abbrev pub invariant-loop-consent : goal.invariant-loop-consent
invariant-loop-consent l = l.lines.items ≡ l.fn.lines.items ++ flat_map (consent_line (rules_fact l.rules)) (take l.consent-index l.consents)
