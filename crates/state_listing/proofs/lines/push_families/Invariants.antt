use Rattle.std.proofs.Common.{◌≡◌, ◌++◌, ◌==◌, ℕ, List, [], length, map}
use Rattle.std.specs.List.{flat_map, list_any}
use Rattle.std.specs.BTreeSet.{contains}
use Rattle.std.specs.Ordering.{nat_cmp}
use Rattle.consent.specs.RecordFacts.{record_fact}
use Rattle.rules_codec.specs.Facts.{rules_fact}
use Rattle.state_listing.specs.Lines.{family_line, firsts}
use Rattle.state_listing.proofs.lines.push_families.Given as goal

abbrev pub decreases-loop-rest : goal.decreases-loop-rest
decreases-loop-rest l = length l.rest

-- these families were seen, and what is told of the others is still to come
abbrev pub invariant-loop-rest : goal.invariant-loop-rest
invariant-loop-rest l = (seen : List ℕ) × ((q : ℕ) → contains nat_cmp l.families q ≡ list_any (λ f. f == q) seen)
    × (l.lines.items ++ flat_map (family_line (rules_fact l.rules)) (firsts seen (map record_fact l.rest)) ≡ l.fn.lines.items ++ flat_map (family_line (rules_fact l.rules)) (firsts [] (map record_fact l.records)))
