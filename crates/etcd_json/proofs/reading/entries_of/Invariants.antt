use Rattle.std.proofs.Common.{◌≡◌, ◌++◌, length, map}
use Rattle.std.specs.Prelude.{option_map}
use Rattle.json.specs.Value.{items_view}
use Rattle.etcd_json.specs.Replies.{each_of, entry_fact, entry_in}
use Rattle.etcd_json.proofs.reading.entries_of.Given as goal

abbrev pub decreases-loop-rest : goal.decreases-loop-rest
decreases-loop-rest l = length l.rest

abbrev pub invariant-loop-rest : goal.invariant-loop-rest
invariant-loop-rest l =
    each_of entry_in (items_view l.fn.items) ≡ option_map (λ more. map entry_fact l.entries.items ++ more) (each_of entry_in (items_view l.rest))
