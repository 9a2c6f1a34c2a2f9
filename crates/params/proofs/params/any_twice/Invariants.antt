use Rattle.std.proofs.Common.{◌≡◌, ◌++◌, ℕ, List, false, drop, is_some}
use Rattle.params.proofs.Names.{bytes_eq, list_any, get_by, slice_cmp, nat_cmp, any_twice, names_of_pairs, texts_of}
use Rattle.params.proofs.params.any_twice.Given as goal

abbrev pub invariant-loop-name : goal.invariant-loop-name
invariant-loop-name l =
    (taken : List (List ℕ)) × (taken ++ names_of_pairs (texts_of (drop l.name-index l.pairs)) ≡ names_of_pairs (texts_of l.pairs))
    × (any_twice taken ≡ false)
    × ((q : List ℕ) → is_some (get_by (λ k. slice_cmp nat_cmp q k.now) l.names) ≡ list_any (bytes_eq q) taken)
