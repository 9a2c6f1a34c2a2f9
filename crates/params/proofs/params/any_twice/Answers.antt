use Rattle.std.proofs.Common.{◌≡◌, ◌++◌, ◌∷◌, [], ◌∙◌, rules, sym, ap, true, false, drop, append_assoc, is_some, ◌+◌}
use Rattle.params.proofs.Names.{cow_str_bytes, get_by, slice_cmp, nat_cmp, any_twice, names_of_pairs, texts_of, any_twice-append}
use Rattle.std.proofs.lemmas.Map.Text.{btree_map_updates_str}
use Rattle.params.proofs.Reading.{any_twice-later, few_once}
use Rattle.params.proofs.Taken.{next_item, taken_with}
use Rattle.params.proofs.params.any_twice.Goals as goal

pub returns-then-pairs-lt2-clause-ok : goal.returns-then-pairs-lt2-clause-ok
returns-then-pairs-lt2-clause-ok c = sym (few_once c.args.pairs.now c.if-pairs-lt2.true)

pub returns-then-is_some-clause-ok : goal.returns-then-is_some-clause-ok
returns-then-is_some-clause-ok c =
    let inv = c.loop-name.invariant in
    let name = cow_str_bytes c.loop-name-item.result.0 in
    let left = names_of_pairs (texts_of (drop (c.loop-name.name-index + 1) c.args.pairs.now)) in
    let next = next_item c.args.pairs.now c.loop-name.name-index c.loop-name-item.result (search rules) (search rules) in
    let whole : inv.0 ++ name ∷ left ≡ names_of_pairs (texts_of c.args.pairs.now) = ap (λ ps. inv.0 ++ names_of_pairs (texts_of ps)) (sym next) ∙ inv.1 in
    let stood : is_some (get_by (λ k. slice_cmp nat_cmp name k.now) c.loop-name.names) ≡ true = search rules in
    sym (ap any_twice (sym whole) ∙ any_twice-later inv.0 name left (sym (inv.3 name) ∙ stood))

pub loop-name-preserved : goal.loop-name-preserved
loop-name-preserved c =
    let inv = c.loop-name.invariant in
    let name = cow_str_bytes c.loop-name-item.result.0 in
    let left = names_of_pairs (texts_of (drop (c.loop-name.name-index + 1) c.args.pairs.now)) in
    let next = next_item c.args.pairs.now c.loop-name.name-index c.loop-name-item.result (search rules) (search rules) in
    let whole : inv.0 ++ name ∷ left ≡ names_of_pairs (texts_of c.args.pairs.now) = ap (λ ps. inv.0 ++ names_of_pairs (texts_of ps)) (sym next) ∙ inv.1 in
    let key = c.as_str.result.now in
    let same : key ≡ name = search rules in
    let new : is_some (get_by (λ k. slice_cmp nat_cmp name k.now) c.loop-name.names) ≡ false = search rules in (
      inv.0 ++ name ∷ [],
      append_assoc inv.0 (name ∷ []) left ∙ whole,
      any_twice-append inv.0 name inv.2 (sym (inv.3 name) ∙ new),
      λ q. ap (λ o. is_some o) (btree_map_updates_str key c.loop-name.names c.insert.new.self _ c.in_ok-insert.ensures.updates q)
          ∙ rw same (taken_with q name inv.0 (get_by (λ k. slice_cmp nat_cmp q k.now) c.loop-name.names) tt (inv.3 q)),
    )
