use Rattle.std.proofs.Common.{◌≡◌, ◌∙◌, ◌++◌, ◌∷◌, [], List, map, sym, ap, length, take, drop, ◌-◌}
use Rattle.std.proofs.lemmas.List.{map-append}
use Rattle.std.specs.Prelude.{option_map}
use Rattle.json.specs.Value.{items_of, value_view}
use Rattle.etcd_json.specs.Replies.{EntryFact, each_of, entry_fact, entry_in}
use Rattle.etcd_json.specs.declared.reply.Entry.{Entry}
use Rattle.etcd_json.proofs.Each.{one_told}
use Rattle.etcd_json.proofs.reading.entries_of.Goals as goal

pub loop-rest-preserved : goal.loop-rest-preserved
loop-rest-preserved c =
    let done = c.loop-rest.entries.items in
    let rest = c.loop-rest.rest.now in
    let one = c.in_ok-entry_in.field-0 in
    let told = one_told value_view entry_in (map entry_fact done) rest c.item-item.result _ c.in-len1-up.len_at_least c.item-item.is (entry_fact one) c.in_ok-entry_in.ensures in
    let more : map entry_fact c.push.new.self.items ≡ map entry_fact done ++ entry_fact one ∷ [] =
    ap (λ (es : List Entry). map entry_fact es) c.in_ok-push.ensures.items ∙ map-append entry_fact done (one ∷ []) in
    c.loop-rest.invariant ∙ told
    ∙ ap (λ (es : List EntryFact). option_map (λ more. es ++ more) (each_of entry_in (items_of (map value_view (take (length rest - 1) (drop 1 rest)))))) (sym more)
