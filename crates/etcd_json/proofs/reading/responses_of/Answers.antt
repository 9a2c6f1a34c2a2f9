use Rattle.std.proofs.Common.{◌≡◌, ◌∙◌, ◌++◌, ◌∷◌, [], List, map, sym, ap, length, take, drop, ◌-◌}
use Rattle.std.proofs.lemmas.List.{map-append}
use Rattle.std.specs.Prelude.{option_map}
use Rattle.json.specs.Value.{items_of, value_view}
use Rattle.etcd_json.specs.Replies.{ResponseFact, each_of, response_fact, response_in}
use Rattle.etcd_json.specs.declared.reply.Response.{Response}
use Rattle.etcd_json.proofs.Each.{one_told}
use Rattle.etcd_json.proofs.reading.responses_of.Goals as goal

pub loop-rest-preserved : goal.loop-rest-preserved
loop-rest-preserved c =
    let done = c.loop-rest.responses.items in
    let rest = c.loop-rest.rest.now in
    let one = c.in_ok-response_in.field-0 in
    let told = one_told value_view response_in (map response_fact done) rest c.item-item.result _ c.in-len1-up.len_at_least c.item-item.is (response_fact one) c.in_ok-response_in.ensures in
    let more : map response_fact c.push.new.self.items ≡ map response_fact done ++ response_fact one ∷ [] =
    ap (λ (es : List Response). map response_fact es) c.in_ok-push.ensures.items ∙ map-append response_fact done (one ∷ []) in
    c.loop-rest.invariant ∙ told
    ∙ ap (λ (es : List ResponseFact). option_map (λ more. es ++ more) (each_of response_in (items_of (map value_view (take (length rest - 1) (drop 1 rest)))))) (sym more)
