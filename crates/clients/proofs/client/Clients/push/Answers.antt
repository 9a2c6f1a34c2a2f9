use Rattle.std.proofs.Common.{◌≡◌, ◌+◌, ◌++◌, ◌∷◌, [], length, string_bytes, Some, None, rules, arith}
use Rattle.clients.specs.Clients.{ids}
use Rattle.clients.proofs.Names.{string_cmp, Updates, number_among}
use Rattle.std.proofs.lemmas.Grind.{common_steps}
use Rattle.std.proofs.lemmas.List.{length-map, map_push}
use Rattle.clients.proofs.Places.{IsIndex-push}
use Rattle.clients.proofs.client.Clients.push.Goals as goal

pub invariant_of-self-2 : goal.invariant_of-self-2
invariant_of-self-2 c =
    let old = ids c.self.inside.list.items in
    let key = c.in_ok-from_str.field-0 in
    let same : string_bytes key ≡ c.args.client.id = search rules in
    let absent : number_among (string_bytes key) old ≡ None = rw (same, c.self.view_is) c.requires.new in
    let told = c.in_ok-insert.ensures.updates in
    let long = length-map c.self.inside.list.items (λ c. c.id) in
    let count : length old ≡ c.len.result = grind (arith, common_steps, long) in
    let updates : Updates string_cmp c.self.inside.numbers c.insert.new.self key (Some (length old + 1)) = rw count told in
    let pushed = map_push (λ c. c.id) c.self.inside.list.items c.args.client in
    let items : ids c.push.new.self.items ≡ old ++ string_bytes key ∷ [] = grind (arith, common_steps, pushed, same) in
    let room = c.requires.room in (
      rw items (IsIndex-push c.self.inside.numbers c.insert.new.self old key c.self.invariant.0 absent updates),
      grind (arith, common_steps, room),
    )
