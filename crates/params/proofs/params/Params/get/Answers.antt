use Rattle.std.proofs.Common.{◌≡◌, rules, sym, true, false}
use Rattle.params.proofs.Names.{bytes_eq, cow_str_bytes}
use Rattle.params.proofs.Taken.{next_mapped, value_at}
use Rattle.params.proofs.params.Params.get.Goals as goal

pub returns-then-eq : goal.returns-then-eq
returns-then-eq c =
    let next = next_mapped (λ p. (cow_str_bytes p.0, cow_str_bytes p.1)) c.self.inside.pairs.items c.loop-known.known-index c.loop-known-item.result (search rules) (search rules) in
    let test : bytes_eq c.args.name.now (cow_str_bytes c.loop-known-item.result.0) ≡ true = search rules in
    let so_far = rw (← c.self.view_is) at c.loop-known.invariant in
    let text : c.as_str-then-eq.result.now ≡ cow_str_bytes c.loop-known-item.result.1 = search rules in
    rw (← c.self.view_is) (rw text (sym (value_at _ _ _ _ true next so_far test)))

pub loop-known-preserved : goal.loop-known-preserved
loop-known-preserved c =
    let next = next_mapped (λ p. (cow_str_bytes p.0, cow_str_bytes p.1)) c.self.inside.pairs.items c.loop-known.known-index c.loop-known-item.result (search rules) (search rules) in
    let test : bytes_eq c.args.name.now (cow_str_bytes c.loop-known-item.result.0) ≡ false = search rules in
    let so_far = rw (← c.self.view_is) at c.loop-known.invariant in
    rw (← c.self.view_is) (value_at _ _ _ _ false next so_far test)
