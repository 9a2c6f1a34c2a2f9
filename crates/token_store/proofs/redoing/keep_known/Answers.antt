use Rattle.std.proofs.Common.{rules, ◌≡◌}
use Rattle.token_store.proofs.Names.{family_numbered, filter_same, is_some, turned}
use Rattle.std.specs.Prelude.{filter}
use Rattle.token_store.proofs.Closing.{known_owners}
use Rattle.token_store.proofs.redoing.keep_known.Goals as goal

pub returns : goal.returns
returns c = λ q.
    let owners = c.args.owners.now.keys in
    let families = c.args.families.now.entries in
    let left : c.retain.new.self.keys ≡ filter (λ k. is_some (family_numbered families (turned k.1))) owners =
    filter_same _ (λ k. is_some (family_numbered families (turned k.1))) _ (λ x b f' k. search rules) _ _ c.retain.ensures.filtered in
    rw left (known_owners families owners q)
