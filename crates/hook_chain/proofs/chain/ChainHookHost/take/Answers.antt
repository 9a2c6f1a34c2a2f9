use Rattle.std.proofs.Common.{◌≡◌, eqb, length, true, refl}
use Rattle.hook_chain.specs.ChainLaws.{holds_with}
use Rattle.hook_chain.proofs.chain.ChainHookHost.take.Goals as goal

pub invariant_of-self-else-is_empty : goal.invariant_of-self-else-is_empty
invariant_of-self-else-is_empty c =
    let was = c.requires in
    let moved = c.append-moved.ensures.items in
    let items = rw c.unwrap.ensures at moved in
    rw items (holds_with was.0 was.2 was.1 c.self.inside.hooks.items c.checked.inside.hooks.items _ _ c.self.invariant
    (rw (c.self.view_is, c.checked.view_is) was.3) c.append-moved.ensures.capacity (λ none. let full : eqb (length c.as_slice.result.now) 0 ≡ true = rw (c.as_slice.ensures.value, none) refl in let told = c.is_empty.ensures in let test = c.if-is_empty.false in cc))
