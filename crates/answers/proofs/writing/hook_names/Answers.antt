use Rattle.std.proofs.Common.{◌≡◌, None, Some, sym, ap, ◌∙◌}
use Rattle.std.specs.Prelude.{option_copied, slice_get}
use Rattle.answers.proofs.Listing.{one_more, all_named, map_push}
use Rattle.answers.proofs.writing.hook_names.Goals as goal

pub loop-name-preserved : goal.loop-name-preserved
loop-name-preserved g c =
    let found : slice_get (g.H.HookHost.names c.args.host.now) c.len.result ≡ Some c.in-Some.name.now = sym c.name_at.ensures.name ∙ ap option_copied c.in-Some.is in
    rw (c.in_ok-push.ensures.len, c.in_ok-push.ensures.items) (map_push _ c.in-Some.name ∙ one_more _ _ _ _ c.loop-name.invariant (rw c.len.ensures at found))

pub returns-clause-value : goal.returns-clause-value
returns-clause-value g c =
    let none : slice_get (g.H.HookHost.names c.args.host.now) c.len.result ≡ None = sym c.name_at.ensures.name ∙ ap option_copied c.in_default.is in
    all_named _ _ _ c.loop-name.invariant (rw c.len.ensures at none)
