use Rattle.std.proofs.Common.{◌≡◌, ◌≤◌, inl, inr, None, length, sym, ap, ◌∙◌, arith}
use Rattle.std.specs.Prelude.{slice_get}
use Rattle.std.specs.Option.{option_copied}
use Rattle.std.proofs.lemmas.Option.{slice_get_cases}
use Rattle.hook_host.proofs.count.hook_count.Goals as goal

pub returns : goal.returns
returns g c =
    let names = g.H.HookHost.names c.args.host.now in
    let none : slice_get names c.loop-name.count ≡ None = sym c.name_at.ensures.name ∙ ap option_copied c.in_default.is in
    let past : length names ≤ c.loop-name.count = elim (slice_get_cases names c.loop-name.count).1 [ inl p ↦ (let found = p.2 in absurd (cc)) | inr p ↦ p.0 ] in
    let least = c.loop-name.invariant in
    omega (arith, past, least)
