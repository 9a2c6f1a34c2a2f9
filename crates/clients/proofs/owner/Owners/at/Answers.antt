use Rattle.std.proofs.Common.{◌≡◌, ◌∙◌, eqb, Some, None, ap, sym, rules}
use Rattle.std.specs.Prelude.{slice_get, option_copied}
use Rattle.std.specs.Option.{option_and_then}
use Rattle.std.specs.Map.{lookup}
use Rattle.clients.specs.OwnerRecord.{Listed}
use Rattle.clients.specs.Owners.{owner_listed}
use Rattle.clients.proofs.Placed.{owner_read, numbered_at}
use Rattle.clients.proofs.owner.Owners.at.Goals as goal

pub returns-in_err-place : goal.returns-in_err-place
returns-in_err-place c =
    let owners = c.self.inside.list.items in
    let places = c.self.inside.by_number.entries in
    let none : c.get.result ≡ None = search rules in
    let empty : lookup (eqb c.args.number) places ≡ None = sym c.get.ensures.value ∙ ap option_copied none in
    ap option_copied c.from_residual.ensures
    ∙ sym (ap (λ (listed : Listed). owner_listed c.args.number listed.owners) (sym c.self.view_is)
    ∙ numbered_at places owners c.args.number c.self.invariant.2 ∙ ap (option_and_then (λ n. slice_get owners n)) empty)

pub returns : goal.returns
returns c =
    let owners = c.self.inside.list.items in
    let places = c.self.inside.by_number.entries in
    let some : c.get.result ≡ Some c.in_ok-place.field-0 = search rules in
    let place : lookup (eqb c.args.number) places ≡ Some c.in_ok-place.field-0.now = sym c.get.ensures.value ∙ ap option_copied some in
    let slice : c.deref.result.now ≡ owners = c.deref.ensures.value in
    let here = rw slice at c.get-2.ensures.lookup in
    owner_read owners c.in_ok-place.field-0.now c.get-2.result here.0 here.1 ∙ sym (ap (λ (listed : Listed). owner_listed c.args.number listed.owners) (sym c.self.view_is)
    ∙ numbered_at places owners c.args.number c.self.invariant.2 ∙ ap (option_and_then (λ n. slice_get owners n)) place)
