use Rattle.std.proofs.Common.{◌≡◌, ◌∙◌, Some, None, ap, sym, rules}
use Rattle.std.specs.Prelude.{slice_get, option_copied, bytes_eq}
use Rattle.std.specs.Option.{option_and_then}
use Rattle.std.specs.Map.{lookup}
use Rattle.clients.specs.OwnerRecord.{Listed}
use Rattle.clients.specs.Owners.{owner_keyed}
use Rattle.clients.proofs.Placed.{owner_read, keyed_at}
use Rattle.clients.proofs.owner.Owners.keyed.Goals as goal

pub returns-in_err-place : goal.returns-in_err-place
returns-in_err-place c =
    let owners = c.self.inside.list.items in
    let places = c.self.inside.by_key.entries in
    let none : c.get.result ≡ None = search rules in
    let empty : lookup (bytes_eq c.args.digest.now) places ≡ None = sym c.get.ensures.value ∙ ap option_copied none in
    ap option_copied c.from_residual.ensures
    ∙ sym (ap (λ (listed : Listed). owner_keyed c.args.digest.now listed.owners) (sym c.self.view_is)
    ∙ keyed_at places owners c.args.digest.now c.self.invariant.1 ∙ ap (option_and_then (λ n. slice_get owners n)) empty)

pub returns : goal.returns
returns c =
    let owners = c.self.inside.list.items in
    let places = c.self.inside.by_key.entries in
    let some : c.get.result ≡ Some c.in_ok-place.field-0 = search rules in
    let place : lookup (bytes_eq c.args.digest.now) places ≡ Some c.in_ok-place.field-0.now = sym c.get.ensures.value ∙ ap option_copied some in
    let slice : c.deref.result.now ≡ owners = c.deref.ensures.value in
    let here = rw slice at c.get-2.ensures.lookup in
    owner_read owners c.in_ok-place.field-0.now c.get-2.result here.0 here.1 ∙ sym (ap (λ (listed : Listed). owner_keyed c.args.digest.now listed.owners) (sym c.self.view_is)
    ∙ keyed_at places owners c.args.digest.now c.self.invariant.1 ∙ ap (option_and_then (λ n. slice_get owners n)) place)
