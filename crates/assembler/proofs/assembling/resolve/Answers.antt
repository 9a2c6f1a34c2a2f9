use Rattle.std.proofs.Common.{◌≡◌, ◌∙◌, sym, ap, arith, length, get_or, None, List}
use Rattle.assembler.proofs.Names.{Place, find_in, resolution}
use Rattle.assembler.proofs.Resolving.{lost_place}
use Rattle.assembler.proofs.assembling.resolve.Goals as goal

pub returns-in_default-clause-fault : goal.returns-in_default-clause-fault
returns-in_default-clause-fault c =
    let e = c.place-item.is in
    let none : resolution (find_in c.args.sheet.now.labels) c.place-item.result ≡ None = sym c.resolved.ensures ∙ c.in_default.is in
    let same = c.deref-place-items.ensures.value in
    let at = ap (λ (xs : List Place). get_or xs c.loop-place.place-index c.place-item.result) (sym same) ∙ sym e in
    let count = ap (λ (xs : List Place). length xs) same in
    lost_place (find_in c.args.sheet.now.labels) c.args.sheet.now.places.items c.loop-place.place-index c.place-item.result c.loop-place.insns.items c.place-item.result (omega arith) at c.loop-place.invariant none
