use Rattle.std.proofs.Common.{rules, ◌∙◌, sym, ap, FitsSigned, w16}
use Rattle.assembler.proofs.Names.{option_map, option_copied, to_z-of_z, SlotNumber, find_in}
use Rattle.assembler.proofs.Resolving.{resolved_label}
use Rattle.assembler.proofs.assembling.resolved.Goals as goal

pub returns-in_ok-to-in-ToLabel : goal.returns-in_ok-to-in-ToLabel
returns-in_ok-to-in-ToLabel c =
    let fits : FitsSigned w16 c.distance.result = search rules in
    let found = ap (option_map (λ (slot : SlotNumber). slot.number)) (sym c.get.ensures.value ∙ ap option_copied c.in_ok-to-in-ToLabel.was) in
    resolved_label (find_in c.args.labels.now) c.args.place.now c.in-ToLabel.jump c.in-ToLabel.name c.in_ok-to-in-ToLabel.field-0.now.number c.over.result _
    c.in-ToLabel.is found (to_z-of_z w16 c.distance.result fits ∙ c.distance.ensures) c.over.ensures
