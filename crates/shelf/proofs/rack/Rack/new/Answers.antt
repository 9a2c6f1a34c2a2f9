use Rattle.std.proofs.Common.{◌∙◌, sym}
use Rattle.shelf.proofs.Racking.{rack_begun}
use Rattle.shelf.proofs.rack.Rack.new.Goals as goal

pub returns-clause-racked : goal.returns-clause-racked
returns-clause-racked g c =
    let names = c.in_ok-new-2.ensures in
    rw c.in_ok-new.ensures (rack_begun c.in_ok-new-2.field-0 c.args.lists names.empty c.requires.lists names.heads (names.few ∙ sym names.heads))
