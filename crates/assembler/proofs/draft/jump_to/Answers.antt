use Rattle.std.proofs.Common.{rules, tests, ◌≡◌, FitsSigned, w16, w32, false}
use Rattle.assembler.proofs.Names.{to_z-of_z, is_name}
use Rattle.assembler.proofs.Numbers.{small_from_32}
use Rattle.assembler.proofs.Jumps.{too_far}
use Rattle.assembler.proofs.draft.jump_to.Goals as goal

pub returns-in-Err : goal.returns-in-Err
returns-in-Err c =
    let fits : FitsSigned w32 c.in_ok-distance.distance = search rules in
    let name : is_name c.args.target.now ≡ false = search (rules, tests) in
    let far : FitsSigned w16 c.in_ok-distance.distance → ⊥ = simp to_z-of_z at c.in-Err.ensures in
    too_far c.args.target.now c.in_ok-distance.distance name (small_from_32 c.in_ok-distance.distance fits) c.in_ok-distance.ensures.some far
