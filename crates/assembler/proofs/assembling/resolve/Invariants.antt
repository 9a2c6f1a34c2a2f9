use Rattle.std.proofs.Common.{◌≡◌, map, take, Some}
use Rattle.assembler.proofs.Names.{find_in, resolution}
use Rattle.assembler.proofs.assembling.resolve.Given as goal

abbrev pub invariant-loop-place : goal.invariant-loop-place
invariant-loop-place l = map Some l.insns.items ≡ map (resolution (find_in l.sheet.labels)) (take l.place-index l.sheet.places.items)
