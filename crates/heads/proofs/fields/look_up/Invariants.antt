use Rattle.std.proofs.Common.{take}
use Rattle.heads.specs.PlacesParts.{AreLookups}
use Rattle.heads.proofs.fields.look_up.Given as goal

abbrev pub invariant-loop-header : goal.invariant-loop-header
invariant-loop-header l = AreLookups l.bytes (take l.header-index l.headers) l.found
