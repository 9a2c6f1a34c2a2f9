use Rattle.std.proofs.Common.{◌≡◌, map, take, string_bytes}
use Rattle.clients.proofs.registry.names_of.Given as goal

abbrev pub invariant-loop-name : goal.invariant-loop-name
invariant-loop-name l = map (λ s. s.now) l.texts.items ≡ map string_bytes (take l.name-index l.names)
