use Rattle.std.proofs.Common.{◌≡◌, drop, string_bytes}
use Rattle.params.specs.Scope.{names_in_mask, scope_text}
use Rattle.params.proofs.Written.{text_after}
use Rattle.params.proofs.catalogue.Catalogue.scope_text.Given as goal

abbrev pub invariant-loop-name : goal.invariant-loop-name
invariant-loop-name l = text_after (string_bytes l.text) (names_in_mask (drop l.name-index l.self) l.left) ≡ scope_text l.self l.fn.mask
