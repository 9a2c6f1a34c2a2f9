-- Bytes that are UTF-8, and bytes that are not.
use Rattle.std.proofs.Common.{◌≡◌, ℕ, List, [], refl, arith}
use Rattle.std.specs.Str.{IsUtf8}
use Rattle.std.proofs.lemmas.Str.{IsUtf8-from_is_utf8, is_utf8-from_IsUtf8}
use Rattle.json.specs.Lex.{tokens}
use Rattle.registry_warnings.specs.Warnings.{warnings, warnings_in}

pub warnings_where : (bytes : List ℕ) → IsUtf8 bytes → warnings_in bytes ≡ warnings [] (tokens bytes)
warnings_where bytes is = rw (is_utf8-from_IsUtf8 bytes is) refl

pub no_warnings_where : (bytes : List ℕ) → ¬ IsUtf8 bytes → warnings_in bytes ≡ []
no_warnings_where bytes not = let from = IsUtf8-from_is_utf8 bytes in grind (arith, from, not)
