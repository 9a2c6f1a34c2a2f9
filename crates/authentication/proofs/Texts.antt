-- Bytes that are UTF-8, and bytes that are not.
use Rattle.std.proofs.Common.{◌≡◌, ℕ, List, refl, Ok, Err, if◌then◌else◌, arith}
use Rattle.std.specs.Str.{IsUtf8, is_utf8}
use Rattle.std.proofs.lemmas.Str.{IsUtf8-from_is_utf8, is_utf8-from_IsUtf8}
use Rattle.authentication.specs.declared.authentication.AuthFault.TheVariants.{BadHeader}

pub text_where : (bytes : List ℕ) → IsUtf8 bytes → (if is_utf8 bytes then Ok bytes else Err BadHeader) ≡ Ok bytes
text_where bytes is = rw (is_utf8-from_IsUtf8 bytes is) refl

pub no_text_where : (bytes : List ℕ) → ¬ IsUtf8 bytes → (if is_utf8 bytes then Ok bytes else Err BadHeader) ≡ Err BadHeader
no_text_where bytes not = let from = IsUtf8-from_is_utf8 bytes in grind (arith, from, not)
