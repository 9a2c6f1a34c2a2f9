-- Text that is JSON, and bytes that are not.
use Rattle.std.proofs.Common.{◌≡◌, ℕ, List, refl, Some, None, Ok, Err, arith}
use Rattle.clients.proofs.Names.{IsUtf8, IsUtf8-from_is_utf8, is_utf8-from_IsUtf8, data_of, NotJson, Memory}
use Rattle.serde_json.specs.Data.{Data}
use Rattle.serde_json.specs.Read.{read}

pub data_where : (bytes : List ℕ) (value : Data) → IsUtf8 bytes → read bytes ≡ Some value → data_of bytes ≡ Ok value
data_where bytes value is found = rw (is_utf8-from_IsUtf8 bytes is, found) refl

pub no_data_where : (bytes : List ℕ) → (IsUtf8 bytes → read bytes ≡ None) → data_of bytes ≡ Err NotJson
no_data_where bytes none = let from = IsUtf8-from_is_utf8 bytes in grind (arith, from, none)

-- want of memory is no fault of a text
pub data_takes_no_memory : (bytes : List ℕ) → ¬ (data_of bytes ≡ Err Memory)
data_takes_no_memory bytes is = grind (arith, is)
