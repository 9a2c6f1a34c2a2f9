-- Laws of the texts of codes and tokens: each has one text and each text one reading.
use Rattle.std.proofs.Common.{◌≡◌, ℕ, ◌+◌, ◌*◌, ◌/◌, List, length, refl, arith, append-nil, Some, Ok, Result}
use Rattle.std.specs.Prelude.{option_and_then}
use Rattle.std.specs.Result.{result_ok}
use Rattle.std.proofs.lemmas.Bool.Decides.{nat_tests}
use Rattle.base64.specs.GeneralPurpose.{decode_of, IsBytes}
use Rattle.base64.specs.Engines.{url_safe_no_pad}
use Rattle.base64.specs.declared.decode.DecodeError.{DecodeError}
use Rattle.base64.proofs.EngineFacts.{decode_of_strict}
use Rattle.base64.proofs.RoundTrip.{length-encode_symbols}
use Rattle.pkce.specs.Token.{token_text, token_bytes, where_32}

length-text : (bytes : List ℕ) → length (token_text bytes) ≡ (4 * length bytes + 2) / 3
length-text bytes = rw append-nil (length-encode_symbols _ bytes)

-- the text of 32 bytes has 43 characters
pub length-token_text : (bytes : List ℕ) → length bytes ≡ 32 → length (token_text bytes) ≡ 43
length-token_text bytes long = omega (arith, length-text bytes, long)

-- what is read decodes
pub decoded-from_token : (text bytes : List ℕ) → token_bytes text ≡ Some bytes → (decode_of url_safe_no_pad text ≡ Ok bytes) × (length bytes ≡ 32)
decoded-from_token text bytes read = by (decode_of url_safe_no_pad text) read
  where
    by : (r : Result (List ℕ) DecodeError) → option_and_then where_32 (result_ok r) ≡ Some bytes → (r ≡ Ok bytes) × (length bytes ≡ 32)
    by r read = grind (arith, nat_tests, read)

-- only the text of the bytes is read as them
pub token_text-from_token : (text bytes : List ℕ) → IsBytes text → token_bytes text ≡ Some bytes → text ≡ token_text bytes
token_text-from_token text bytes is read = decode_of_strict url_safe_no_pad text bytes (refl, refl) is (decoded-from_token text bytes read).0
