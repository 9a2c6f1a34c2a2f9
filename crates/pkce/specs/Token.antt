-- The text of a code or a token: 32 bytes in base64url without padding (RFC 4648, section 5).
use Rattle.std.specs.Prelude.{ℕ, List, length, ◌==◌, Option, Some, None, option_and_then, if◌then◌else◌}
use Rattle.std.specs.Result.{result_ok}
use Rattle.base64.specs.GeneralPurpose.{encode_of, decode_of}
use Rattle.base64.specs.Engines.{url_safe_no_pad}

-- the text of these bytes
abbrev pub token_text : List ℕ → List ℕ
token_text bytes = encode_of url_safe_no_pad bytes

-- the bytes, if they are 32
abbrev pub where_32 : List ℕ → Option (List ℕ)
where_32 bytes = if length bytes == 32 then Some bytes else None

-- the 32 bytes that a text stands for
abbrev pub token_bytes : List ℕ → Option (List ℕ)
token_bytes text = option_and_then where_32 (result_ok (decode_of url_safe_no_pad text))
