-- Code verifiers and code challenges of the method S256 (RFC 7636, sections 4.1, 4.2 and 4.6).
use Rattle.std.specs.Prelude.{ℕ, Bool, ◌||◌, ◌&&◌, ◌==◌, nat_le, List, length, bytes_eq}
use Rattle.std.specs.List.{list_all}
use Rattle.std.specs.Char.{is_ascii_alphanumeric}
use Rattle.sha2.specs.Sha256.{sha256}
use Rattle.base64.specs.GeneralPurpose.{encode_of}
use Rattle.base64.specs.Engines.{url_safe_no_pad}

-- unreserved = ALPHA / DIGIT / "-" / "." / "_" / "~"
abbrev pub is_unreserved : ℕ → Bool
is_unreserved b = is_ascii_alphanumeric b || b == 45 || b == 46 || b == 95 || b == 126

-- code-verifier = 43*128unreserved
abbrev pub is_verifier : List ℕ → Bool
is_verifier text = nat_le 43 (length text) && nat_le (length text) 128 && list_all is_unreserved text

-- a character of base64url: ALPHA / DIGIT / "-" / "_"
abbrev pub is_base64url : ℕ → Bool
is_base64url b = is_ascii_alphanumeric b || b == 45 || b == 95

-- the form of a code challenge: 43 characters of base64url
abbrev pub is_challenge : List ℕ → Bool
is_challenge text = length text == 43 && list_all is_base64url text

-- BASE64URL-ENCODE(SHA256(ASCII(code_verifier)))
abbrev pub challenge_of : List ℕ → List ℕ
challenge_of verifier = encode_of url_safe_no_pad (sha256 verifier)

-- the verifier proves the challenge
abbrev pub proves : List ℕ → List ℕ → Bool
proves verifier challenge = is_verifier verifier && bytes_eq (challenge_of verifier) challenge
