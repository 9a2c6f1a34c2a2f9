-- Replies of exchanges, computed.
use Rattle.std.proofs.Common.{◌≡◌, [], ◌∷◌, ◌++◌, Some, None, codes, refl}
use Rattle.std.specs.Fmt.{digits}
use Rattle.json.specs.Print.{escape_byte}
use Rattle.form_urlencoded.specs.Form.{byte_serialize}
use Rattle.percent_encoding.specs.Percent.{percent_encode_byte}
use Rattle.consent.specs.declared.grant.TokenKind.TheVariants.{Access, Refresh}
use Rattle.messages.specs.declared.error.ErrorName.TheVariants.{InvalidClient, AccessDenied}
use Rattle.messages.specs.Members.Member.{Texts}
use Rattle.messages.specs.Reply.{plain, refused_body, sent_back}
use Rattle.messages.specs.Reply.Body.{Empty, Failure, Tokens, Active, Inactive, Told}
use Rattle.messages.specs.Written.{body_text, error_text, in_writing, reply_bytes, faulty_bytes}

-- client credentials: an access token alone
tokens_reply : reply_bytes (in_writing (plain 200 (Tokens (codes "BAQEBAQEBAQEBAQEBAQEBAQEBAQEBAQEBAQEBAQEBAQ") 300 None (codes "read"))))
    ≡ codes "HTTP/1.1 200 OK\r\nContent-Type: application/json\r\nCache-Control: no-store\r\nPragma: no-cache\r\nContent-Length: 116\r\n\r\n{\"access_token\":\"BAQEBAQEBAQEBAQEBAQEBAQEBAQEBAQEBAQEBAQEBAQ\",\"expires_in\":300,\"scope\":\"read\",\"token_type\":\"Bearer\"}"
unfolding escape_byte digits
tokens_reply = refl

-- a client with another secret
refused_reply : reply_bytes (in_writing (plain 401 (Failure InvalidClient)))
    ≡ codes "HTTP/1.1 401 Unauthorized\r\nContent-Type: application/json\r\nCache-Control: no-store\r\nPragma: no-cache\r\nWWW-Authenticate: Basic realm=\"oauthd\"\r\nContent-Length: 26\r\n\r\n{\"error\":\"invalid_client\"}"
unfolding escape_byte digits
refused_reply = refl

-- the user agent is sent back with a state that a form escapes
sent_reply : reply_bytes (in_writing (sent_back (codes "https://app.example/cb") (codes "error") (error_text AccessDenied) (Some (codes "a b&" ++ 195 ∷ 169 ∷ []))))
    ≡ codes "HTTP/1.1 302 Found\r\nCache-Control: no-store\r\nPragma: no-cache\r\nLocation: https://app.example/cb?error=access_denied&state=a+b%26%C3%A9\r\nContent-Length: 0\r\n\r\n"
unfolding digits byte_serialize percent_encode_byte
sent_reply = refl

not_found : reply_bytes (in_writing (plain 404 Empty)) ≡ codes "HTTP/1.1 404 Not Found\r\nContent-Length: 0\r\n\r\n"
unfolding digits
not_found = refl

faulty_reply : faulty_bytes ≡ codes "HTTP/1.1 400 Bad Request\r\nContent-Length: 0\r\nConnection: close\r\n\r\n"
faulty_reply = refl

refresh_text : body_text (Active (codes "app") 87400 1000 (codes "read") None Refresh)
    ≡ Some (codes "{\"active\":true,\"client_id\":\"app\",\"exp\":87400,\"iat\":1000,\"scope\":\"read\"}")
unfolding escape_byte digits
refresh_text = refl

-- with what the owner is called, in which a quote is escaped
owned_text : body_text (Active (codes "app") 1300 1000 (codes "read") (Some (codes "a\"nn")) Access)
    ≡ Some (codes "{\"active\":true,\"client_id\":\"app\",\"exp\":1300,\"iat\":1000,\"scope\":\"read\",\"sub\":\"a\\\"nn\",\"token_type\":\"Bearer\"}")
unfolding escape_byte digits
owned_text = refl

inactive_text : body_text Inactive ≡ Some (codes "{\"active\":false}")
unfolding escape_byte
inactive_text = refl

refused_text : body_text (refused_body (codes "Insn Empty")) ≡ Some (codes "{\"detail\":\"Insn Empty\",\"error\":\"hook_refused\"}")
unfolding escape_byte
refused_text = refl

-- a quote, a backslash, a control character and a letter beyond ASCII
hooks_text : body_text (Told (Texts (codes "hooks") (codes "h1" ∷ (codes "a\"b\\c" ++ 7 ∷ 195 ∷ 169 ∷ []) ∷ []) ∷ []))
    ≡ Some (codes "{\"hooks\":[\"h1\",\"a\\\"b\\\\c\\u0007" ++ 195 ∷ 169 ∷ codes "\"]}")
unfolding escape_byte
hooks_text = refl
