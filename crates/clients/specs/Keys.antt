-- The digests of keys and secrets, by which alone they are known: SHA-256 (FIPS 180-4).
use Rattle.std.specs.Prelude.{ℕ, List, codes, is_some, if◌then◌else◌, Option, Some, None, Result, Ok}
use Rattle.clients.specs.Names.{ok_or, result_ok, Data, as_object, ConfigFault, OutOfRange}
use Rattle.sha2.specs.Sha256.{sha256}
use Rattle.hex.specs.Hex.{decode_sized}
use Rattle.registry_json.specs.Faults.{◌>>=◌}
use Rattle.registry_json.specs.Json.{member_of, text_of}
use Rattle.registry_json.specs.Texts.{is_key, key_of}

-- the 32 bytes of 64 hexadecimal digits, in either case
abbrev pub digest_in : List ℕ → Result (List ℕ) ConfigFault
digest_in text = ok_or (result_ok (decode_sized text 32)) OutOfRange

-- the digest in an object's member `sha256`
abbrev pub written_digest : Data → Result (List ℕ) ConfigFault
written_digest value = do
  member ← member_of (codes "sha256") value
  text ← text_of member
  digest_in text

-- the digest of a string that is a key
abbrev pub made_digest : Data → Result (List ℕ) ConfigFault
made_digest value = do
  key ← key_of value
  Ok (sha256 key)

-- the digest of what was sent as a key or a secret, by which alone it is compared: what has not the form of a key has none
abbrev pub sent_digest : List ℕ → Option (List ℕ)
sent_digest sent = if is_key sent then Some (sha256 sent) else None

-- the digest of a key or a secret: of the key itself, or as an object has it
abbrev pub key_digest : Data → Result (List ℕ) ConfigFault
key_digest value = if is_some (as_object value) then written_digest value else made_digest value
