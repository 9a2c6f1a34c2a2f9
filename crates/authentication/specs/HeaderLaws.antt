-- Laws of Basic headers: the header of a client's identifier and secret authenticates the client.
use Rattle.std.proofs.Common.{◌≡◌, ◌<◌, ℕ, zero, suc, ◌+◌, ◌-◌, ◌==◌, ◌&&◌, ◌||◌, nat_lt, nat_eq, List, [], ◌∷◌, ◌++◌, length, take, length-append, Bool, true, false, if◌then◌else◌, refl, ap, sym, ◌∙◌, arith, Option, Some, None, Ok, Err, codes, IsAscii, All, ⊎_elim}
use Rattle.std.specs.Prelude.{bytes_eq, slice_get}
use Rattle.std.specs.List.{position_or_len, position_from, list_all, list_any}
use Rattle.std.specs.Cmp.Lexicographic.{pointwise}
use Rattle.std.specs.Option.{option_map_or}
use Rattle.std.specs.Str.Lossy.{utf8_lossy}
use Rattle.std.proofs.Math.Seq.{take-append_seam, drop-append-add}
use Rattle.std.proofs.lemmas.Bool.{and_parts, ne_eqb, lt-ltb}
use Rattle.std.proofs.lemmas.Bool.Decides.{nat_tests}
use Rattle.std.proofs.lemmas.List.Elements.{All-nil, All-cons, All-head, All-tail, All-weaker}
use Rattle.std.proofs.lemmas.Slice.Eq.{bytes_eq-Decides}
use Rattle.std.proofs.lemmas.Str.{IsUtf8-from_ascii, is_utf8-from_IsUtf8, utf8_lossy-IsUtf8, IsAscii-append}
use Rattle.std.proofs.lemmas.Str.Ascii.{IsAscii-from_all, IsAscii-cons}
use Rattle.base64.specs.Engines.{standard}
use Rattle.base64.specs.GeneralPurpose.{encode_of}
use Rattle.base64.proofs.EngineFacts.{decode_of-encode_of}
use Rattle.form_urlencoded.specs.Form.{byte_serialize}
use Rattle.form_urlencoded.proofs.FormLemmas.{IsSerializedByte, All-byte_serialize, IsAscii-byte_serialize, decode-byte_serialize}
use Rattle.params.specs.Form.{lossy_text, has_replacement, any_twice}
use Rattle.registry_json.specs.Texts.{is_visible, is_key, is_identifier_byte, is_identifier}
use Rattle.clients.specs.Numbers.{number_among}
use Rattle.clients.specs.Clients.{ids, has_secret}
use Rattle.clients.specs.ClientRecord.{ClientRecord}
use Rattle.clients.specs.RegistryRecord.{RegistryRecord}
use Rattle.clients.specs.RegistryRules.{IsRegistry}
use Rattle.clients.specs.RegistryLaws.{client-of, secret-key}
use Rattle.authentication.specs.Authentication.{basic_text, form_text, around_colon, basic_credentials, basic_header, is_secret_of, identified, HeadersAuthenticate}
use Rattle.authentication.specs.declared.authentication.AuthFault.TheVariants.{BadHeader}

-- the characters of keys and identifiers are ASCII
ascii-where : (test : ℕ → Bool) → ((b : ℕ) → test b ≡ true → b < 128) → (text : List ℕ) → list_all test text ≡ true → All (λ b. b < 128) text
ascii-where test small [] is = All-nil (λ b. b < 128)
ascii-where test small (b ∷ text) is =
    let parts = and_parts (test b) (list_all test text) is in
    All-cons (λ b. b < 128) b text (small b parts.0) (ascii-where test small text parts.1)

visible-small : (b : ℕ) → is_visible b ≡ true → b < 128
visible-small b is = grind (arith, nat_tests)

identifier-small : (b : ℕ) → is_identifier_byte b ≡ true → b < 128
identifier-small b is = grind (arith, nat_tests)

key-ascii : (text : List ℕ) → is_key text ≡ true → All (λ b. b < 128) text
key-ascii text is = ascii-where is_visible visible-small text (and_parts _ (list_all is_visible text) is).1

identifier-ascii : (text : List ℕ) → is_identifier text ≡ true → All (λ b. b < 128) text
identifier-ascii text is = ascii-where is_identifier_byte identifier-small text (and_parts _ (list_all is_identifier_byte text) is).1

-- ASCII text comes back from its form encoding
no_replacement : (text : List ℕ) → All (λ b. b < 128) text → has_replacement text ≡ false
no_replacement [] ascii = refl
no_replacement (b ∷ text) ascii =
    let small : b < 128 = All-head (λ b. b < 128) b text ascii in
    ap (λ first. (first && pointwise nat_eq (0xBF ∷ 0xBD ∷ []) (take 2 text)) || has_replacement text) (ne_eqb 0xEF b (λ same. omega (arith, small, same)))
    ∙ no_replacement text (All-tail (λ b. b < 128) b text ascii)

form_text-back : (text : List ℕ) → All (λ b. b < 128) text → form_text (byte_serialize text) ≡ Ok text
form_text-back text ascii =
    let decoded = decode-byte_serialize text (All-weaker (λ b. b < 128) (λ b. b < 256) (λ b small. omega (arith, small)) text ascii) in
    let same : lossy_text (byte_serialize text) ≡ text = ap utf8_lossy decoded ∙ utf8_lossy-IsUtf8 text (IsUtf8-from_ascii text (IsAscii-from_all text ascii)) in
    ap (λ t. if has_replacement t then Err BadHeader else Ok t) same ∙ ap (λ b. if b then Err BadHeader else Ok text) (no_replacement text ascii)

-- a form encoding has no colon
no_colon : (b : ℕ) → IsSerializedByte b → (b == 58) ≡ false
no_colon b is = ne_eqb b 58 (λ same. ⊎_elim (λ kept. grind (arith, nat_tests)) (λ other. grind arith) is.allowed)

first_colon : (before after : List ℕ) → All IsSerializedByte before → position_or_len (λ b. b == 58) (before ++ 58 ∷ after) ≡ length before
first_colon [] after none = refl
first_colon (b ∷ before) after none =
    let later = first_colon before after (All-tail IsSerializedByte b before none) in
    rw (no_colon b (All-head IsSerializedByte b before none)) (omega (arith, later))

around_colon-back : (before after : List ℕ) → All IsSerializedByte before → around_colon (before ++ 58 ∷ after) ≡ Ok (before, after)
around_colon-back before after none =
    let place = first_colon before after none in
    let within : nat_lt (length before) (length (before ++ 58 ∷ after)) ≡ true = lt-ltb _ _ (omega (arith, length-append {A = ℕ})) in
    rw (place, within, take-append_seam before (58 ∷ after), drop-append-add before (58 ∷ after) 1) refl

-- base64 of UTF-8 text is read as the text
basic_text-back : (text : List ℕ) → IsAscii text → basic_text (codes "Basic " ++ encode_of standard text) ≡ Ok text
basic_text-back text ascii =
    let read = decode_of-encode_of standard text refl (λ i. omega (arith, ascii i)) in
    rw (read, is_utf8-from_IsUtf8 text (IsUtf8-from_ascii text ascii)) refl

credentials-back : (id secret : List ℕ) → All (λ b. b < 128) id → All (λ b. b < 128) secret → basic_credentials (basic_header id secret) ≡ Ok (id, secret)
credentials-back id secret id_ascii secret_ascii =
    let ascii : IsAscii (byte_serialize id ++ 58 ∷ byte_serialize secret) =
    IsAscii-append (byte_serialize id) (58 ∷ byte_serialize secret) (IsAscii-byte_serialize id) (IsAscii-cons 58 (byte_serialize secret) (omega arith) (IsAscii-byte_serialize secret)) in
    let text = basic_text-back _ ascii in
    let parts = around_colon-back (byte_serialize id) (byte_serialize secret) (All-byte_serialize id) in
    rw (text, parts, form_text-back id id_ascii, form_text-back secret secret_ascii) refl

-- the number of a client whose identifier no other has
numbered : (clients : List ClientRecord) (at i : ℕ) (client : ClientRecord) → any_twice (ids clients) ≡ false → slice_get clients at ≡ Some client
    → (list_any (bytes_eq client.id) (ids clients) ≡ true) × (position_from (bytes_eq client.id) i (ids clients) ≡ Some (i + at))
numbered [] at i client once is = cc is
numbered (c ∷ clients) zero i client once is =
    let same : c ≡ client = cc is in
    let eq : bytes_eq client.id c.id ≡ true = (bytes_eq-Decides client.id c.id).1 (ap (λ (c : ClientRecord). c.id) (sym same)) in
    rw eq (refl, ap Some (omega arith))
numbered (c ∷ clients) (suc at) i client once is =
    let later = numbered clients at (i + 1) client in
    let same = (bytes_eq-Decides client.id c.id).0 in
    grind (arith, later, same, once, is)

-- each client of a registry is authenticated by the header of its identifier and secret
pub headers_authenticate : (rules : RegistryRecord) → IsRegistry rules → HeadersAuthenticate rules.clients
headers_authenticate rules is number client secret params at right no_id no_secret =
    let one = client-of rules number client is at in
    let sent = credentials-back client.id secret (identifier-ascii client.id one.is_client.id) (key-ascii secret (secret-key secret client right)) in
    let counted = numbered rules.clients (number - 1) 1 client is.distinct in
    let known : number_among client.id (ids rules.clients) ≡ Some number = grind (arith, nat_tests, counted, at) in
    let among : is_secret_of number rules.clients secret ≡ true = ap (λ (o : Option ClientRecord). option_map_or (has_secret secret) o false) at ∙ right in
    let found : identified rules.clients None client.id secret ≡ Ok number = rw (known, among) refl in
    rw (no_secret, no_id, sent) found
