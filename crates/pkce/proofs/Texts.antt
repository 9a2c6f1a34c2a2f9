-- What decoding into a buffer of 33 bytes says of a text of 43.
use Rattle.std.proofs.Common.{◌≡◌, ℕ, List, length, take, refl, sym, ap, ◌∙◌, arith, Option, Some, None, Result, Ok, Err}
use Rattle.std.specs.Prelude.{OnOk}
use Rattle.std.proofs.lemmas.Bool.{eq-eqb}
use Rattle.std.proofs.lemmas.List.{length-take}
use Rattle.base64.specs.GeneralPurpose.{IsBytes, decode_of, decode_slice_of, decoded_bytes_of}
use Rattle.base64.specs.Decode.{IsWrittenOver, decode_outcome, or_error}
use Rattle.base64.specs.declared.decode.DecodeSliceError.{DecodeSliceError}
use Rattle.base64.specs.declared.decode.DecodeError.{DecodeError}
use Rattle.base64.specs.Engines.{url_safe_no_pad}
use Rattle.base64.proofs.Decoding.{conservative_ok, slice_result_room}
use Rattle.pkce.specs.Token.{token_bytes}
use Rattle.pkce.specs.TokenLaws.{decoded-from_token, token_text-from_token, length-token_text}

-- a text that is read as nothing
pub unread : (text : List ℕ) → ((bytes : List ℕ) → token_bytes text ≡ Some bytes → ⊥) → None ≡ token_bytes text
unread text never = grind (arith, never)

-- a text that is read has 43 characters
pub length-43 : (text bytes : List ℕ) → IsBytes text → token_bytes text ≡ Some bytes → length text ≡ 43
length-43 text bytes is read =
    ap (λ (l : List ℕ). length l) (token_text-from_token text bytes is read) ∙ length-token_text bytes (decoded-from_token text bytes read).1

-- the bytes written are those that the text decodes to
pub decoded : (text old new : List ℕ) (r : Result ℕ DecodeSliceError) (n : ℕ) → length text ≡ 43 → length old ≡ 33
    → r ≡ decode_slice_of url_safe_no_pad text (length old) → r ≡ Ok n
    → OnOk r (IsWrittenOver (decoded_bytes_of url_safe_no_pad text) old new)
    → decode_of url_safe_no_pad text ≡ Ok (take n new)
decoded text old new r n long room value ok written =
    (conservative_ok _ text old new _ (url_safe_no_pad.config.decode_allow_trailing_bits) (url_safe_no_pad.config.decode_padding_mode) r n (omega (arith, long, room)) value ok written).0

pub read_32 : (text buffer : List ℕ) → length buffer ≡ 33 → decode_of url_safe_no_pad text ≡ Ok (take 32 buffer) → Some (take 32 buffer) ≡ token_bytes text
read_32 text buffer room ok = rw (ok, eq-eqb (length (take 32 buffer)) 32 (omega (arith, length-take 32 buffer, room))) refl

-- a text that is read decodes to 32 bytes
pub only_32 : (text buffer : List ℕ) (n : ℕ) → length buffer ≡ 33 → decode_of url_safe_no_pad text ≡ Ok (take n buffer)
    → (bytes : List ℕ) → token_bytes text ≡ Some bytes → n ≡ 32
only_32 text buffer n room ok bytes read =
    let w = decoded-from_token text bytes read in
    let same : take n buffer ≡ bytes = cc (ok, w.0) in
    omega (arith, length-take n buffer, ap (λ (l : List ℕ). length l) same, w.1, room)

refused : (x : Option DecodeError) (d b : List ℕ) (n : ℕ) (f : DecodeSliceError) → decode_outcome x d ≡ Ok b → or_error x (Ok n) ≡ Err f → ⊥
refused None d b n f ok err = cc err
refused (Some e) d b n f ok err = cc ok

-- and not to an error
pub never_err : (text : List ℕ) (r : Result ℕ DecodeSliceError) (f : DecodeSliceError) → length text ≡ 43
    → r ≡ decode_slice_of url_safe_no_pad text 33 → r ≡ Err f → (bytes : List ℕ) → token_bytes text ≡ Some bytes → ⊥
never_err text r f long value err bytes read =
    let whole = slice_result_room (url_safe_no_pad.decode_table) text (url_safe_no_pad.padding.value) (url_safe_no_pad.config.decode_allow_trailing_bits) (url_safe_no_pad.config.decode_padding_mode) 33 (omega (arith, long)) in
    refused _ _ bytes (length (decoded_bytes_of url_safe_no_pad text)) f (decoded-from_token text bytes read).0 (sym whole ∙ sym value ∙ err)
