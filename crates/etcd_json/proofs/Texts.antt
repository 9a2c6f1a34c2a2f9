-- What texts tell: as JSON, and in base64.
use Rattle.std.proofs.Common.{◌≡◌, ◌∙◌, Bool, true, false, List, ℕ, refl, ap}
use Rattle.std.proofs.lemmas.Str.{IsUtf8-from_is_utf8, is_utf8-from_IsUtf8}
use Rattle.std.specs.Prelude.{None, Some, Result, Ok, Err, if◌then◌else◌}
use Rattle.std.specs.Result.{result_ok}
use Rattle.std.specs.Str.{IsUtf8, is_utf8}
use Rattle.base64.specs.Engines.{standard}
use Rattle.base64.specs.GeneralPurpose.{decode_of, decoded_of}
use Rattle.base64.specs.declared.decode.DecodeError.{DecodeError}
use Rattle.json.specs.Json.{Json, document}
use Rattle.json.specs.declared.error.Error.{Error}
use Rattle.etcd_json.specs.Replies.{json_of}

pub err_is : {A : Type 0} (e f : Error) → e ≡ f → ◌≡◌ {A = Result A Error} (Err e) (Err f)
err_is e f is = ap (λ (x : Error). Err x) is

pub json_some : (bytes : List ℕ) (value : Json) → IsUtf8 bytes → document bytes ≡ Some value → json_of bytes ≡ Some value
json_some bytes value utf8 is = ap (λ (b : Bool). if b then document bytes else None) (is_utf8-from_IsUtf8 bytes utf8) ∙ is

pub json_none : (bytes : List ℕ) → (IsUtf8 bytes → document bytes ≡ None) → json_of bytes ≡ None
json_none bytes none = by_test (is_utf8 bytes) refl
  where
    by_test : (b : Bool) → is_utf8 bytes ≡ b → (if b then document bytes else None) ≡ None
    by_test true is = none (IsUtf8-from_is_utf8 bytes is)
    by_test false is = refl

pub decoded_some : (text bytes : List ℕ) → decode_of standard text ≡ Ok bytes → decoded_of standard text ≡ Some bytes
unfolding decoded_of
decoded_some text bytes is = ap (λ (r : Result (List ℕ) DecodeError). result_ok r) is

pub decoded_none : (text : List ℕ) (fault : DecodeError) → decode_of standard text ≡ Err fault → decoded_of standard text ≡ None
unfolding decoded_of
decoded_none text fault is = ap (λ (r : Result (List ℕ) DecodeError). result_ok r) is
