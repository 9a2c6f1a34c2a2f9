-- Texts that stand for themselves in a form.
use Rattle.std.proofs.Common.{◌≡◌, ◌<◌, ◌&&◌, ◌==◌, ℕ, List, true, not, nat_lt, refl, ap, ◌∙◌, arith, IsAscii, Ok}
use Rattle.std.specs.List.{list_all}
use Rattle.std.proofs.lemmas.Bool.Decides.{nat_tests}
use Rattle.std.proofs.lemmas.List.Elements.{All-weaker}
use Rattle.std.proofs.lemmas.List.Sums.{AllPass-from_list_all}
use Rattle.std.proofs.lemmas.Str.{IsUtf8-from_ascii, utf8_lossy-IsUtf8}
use Rattle.std.proofs.lemmas.Str.Ascii.{IsAscii-from_all}
use Rattle.std.specs.Str.Lossy.{utf8_lossy}
use Rattle.form_urlencoded.specs.Form.{IsPlain}
use Rattle.form_urlencoded.proofs.FormLemmas.{decode_plain}
use Rattle.params.specs.Form.{lossy_text}
use Rattle.params.proofs.Replaced.{ascii_has_none}
use Rattle.authentication.specs.Authentication.{form_text}

-- the byte passes the test
abbrev pub Passes : ℕ → Type 0
Passes b = (nat_lt b 128 && not (b == 43) && not (b == 37)) ≡ true

small : (b : ℕ) → Passes b → b < 128
small b passes = grind (arith, nat_tests)

plain : (b : ℕ) → Passes b → IsPlain b
plain b passes = (grind (arith, nat_tests), grind (arith, nat_tests))

-- such a text is the one that was encoded
pub same_text : (text : List ℕ) → list_all (λ b. nat_lt b 128 && not (b == 43) && not (b == 37)) text ≡ true → form_text text ≡ Ok text
same_text text is =
    let all = AllPass-from_list_all (λ b. nat_lt b 128 && not (b == 43) && not (b == 37)) text is in
    let ascii : IsAscii text = IsAscii-from_all text (All-weaker Passes (λ b. b < 128) small text all) in
    let same : lossy_text text ≡ text = ap utf8_lossy (decode_plain text (All-weaker Passes IsPlain plain text all)) ∙ utf8_lossy-IsUtf8 text (IsUtf8-from_ascii text ascii) in
    rw (same, ascii_has_none text ascii) refl
