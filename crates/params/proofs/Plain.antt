-- Texts that stand for themselves in a form.
use Rattle.std.proofs.Common.{◌≡◌, ◌&&◌, ◌==◌, ℕ, List, true, not, sym, ap, ◌∙◌, arith}
use Rattle.std.specs.Prelude.{IsUtf8}
use Rattle.std.specs.List.{list_all}
use Rattle.std.proofs.lemmas.Bool.Decides.{nat_tests}
use Rattle.std.proofs.lemmas.List.Elements.{All-weaker}
use Rattle.std.proofs.lemmas.List.Sums.{AllPass-from_list_all}
use Rattle.std.proofs.lemmas.Str.{utf8_lossy-IsUtf8}
use Rattle.std.specs.Str.Lossy.{utf8_lossy}
use Rattle.form_urlencoded.specs.Form.{IsPlain}
use Rattle.form_urlencoded.proofs.FormLemmas.{decode_plain}
use Rattle.params.specs.Form.{lossy_text}

-- the byte passes the test
abbrev Passes : ℕ → Type 0
Passes b = (not (b == 43) && not (b == 37)) ≡ true

plain : (b : ℕ) → Passes b → IsPlain b
plain b passes = (grind (arith, nat_tests), grind (arith, nat_tests))

-- such a text is the one that it stands for
pub plain_text : (text : List ℕ) → list_all (λ b. not (b == 43) && not (b == 37)) text ≡ true → IsUtf8 text → text ≡ lossy_text text
plain_text text is utf8 =
    let all = AllPass-from_list_all (λ b. not (b == 43) && not (b == 37)) text is in
    let same : utf8_lossy text ≡ lossy_text text = ap utf8_lossy (sym (decode_plain text (All-weaker Passes IsPlain plain text all))) in
    sym (utf8_lossy-IsUtf8 text utf8) ∙ same
