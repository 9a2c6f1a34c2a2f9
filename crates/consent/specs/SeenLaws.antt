-- What is told of codes and tokens. Only proofs cite this module.
use Rattle.std.proofs.Common.{◌≡◌, List, [], ℕ, Bool, true, false, cond, refl}
use Rattle.std.specs.Prelude.{◌&&◌}
use Rattle.consent.specs.History.{Grant, is_code}
use Rattle.consent.specs.Seen.{told_as}

text_unspent : (code : Bool) (text : List ℕ) → cond {A = List ℕ} (code && false) [] text ≡ text
text_unspent true text = refl
text_unspent false text = refl

-- what is unspent is told as it was given
pub told_unspent : (g : Grant) → told_as false g ≡ g
told_unspent g = λ i. record g { redirect = text_unspent (is_code g.kind) g.redirect i; challenge = text_unspent (is_code g.kind) g.challenge i }

-- and so is a token, spent or not
pub told_token : (spent : Bool) (g : Grant) → is_code g.kind ≡ false → told_as spent g ≡ g
told_token spent g token = λ i. record g { redirect = cond {A = List ℕ} (token i && spent) [] g.redirect; challenge = cond {A = List ℕ} (token i && spent) [] g.challenge }
