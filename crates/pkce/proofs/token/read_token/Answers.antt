use Rattle.std.proofs.Common.{◌≡◌, ◌∙◌, ℕ, List, Option, Some, None, ap, rules, sym}
use Rattle.std.specs.Prelude.{IfSome}
use Rattle.base64.specs.GeneralPurpose.{IsBytes}
use Rattle.pkce.specs.Token.{token_bytes, token_text}
use Rattle.pkce.specs.TokenLaws.{token_text-from_token}
use Rattle.pkce.proofs.token.read_token.Goals as goal

-- what is read is of the bytes' own text
own_text : (o : Option (List ℕ)) (text : List ℕ) → IsBytes text → o ≡ token_bytes text → IfSome o (λ bytes. text ≡ token_text bytes)
own_text None text is read = tt
own_text (Some bytes) text is read = token_text-from_token text bytes is (sym read)

pub returns-clause-canonical : goal.returns-clause-canonical
returns-clause-canonical c =
    own_text c.decoded.result c.args.text.now (search rules) (c.decoded.ensures ∙ ap token_bytes c.as_bytes.ensures.value)
