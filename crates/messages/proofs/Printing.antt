-- Texts that a writer of tokens gives.
use Rattle.std.proofs.Common.{◌≡◌, ℕ, List, [], ◌∷◌, ◌++◌, Some, Result, Ok, Err, IfOk, Vec, Global, Bor, map, append_assoc, refl, ap, ◌∙◌}
use Rattle.json.specs.Print.{print}
use Rattle.std.specs.List.{flat_map}
use Rattle.std.specs.Prelude.{decimal}
use Rattle.json.specs.Token.{Token, begin_array, end_object, end_array, key, number, string}
use Rattle.json.specs.Tree.{json_tokens, items_tokens, members_tokens}
use Rattle.serde_json.specs.Data.{Data}
use Rattle.serde_json.specs.Written.{outline, items_outline, members_outline, compact_text}
use Rattle.serde_json.proofs.Texts.{print-outline}
use Rattle.messages.specs.Members.{member_tokens, members_of}
use Rattle.messages.specs.declared.member.Member as given
use Rattle.messages.specs.declared.member.Member.TheVariants as variant
use Rattle.messages.specs.Reply.{Body}
use Rattle.messages.specs.Written.{json_of, body_text, each_member, string_items}

-- where the tokens of a body's value are written, its text stands there
pub says : {E : Type 0} (body : Body) (d : Data) (tokens : List Token) (written : Result (Vec ℕ Global) E) → json_of body ≡ Some d →
    tokens ++ end_object ∷ [] ≡ json_tokens (outline d) →
    IfOk written (λ text. text.items ≡ print (tokens ++ end_object ∷ [])) → IfOk written (λ text. body_text body ≡ Some text.items)
says body d tokens (Ok text) is same printed =
    let whole : text.items ≡ compact_text d = printed ∙ ap print same ∙ print-outline d in
    rw is (rw whole refl)
says body d tokens (Err e) is same printed = tt

-- the tokens of texts are those of their list
listed : (texts : List (Bor (List ℕ))) →
    map (λ text. string text.now) texts ++ end_array ∷ [] ≡ items_tokens (items_outline (string_items (map (λ text. text.now) texts)))
listed [] = refl
listed (text ∷ texts) = ap (λ tokens. string text.now ∷ tokens) (listed texts)

-- and those of members are those of their object
pub members_written : (members : List given.Member) →
    flat_map member_tokens members ++ end_object ∷ [] ≡ members_tokens (members_outline (each_member (members_of members)))
members_written [] = refl
members_written (variant.Text name text ∷ members) = ap (λ tokens. key name.now ∷ string text.now ∷ tokens) (members_written members)
members_written (variant.Number name n ∷ members) = ap (λ tokens. key name.now ∷ number (decimal n) ∷ tokens) (members_written members)
members_written (variant.Texts name texts ∷ members) =
    let front : List Token = map (λ text. string text.now) texts.now ++ end_array ∷ [] in
    let more : List Token = flat_map member_tokens members in
    let behind : List Token = members_tokens (members_outline (each_member (members_of members))) in
    ap (λ (tokens : List Token). key name.now ∷ begin_array ∷ tokens)
    (append_assoc front more (end_object ∷ []) ∙ ap (λ (tokens : List Token). front ++ tokens) (members_written members)
    ∙ ap (λ (tokens : List Token). tokens ++ behind) (listed texts.now))
