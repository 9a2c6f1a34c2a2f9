-- Members of a JSON object, with their names.
use Rattle.std.specs.Prelude.{ℕ, List, [], ◌∷◌, ◌++◌, decimal, map}
use Rattle.json.specs.Token.{Token, begin_array, end_array, key, string, number}
use Rattle.messages.specs.declared.member.Member as written
use Rattle.messages.specs.declared.member.Member.TheVariants as given

pub data Member : Type 0 where
  Text : (name text : List ℕ) → Member
  Number : (name : List ℕ) → (n : ℕ) → Member
  Texts : (name : List ℕ) → (texts : List (List ℕ)) → Member

-- wherever its texts lie
abbrev pub member_of : written.Member → Member
member_of (given.Text name text) = Text name.now text.now
member_of (given.Number name n) = Number name.now n
member_of (given.Texts name texts) = Texts name.now (map (λ text. text.now) texts.now)

abbrev pub members_of : List written.Member → List Member
members_of members = map member_of members

-- what is written of one
abbrev pub member_tokens : written.Member → List Token
member_tokens (given.Text name text) = key name.now ∷ string text.now ∷ []
member_tokens (given.Number name n) = key name.now ∷ number (decimal n) ∷ []
member_tokens (given.Texts name texts) =
    key name.now ∷ begin_array ∷ map (λ text. string text.now) texts.now ++ end_array ∷ []
