-- What hooks leave of tokens.
use Rattle.std.specs.Prelude.{◌≡◌, ◌≤◌, ⊤, ℕ, List, [], ◌∷◌, true, codes}
use Rattle.headline.specs.Names.{scope_text, RegistryRecord, Change, is_within, Issued, Access, Ask, Allowed, Body, Tokens, Outcome}
use Rattle.consent.specs.History.{Event}
use Rattle.hook_record.specs.declared.Narrowed.{Narrowed}
use Rattle.headline.specs.Occasions.{GoesTo, Occasion, outcome_of, reply_on}

-- a host without hooks allows all that is asked
abbrev pub allows_all : Ask → Narrowed
allows_all ask = Allowed ask.scope ask.life

-- the same at such a host
abbrev pub without_hooks : Occasion → Occasion
without_hooks occasion = record {
  arrival = occasion.arrival;
  host = record { answer = allows_all; names = occasion.host.names; fault = occasion.host.fault };
  refused = occasion.refused;
}

-- the token is the other one, but for some of its scope and some of its life; all else is the same
abbrev pub IsPart : Change → Change → Type 0
IsPart (Issued family parties token) (Issued f p whole) =
    (Issued family parties (record (token) { scope = whole.scope; life = whole.life }) ≡ Issued f p whole)
    × (is_within token.scope whole.scope ≡ true) × (token.life ≤ whole.life)
IsPart change other = change ≡ other

-- each of them, in their order
abbrev pub AreParts : List Change → List Change → Type 0
AreParts [] [] = ⊤
AreParts (change ∷ changes) (other ∷ others) = IsPart change other × AreParts changes others
AreParts changes others = ⊥

-- the body tells of the same tokens as the other, of some of the scope and some of the life
abbrev pub IsPartOfBody : RegistryRecord → Body → Body → Type 0
IsPartOfBody rules (Tokens access life refresh scope) (Tokens a most r whole) =
    (access ≡ a) × (refresh ≡ r) × (life ≤ most)
    × (some all : ℕ) × (scope ≡ scope_text rules.scopes some) × (whole ≡ scope_text rules.scopes all) × (is_within some all ≡ true)
IsPartOfBody rules body other = ⊥

-- the body tells the life and the scope of the access token that is given
abbrev pub TellsGiven : RegistryRecord → Body → List Change → Type 0
TellsGiven rules (Tokens access life refresh scope) (Issued family parties token ∷ changes) =
    (token.kind ≡ Access) × (life ≡ token.life) × (scope ≡ scope_text rules.scopes token.scope)
TellsGiven rules body changes = ⊥

-- both outcomes are granted, and what the one tells of and its tokens are parts of the other's
pub record IsNarrowed (rules : RegistryRecord) (outcome other : Outcome) : Type 0 where
  pub granted : other.reply.status ≡ 200
  pub told : IsPartOfBody rules outcome.reply.body other.reply.body
  pub given : TellsGiven rules outcome.reply.body outcome.changes
  pub parts : AreParts outcome.changes other.changes

-- tokens that are answered would be answered without hooks too, and are parts of what they would be then
abbrev pub WidensNothing : RegistryRecord → List Event → Occasion → Type 0
WidensNothing rules history occasion =
    GoesTo occasion (codes "/token") → (reply_on rules history occasion).status ≡ 200 →
    IsNarrowed rules (outcome_of rules history occasion) (outcome_of rules history (without_hooks occasion))
