-- A reply as a value: its status, where it sends the user agent, and what its body says.
use Rattle.std.specs.Prelude.{◌≡◌, ℕ, List, [], ◌∷◌, Option, Some, None, codes}
use Rattle.consent.specs.declared.grant.TokenKind.{TokenKind}
use Rattle.messages.specs.declared.error.ErrorName.{ErrorName}
use Rattle.messages.specs.Members.{Member}
use Rattle.messages.specs.Members.Member.{Text, Number}

-- a redirect URI, and the pairs that are sent to it (RFC 6749, section 4.1.2)
pub record Redirection : Type 0 where
  pub uri : List ℕ
  pub pairs : List (List ℕ × List ℕ)

-- the pair of the state, where it was sent
abbrev pub state_pair : Option (List ℕ) → List (List ℕ × List ℕ)
state_pair None = []
state_pair (Some state) = (codes "state", state) ∷ []

pub data Body : Type 0 where
  -- no body
  Empty : Body
  -- RFC 6749, section 5.2
  Failure : (error : ErrorName) → Body
  -- the texts of an access and a refresh token, the life of the one, and the scope of both (section 5.1)
  Tokens : (access : List ℕ) → (life : ℕ) → (refresh : Option (List ℕ)) → (scope : List ℕ) → Body
  -- RFC 7662, section 2.2
  Active : (client : List ℕ) → (expires issued : ℕ) → (scope : List ℕ) → (sub : Option (List ℕ)) → (kind : TokenKind) → Body
  Inactive : Body
  -- an object of these members
  Told : (members : List Member) → Body

-- what is consented to
abbrev pub consent_body : List ℕ → Body
consent_body scope = Told (Text (codes "scope") scope ∷ [])

-- a hook that was installed or removed, and the fault for which it was not
abbrev pub hook_body : List ℕ → Body
hook_body name = Told (Text (codes "name") name ∷ [])

abbrev pub refused_body : List ℕ → Body
refused_body detail = Told (Text (codes "detail") detail ∷ Text (codes "error") (codes "hook_refused") ∷ [])

-- how much of an owner's ended, who left
abbrev pub ended_body : ℕ → ℕ → Body
ended_body families consents = Told (Number (codes "consents") consents ∷ Number (codes "families") families ∷ [])

pub record Reply : Type 0 where
  pub status : ℕ
  pub location : Option Redirection
  pub body : Body

-- the reply is a status and nothing else
pub record IsBare (reply : Reply) : Type 0 where
  pub location : reply.location ≡ None
  pub body : reply.body ≡ Empty

-- a reply without redirection
abbrev pub plain : ℕ → Body → Reply
plain status body = record { status = status; location = None; body = body }

-- the user agent is sent to the URI with a pair and, if it was sent, the state
abbrev pub sent_back : List ℕ → List ℕ → List ℕ → Option (List ℕ) → Reply
sent_back uri name value state = record {
  status = 302;
  location = Some (record { uri = uri; pairs = (name, value) ∷ state_pair state });
  body = Empty;
}
