-- What codes and tokens keep to.
use Rattle.std.specs.Prelude.{◌≡◌, ◌≢◌, ◌⊎◌, ℕ, List, ◌∷◌, ◌++◌, true, false, Some, None}
use Rattle.headline.specs.Names.{RegistryRecord, client_at, Grant, event_at, grant_at, live_grant, code_terms, is_code, is_within, consented_scope, last_consent, Terms, Consented, Hosting, IsOwn}
use Rattle.headline.specs.Names.{MayHave, SeenServer, Outset, FitsServer}
use Rattle.clients.specs.ClientRecord.{ClientRecord}
use Rattle.consent.specs.History.{Event}

-- the scope is within what the client may have and, unless the token is the client's own, within what the owner consents to now
pub record KeepsScope (rules : RegistryRecord) (history : List Event) (token : Grant) : Type 0 where
  pub allowed : MayHave rules token.client token.scope
  pub consented : IsOwn history token.family token.owner ⊎ (is_within token.scope (consented_scope history token.owner token.client) ≡ true)

-- The owner of the code or token that the digest names at the moment consented to this mask: after it was given, or without
-- another consent to its client since.
pub record IsSince (history : List Event) (digest : List ℕ) (moment : ℕ) (token : Grant) (mask : ℕ) : Type 0 where
  pub before : List Event
  pub when : ℕ
  pub later : List Event
  pub whole : history ≡ before ++ event_at when (Consented token.owner token.client mask) ∷ later
  pub counts : (grant_at before digest moment ≡ Some token) ⊎ (last_consent later token.owner token.client ≡ None)

-- the scope of a live token of an owner is within each consent that counts for it
abbrev pub KeepsToConsents : List Event → Type 0
KeepsToConsents history =
    (digest : List ℕ) (moment : ℕ) (token : Grant) (mask : ℕ) → live_grant history digest moment ≡ Some token →
    is_code token.kind ≡ false → token.owner ≢ 0 → IsSince history digest moment token mask → is_within token.scope mask ≡ true

-- what comes of a code is of the client and the owner that the code is of
abbrev pub AreOfTheirCodes : List Event → Type 0
AreOfTheirCodes history =
    (digest : List ℕ) (moment : ℕ) (token : Grant) (terms : Terms) → grant_at history digest moment ≡ Some token →
    code_terms history token.family ≡ Some terms → (terms.client ≡ token.client) × (terms.owner ≡ token.owner)

-- each code and token is of a client of the registry
abbrev pub AreOfClients : RegistryRecord → List Event → Type 0
AreOfClients rules history =
    (digest : List ℕ) (moment : ℕ) (g : Grant) → grant_at history digest moment ≡ Some g →
    (client : ClientRecord) × (client_at g.client rules.clients ≡ Some client)

-- so it is of the rules and the history of each server
abbrev pub InEachHistory : {H : Type 0} → Hosting H → (RegistryRecord → List Event → Type 0) → Type 0
InEachHistory {H = H} hosting fact =
    (server : SeenServer H) (outset : Outset H) (history : List Event) (m : ℕ) →
    FitsServer hosting server outset history m → fact outset.rules history
