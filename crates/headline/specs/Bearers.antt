-- Whose credentials and keys a request bears.
use Rattle.std.specs.Prelude.{◌≡◌, ◌⊎◌, ◌++◌, ◌∷◌, ℕ, List, true, Some, Ok}
use Rattle.headline.specs.Names.{RegistryRecord, Parameters, form_of}
use Rattle.clients.specs.Gateway.{is_gateway_key, number_in}
use Rattle.clients.specs.Owners.{own_owner}
use Rattle.clients.specs.Registry.{is_operator_key}
use Rattle.authentication.specs.Authentication.{authenticated}
use Rattle.messages.specs.Asked.{Asked}

-- the credentials of the client of this number (RFC 6749, section 2.3.1), beside these parameters of its form
pub record BearsWith (rules : RegistryRecord) (asked : Asked) (params : Parameters) (client : ℕ) : Type 0 where
  pub form : form_of asked ≡ Some params
  pub authentic : authenticated rules.clients asked.authorization params ≡ Ok client

abbrev pub BearsCredentials : RegistryRecord → Asked → ℕ → Type 0
BearsCredentials rules asked client = (params : Parameters) × BearsWith rules asked params client

-- the own key of the owner of this number
abbrev pub BearsOwnKey : RegistryRecord → Asked → ℕ → Type 0
BearsOwnKey rules asked owner = (key : List ℕ) × (asked.owner_key ≡ Some key) × (own_owner key rules.owners ≡ Some owner)

-- the gateway's key, a space, and this number of an owner
abbrev pub BearsGatewayKey : RegistryRecord → Asked → ℕ → Type 0
BearsGatewayKey rules asked owner =
    (key : List ℕ) × (number : List ℕ) × (asked.owner_key ≡ Some (key ++ 32 ∷ number))
    × (is_gateway_key key rules ≡ true) × (number_in number ≡ Some owner)

-- the owner's key, or the gateway's with the owner's number
abbrev pub BearsOwnerKey : RegistryRecord → Asked → ℕ → Type 0
BearsOwnerKey rules asked owner = BearsOwnKey rules asked owner ⊎ BearsGatewayKey rules asked owner

-- the operator's key
abbrev pub BearsOperatorKey : RegistryRecord → Asked → Type 0
BearsOperatorKey rules asked = (key : List ℕ) × (asked.operator_key ≡ Some key) × (is_operator_key key rules ≡ true)
