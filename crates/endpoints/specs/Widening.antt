-- When rules are wider than others.
use Rattle.std.specs.Prelude.{◌≡◌, ◌≤◌, ℕ, List, [], ◌∷◌, ◌++◌, true, is_some}
use Rattle.clients.specs.Owners.{owner_listed}
use Rattle.endpoints.specs.Names.{ClientRecord, RegistryRecord, is_within, TokenKind}
use Rattle.endpoints.specs.Bounded.{token_life_limit}

-- each client has its number, and may be allowed all that it was
abbrev pub AreWider : List ClientRecord → List ClientRecord → Type 0
AreWider [] new = Unit {0}
AreWider (c ∷ cs) [] = ⊥
AreWider (c ∷ cs) (d ∷ ds) = (d.id ≡ c.id) × (is_within c.allowed d.allowed ≡ true) × AreWider cs ds

-- Scope names and clients have the numbers that they had, each number of an owner is still one's, each client may be allowed all
-- that it was, and tokens may live as long.
pub record IsWider (old new : RegistryRecord) : Type 0 where
  pub scopes : (more : List (List ℕ)) × (new.scopes ≡ old.scopes ++ more)
  pub owners : (number : ℕ) → is_some (owner_listed number old.owners) ≡ true → is_some (owner_listed number new.owners) ≡ true
  pub clients : AreWider old.clients new.clients
  pub lives : (kind : TokenKind) → token_life_limit old kind ≤ token_life_limit new kind
