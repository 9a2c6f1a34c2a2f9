-- What is told of a registry: its rules.
use Rattle.std.specs.Prelude.{ℕ, List, Option, Bool}

-- an owner's number, the digest of its key, and that of what it is called, if anything
pub record OwnerFact : Type 0 where
  pub number : ℕ
  pub key : List ℕ
  pub sub : Option (List ℕ)

-- a client's name, and what scope it may be allowed
pub record ClientFact : Type 0 where
  pub name : List ℕ
  pub allowed : ℕ

-- The owners' numbers are stated, or they are places; and owners that are not listed come by a gateway, or none do.
pub record RulesFact : Type 0 where
  pub scopes : List (List ℕ)
  pub owners : List OwnerFact
  pub numbered : Bool
  pub gateway : Bool
  pub clients : List ClientFact
  pub access_life : ℕ
  pub refresh_life : ℕ
