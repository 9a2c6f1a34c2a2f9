-- What a registry has of an owner.
use Rattle.std.specs.Prelude.{ℕ, List, Bool, Option}

-- an owner of what is protected (RFC 6749, section 1.1): its number, the digest of its key, and what it is called where tokens
-- are introspected (RFC 7662, section 2.2, `sub`), if anything, with the digest of that
pub record OwnerRecord : Type 0 where
  pub number : ℕ
  pub key : List ℕ
  pub sub : Option (List ℕ)
  pub sub_digest : Option (List ℕ)

-- the owners of a registry, and whether they state their numbers
pub record Listed : Type 0 where
  pub owners : List OwnerRecord
  pub numbered : Bool
