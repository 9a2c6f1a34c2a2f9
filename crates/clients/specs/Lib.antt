-- What public clauses cite. docs/DEFINITIONS.md says what to read in which order.
pub mod Limits
pub mod Redirect
pub mod Scopes
pub mod Grants
pub mod Numbers
pub mod Keys
pub mod OwnerRecord
pub mod Gateway
pub mod Owners
pub mod ClientRecord
pub mod Clients
pub mod RegistryRecord
pub mod Registry
pub mod RegistryRules
pub mod Bounds
-- What only the contracts of this crate's own parts and their proofs cite.
pub mod OwnersParts
-- Laws, each proved: a reader may skip them.
pub mod FaultsLaws
pub mod OwnersLaws
pub mod GatewayLaws
pub mod RegistryLaws
-- What these files import, passed on.
pub mod Names
