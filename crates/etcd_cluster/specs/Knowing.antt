-- What a server knows of the pieces that stand there.
use Rattle.std.specs.Prelude.{◌≡◌, ◌≢◌, ◌≤◌, ℕ, List, Option, None, Some}
use Rattle.etcd_cluster.specs.declared.cluster.Cluster.{Ghosts as Cluster}
use Rattle.etcd_cluster.specs.declared.change.Standing.{Standing}
use Rattle.etcd_cluster.specs.Stands.{ChangeFact, Pieces, Stand, no_stand}
use Rattle.etcd_cluster.specs.Worlds.{World, stand_anew}

-- each piece that is known stands there
abbrev pub AreKnown : Pieces → Pieces → Type 0
AreKnown known pieces = (generation at : ℕ) (piece : List ℕ) → known generation at ≡ Some piece → pieces generation at ≡ Some piece

-- the known stand is of the same version and head, and its pieces stand there
pub record Agrees (known stand : Stand) : Type 0 where
  pub version : stand.version ≡ known.version
  pub head : stand.head ≡ known.head
  pub pieces : AreKnown known.pieces stand.pieces

-- where no other server has begun, what is known stands there
abbrev pub Knows : {C : Type 0} → Cluster C → C → Type 0
Knows cluster c = (w : World) → cluster.may_be c w → w.begun ≡ None → Agrees (cluster.stand c) w.stand

-- before the server has begun: no older version stands there, and where this one does, what is known does
pub record HasRead {C : Type 0} (cluster : Cluster C) (c : C) : Type 0 where
  pub no_older : (w : World) → cluster.may_be c w → (cluster.stand c).version ≤ w.stand.version
  pub head : (w : World) → cluster.may_be c w → w.stand.version ≡ (cluster.stand c).version → w.stand.head ≡ (cluster.stand c).head
  pub pieces : (w : World) → cluster.may_be c w → w.stand.version ≡ (cluster.stand c).version → AreKnown (cluster.stand c).pieces w.stand.pieces

-- of which version what was told is
abbrev pub version_of : Option Standing → ℕ
version_of None = 0
version_of (Some told) = told.version

-- what stands there then, of which no piece is known
abbrev pub stand_found : Option Standing → Stand
stand_found None = no_stand
stand_found (Some told) = stand_anew told

-- the head is none of this server
abbrev pub IsForeignTo : ℕ → Option Standing → Type 0
IsForeignTo server None = Unit {0}
IsForeignTo server (Some told) = told.head.server ≢ server

-- nothing was sent, and nothing is known
pub record IsUnused {C : Type 0} (cluster : Cluster C) (c : C) : Type 0 where
  pub none_sent : (one : ChangeFact) → cluster.sent c one → ⊥
  pub none_known : cluster.stand c ≡ no_stand
