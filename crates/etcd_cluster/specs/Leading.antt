-- What one server knows of a list: what it has seen there, until another server begins.
use Rattle.std.specs.Prelude.{◌≡◌, ◌≢◌, ◌⊎◌, ◌<◌, ◌≤◌, ℕ, None, Some}
use Rattle.etcd_cluster.specs.Stands.{ChangeFact, Stand, done_at}
use Rattle.etcd_cluster.specs.Worlds.{Begun, Side, World}

-- no other server has begun, and this stands there
abbrev pub IsThere : Stand → World → Type 0
IsThere stand w = (w.begun ≡ None) × (w.stand ≡ stand)

-- Another one has begun, at that moment or later, and found what is so. Since then the version is greater than this, and the head
-- another server's.
pub record IsLost (server since version : ℕ) (IsFound : Stand → Type 0) (w : World) : Type 0 where
  pub begun : Begun
  pub is : w.begun ≡ Some begun
  pub at : since ≤ begun.moment
  pub found : IsFound begun.found
  pub later : version < w.stand.version
  pub other : w.stand.head.server ≢ server

-- THE LIST IS WHAT THE SERVER HAS SEEN, and another one that begins finds that.
abbrev pub IsLed : ℕ → ℕ → Stand → World → Type 0
IsLed server since stand w = IsThere stand w ⊎ IsLost server since stand.version (λ found. found ≡ stand) w

-- the change was done there
pub record IsDone (stand : Stand) (change : ChangeFact) (now : Stand) : Type 0 where
  pub later : stand.version < now.version
  pub is : now ≡ done_at now.version change stand

abbrev pub IsEither : Stand → ChangeFact → Stand → Type 0
IsEither stand change now = (now ≡ stand) ⊎ IsDone stand change now

-- OR THAT AND ITS ONE PENDING CHANGE, and another one that begins finds the one or the other.
abbrev pub IsPending : ℕ → ℕ → Stand → ChangeFact → World → Type 0
IsPending server since stand change w = ((w.begun ≡ None) × IsEither stand change w.stand) ⊎ IsLost server since stand.version (IsEither stand change) w

-- what was sent names an earlier version
abbrev pub AreSpent : ℕ → (ChangeFact → Type 0) → Type 0
AreSpent version sent = (change : ChangeFact) → sent change → change.after < version

-- the head is of this version, where no other has begun; else it is another server's, and of a greater one
pub record IsOf (server version : ℕ) (w : World) : Type 0 where
  pub is : ((w.begun ≡ None) × (w.stand.version ≡ version)) ⊎ IsLost server 0 version (λ found. Unit {0}) w

-- the server leads: so it is in each world that may be, and nothing that it sent can be done any more
pub record Leads (server version : ℕ) (sent : ChangeFact → Type 0) (may_be : World → Type 0) : Type 0 where
  pub spent : AreSpent version sent
  pub each : (w : World) → may_be w → IsOf server version w

-- Each world that may be now comes of one that might have been before, in which no other had begun and the head was of the version
-- that the change names: the change was done there, and this is so still, or another has begun since that moment and found it.
abbrev pub BecomesDone : Side → ℕ → ChangeFact → (World → Type 0) → (World → Type 0) → Type 0
BecomesDone by version change before now =
    (w : World) → now w → (old : World) × before old × (old.begun ≡ None) × (old.stand.version ≡ change.after)
    × IsLed by.server by.moment (done_at version change old.stand) w

-- It is not known whether it was done where no other had begun and the head was of the version that it names; or another had begun.
abbrev pub Pends : ℕ → ℕ → ChangeFact → World → World → Type 0
Pends server moment change old w =
    ((old.begun ≡ None) × (old.stand.version ≡ change.after) × IsPending server moment old.stand change w)
    ⊎ ((w.begun ≡ old.begun) × IsLost server 0 change.after (λ found. Unit {0}) w)

-- so it is in each world that may be now, by one that might have been before
abbrev pub BecomesPending : Side → ChangeFact → (World → Type 0) → (World → Type 0) → Type 0
BecomesPending by change before now = (w : World) → now w → (old : World) × before old × Pends by.server by.moment change old w

-- what stood there where no other had begun stands there still, or another has begun since that moment and found it; or one had before
abbrev pub StaysSo : ℕ → ℕ → ℕ → World → World → Type 0
StaysSo server moment version old w =
    ((old.begun ≡ None) × (old.stand.version ≡ version) × IsLed server moment old.stand w)
    ⊎ ((w.begun ≡ old.begun) × IsLost server 0 version (λ found. Unit {0}) w)

abbrev pub StaysBy : Side → ℕ → (World → Type 0) → (World → Type 0) → Type 0
StaysBy by version before now = (w : World) → now w → (old : World) × before old × StaysSo by.server by.moment version old w

-- THE SERVER HAS BEGUN: each world that may be now comes of one that might have been, in which the head was of the version that the
-- change names: the change was done there, and this is so still, or another has begun since that moment and found it.
abbrev pub BecomesBegun : Side → ℕ → ChangeFact → (World → Type 0) → (World → Type 0) → Type 0
BecomesBegun by version change before now =
    (w : World) → now w → (old : World) × before old × (old.stand.version ≡ change.after) × IsLed by.server by.moment (done_at version change old.stand) w

-- Another server has begun, and the head is another one's, of a later version than this: one had begun before; or one has since that
-- moment, and found what stood there.
abbrev pub IsTaken : ℕ → ℕ → ℕ → World → World → Type 0
IsTaken server since version old w =
    ((w.begun ≡ old.begun) × IsLost server 0 version (λ found. Unit {0}) w)
    ⊎ ((old.begun ≡ None) × IsLost server since version (λ found. found ≡ old.stand) w)

-- nothing has happened, or that
abbrev pub IsResting : ℕ → ℕ → ℕ → World → World → Type 0
IsResting server since version old w = (w ≡ old) ⊎ IsTaken server since version old w

abbrev pub RestsBy : Side → ℕ → (World → Type 0) → (World → Type 0) → Type 0
RestsBy by version before now = (w : World) → now w → (old : World) × before old × IsResting by.server by.moment version old w

-- OR THE SERVER MAY HAVE BEGUN: nothing has happened; or another one has begun before it could; or the head was of the version that the
-- change names, it was done, and this is so still, or another has begun since and found it.
abbrev pub IsBeginning : ℕ → ℕ → ChangeFact → World → World → Type 0
IsBeginning server since change old w =
    IsResting server since change.after old w
    ⊎ ((version : ℕ) × (old.stand.version ≡ change.after) × (change.after < version) × IsLed server since (done_at version change old.stand) w)

-- so it is in each world that may be now, by one that might have been before
abbrev pub BecomesBeginning : Side → ChangeFact → (World → Type 0) → (World → Type 0) → Type 0
BecomesBeginning by change before now = (w : World) → now w → (old : World) × before old × IsBeginning by.server by.moment change old w

-- NOBODY HAS BEGUN SINCE THAT MOMENT: each world that may be now comes of one that might have been, in which no other had begun, and
-- what stood there stands there still, or another has begun since that moment and found it.
abbrev pub StaysLed : Side → (World → Type 0) → (World → Type 0) → Type 0
StaysLed by before now = (w : World) → now w → (old : World) × before old × (old.begun ≡ None) × IsLed by.server by.moment old.stand w
