-- What is known of a cluster, in the words of its trait.
use Rattle.std.specs.Prelude.{◌≡◌, ◌≢◌, ◌<◌, ◌≤◌, List, None, Option, ℕ}
use Rattle.etcd_cluster.specs.declared.cluster.Cluster.{Ghosts as Cluster}
use Rattle.etcd_cluster.specs.declared.change.Answer.{Answer}
use Rattle.etcd_cluster.specs.declared.change.Head.{Head}
use Rattle.etcd_cluster.specs.declared.change.Standing.{Standing}
use Rattle.etcd_cluster.specs.declared.change.Wanted.{Wanted}
use Rattle.etcd_cluster.specs.Leading.{AreSpent, BecomesBeginning, BecomesBegun, BecomesDone, BecomesPending, Leads, RestsBy, StaysBy, StaysLed}
use Rattle.etcd_cluster.specs.Moves.{HasMoved, IsAnswered, IsTold, Meanwhile, Moves}
use Rattle.etcd_cluster.specs.Stands.{ChangeFact, PieceFact}
use Rattle.etcd_cluster.specs.Worlds.{AreThere, IsStanding, Side, World, side, with_sent}

-- the server at this moment
abbrev pub side_of : {C : Type 0} → Cluster C → C → Side
side_of cluster c = side (cluster.server c) (cluster.moment c) (cluster.sent c)

-- what may come while a change is sent: that change, and what was sent before
abbrev pub may_come : {C : Type 0} → Cluster C → C → ChangeFact → ChangeFact → Type 0
may_come cluster c change = (with_sent change (side_of cluster c)).sent

-- WHAT WAS TOLD BETWEEN THE OLD ONE AND THE NEW ONE, and what happened meanwhile

abbrev pub IsToldOf : {C : Type 0} → Cluster C → C → C → ChangeFact → Answer → Type 0
IsToldOf cluster old new change answer =
    (w : World) → cluster.may_be new w
    → IsAnswered (cluster.server old) (cluster.moment old) (may_come cluster old change) change answer (cluster.may_be old) w

abbrev pub IsUntold : {C : Type 0} → Cluster C → C → C → ChangeFact → Type 0
IsUntold cluster old new change =
    HasMoved (cluster.server old) (cluster.moment old) (may_come cluster old change) (cluster.may_be old) (cluster.may_be new)

abbrev pub IsHeadTold : {C : Type 0} → Cluster C → C → C → Option Standing → Type 0
IsHeadTold cluster old new told =
    (w : World) → cluster.may_be new w
    → IsTold (cluster.server old) (cluster.moment old) (cluster.sent old) (λ at. IsStanding at.stand told) (cluster.may_be old) w

abbrev pub IsSilent : {C : Type 0} → Cluster C → C → C → Type 0
IsSilent cluster old new = HasMoved (cluster.server old) (cluster.moment old) (cluster.sent old) (cluster.may_be old) (cluster.may_be new)

-- these pieces were told, of that version and generation
abbrev pub ArePiecesTold : {C : Type 0} → Cluster C → C → C → Wanted → List PieceFact → Type 0
ArePiecesTold cluster old new wanted pieces =
    (w : World) → cluster.may_be new w
    → IsTold (cluster.server old) (cluster.moment old) (cluster.sent old)
    (λ at. (at.stand.version ≡ wanted.version) × AreThere wanted.generation pieces at.stand) (cluster.may_be old) w

-- what may have been between the two
abbrev pub MayHaveBeen : {C : Type 0} → Cluster C → C → C → (World → World → Type 0) → Type 0
MayHaveBeen cluster old new Comes = Meanwhile (cluster.moment old) (cluster.may_be old) (cluster.been_since old) (cluster.been_since new) Comes

-- where such changes come, and others do what they do
abbrev pub MayHaveMoved : {C : Type 0} → Cluster C → C → C → (ChangeFact → Type 0) → Type 0
MayHaveMoved cluster old new MayCome = MayHaveBeen cluster old new (Moves (cluster.server old) (cluster.moment old) MayCome)

-- WHAT IS KNOWN

-- it leads, at this version
abbrev pub IsLeading : {C : Type 0} → Cluster C → C → ℕ → Type 0
IsLeading cluster c version = Leads (cluster.server c) version (cluster.sent c) (cluster.may_be c)

-- a head that it has not put yet
abbrev pub IsFresh : {C : Type 0} → Cluster C → C → Head → Type 0
IsFresh cluster c head = (w : World) → cluster.may_be c w → w.begun ≡ None → w.stand.head ≢ head

-- The server has not begun: nothing that it sent names this version or a later one, no older one stands there, and no head that
-- stands there is its own.
pub record IsNew {C : Type 0} (cluster : Cluster C) (c : C) (version : ℕ) : Type 0 where
  pub spent : AreSpent version (cluster.sent c)
  pub no_older : (w : World) → cluster.may_be c w → version ≤ w.stand.version
  pub foreign : (w : World) → cluster.may_be c w → 0 < w.stand.version → w.stand.head.server ≢ cluster.server c

-- the change was done between the old one and the new one, and nobody had begun since
abbrev pub Does : {C : Type 0} → Cluster C → C → C → ℕ → ChangeFact → Type 0
Does cluster old new version change = BecomesDone (side_of cluster old) version change (cluster.may_be old) (cluster.may_be new)

-- it was, where the head was of the version that it names, whoever had put it
abbrev pub Begins : {C : Type 0} → Cluster C → C → C → ℕ → ChangeFact → Type 0
Begins cluster old new version change = BecomesBegun (side_of cluster old) version change (cluster.may_be old) (cluster.may_be new)

-- or it is not known whether the server has begun
abbrev pub MayBegin : {C : Type 0} → Cluster C → C → C → ChangeFact → Type 0
MayBegin cluster old new change = BecomesBeginning (side_of cluster old) change (cluster.may_be old) (cluster.may_be new)

-- or it is not known whether it was, or somebody has
abbrev pub MayDo : {C : Type 0} → Cluster C → C → C → ChangeFact → Type 0
MayDo cluster old new change = BecomesPending (side_of cluster old) change (cluster.may_be old) (cluster.may_be new)

-- nobody had begun when the old one was
abbrev pub IsSole : {C : Type 0} → Cluster C → C → C → Type 0
IsSole cluster old new = StaysLed (side_of cluster old) (cluster.may_be old) (cluster.may_be new)

-- nothing was changed by this server
abbrev pub StaysThere : {C : Type 0} → Cluster C → C → C → ℕ → Type 0
StaysThere cluster old new version = StaysBy (side_of cluster old) version (cluster.may_be old) (cluster.may_be new)

-- nothing has happened, or another one has begun
abbrev pub RestsThere : {C : Type 0} → Cluster C → C → C → ℕ → Type 0
RestsThere cluster old new version = RestsBy (side_of cluster old) version (cluster.may_be old) (cluster.may_be new)
