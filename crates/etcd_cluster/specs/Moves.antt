-- What happens in a cluster from a moment of one server on.
use Rattle.std.specs.Prelude.{◌≡◌, ◌≢◌, ◌⊎◌, ◌<◌, ◌≤◌, ℕ, None, Some, unwrap_or}
use Rattle.etcd_cluster.specs.Stands.{ChangeFact, Stand, done_at}
use Rattle.etcd_cluster.specs.Worlds.{Tells, World}
use Rattle.etcd_cluster.specs.declared.change.Answer.{Answer}

-- From the one world to the other, by steps: a change comes that may; or another server does what makes the version greater, at
-- that moment of this server or at a later one.
pub data Moves (server since : ℕ) (MayCome : ChangeFact → Type 0) (w : World) : World → Type 0 where
  rests : Moves server since MayCome w w
  came : {mid : World} → Moves server since MayCome w mid → (change : ChangeFact) (version : ℕ) → MayCome change → change.after ≡ mid.stand.version
      → mid.stand.version < version → Moves server since MayCome w (record { stand = done_at version change mid.stand; begun = None })
  went : {mid : World} → Moves server since MayCome w mid → (moment : ℕ) (stand : Stand) → since ≤ moment → mid.stand.version < stand.version
      → stand.head.server ≢ server
      → Moves server since MayCome w (record { stand = stand; begun = Some (unwrap_or mid.begun (record { moment = moment; found = mid.stand })) })

-- each world that may be now comes of one that might have been
abbrev pub HasMoved : ℕ → ℕ → (ChangeFact → Type 0) → (World → Type 0) → (World → Type 0) → Type 0
HasMoved server since MayCome old now = (w : World) → now w → (first : World) × old first × Moves server since MayCome first w

-- and meanwhile something was told that was so
pub record IsTold (server since : ℕ) (MayCome : ChangeFact → Type 0) (IsSo : World → Type 0) (old : World → Type 0) (w : World) : Type 0 where
  pub first : World
  pub was : old first
  pub at : World
  pub until : Moves server since MayCome first at
  pub told : IsSo at
  pub onward : Moves server since MayCome at w

-- or this was told of a change that was sent
pub record IsAnswered (server since : ℕ) (MayCome : ChangeFact → Type 0) (change : ChangeFact) (answer : Answer) (old : World → Type 0) (w : World) : Type 0 where
  pub first : World
  pub was : old first
  pub at : World
  pub until : Moves server since MayCome first at
  pub then_at : World
  pub told : Tells change at answer then_at
  pub onward : Moves server since MayCome then_at w

-- What may have been at some moment from an earlier one on may have been so before that moment; or it comes of what might have been then.
pub record Meanwhile (since : ℕ) (old : World → Type 0) (past now : ℕ → World → Type 0) (Comes : World → World → Type 0) : Type 0 where
  pub nothing_else : (t : ℕ) (w : World) → t ≤ since → now t w → past t w ⊎ ((first : World) × old first × Comes first w)
  pub keeps : (t : ℕ) (w : World) → t ≤ since → past t w → now t w

-- this change, or one that names an earlier version
abbrev pub IsThisOrSpent : ChangeFact → ChangeFact → Type 0
IsThisOrSpent change one = (one ≡ change) ⊎ (one.after < change.after)
