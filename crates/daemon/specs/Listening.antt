-- Where a server listens, and what is told of that.
use Rattle.std.specs.Prelude.{◌≡◌, ⊤, ℕ, List, Bool, IsTrue, Option}
use Rattle.std.specs.Io.KnownBytes.{Appends}
use Rattle.lifetime.specs.declared.life.LifeEnd.{LifeEnd}
use Rattle.lifetime.specs.declared.life.LifeEnd.TheVariants.{Unopened, Stopped}
use Rattle.ports.specs.Listening.{Announces, listening_text}
use Rattle.daemon.specs.declared.announcement.Announcement.{Announcement}

-- it is written where its address is, unless that fails
pub record Tells {W : Type 0} (contents : W → Option (List ℕ)) (old : Announcement W) (done : Bool) (new : Announcement W) : Type 0 where
  pub same : new.out.ghost_name ≡ old.out.ghost_name
  pub told : IsTrue done → Appends (contents old.out.now) (contents new.out.now) (listening_text old.address)

-- by the end of a life: it is written where its server served; it may be in part where that failed; and nothing is, else
abbrev pub IsToldBy : {W : Type 0} → (W → Option (List ℕ)) → W → LifeEnd → W → Type 0
IsToldBy contents old (Stopped fault why) new = Announces (contents old) (contents new)
IsToldBy contents old Unopened new = ⊤
IsToldBy contents old end new = new ≡ old
