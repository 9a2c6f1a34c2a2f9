-- What becomes of a door while a server waits.
use Rattle.std.specs.Prelude.{◌≡◌, ◌+◌, ℕ, is_some}
use Rattle.standby.specs.Events.{told_else, waits}
use Rattle.standby.specs.declared.door.Door.{Door}
use Rattle.standby.specs.declared.porch.Porch.{Porch}

-- Nothing was told but that nobody serves there, and it is listened there still, if it was.
pub record OnlyRefuses (old new : Porch) : Type 0 where
  pub told : told_else new.log.events ≡ told_else old.log.events
  pub waited : waits new.log.events ≡ waits old.log.events
  pub hears : is_some new.ports ≡ is_some old.ports

-- so it was while it was waited so many times
pub record RefusesMeanwhile {R : Type 0} (times : ℕ) (old new : Door R) : Type 0 where
  pub told : told_else new.porch.log.events ≡ told_else old.porch.log.events
  pub waited : waits new.porch.log.events ≡ waits old.porch.log.events + times
  pub hears : is_some new.porch.ports ≡ is_some old.porch.ports
