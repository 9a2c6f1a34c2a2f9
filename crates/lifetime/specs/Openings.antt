-- How clients are told where sockets listen.
use Rattle.std.specs.Prelude.{◌≡◌, Bool, true, false}
use Rattle.lifetime.specs.Names.{LifeEnd, Unopened, Stopped}

-- by the end of a life: they were told where the server served, could not be told, or nothing was tried
abbrev pub IsOpenedBy : {O : Type 0} → (O → Bool → O → Type 0) → O → LifeEnd → O → Type 0
IsOpenedBy opens old (Stopped fault why) new = opens old true new
IsOpenedBy opens old Unopened new = opens old false new
IsOpenedBy opens old end new = new ≡ old
