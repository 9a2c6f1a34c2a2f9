-- What one request does to a server, whatever has happened before.
use Rattle.std.specs.Prelude.{◌≡◌, ◌⊎◌, ◌+◌, ◌≤◌, ℕ, List, Bool, Option, length, max}
use Rattle.endpoints.specs.Names.{HookFault, Hosting, RegistryRecord, Event, unexpired_count, Asked, Written, Draws}
use Rattle.endpoints.specs.Bounded.{IsBounded}
use Rattle.endpoints.specs.Hosts.{IsHostFault, says_with}
use Rattle.endpoints.specs.Replies.{request_outcome, hook_change}
use Rattle.endpoints.specs.Server.{SeenServer, Outset, FitsServer, IsStep}

-- a request as it comes: what it asks, when, and the random bytes of what its reply may give
pub record Arrival : Type 0 where
  pub asked : Asked
  pub moment : ℕ
  pub draws : Draws

-- Whatever history the server fitted, it then fits that history with what the request's outcome changes, at the greatest
-- moment so far, just that is noted, and the reply is the outcome's. What is left open in the outcome is whether memory was
-- refused, and which of its own faults the host has, if it has one.
abbrev pub Steps : {H : Type 0} → Hosting H → SeenServer H → Arrival → Written → SeenServer H → Type 0
Steps {H = H} hosting server arrival reply server' =
    (outset : Outset H) (history : List Event) (m : ℕ) → FitsServer hosting server outset history m →
    (refused : Bool) × (fault : Option HookFault) × IsHostFault hosting server.host (hook_change arrival.asked) fault
    × IsStep hosting (record { server = server; outset = outset; history = history; moment = max m arrival.moment })
    (request_outcome refused (record {
      rules = outset.rules;
      history = history;
      host = says_with hosting server.host fault;
      moment = max m arrival.moment;
      draws = arrival.draws;
    }) arrival.asked)
    reply server'

-- Whatever history the server fitted, it fits from the moment on, or from its own where that is greater.
abbrev pub Reaches : {H : Type 0} → Hosting H → SeenServer H → ℕ → SeenServer H → Type 0
Reaches {H = H} hosting old moment new =
    (outset : Outset H) (history : List Event) (m : ℕ) → FitsServer hosting old outset history m →
    FitsServer hosting new outset history (max m moment)

-- so it is of each history that the server fits, and of the moment from which it fits it
abbrev pub OfEach : {H : Type 0} → Hosting H → SeenServer H → (RegistryRecord → List Event → ℕ → Type 0) → Type 0
OfEach {H = H} hosting server fact =
    (outset : Outset H) (history : List Event) (m : ℕ) → FitsServer hosting server outset history m → fact outset.rules history m

-- each code and token of the history keeps to allowance, consent and life
abbrev pub KeepsBounds : {H : Type 0} → Hosting H → SeenServer H → Type 0
KeepsBounds hosting server = OfEach hosting server (λ rules history m. IsBounded rules history)

-- as many records are kept as the history has unexpired codes and tokens
abbrev pub IsSwept : {H : Type 0} → Hosting H → SeenServer H → Type 0
IsSwept hosting server = OfEach hosting server (λ rules history m. length server.store.kept ≡ unexpired_count history m)

-- a server that fitted some history is swept then, or keeps 62 fewer than before
abbrev pub Sweeps : {H : Type 0} → Hosting H → SeenServer H → SeenServer H → Type 0
Sweeps hosting old new = OfEach hosting old (λ rules history m. IsSwept hosting new ⊎ length new.store.kept + 62 ≤ length old.store.kept)
