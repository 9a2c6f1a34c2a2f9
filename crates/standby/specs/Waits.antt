-- Who waits until nobody leads.
use Rattle.std.specs.Prelude.{◌≡◌, ◌≢◌, ◌+◌, ℕ, List}
use Rattle.etcd_client.specs.Exchanges.{Exchange, HasLed, HasStopped}
use Rattle.etcd_client.specs.declared.leading.Led.{Led}
use Rattle.etcd_client.specs.declared.members.AskFault.TheVariants as asks
use Rattle.standby.specs.Events.{Event, waits}
use Rattle.standby.specs.declared.fault.ListFault.{ListFault}
use Rattle.standby.specs.declared.fault.ListFault.TheVariants.{Refused, Unclear}

-- It leads by what was asked last, whatever was asked before.
abbrev pub LeadsAtLast : (prefix : List ℕ) (seconds : ℕ) → Led → List Exchange → Type 0
LeadsAtLast prefix seconds led asked = (before : List Exchange) × HasLed prefix seconds led before asked

-- so often is tried
abbrev pub most_tries : ℕ
most_tries = 0xffffffffffffffff

-- Who waits stops where it was refused at last with a code that no wait mends, or has tried too often.
pub data StopsWaiting (prefix : List ℕ) (seconds : ℕ) (asked : List Exchange) (old new : List Event) : ListFault → Type 0 where
  refused : (code : ℕ) (before : List Exchange) → code ≢ 5 → HasStopped prefix seconds (asks.Refused code) before asked
      → StopsWaiting prefix seconds asked old new (Refused code)
  too_often : waits new ≡ waits old + most_tries → StopsWaiting prefix seconds asked old new Unclear
