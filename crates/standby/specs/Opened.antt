-- A list that is found by who leads.
use Rattle.std.specs.Prelude.{◌≡◌, ◌<◌, ◌++◌, ℕ, List, [], Ok, true}
use Rattle.cluster_device.specs.Sources.{Telling}
use Rattle.cluster_file.specs.declared.file.ClusterFile.{ClusterFile}
use Rattle.etcd_client.specs.Exchanges.{Asks, Exchange, elsewhere_question}
use Rattle.etcd_client.specs.Noted.{no_log}
use Rattle.etcd_client.specs.declared.client.EtcdCluster.{EtcdCluster}
use Rattle.etcd_client.specs.declared.members.Members.{Ghosts as Members}
use Rattle.standby.specs.Events.{Event}
use Rattle.standby.specs.Waits.{LeadsAtLast, StopsWaiting}
use Rattle.standby.specs.declared.fault.ListFault.{ListFault}
use Rattle.standby.specs.declared.fault.ListFault.TheVariants.{Memory, Missing, OtherCluster, Unclear}

-- that was asked first, and perhaps more since
abbrev pub IsSince : List Exchange → List Exchange → Type 0
IsSince old new = (more : List Exchange) × (new ≡ more ++ old)

-- A list of these keys, of which nothing was asked yet.
pub record IsFresh {M : Type 0} (prefix : List ℕ) (cluster : EtcdCluster M) : Type 0 where
  pub names : cluster.names.prefix.items ≡ prefix
  pub unused : cluster.log.log ≡ no_log

-- A SERVER LEADS by what its members were asked, and nothing was asked of the list yet.
pub record IsLed {M : Type 0} (members : Members M) (prefix : List ℕ) (seconds : ℕ) (cluster : EtcdCluster M) : Type 0 where
  pub asked : List Exchange
  pub leads : LeadsAtLast prefix seconds cluster.led asked
  pub since : IsSince asked (members.exchanges cluster.members)
  pub fresh : IsFresh prefix cluster

-- some server does
abbrev pub SomeLead : {M : Type 0} → Members M → List ℕ → ℕ → Type 0
SomeLead {M} members prefix seconds = (cluster : EtcdCluster M) × IsLed members prefix seconds cluster

-- A file is that of a server that leads.
pub record IsOfLeader {M : Type 0} (members : Members M) (prefix : List ℕ) (seconds : ℕ) (file : ClusterFile (EtcdCluster M)) : Type 0 where
  pub cluster : EtcdCluster M
  pub led : IsLed members prefix seconds cluster
  pub server : file.server ≡ cluster.led.server

-- A LIST WAS OPENED BY WHO LEADS: it is there, and nothing of it was told or written.
pub record IsOpenedBy {M : Type 0} (members : Members M) (prefix : List ℕ) (seconds : ℕ) (source : Telling (EtcdCluster M)) : Type 0 where
  pub leader : IsOfLeader members prefix seconds source.file
  pub there : 0 < source.file.standing.version
  pub untold : source.told ≡ []

-- the list that stands there was begun in another cluster, as was told
abbrev pub IsElsewhere : List ℕ → List Exchange → List Exchange → Type 0
IsElsewhere prefix old new = Asks (elsewhere_question prefix) (Ok true) old new

-- Memory was refused, waiting was in vain, or the list is that of another cluster.
pub data StopsSo (prefix : List ℕ) (seconds : ℕ) (old new : List Event) : ListFault → Type 0 where
  memory : StopsSo prefix seconds old new Memory
  stopped : (asked : List Exchange) (fault : ListFault) → StopsWaiting prefix seconds asked old new fault → StopsSo prefix seconds old new fault
  elsewhere : (before asked : List Exchange) → IsElsewhere prefix before asked → StopsSo prefix seconds old new OtherCluster

-- It was not opened: so it was, or who leads finds none, or is not told.
pub data IsUnopened {M : Type 0} (members : Members M) (prefix : List ℕ) (seconds : ℕ) (old new : List Event) : ListFault → Type 0 where
  waiting : (fault : ListFault) → StopsSo prefix seconds old new fault → IsUnopened members prefix seconds old new fault
  missing : SomeLead members prefix seconds → IsUnopened members prefix seconds old new Missing
  untold : SomeLead members prefix seconds → IsUnopened members prefix seconds old new Unclear
