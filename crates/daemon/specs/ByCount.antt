-- Connections that are served one after the other.
use Rattle.std.specs.Prelude.{ℕ, List, [], ◌+◌, Option}
use Rattle.rand_chacha.specs.ChaCha.{ChaCha, of_seed}
use Rattle.clients.specs.RegistryRecord.{RegistryRecord}
use Rattle.hook_chain.specs.Chains.{Named}
use Rattle.hook_chain.specs.contracts.chain.ChainHookHost.TheImpl as chain
use Rattle.http_edge.specs.Edges.{SeenEdge}
use Rattle.serving.specs.Served.{Coming, Left, Runs, StreamService, serving_scene, stream_service}
use Rattle.serving.specs.declared.clock.Clock.{Ghosts as Clock}
use Rattle.serving.specs.declared.fault.ServeFault.{ServeFault}
use Rattle.serving.specs.declared.stream.Stream.{Ghosts as Stream}
use Rattle.daemon.specs.Begun.{IsNewEdge}
use Rattle.daemon.specs.declared.by_count.TheConstants.{NUMBER}

-- what goes on from one connection to the next
pub record Between (H C : Type 0) : Type 0 where
  pub edge : SeenEdge H
  pub clock : C
  pub generator : ChaCha

abbrev pub between : {H C : Type 0} → SeenEdge H → C → ChaCha → Between H C
between edge clock g = record { edge = edge; clock = clock; generator = g }

-- so many connections were served, each from its opening to its end, by the edge, clock and generator that the one before it left
pub data ServesEach {H S C : Type 0} (t : StreamService H S) (tells : C → Option ℕ → C → Type 0) (first : Between H C) : ℕ → Between H C → Type 0 where
  none : ServesEach t tells first 0 first
  one_more : {old new : Between H C} {came left : S} (n : ℕ) (fault : Option ServeFault) → ServesEach t tells first n old →
      Runs t tells (serving_scene Coming old.edge came old.clock old.generator) (serving_scene (Left fault) new.edge left new.clock new.generator) →
      ServesEach t tells first (n + 1) new

-- what a server is handed that serves so many connections
pub record HandedCount : Type 0 where
  pub registry : RegistryRecord
  pub seed : List ℕ
  pub count : ℕ

abbrev pub handed_count : RegistryRecord → List ℕ → ℕ → HandedCount
handed_count registry seed count = record { registry = registry; seed = seed; count = count }

-- So many connections were served, from a new edge without hooks on, by the draws of the seed, whose words go on over all of them.
pub record ServesCount {S C : Type 0} (streams : Stream S) (clocks : Clock C) (handed : HandedCount) : Type 0 where
  pub edge : SeenEdge (List Named)
  pub new : IsNewEdge chain.ghosts handed.registry [] edge
  pub clock : C
  pub left : Between (List Named) C
  pub served : ServesEach (stream_service chain.ghosts streams.does NUMBER) clocks.tells (between edge clock (of_seed handed.seed)) handed.count left
