-- What a life is handed, and what is promised of that.
use Rattle.std.specs.Prelude.{ℕ, ◌+◌, ◌-◌, ◌^◌, min, List, Some, IsSome, is_some}
use Rattle.lifetime.specs.Names.{RegistryRecord, Keeping, Promises, LoopState, promises, Journal, Named, HookFact, IsLongFile, ShortensFile, SlicesFile, SeenKeeper, file_crashes, LifeEnd}
use Rattle.batch_file.specs.declared.device.Device.{Ghosts as Device}
use Rattle.outside.specs.declared.clocks.Clocks.{Ghosts as Clocks}
use Rattle.outside.specs.declared.sockets.Sockets.{Ghosts as Sockets}
use Rattle.hook_chain.specs.contracts.chain.ChainHookHost.TheImpl as chain
use Rattle.lifetime.specs.declared.life.Life.{Life}
use Rattle.lifetime.specs.declared.means.Means.{Means}

-- what is promised of a device, of sockets, of clocks and of a journal
pub record LifePromises (D N C J : Type 0) : Type 1 where
  pub device : Device D
  pub sockets : Sockets N
  pub clocks : Clocks C
  pub journal : Journal J

abbrev pub life_promises : {D N C J : Type 0} → Device D → Sockets N → Clocks C → Journal J → LifePromises D N C J
life_promises device sockets clocks journal = record {
  device = device;
  sockets = sockets;
  clocks = clocks;
  journal = journal;
}

-- what a keeper promises that keeps changes in a file on the device
abbrev pub file_keeping : {D : Type 0} → Device D → Keeping (SeenKeeper D)
file_keeping device = record {
  crashes = file_crashes device;
  size = λ keeper. Some (min (keeper.file.end + 1) (2 ^ 64 - 1));
  has_failed = λ keeper. IsSome keeper.fault;
  is_long = IsLongFile;
  to_go = λ keeper. keeper.to_go;
  slices = SlicesFile device;
  shortens = ShortensFile device;
  wants_room = λ keeper. is_some keeper.file.refused;
  is_sole = λ keeper. device.is_sole keeper.file.device;
  tends = λ old now due new. device.tends old.file.device now due new.file.device;
  kept_until = λ keeper. keeper.known.until;
}

-- what is promised in the loop, with a chain of hooks
abbrev pub in_loop : {D N C J : Type 0} → LifePromises D N C J → Promises N C J (SeenKeeper D) (List Named)
in_loop p = promises p.sockets p.clocks p.journal (file_keeping p.device) chain.ghosts

-- a state of that loop
abbrev pub LifeState : Type 0 → Type 0 → Type 0 → Type 0 → Type 0
LifeState D N C J = LoopState N C J (SeenKeeper D) (List Named)

-- what a life is handed: a device, the bytes that stand there, a registry, the code of each hook, and its means
pub record Given (D N C J : Type 0) : Type 0 where
  pub device : D
  pub bytes : List ℕ
  pub registry : RegistryRecord
  pub hooks : List HookFact
  pub means : Means N C J

abbrev pub given : {D N C J : Type 0} → D → List ℕ → RegistryRecord → List HookFact → Means N C J → Given D N C J
given device bytes registry hooks means = record { device = device; bytes = bytes; registry = registry; hooks = hooks; means = means }

-- a life that ended so gives back its device and its means
abbrev pub life_of : {D N C J : Type 0} → LifeEnd → D → Means N C J → Life D N C J
life_of end device means = record {
  end = end;
  device = device;
  sockets = means.sockets;
  clocks = means.clocks;
  journal = means.journal;
}
