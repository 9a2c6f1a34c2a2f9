-- One life behind another.
use Rattle.std.specs.Prelude.{◌≡◌, ℕ, List, [], ◌∷◌, Option, None, IfSome, Ok}
use Rattle.clients.specs.Registry.{registry_in}
use Rattle.clients.specs.RegistryRecord.{RegistryRecord}
use Rattle.outside.specs.declared.journal.Journal.{Ghosts as Journal}
use Rattle.daemon.specs.declared.starting.Pace.{Pace}
use Rattle.lifetime.specs.declared.life.LifeEnd.{LifeEnd}
use Rattle.lifetime.specs.declared.life.LifeEnd.TheVariants.{ClockAhead, Refused, Stopped, Unopened}
use Rattle.state_file.specs.declared.fault.StateFault.{StateFault}
use Rattle.desk.specs.Replies.{IsGrantedReply, IsStateReply}
use Rattle.daemon.specs.Calls.{Logged, Replied}
use Rattle.daemon.specs.Reloading.{reloaded_by}
use Rattle.daemon.specs.Starts.{LivesOn, MachineLife, Opens, handed_on, lived_of}
use Rattle.line_journal.specs.declared.line_journal.LineJournal.{LineJournal}
use Rattle.daemon.specs.declared.machine_random.MachineRandom.{MachineRandom}
use Rattle.ports.specs.Passing.{KeepsWaiting}
use Rattle.daemon.specs.declared.reliving.Estate.{Estate}
use Rattle.daemon.specs.declared.reloads.Heir.{Heir}
use Rattle.daemon.specs.declared.reloads.Heirs.{Heirs}
use Rattle.daemon.specs.declared.reloads.Reloads.{Reloads}

-- what a life leaves to another one
abbrev pub estate_of : {R E D : Type 0} → MachineLife R E D → Estate E D
estate_of life = record { device = life.device.device; ports = life.sockets.ports; config = life.sockets.reloads.config; journal = life.journal }

-- A server is to be reloaded by the operator's key of its registry, beside a text that says that registry; and no reload is wanted yet.
pub record AreOf {R : Type 0} (registry : RegistryRecord) (reloads : Reloads R) : Type 0 where
  pub key : reloads.key ≡ registry.operator
  pub said : registry_in reloads.text.items ≡ Ok registry
  pub unwanted : reloads.wanted ≡ None

-- A life goes by an heir's registry, which its text says, with no hooks but those of its state. All connections that were handed on
-- wait to be accepted, and it is to be reloaded from the same file. That its state is the one that was left, this does not say.
pub record LivesAs {R E D : Type 0} (disk : Opens D) (journal : Journal (LineJournal E)) (pace : Pace) (heir : Heir R) (estate : Estate E D)
    (life : MachineLife R E D) : Type 0 where
  pub random : MachineRandom R
  pub lives : LivesOn disk journal (handed_on heir.candidate.registry [] pace) (lived_of life random)
  pub passed : KeepsWaiting estate.ports lives.means.sockets.ports
  pub reloads : AreOf heir.candidate.registry lives.means.sockets.reloads
  pub text : lives.means.sockets.reloads.text ≡ heir.candidate.text
  pub config : lives.means.sockets.reloads.config ≡ estate.config

-- What who asked was told: that it is made, once the next life served; that it is refused, where that life was; and nothing where the
-- clocks were ahead.
abbrev pub IsToldOf : RegistryRecord → (old new : List Logged) → LifeEnd → Type 0
IsToldOf registry old new (Stopped fault why) = (reply : Option (List ℕ)) × IfSome reply (IsGrantedReply (reloaded_by registry)) × (new ≡ Replied reply ∷ old)
IsToldOf registry old new (Refused fault) = (reply : Option (List ℕ)) × IfSome reply (IsStateReply fault) × (new ≡ Replied reply ∷ old)
IsToldOf registry old new (ClockAhead seconds) = new ≡ old
IsToldOf registry old new Unopened = ⊥

-- It goes on by the next heir's registry; or that life is refused, and it goes back, with the connections that it handed on, to the
-- former one's. Who asked is told of the next one's end.
pub data Relives {R E D : Type 0} (disk : Opens D) (journal : Journal (LineJournal E)) (pace : Pace) (heirs : Heirs R) (estate : Estate E D)
    (Tells : LifeEnd → Type 0) : MachineLife R E D → Type 0 where
  by_next : (life : MachineLife R E D) → LivesAs disk journal pace heirs.next estate life → Tells life.end → Relives disk journal pace heirs estate Tells life
  by_former : (tried life : MachineLife R E D) (fault : StateFault) → LivesAs disk journal pace heirs.next estate tried → tried.end ≡ Refused fault → Tells tried.end →
      LivesAs disk journal pace heirs.former (estate_of tried) life → Relives disk journal pace heirs estate Tells life
